-- The stays of blocks, where one of them comes or goes.
use Rattle.std.proofs.Common.{◌≡◌, ◌≢◌, inl, inr, ⊎_elim, ◌↔◌, ℕ, ◌+◌, List, [], ◌∷◌, ◌++◌, length, refl, sym, subst, ap, ◌∙◌, arith, IsPermutation}
use Rattle.std.specs.Prelude.{Option, Some, None, IfSome}
use Rattle.std.specs.List.{cons_option, AllByRecursion}
use Rattle.shunt_lists.proofs.Members.{all_in, all_from, in_left, in_right, in_cases}
use Rattle.shunt_lists.specs.defs.Members.{In}
use Rattle.shunt_base.specs.declared.keys.Stay.{Stay}
use Rattle.shunt_base.specs.defs.Keys.{IsWellFormed, AreStays}
use Rattle.shunt_stays.proofs.SortedEvents.{in_permuted, of_permuted}
use Rattle.shunt_stays.specs.defs.Run.{GoesThrough, AreOnTracks}
use Rattle.shunt_instance.specs.defs.Instance.{Night}
use Rattle.shunt_blocks.specs.declared.records.Block.{Block}
use Rattle.shunt_blocks.specs.defs.Stays.{stay_of}
use Rattle.shunt_blocks.specs.defs.Lists.{stays_of}
use Rattle.shunt_lists.proofs.Options.{option_in as first_or_rest, option_first as first, option_rest as rest, of_some}
use Rattle.shunt_blocks.proofs.StaysOf.{stay_id}

-- ---- an item that may be there

-- an item that may stand in the middle may as well stand in front
pub to_front : {Y : Type 0} (o : Option Y) (xs ys : List Y) (y : Y) → In y (xs ++ cons_option o ys) ↔ In y (cons_option o (xs ++ ys))
to_front o xs ys y = (
  λ i. ⊎_elim (λ l. rest o (xs ++ ys) y (in_left xs ys y l)) (λ r. ⊎_elim (λ e. first o (xs ++ ys) y e) (λ j. rest o (xs ++ ys) y (in_right xs ys y j)) (first_or_rest o ys y r))
      (in_cases xs (cons_option o ys) y i),
  λ i. ⊎_elim (λ e. in_right xs (cons_option o ys) y (first o ys y e)) (λ j. ⊎_elim (λ l. in_left xs (cons_option o ys) y l) (λ r. in_right xs (cons_option o ys) y (rest o ys y r))
      (in_cases xs ys y j)) (first_or_rest o (xs ++ ys) y i),
)

pub as_long : {Y : Type 0} (o : Option Y) (xs ys : List Y) → length (xs ++ cons_option o ys) ≡ length (cons_option o (xs ++ ys))
as_long None xs ys = refl
as_long {Y} (Some z) xs ys = go xs
  where
    go : (xs : List Y) → length (xs ++ z ∷ ys) ≡ length (z ∷ (xs ++ ys))
    go [] = refl
    go (x ∷ xs) = let e = go xs in omega (arith, e)

pub same_length : (o : Option Stay) (xs ys : List Stay) → length xs ≡ length ys → length (cons_option o xs) ≡ length (cons_option o ys)
same_length None xs ys e = e
same_length (Some s) xs ys e = omega (arith, e)

-- ---- a stay that comes

pub came : (o : Option Stay) (t : Stay) (before after : List Stay) → o ≡ Some t → IsPermutation (t ∷ before) after → (s : Stay) → In s after ↔ In s (cons_option o before)
came o t before after e p s = subst (λ (x : Option Stay). In s after ↔ In s (cons_option x before)) (sym e) (of_permuted (t ∷ before) after s p, in_permuted (t ∷ before) after s p)

-- ---- the stays without those of one block

-- those of other blocks have other ids
pub others_ids : (night : Night) (b : Block) (blocks : List Block) → AllByRecursion (λ c. c.id ≢ b.id) blocks → (s : Stay) → In s (stays_of night blocks) → s.id ≢ b.id
others_ids night b blocks apart s i e =
    let r = of_some (stay_of night) blocks s i in
    all_in (λ c. c.id ≢ b.id) blocks r.0 apart r.1 (sym (stay_id night r.0 s r.2) ∙ e)

module _ (night : Night) (b : Block) (others : List Block) (apart : AllByRecursion (λ c. c.id ≢ b.id) others) (before after : List Stay) (all : (s : Stay)
    → In s (cons_option (stay_of night b) (stays_of night others)) ↔ In s before) (gone : (s : Stay) → In s after → s.id ≢ b.id) where
  -- where none was taken
  kept_from : after ≡ before → (s : Stay) → In s after → In s (stays_of night others)
  kept_from e s i = ⊎_elim (λ f. absurd (gone s i (stay_id night b s f))) (λ j. j)
      (first_or_rest (stay_of night b) (stays_of night others) s ((all s).1 (subst (λ (l : List Stay). In s l) e i)))

  pub none_taken : after ≡ before → (s : Stay) → In s (stays_of night others) ↔ In s after
  none_taken e s = (λ i. subst (λ (l : List Stay). In s l) (sym e) ((all s).0 (rest (stay_of night b) (stays_of night others) s i)), kept_from e s)

  -- where one was
  pub one_taken : (u : Stay) → u.id ≡ b.id → IsPermutation (u ∷ after) before → (s : Stay) → In s (stays_of night others) ↔ In s after
  one_taken u e p s = (
    λ i. ⊎_elim (λ f. absurd (others_ids night b others apart s i (ap (λ (t : Stay). t.id) f ∙ e))) (λ j. j)
        (of_permuted (u ∷ after) before s p ((all s).0 (rest (stay_of night b) (stays_of night others) s i))),
    λ i. ⊎_elim (λ f. absurd (gone s i (stay_id night b s f))) (λ j. j) (first_or_rest (stay_of night b) (stays_of night others) s
        ((all s).1 (in_permuted (u ∷ after) before s p (inr i)))),
  )

  -- how many stay
  pub none_less : after ≡ before → length before ≡ length (cons_option (stay_of night b) (stays_of night others)) → length after ≡ length (stays_of night others)
  none_less e count = at (stay_of night b) refl
    where
      at : (o : Option Stay) → stay_of night b ≡ o → length after ≡ length (stays_of night others)
      at None f = ap (λ (l : List Stay). length l) e ∙ count ∙ ap (λ (o : Option Stay). length (cons_option o (stays_of night others))) f
      at (Some t) f = absurd (gone t (subst (λ (l : List Stay). In t l) (sym e) ((all t).0 (first (stay_of night b) (stays_of night others) t f))) (stay_id night b t f))

  pub one_less : (u : Stay) → u.id ≡ b.id → IsPermutation (u ∷ after) before → length after + 1 ≡ length before
      → length before ≡ length (cons_option (stay_of night b) (stays_of night others)) → length after ≡ length (stays_of night others)
  one_less u e p fewer count = ⊎_elim
      (λ f. let n : length (cons_option (stay_of night b) (stays_of night others))
      ≡ length (u ∷ stays_of night others) = ap (λ (o : Option Stay). length (cons_option o (stays_of night others))) f in omega (arith, fewer, count, n))
      (λ j. absurd (others_ids night b others apart u j e))
      (first_or_rest (stay_of night b) (stays_of night others) u ((all u).1 (in_permuted (u ∷ after) before u p (inl refl))))

-- ---- runs of the same stays

abbrev pub PartRuns : Type 0
PartRuns = (lengths : List ℕ) (stays part : List Stay) → AreStays stays → AreOnTracks lengths stays → AreStays part → ((s : Stay) → In s part → In s stays)
    → GoesThrough lengths stays → GoesThrough lengths part

-- a stay of a new id before stays
pub are_more : (o : Option Stay) (stays : List Stay) → IfSome o IsWellFormed → ((s : Stay) → o ≡ Some s → (t : Stay) → In t stays → t.id ≢ s.id) → AreStays stays
    → AreStays (cons_option o stays)
are_more None stays formed new are = are
are_more (Some s) stays formed new are = (formed, all_from (λ t. s.id ≢ t.id) stays (λ t i e. new s refl t i (sym e)), are)
