-- What a run holds of a stack is a filling, and gains of stacks are at least what runs hold.
use Rattle.std.specs.Prelude.{All, not, filter, ◌≤ℤ◌, ◌<ℤ◌, ◌-ℤ◌}
use Rattle.std.specs.List.{AllZip}
use Rattle.std.proofs.Common.{◌≡◌, ⊎_elim, inl, inr, true, false, List, [], ◌∷◌, ◌++◌, ℤ, pos, ◌+ℤ◌, sym, subst, ◌∙◌, arith}
use Rattle.std.proofs.lemmas.Int.{ints, by_lt_z}
use Rattle.std.proofs.lemmas.Bool.{not-true}
use Rattle.std.proofs.lemmas.List.{append-nil}
use Rattle.std.proofs.lemmas.List.Elements.{All-nil, All-append}
use Rattle.shunt_lists.specs.defs.Members.{In}
use Rattle.shunt_lists.proofs.Members.{filter_from, each_one, to_all as from_members}
use Rattle.shunt_base.specs.declared.duals.Case.{Case}
use Rattle.shunt_instance.specs.defs.Instance.{Night, IsInstance}
use Rattle.shunt_blocks.specs.declared.records.Block.{Block}
use Rattle.shunt_blocks.specs.defs.Shapes.{IsWithinTrains}
use Rattle.shunt_blocks.specs.defs.Blocks.{IsBlockButId}
use Rattle.shunt_blocks.specs.defs.Lists.{ShareNothing, RunsThrough, placed}
use Rattle.shunt_choices.proofs.Given.{PlaceLaws}
use Rattle.shunt_prices.specs.defs.Sums.{sum_z}
use Rattle.shunt_stacks.specs.defs.Stacks.{Stack, is_of, blocks_of}
use Rattle.shunt_stacks.specs.defs.Fillings.{gain, gain_of, IsFilling, IsStackGain}
use Rattle.shunt_stacks.proofs.Sums.{sum_z-both, sum_z-low}
use Rattle.shunt_stacks.proofs.Parts.{IsPart, part_itself, part_filter, part_part, part_append, part_right, part_apart, part_within, PartLaw, part_runs, IsFreeAt, is_block, free_behind, joined_apart}
use Rattle.shunt_blocks.proofs.Shapes.{all_within, is_within}

-- a stack has one gain
pub one_gain : (night : Night) (path : List Block) (c : Case) (stack : Stack) (x y : ℤ) → IsStackGain night path c stack x → IsStackGain night path c stack y → x ≡ y
one_gain night path c stack x y g h = omega (arith, ints, g.no_more h.filling h.fills, h.no_more g.filling g.fills, g.has, h.has)

-- ---- nothing is a filling

module _ (law : PartLaw) (night : Night) (i : IsInstance night) (path : List Block) (within : All (IsWithinTrains night) path) (apart : ShareNothing night path) where
  nothing_apart : ShareNothing night []
  nothing_apart = record { units = λ u. omega arith; positions = λ v. omega arith }

  pub empty : (stack : Stack) → RunsThrough night (placed path) → IsFilling night path stack []
  empty stack go = record {
    own = All-nil (λ (b : Block). is_of stack b.park ≡ true);
    free = All-nil (IsFreeAt night path);
    apart = nothing_apart;
    through = subst (λ (bs : List Block). RunsThrough night (placed bs)) (sym (append-nil (blocks_of stack path)))
        (part_runs law night (blocks_of stack path) path i within apart (part_filter night (λ (b : Block). is_of stack b.park) path) go);
  }

  pub at_least_zero : (c : Case) (stack : Stack) (most : ℤ) → RunsThrough night (placed path) → IsStackGain night path c stack most → pos 0 ≤ℤ most
  at_least_zero c stack most go is = is.no_more [] (empty stack go)

-- ---- what comes behind a path

-- those that aren't of a stack
abbrev pub others : Stack → List Block → List Block
others stack blocks = filter (λ b. not (is_of stack b.park)) blocks

pub other_block : (stack : Stack) (blocks : List Block) (b : Block) → In b (others stack blocks) → In b blocks × (is_of stack b.park ≡ false)
other_block stack blocks b there = let h = filter_from (λ (x : Block). not (is_of stack x.park)) blocks b there in (h.0, not-true (is_of stack b.park) h.1)

-- blocks behind a path that share nothing with it, and whose run goes through with it
module _ (places : PlaceLaws) (law : PartLaw) (night : Night) (i : IsInstance night) (path rest : List Block)
    (within : All (IsWithinTrains night) (path ++ rest)) (fits : All (IsBlockButId night) rest) (apart : ShareNothing night (path ++ rest))
    (go : RunsThrough night (placed (path ++ rest))) where
  rest_part : (some : List Block) → IsPart night some rest → IsPart night some (path ++ rest)
  rest_part some h = part_part night some rest (path ++ rest) h (part_right night path rest)

  pub fills : (stack : Stack) (some : List Block) → IsPart night some rest → IsFilling night path stack (blocks_of stack some)
  fills stack some h =
      let test = λ (b : Block). is_of stack b.park in
      let part = part_part night (blocks_of stack some) some rest (part_filter night test some) h in
      record {
        own = from_members (λ (b : Block). is_of stack b.park ≡ true) (blocks_of stack some) (λ b there. (filter_from test some b there).1);
        free = from_members (IsFreeAt night path) (blocks_of stack some) (λ b there. let in_rest = part.members b there in free_behind places night path rest b apart in_rest
            (each_one (IsBlockButId night) rest b fits in_rest));
        apart = part_apart night (blocks_of stack some) (path ++ rest) (rest_part (blocks_of stack some) part) apart;
        through = part_runs law night (blocks_of stack path ++ blocks_of stack some) (path ++ rest) i within apart
            (part_append night (blocks_of stack path) (blocks_of stack some) path rest (part_filter night test path) part) go;
      }

  module _ (c : Case) where
    -- of these blocks those of none of these stacks gain nothing
    abbrev pub NoneBeside : List Stack → List Block → Type 0
    NoneBeside stacks some = (b : Block) → In b some → ((s : Stack) → In s stacks → is_of s b.park ≡ false) → gain night c b ≤ℤ pos 0

    fewer : (s : Stack) (stacks : List Stack) (some : List Block) → NoneBeside (s ∷ stacks) some → NoneBeside stacks (others s some)
    fewer s stacks some beside b there none =
        let h = other_block s some b there in
        beside b h.0 (λ t of. either t of)
      where
        either : (t : Stack) → In t (s ∷ stacks) → is_of t b.park ≡ false
        either t (inl e) = subst (λ (x : Stack). is_of x b.park ≡ false) (sym e) (other_block s some b there).1
        either t (inr later) = none t later

    other_part : (s : Stack) (some : List Block) → IsPart night some rest → IsPart night (others s some) rest
    other_part s some h = part_part night (others s some) some rest (part_filter night (λ (b : Block). not (is_of s b.park)) some) h

    -- what these blocks gain, the gains of the stacks are at least
    pub within_gains : (stacks : List Stack) (gains : List ℤ) (some : List Block) → AllZip (IsStackGain night path c) stacks gains → IsPart night some rest
        → NoneBeside stacks some → gain_of night c some ≤ℤ sum_z (λ z. z) gains
    within_gains [] [] some are h beside = sum_z-low (gain night c) some (λ b there. beside b there (λ s none. absurd none))
    within_gains [] (g ∷ gains) some are h beside = absurd are
    within_gains (s ∷ stacks) [] some are h beside = absurd are
    within_gains (s ∷ stacks) (g ∷ gains) some are h beside =
        omega (
          arith,
          ints,
          sum_z-both (gain night c) (λ (b : Block). is_of s b.park) some,
          are.0.no_more (blocks_of s some) (fills s some h),
          within_gains stacks gains (others s some) are.1 (other_part s some h) (fewer s stacks some beside),
        )

    -- and where none of them is of one of the stacks, the gains of the others alone
    pub within_others : (own : Stack) (most : ℤ) → IsStackGain night path c own most → (stacks : List Stack) (gains : List ℤ) (some : List Block) → In own stacks
        → AllZip (IsStackGain night path c) stacks gains → IsPart night some rest → NoneBeside stacks some
        → ((b : Block) → In b some → is_of own b.park ≡ false) → gain_of night c some ≤ℤ (sum_z (λ z. z) gains -ℤ most)
    within_others own most is [] gains some there are h beside none = absurd there
    within_others own most is (s ∷ stacks) [] some there are h beside none = absurd are
    within_others own most is (s ∷ stacks) (g ∷ gains) some (inl e) are h beside none =
        let same = one_gain night path c own most g is (subst (λ (t : Stack). IsStackGain night path c t g) (sym e) are.0) in
        omega (arith, ints, same, within_gains stacks gains some are.1 h (λ b in_some apart_from. beside b in_some (λ t of. either b in_some apart_from t of)))
      where
        either : (b : Block) → In b some → ((t : Stack) → In t stacks → is_of t b.park ≡ false) → (t : Stack) → In t (s ∷ stacks) → is_of t b.park ≡ false
        either b in_some apart_from t (inl f) = subst (λ (x : Stack). is_of x b.park ≡ false) (e ∙ sym f) (none b in_some)
        either b in_some apart_from t (inr later) = apart_from t later
    within_others own most is (s ∷ stacks) (g ∷ gains) some (inr later) are h beside none =
        omega (
          arith,
          ints,
          sum_z-both (gain night c) (λ (b : Block). is_of s b.park) some,
          are.0.no_more (blocks_of s some) (fills s some h),
          within_others own most is stacks gains (others s some) later are.1 (other_part s some h) (fewer s stacks some beside) (λ b there. none b (other_block s some b there).0),
        )

pub behind : (places : PlaceLaws) (law : PartLaw) (night : Night) (i : IsInstance night) (path rest : List Block) → All (IsWithinTrains night) path
    → All (IsBlockButId night) rest → ShareNothing night (path ++ rest) → RunsThrough night (placed (path ++ rest)) → (stack : Stack)
    → IsFilling night path stack (blocks_of stack rest)
behind places law night i path rest within fits apart go stack =
    fills places law night i path rest (All-append (IsWithinTrains night) path rest within (all_within night rest fits)) fits apart go stack rest (part_itself night rest)

-- ---- parts of a filling

module _ (places : PlaceLaws) (law : PartLaw) (night : Night) (i : IsInstance night) (path : List Block) (within : All (IsWithinTrains night) path)
    (apart : ShareNothing night path)
    (stack : Stack) (filling : List Block) (fill : IsFilling night path stack filling) where
  pub whole_apart : ShareNothing night (blocks_of stack path ++ filling)
  whole_apart = joined_apart places night path (blocks_of stack path) filling apart fill.free fill.apart (part_filter night (λ (b : Block). is_of stack b.park) path)

  pub whole_within : All (IsWithinTrains night) (blocks_of stack path ++ filling)
  whole_within = All-append (IsWithinTrains night) (blocks_of stack path) filling
      (part_within night (IsWithinTrains night) (blocks_of stack path) path (part_filter night (λ (b : Block). is_of stack b.park) path) within)
      (from_members (IsWithinTrains night) filling (λ b there. is_within night b (is_block places night path b (each_one (IsFreeAt night path) filling b fill.free there))))

  pub part_fills : (some : List Block) → IsPart night some filling → IsFilling night path stack some
  part_fills some h = record {
    own = part_within night (λ (b : Block). is_of stack b.park ≡ true) some filling h fill.own;
    free = part_within night (IsFreeAt night path) some filling h fill.free;
    apart = part_apart night some filling h fill.apart;
    through = part_runs law night (blocks_of stack path ++ some) (blocks_of stack path ++ filling) i whole_within whole_apart
        (part_append night (blocks_of stack path) some (blocks_of stack path) filling (part_itself night (blocks_of stack path)) h) fill.through;
  }

-- ---- those that gain something

pub record Gaining (night : Night) (c : Case) (blocks : List Block) : Type 0 where
  pub some : List Block
  pub part : IsPart night some blocks
  pub each : (b : Block) → In b some → pos 0 <ℤ gain night c b
  pub no_less : gain_of night c blocks ≤ℤ gain_of night c some

pub gaining : (night : Night) (c : Case) (blocks : List Block) → Gaining night c blocks
gaining night c [] = record { some = []; part = part_itself night []; each = λ b there. absurd there; no_less = omega (arith, ints) }
gaining night c (b ∷ blocks) = add (gaining night c blocks)
  where
    add : Gaining night c blocks → Gaining night c (b ∷ blocks)
    add g = by_lt_z (pos 0) (gain night c b)
        (λ lt. record {
          some = b ∷ g.some;
          part = part_append night (b ∷ []) g.some (b ∷ []) blocks (part_itself night (b ∷ [])) g.part;
          each = λ x there. ⊎_elim (λ e. subst (λ (y : Block). pos 0 <ℤ gain night c y) (sym e) lt) (λ later. g.each x later) there;
          no_less = more (gain night c b) _ _ g.no_less;
        })
        (λ le. record {
          some = g.some;
          part = part_part night g.some blocks (b ∷ blocks) g.part (part_right night (b ∷ []) blocks);
          each = g.each;
          no_less = less (gain night c b) _ _ le g.no_less;
        })
      where
        more : (z x y : ℤ) → x ≤ℤ y → (z +ℤ x) ≤ℤ (z +ℤ y)
        more z x y le = omega (arith, ints, le)

        less : (z x y : ℤ) → z ≤ℤ pos 0 → x ≤ℤ y → (z +ℤ x) ≤ℤ y
        less z x y low le = omega (arith, ints, low, le)
