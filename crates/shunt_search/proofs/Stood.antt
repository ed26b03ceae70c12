-- Stays that come block by block.
use Rattle.std.specs.Prelude.{All}
use Rattle.std.specs.List.{cons_option}
use Rattle.std.proofs.Common.{◌≡◌, ◌≢◌, ⊎_elim, ◌↔◌, ℕ, zero, ◌+◌, ◌<◌, ◌≤◌, List, [], ◌∷◌, ◌++◌, length, map, get_or, take, drop, suc, sym, subst, ap, ◌∙◌, arith}
use Rattle.std.proofs.lemmas.List.{append-nil, take_more}
use Rattle.std.proofs.lemmas.List.Elements.{filter_map-append}
use Rattle.shunt_lists.proofs.Members.{all_in, in_left, to_all}
use Rattle.shunt_lists.specs.defs.Members.{In, AreDistinct}
use Rattle.shunt_base.specs.declared.keys.Stay.{Stay}
use Rattle.shunt_instance.specs.defs.Instance.{Night}
use Rattle.shunt_blocks.specs.declared.records.Block.{Block}
use Rattle.shunt_blocks.specs.defs.Stays.{stay_of}
use Rattle.shunt_blocks.specs.defs.Lists.{stays_of}
use Rattle.shunt_timeline.specs.defs.Holdings.{Holding}
use Rattle.shunt_search.specs.defs.Polish.{others_of, Stand}
use Rattle.shunt_search.proofs.Stays.{same_length, to_front, as_long}
use Rattle.shunt_search.proofs.Changed.{other_ids}
use Rattle.shunt_lists.proofs.Options.{few_some, option_in as first_or_rest, option_first as first, option_rest as rest, of_some}
use Rattle.shunt_blocks.proofs.StaysOf.{stay_id}

module _ (night : Night) (xs : List Block) (i : ℕ) (d : Block) (lt : i < length xs) where
  abbrev b : Block
  b = get_or xs i d

  stays_next : stays_of night (take (i + 1) xs) ≡ stays_of night (take i xs) ++ cons_option (stay_of night b) []
  stays_next = ap (stays_of night) (take_more xs i d lt) ∙ filter_map-append (stay_of night) (take i xs) (b ∷ [])

  alone : stays_of night (take i xs) ++ [] ≡ stays_of night (take i xs)
  alone = append-nil (stays_of night (take i xs))

  -- the stays so far with that of one block more
  in_next : (s : Stay) → In s (stays_of night (take (i + 1) xs)) ↔ In s (cons_option (stay_of night b) (stays_of night (take i xs)))
  in_next s =
      let moved = to_front (stay_of night b) (stays_of night (take i xs)) [] s in (
        λ j. subst (λ (l : List Stay). In s (cons_option (stay_of night b) l)) alone (moved.0 (subst (λ (l : List Stay). In s l) stays_next j)),
        λ j. subst (λ (l : List Stay). In s l) (sym stays_next) (moved.1 (subst (λ (l : List Stay). In s (cons_option (stay_of night b) l)) (sym alone) j)),
      )

  long_next : length (stays_of night (take (i + 1) xs)) ≡ length (cons_option (stay_of night b) (stays_of night (take i xs)))
  long_next = ap (λ (l : List Stay). length l) stays_next ∙ as_long (stay_of night b) (stays_of night (take i xs)) []
      ∙ ap (λ (l : List Stay). length (cons_option (stay_of night b) l)) alone

  pub stand_next : (held after : Holding) → Stand night (take i xs) held → after.lengths ≡ held.lengths
      → ((s : Stay) → In s after.stays ↔ In s (cons_option (stay_of night b) held.stays)) → length after.stays ≡ length (cons_option (stay_of night b) held.stays)
      → Stand night (take (i + 1) xs) after
  stand_next held after st lengths came count = record {
    lengths = lengths ∙ st.lengths;
    stays = λ s. (
      λ j. (came s).1 (⊎_elim (λ e. first (stay_of night b) held.stays s e) (λ k. rest (stay_of night b) held.stays s ((st.stays s).0 k))
          (first_or_rest (stay_of night b) (stays_of night (take i xs)) s ((in_next s).0 j))),
      λ j. (in_next s).1 (⊎_elim (λ e. first (stay_of night b) (stays_of night (take i xs)) s e) (λ k. rest (stay_of night b) (stays_of night (take i xs)) s ((st.stays s).1 k))
          (first_or_rest (stay_of night b) held.stays s ((came s).0 j))),
    );
    count = count ∙ same_length (stay_of night b) held.stays (stays_of night (take i xs)) st.count ∙ sym long_next;
  }

  pub none_yet : (held : Holding) → Stand night (take i xs) held → AreDistinct (map (λ c. c.id) xs) → All (λ s. s.id ≢ b.id) held.stays
  none_yet held st ids = to_all (λ s. s.id ≢ b.id) held.stays (λ s j e.
      let r = of_some (stay_of night) (take i xs) s ((st.stays s).1 j) in
      all_in (λ c. c.id ≢ b.id) (others_of xs i) r.0 (other_ids xs i d lt ids) (in_left (take i xs) (drop (suc i) xs) r.0 r.1) (sym (stay_id night r.0 s r.2) ∙ e))

-- there are no more stays than blocks that have come
pub few_yet : (night : Night) (xs : List Block) (i : ℕ) (held : Holding) → Stand night (take i xs) held → length held.stays ≤ i
few_yet night xs i held st = let count = st.count in let few = few_some (stay_of night) (take i xs) in let long = short i xs in omega (arith, count, few, long)
  where
    short : (n : ℕ) (ys : List Block) → length (take n ys) ≤ n
    short zero ys = omega arith
    short (suc n) [] = omega arith
    short (suc n) (y ∷ ys) = let le = short n ys in omega (arith, le)
