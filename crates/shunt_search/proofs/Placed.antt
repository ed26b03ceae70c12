-- Blocks with their places as ids, and their stays where a block more comes.
use Rattle.std.specs.Prelude.{All, sum_by}
use Rattle.std.specs.List.{cons_option}
use Rattle.std.proofs.Common.{◌≡◌, ◌≢◌, inl, inr, ⊎_elim, ◌↔◌, ℕ, ◌+◌, ◌<◌, ◌≤◌, List, [], ◌∷◌, ◌++◌, length, take, get_or, refl, sym, subst, ap, ◌∙◌, arith}
use Rattle.std.proofs.lemmas.List.{append-nil, length-take-le, take_more}
use Rattle.std.proofs.lemmas.List.Sums.{sum_by-append, sum_by-cons}
use Rattle.std.proofs.lemmas.List.Elements.{filter_map-append}
use Rattle.shunt_lists.specs.defs.Members.{In}
use Rattle.shunt_base.specs.declared.keys.Stay.{Stay}
use Rattle.shunt_base.specs.defs.Keys.{AreStays}
use Rattle.shunt_stays.specs.defs.Run.{GoesThrough, AreOnTracks}
use Rattle.shunt_instance.specs.defs.Instance.{Night}
use Rattle.shunt_blocks.specs.declared.records.Block.{Block}
use Rattle.shunt_blocks.specs.defs.Costs.{block_cost}
use Rattle.shunt_blocks.specs.defs.Stays.{stay_of}
use Rattle.shunt_blocks.specs.defs.Lists.{CanStand, RunsThrough, stays_of, track_lengths, total_cost, placed, placed_from}
use Rattle.shunt_timeline.specs.defs.Holdings.{Holding}
use Rattle.shunt_search.specs.defs.Polish.{Stand, RunsWith}
use Rattle.shunt_search.proofs.Stays.{same_length, to_front, as_long}
use Rattle.shunt_search.proofs.Improved.{Laws, with_first, first_formed}
use Rattle.shunt_lists.proofs.Members.{each_one as of_all, to_all}
use Rattle.shunt_lists.proofs.Options.{few_some, option_in as first_or_rest, option_first as first, option_rest as rest, of_some}
use Rattle.shunt_stays.proofs.Halves.{formed as formed_in}
use Rattle.shunt_blocks.proofs.StaysOf.{stay_id}

-- ---- the blocks

from_more : (k : ℕ) (xs : List Block) (b : Block) → placed_from k (xs ++ b ∷ []) ≡ placed_from k xs ++ record b { id = length xs + k } ∷ []
from_more k [] b = let e : k ≡ 0 + k = omega arith in ap (λ n. record b { id = n } ∷ []) e
from_more k (x ∷ xs) b =
    let e : length xs + (k + 1) ≡ length (x ∷ xs) + k = omega arith in
    ap (λ (l : List Block). record x { id = k } ∷ l) (from_more (k + 1) xs b ∙ ap (λ n. placed_from (k + 1) xs ++ record b { id = n } ∷ []) e)

pub placed_more : (xs : List Block) (b : Block) → placed (xs ++ b ∷ []) ≡ placed xs ++ record b { id = length xs + 1 } ∷ []
placed_more xs b = from_more 1 xs b

long_from : (k : ℕ) (xs : List Block) → length (placed_from k xs) ≡ length xs
long_from k [] = refl
long_from k (x ∷ xs) = let e = long_from (k + 1) xs in omega (arith, e)

pub placed_long : (xs : List Block) → length (placed xs) ≡ length xs
placed_long xs = long_from 1 xs

ids_below : (k : ℕ) (xs : List Block) (b : Block) → In b (placed_from k xs) → b.id < k + length xs
ids_below k [] b i = absurd i
ids_below k (x ∷ xs) b (inl e) = let is : b.id ≡ k = ap (λ (c : Block). c.id) e in omega (arith, is)
ids_below k (x ∷ xs) b (inr i) = omega (arith, ids_below (k + 1) xs b i)

-- ---- the stays with that of a block more

module _ (night : Night) (ys : List Block) (c : Block) where
  stays_next : stays_of night (ys ++ c ∷ []) ≡ stays_of night ys ++ cons_option (stay_of night c) []
  stays_next = filter_map-append (stay_of night) ys (c ∷ [])

  alone : stays_of night ys ++ [] ≡ stays_of night ys
  alone = append-nil (stays_of night ys)

  in_next : (s : Stay) → In s (stays_of night (ys ++ c ∷ [])) ↔ In s (cons_option (stay_of night c) (stays_of night ys))
  in_next s =
      let moved = to_front (stay_of night c) (stays_of night ys) [] s in (
        λ j. subst (λ (l : List Stay). In s (cons_option (stay_of night c) l)) alone (moved.0 (subst (λ (l : List Stay). In s l) stays_next j)),
        λ j. subst (λ (l : List Stay). In s l) (sym stays_next) (moved.1 (subst (λ (l : List Stay). In s (cons_option (stay_of night c) l)) (sym alone) j)),
      )

  long_next : length (stays_of night (ys ++ c ∷ [])) ≡ length (cons_option (stay_of night c) (stays_of night ys))
  long_next = ap (λ (l : List Stay). length l) stays_next ∙ as_long (stay_of night c) (stays_of night ys) []
      ∙ ap (λ (l : List Stay). length (cons_option (stay_of night c) l)) alone

  module _ (held : Holding) (st : Stand night ys held) where
    -- what the timelines have with it
    all : (s : Stay) → In s (stays_of night (ys ++ c ∷ [])) ↔ In s (cons_option (stay_of night c) held.stays)
    all s = (
      λ j. ⊎_elim (λ e. first (stay_of night c) held.stays s e) (λ k. rest (stay_of night c) held.stays s ((st.stays s).0 k))
          (first_or_rest (stay_of night c) (stays_of night ys) s ((in_next s).0 j)),
      λ j. (in_next s).1 (⊎_elim (λ e. first (stay_of night c) (stays_of night ys) s e) (λ k. rest (stay_of night c) (stays_of night ys) s ((st.stays s).1 k))
          (first_or_rest (stay_of night c) held.stays s j)),
    )

    pub more_stand : (after : Holding) → after.lengths ≡ held.lengths → ((s : Stay) → In s after.stays ↔ In s (cons_option (stay_of night c) held.stays))
        → length after.stays ≡ length (cons_option (stay_of night c) held.stays) → Stand night (ys ++ c ∷ []) after
    more_stand after lengths came count = record {
      lengths = lengths ∙ st.lengths;
      stays = λ s. (λ j. (came s).1 ((all s).0 j), λ j. (all s).1 ((came s).0 j));
      count = count ∙ same_length (stay_of night c) held.stays (stays_of night ys) st.count ∙ sym long_next;
    }

    -- the run of all goes through where that of the timelines does with it
    module _ (L : Laws night) (can : CanStand night (ys ++ c ∷ [])) (are : AreStays held.stays) (new : (s : Stay) → In s held.stays → s.id ≢ c.id) where
      are_all : AreStays (stays_of night (ys ++ c ∷ []))
      are_all = L.stays (ys ++ c ∷ []) can

      are_with : AreStays (cons_option (stay_of night c) held.stays)
      are_with = with_first (stay_of night c) held.stays
          (first_formed (stay_of night c) (λ s e. formed_in (stays_of night (ys ++ c ∷ [])) s are_all ((all s).1 (first (stay_of night c) held.stays s e))))
          (λ s t e i. subst (λ n. t.id ≢ n) (sym (stay_id night c s e)) (new t i)) are

      on_all : AreOnTracks (track_lengths night.station) (stays_of night (ys ++ c ∷ []))
      on_all = L.tracks (ys ++ c ∷ []) can

      on_with : AreOnTracks (track_lengths night.station) (cons_option (stay_of night c) held.stays)
      on_with = to_all (λ s. s.track.0 < length (track_lengths night.station)) (cons_option (stay_of night c) held.stays)
          (λ s i. of_all (λ t. t.track.0 < length (track_lengths night.station)) (stays_of night (ys ++ c ∷ [])) s on_all ((all s).1 i))

      pub more_runs : RunsWith night c c.park held ↔ RunsThrough night (ys ++ c ∷ [])
      more_runs = (
        λ r. L.part (track_lengths night.station) (cons_option (stay_of night c) held.stays) (stays_of night (ys ++ c ∷ [])) are_with on_with are_all (λ s i. (all s).0 i)
            (subst (λ (l : List ℕ). GoesThrough l (cons_option (stay_of night c) held.stays)) st.lengths r),
        λ r. subst (λ (l : List ℕ). GoesThrough l (cons_option (stay_of night c) held.stays)) (sym st.lengths)
            (L.part (track_lengths night.station) (stays_of night (ys ++ c ∷ [])) (cons_option (stay_of night c) held.stays) are_all on_all are_with (λ s i. (all s).1 i) r),
      )

-- ---- the stays of blocks with their places as ids

module _ (night : Night) (xs : List Block) (held : Holding) (st : Stand night (placed xs) held) where
  -- none has the next place as id
  pub none_yet : All (λ s. s.id ≢ length xs + 1) held.stays
  none_yet = to_all (λ s. s.id ≢ length xs + 1) held.stays (λ s j e.
      let r = of_some (stay_of night) (placed xs) s ((st.stays s).1 j) in
      let below = ids_below 1 xs r.0 r.1 in
      let same = stay_id night r.0 s r.2 in
      absurd (omega (arith, below, same, e)))

  -- there are no more of them than blocks
  pub few_yet : length held.stays ≤ length xs
  few_yet = let count = st.count in let few = few_some (stay_of night) (placed xs) in let long = placed_long xs in omega (arith, count, few, long)

  module _ (b c : Block) (is : c ≡ record b { id = length xs + 1 }) where
    pub grown : (after : Holding) → after.lengths ≡ held.lengths → ((s : Stay) → In s after.stays ↔ In s (cons_option (stay_of night c) held.stays))
        → length after.stays ≡ length (cons_option (stay_of night c) held.stays) → Stand night (placed (xs ++ b ∷ [])) after
    grown after lengths came count = subst (λ (l : List Block). Stand night l after) (ap (λ (x : Block). placed xs ++ x ∷ []) is ∙ sym (placed_more xs b))
        (more_stand night (placed xs) c held st after lengths came count)

    pub grown_runs : Laws night → CanStand night (placed (xs ++ b ∷ [])) → AreStays held.stays → RunsWith night c c.park held ↔ RunsThrough night (placed (xs ++ b ∷ []))
    grown_runs L can are =
        let e : placed (xs ++ b ∷ []) ≡ placed xs ++ c ∷ [] = placed_more xs b ∙ ap (λ (x : Block). placed xs ++ x ∷ []) (sym is) in
        let id : c.id ≡ length xs + 1 = ap (λ (x : Block). x.id) is in
        subst (λ (l : List Block). RunsWith night c c.park held ↔ RunsThrough night l) (sym e)
        (more_runs night (placed xs) c held st L (subst (CanStand night) e can) are (λ s i same. of_all (λ t. t.id ≢ length xs + 1) held.stays s none_yet i (same ∙ id)))

-- ---- the first blocks with one more

module _ (xs : List Block) (k : ℕ) (lt : k < length xs) (b : Block) (is : b ≡ get_or xs k b) where
  firsts : take (k + 1) xs ≡ take k xs ++ b ∷ []
  firsts = take_more xs k b lt ∙ ap (λ (x : Block). take k xs ++ x ∷ []) (sym is)

  pub next_placed : (c : Block) → c ≡ record b { id = k + 1 } → placed (take (k + 1) xs) ≡ placed (take k xs) ++ c ∷ []
  next_placed c e =
      let size = length-take-le k xs (omega (arith, lt)) in
      ap (λ (l : List Block). placed l) firsts ∙ placed_more (take k xs) b ∙ ap (λ n. placed (take k xs) ++ record b { id = n + 1 } ∷ []) size
      ∙ ap (λ (x : Block). placed (take k xs) ++ x ∷ []) (sym e)

pub next_cost : (night : Night) (xs : List Block) (k : ℕ) → k < length xs → (b : Block) → b ≡ get_or xs k b
    → total_cost night (take (k + 1) xs) ≡ total_cost night (take k xs) + block_cost night b
next_cost night xs k lt b is =
    let split = sum_by-append (block_cost night) (take k xs) (b ∷ []) in
    let one = sum_by-cons (block_cost night) b [] in
    let none : sum_by (block_cost night) [] ≡ 0 = refl in
    ap (λ (l : List Block). total_cost night l) (firsts xs k lt b is) ∙ omega (arith, split, one, none)
