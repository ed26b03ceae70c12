-- The options of one block, where timelines have the stays of the others.
use Rattle.std.specs.Prelude.{All, IfSome, IfNone, OnSome, Option, Some, None}
use Rattle.std.specs.List.{AllByRecursion, cons_option}
use Rattle.std.proofs.Common.{◌≡◌, ◌≢◌, ⊎_elim, ◌↔◌, ℕ, ◌+◌, ◌^◌, ◌<◌, ◌≤◌, List, ◌∷◌, length, map, get_or, set, refl, sym, subst, ap, ◌∙◌, arith, IsPermutation}
use Rattle.std.proofs.lemmas.List.{set-get_or}
use Rattle.std.proofs.lemmas.List.Elements.{All-set}
use Rattle.shunt_lists.proofs.Members.{all_from, each_one as of_all, to_all}
use Rattle.shunt_lists.specs.defs.Members.{In, AreDistinct}
use Rattle.shunt_base.specs.declared.keys.Stay.{Stay}
use Rattle.shunt_base.specs.defs.Keys.{IsWellFormed, AreStays}
use Rattle.shunt_stays.specs.defs.Run.{GoesThrough, AreOnTracks}
use Rattle.shunt_instance.specs.defs.Instance.{Night}
use Rattle.shunt_blocks.specs.declared.records.Block.{Block}
use Rattle.shunt_blocks.specs.declared.records.Park.{Park}
use Rattle.shunt_blocks.specs.defs.Shapes.{shape_of, IsWithinTrains}
use Rattle.shunt_blocks.specs.defs.Blocks.{IsBlock, IsOption}
use Rattle.shunt_blocks.specs.defs.Costs.{block_cost, cost_with}
use Rattle.shunt_blocks.specs.defs.Stays.{stay_with, stay_of}
use Rattle.shunt_blocks.specs.defs.Lists.{CanStand, RunsThrough, IsFeasible, stays_of, track_lengths, total_cost}
use Rattle.shunt_timeline.specs.defs.Holdings.{Holding}
use Rattle.shunt_search.specs.defs.Polish.{unparked, others_of, Stand, RunsWith, NoLess, IsLeast}
use Rattle.shunt_search.proofs.Stays.{others_ids, none_taken, one_taken, none_less, one_less, same_length, PartRuns}
use Rattle.shunt_search.proofs.Changed.{with_park, other_ids, with_option_is, same_fields, cost_change, still_block, still_feasible, stays_front, stays_long, length_others}
use Rattle.shunt_lists.proofs.Options.{few_some, option_in as first_or_rest, option_first as first, option_rest as rest}
use Rattle.shunt_stays.proofs.Halves.{formed as formed_in}
use Rattle.shunt_blocks.proofs.StaysOf.{id_with}

-- what the laws say of blocks' stays
pub record Laws (night : Night) : Type 0 where
  pub stays : (blocks : List Block) → CanStand night blocks → AreStays (stays_of night blocks)
  pub tracks : (blocks : List Block) → CanStand night blocks → AreOnTracks (track_lengths night.station) (stays_of night blocks)
  pub part : PartRuns

pub can_stand : (night : Night) (blocks : List Block) → All (IsBlock night) blocks → AreDistinct (map (λ b. b.id) blocks) → CanStand night blocks
can_stand night blocks each ids = record {
  within = to_all (IsWithinTrains night) blocks (λ b i. (of_all (IsBlock night) blocks b each i).in_range.within);
  small = to_all (λ b. b.id < 2 ^ 32) blocks (λ b i. let to = (of_all (IsBlock night) blocks b each i).in_range.to in omega (arith, to));
  ids = ids;
}

-- the same of a stay that may be there
pub with_first : (o : Option Stay) (stays : List Stay) → IfSome o IsWellFormed → ((s t : Stay) → o ≡ Some s → In t stays → t.id ≢ s.id) → AreStays stays
    → AreStays (cons_option o stays)
with_first None stays formed new are = are
with_first (Some s) stays formed new are = (formed, all_from (λ t. s.id ≢ t.id) stays (λ t i e. new s t refl i (sym e)), are)

pub first_formed : (o : Option Stay) → ((s : Stay) → o ≡ Some s → IsWellFormed s) → IfSome o IsWellFormed
first_formed None h = tt
first_formed (Some s) h = h s refl

module _ (night : Night) (L : Laws night) (xs : List Block) (k : ℕ) (d : Block) (lt : k < length xs) (h : IsFeasible night xs) (after : Holding)
    (st : Stand night (others_of xs k) after) (are : AreStays after.stays) where
  abbrev b : Block
  b = get_or xs k d

  new : (s : Stay) → In s after.stays → s.id ≢ b.id
  new s i = others_ids night b (others_of xs k) (other_ids xs k d lt h.ids) s ((st.stays s).1 i)

  module _ (o : Option Park) (is : IsOption night (shape_of b) o) where
    abbrev ys : List Block
    ys = set xs k (with_park b o)

    ids : AreDistinct (map (λ c. c.id) ys)
    ids = subst AreDistinct (sym (same_fields (λ c. c.id) xs k d o (λ c. refl))) h.ids

    can : CanStand night ys
    can = can_stand night ys (All-set (IsBlock night) xs k (with_park b o) (still_block night b o (h.each k d lt) is) h.each) ids

    -- the stays of all of them are those of the others with that of the block
    pub all : (s : Stay) → In s (stays_of night ys) ↔ In s (cons_option (stay_with night b o) after.stays)
    all s = (
      λ i. ⊎_elim (λ e. first (stay_with night b o) after.stays s e) (λ j. rest (stay_with night b o) after.stays s ((st.stays s).0 j))
          (first_or_rest (stay_with night b o) (stays_of night (others_of xs k)) s ((stays_front night xs k (with_park b o) lt s).0 i)),
      λ i. (stays_front night xs k (with_park b o) lt s).1 (⊎_elim (λ e. first (stay_with night b o) (stays_of night (others_of xs k)) s e)
          (λ j. rest (stay_with night b o) (stays_of night (others_of xs k)) s ((st.stays s).1 j)) (first_or_rest (stay_with night b o) after.stays s i)),
    )

    pub long : length (cons_option (stay_with night b o) after.stays) ≡ length (stays_of night ys)
    long = same_length (stay_with night b o) after.stays (stays_of night (others_of xs k)) st.count ∙ sym (stays_long night xs k (with_park b o) lt)

    -- they are well formed
    are_all : AreStays (stays_of night ys)
    are_all = L.stays ys can

    are_with : AreStays (cons_option (stay_with night b o) after.stays)
    are_with = with_first (stay_with night b o) after.stays
        (first_formed (stay_with night b o) (λ s e. formed_in (stays_of night ys) s are_all ((all s).1 (first (stay_with night b o) after.stays s e))))
        (λ s t e i. subst (λ n. t.id ≢ n) (sym (id_with night b o s e)) (new t i)) are

    on_all : AreOnTracks (track_lengths night.station) (stays_of night ys)
    on_all = L.tracks ys can

    on_with : AreOnTracks (track_lengths night.station) (cons_option (stay_with night b o) after.stays)
    on_with = to_all (λ s. s.track.0 < length (track_lengths night.station)) (cons_option (stay_with night b o) after.stays)
        (λ s i. of_all (λ t. t.track.0 < length (track_lengths night.station)) (stays_of night ys) s on_all ((all s).1 i))

    -- and the run of the one list goes through where that of the other does
    pub runs_of : RunsWith night b o after → RunsThrough night ys
    runs_of r = L.part (track_lengths night.station) (cons_option (stay_with night b o) after.stays) (stays_of night ys) are_with on_with are_all (λ s i. (all s).0 i)
        (subst (λ (l : List ℕ). GoesThrough l (cons_option (stay_with night b o) after.stays)) st.lengths r)

    pub of_runs : RunsThrough night ys → RunsWith night b o after
    of_runs r = subst (λ (l : List ℕ). GoesThrough l (cons_option (stay_with night b o) after.stays)) (sym st.lengths)
        (L.part (track_lengths night.station) (stays_of night ys) (cons_option (stay_with night b o) after.stays) are_all on_all are_with (λ s i. (all s).1 i) r)

    pub feasible : RunsWith night b o after → IsFeasible night ys
    feasible r = still_feasible night xs k d o lt h is (runs_of r)

    -- the timelines once the block's stay has come
    pub settled : (held : Holding) → ((s : Stay) → In s held.stays ↔ In s (cons_option (stay_with night b o) after.stays))
        → length held.stays ≡ length (cons_option (stay_with night b o) after.stays) → held.lengths ≡ after.lengths → Stand night ys held
    settled held came count lengths = record {
      lengths = lengths ∙ st.lengths;
      stays = λ s. (λ i. (came s).1 ((all s).0 i), λ i. (all s).1 ((came s).0 i));
      count = count ∙ long;
    }

  -- no option is cheaper than the cheapest one with which the block goes through
  pub is_least : (o : Option Park) → IsOption night (shape_of b) o → ((p : Option Park) → IsOption night (shape_of b) p → NoLess night b after (cost_with night (shape_of b) o) p)
      → block_cost night b ≤ block_cost night (with_park b o) → IsLeast night xs b
  is_least o is least cost p ok feasible_p =
      let same = with_option_is xs k d p lt h.ids in
      let runs = of_runs p ok (subst (RunsThrough night) same feasible_p.through) in
      let le : cost_with night (shape_of b) o ≤ cost_with night (shape_of b) p = least p ok runs in
      let change : total_cost night (set xs k (with_park b p)) + block_cost night b ≡ total_cost night xs + cost_with night (shape_of b) p = cost_change night xs k d p lt in
      let is_cost : block_cost night b ≤ cost_with night (shape_of b) o = cost in
      subst (λ (l : List Block). total_cost night xs ≤ total_cost night l) (sym same) (omega (arith, le, change, is_cost))

  -- the stays of the others go through by themselves
  can_now : CanStand night xs
  can_now = can_stand night xs h.each h.ids

  pub others_run : GoesThrough after.lengths after.stays
  others_run = subst (λ (l : List ℕ). GoesThrough l after.stays) (sym st.lengths)
      (L.part (track_lengths night.station) (stays_of night xs) after.stays (L.stays xs can_now) (L.tracks xs can_now) are
      (λ s i. subst (λ (l : List Block). In s (stays_of night l)) (set-get_or xs k d)
      ((stays_front night xs k b lt s).1 (rest (stay_of night b) (stays_of night (others_of xs k)) s ((st.stays s).1 i)))) h.through)

  -- the timelines once the block's stay has come again
  pub back : (held : Holding) → ((s : Stay) → In s held.stays ↔ In s (cons_option (stay_of night b) after.stays))
      → length held.stays ≡ length (cons_option (stay_of night b) after.stays) → held.lengths ≡ after.lengths → Stand night xs held
  back held came count lengths = subst (λ (l : List Block). Stand night l held) (set-get_or xs k d) (settled b.park (h.each k d lt).option held came count lengths)

-- what may be done with the block at a place
pub record Choices (night : Night) (xs : List Block) (k : ℕ) (after : Holding) (b : Block) : Type 0 where
  pub block : IsBlock night b
  pub feasible : (o : Option Park) → IsOption night (shape_of b) o → RunsWith night b o after → IsFeasible night (set xs k (with_park b o))
  pub settled : (o : Option Park) → IsOption night (shape_of b) o → (held : Holding) → ((s : Stay) → In s held.stays ↔ In s (cons_option (stay_with night b o) after.stays))
      → length held.stays ≡ length (cons_option (stay_with night b o) after.stays) → held.lengths ≡ after.lengths → Stand night (set xs k (with_park b o)) held
  pub back : (held : Holding) → ((s : Stay) → In s held.stays ↔ In s (cons_option (stay_of night b) after.stays))
      → length held.stays ≡ length (cons_option (stay_of night b) after.stays) → held.lengths ≡ after.lengths → Stand night xs held
  pub least : (o : Option Park) → IsOption night (shape_of b) o → ((p : Option Park) → IsOption night (shape_of b) p → NoLess night b after (cost_with night (shape_of b) o) p)
      → block_cost night b ≤ block_cost night (with_park b o) → IsLeast night xs b
  pub shapes : (o : Option Park) → map unparked (set xs k (with_park b o)) ≡ map unparked xs
  pub cost : (o : Option Park) → total_cost night (set xs k (with_park b o)) + block_cost night b ≡ total_cost night xs + block_cost night (with_park b o)

pub choices : (night : Night) (L : Laws night) (xs : List Block) (k : ℕ) (d : Block) (lt : k < length xs) (h : IsFeasible night xs) (after : Holding)
    → Stand night (others_of xs k) after → AreStays after.stays → (b : Block) → get_or xs k d ≡ b → Choices night xs k after b
choices night L xs k d lt h after st are b e = subst (Choices night xs k after) e (record {
  block = h.each k d lt;
  feasible = λ o is r. feasible night L xs k d lt h after st are o is r;
  settled = λ o is held came count lengths. settled night L xs k d lt h after st are o is held came count lengths;
  back = λ held came count lengths. back night L xs k d lt h after st are held came count lengths;
  least = λ o is least cost. is_least night L xs k d lt h after st are o is least cost;
  shapes = λ o. same_fields unparked xs k d o (λ c. refl);
  cost = λ o. cost_change night xs k d o lt;
})

-- the same of the block as it is parked then
module _ (night : Night) (xs : List Block) (k : ℕ) (after : Holding) (b : Block) (w : Choices night xs k after b) (o : Option Park) (p : Block) (e : with_park b o ≡ p) where
  pub settled_as : IsOption night (shape_of b) o → (held : Holding) → ((s : Stay) → In s held.stays ↔ In s (cons_option (stay_of night p) after.stays))
      → length held.stays ≡ length (cons_option (stay_of night p) after.stays) → held.lengths ≡ after.lengths → Stand night (set xs k p) held
  settled_as is held came count lengths =
      subst (λ (x : Block). ((s : Stay) → In s held.stays ↔ In s (cons_option (stay_of night x) after.stays))
      → length held.stays ≡ length (cons_option (stay_of night x) after.stays) → Stand night (set xs k x) held) e
      (λ m n. w.settled o is held m n lengths) came count

  pub cheaper_as : (m n : ℕ) → m ≡ block_cost night p → n ≡ block_cost night b → m < n → total_cost night (set xs k p) < total_cost night xs
  cheaper_as m n is_m is_n lt =
      let change : total_cost night (set xs k p) + block_cost night b ≡ total_cost night xs + block_cost night p = subst
      (λ (x : Block). total_cost night (set xs k x) + block_cost night b ≡ total_cost night xs + block_cost night x) e (w.cost o) in
      omega (arith, change, is_m, is_n, lt)

  pub no_cheaper : (m n : ℕ) → m ≡ block_cost night p → n ≡ block_cost night b → n ≤ m → block_cost night b ≤ block_cost night (with_park b o)
  no_cheaper m n is_m is_n le = subst (λ (x : Block). block_cost night b ≤ block_cost night x) (sym e) (omega (arith, is_m, is_n, le))

-- the timelines without the stay of the block at a place
module _ (night : Night) (xs : List Block) (k : ℕ) (d : Block) (lt : k < length xs) (ids : AreDistinct (map (λ c. c.id) xs)) (held after : Holding) (st : Stand night xs held)
    (gone : (s : Stay) → In s after.stays → s.id ≢ (get_or xs k d).id) (lengths : after.lengths ≡ held.lengths) where
  abbrev c : Block
  c = get_or xs k d

  all_now : (s : Stay) → In s (cons_option (stay_of night c) (stays_of night (others_of xs k))) ↔ In s held.stays
  all_now s = (
    λ i. (st.stays s).0 (subst (λ (l : List Block). In s (stays_of night l)) (set-get_or xs k d) ((stays_front night xs k c lt s).1 i)),
    λ i. (stays_front night xs k c lt s).0 (subst (λ (l : List Block). In s (stays_of night l)) (sym (set-get_or xs k d)) ((st.stays s).1 i)),
  )

  count_now : length held.stays ≡ length (cons_option (stay_of night c) (stays_of night (others_of xs k)))
  count_now = st.count ∙ ap (λ (l : List Block). length (stays_of night l)) (sym (set-get_or xs k d)) ∙ stays_long night xs k c lt

  apart : AllByRecursion (λ x. x.id ≢ c.id) (others_of xs k)
  apart = other_ids xs k d lt ids

  pub without : (u : Option Stay) → IfSome u (λ t. (t.id ≡ c.id) × IsPermutation (t ∷ after.stays) held.stays × (after.spare ≡ held.spare + 1))
      → OnSome u (length after.stays + 1 ≡ length held.stays) → IfNone u (after ≡ held) → Stand night (others_of xs k) after
  without (Some t) some fewer none = record {
    lengths = lengths ∙ st.lengths;
    stays = one_taken night c (others_of xs k) apart held.stays after.stays all_now gone t some.0 some.1;
    count = one_less night c (others_of xs k) apart held.stays after.stays all_now gone t some.0 some.1 fewer count_now;
  }
  without None some fewer none = record {
    lengths = lengths ∙ st.lengths;
    stays = none_taken night c (others_of xs k) apart held.stays after.stays all_now gone (ap (λ (g : Holding). g.stays) none);
    count = none_less night c (others_of xs k) apart held.stays after.stays all_now gone (ap (λ (g : Holding). g.stays) none) count_now;
  }

  pub room : (u : Option Stay) → IfSome u (λ t. (t.id ≡ c.id) × IsPermutation (t ∷ after.stays) held.stays × (after.spare ≡ held.spare + 1))
      → OnSome u (length after.stays + 1 ≡ length held.stays) → IfNone u (after ≡ held) → after.spare + length after.stays ≡ held.spare + length held.stays
  room (Some t) some fewer none = let spare = some.2 in omega (arith, spare, fewer)
  room None some fewer none = ap (λ (g : Holding). g.spare + length g.stays) none

-- there are fewer stays than blocks
pub few_others : (night : Night) (xs : List Block) (k : ℕ) (held : Holding) → k < length xs → Stand night (others_of xs k) held → length held.stays < length xs
few_others night xs k held lt st = let count = st.count in let few = few_some (stay_of night) (others_of xs k) in let fewer = length_others xs k lt in omega
    (arith, count, few, fewer)
