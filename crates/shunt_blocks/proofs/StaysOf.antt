-- The stays of lists of blocks.
use Rattle.std.specs.Prelude.{◌↔◌, All, map, cond, if◌then◌else◌, Option, option_map, Some, None, IfSome}
use Rattle.std.specs.List.{AllByRecursion, cons_option, range_with_len}
use Rattle.std.proofs.Common.{inl, inr, ◌≡◌, ◌≢◌, ⊎_elim, ℕ, suc, ◌+◌, ◌-◌, ◌^◌, ◌<◌, ◌≤◌, Bool, true, false, List, [], ◌∷◌, length, get_or, refl, sym, ap, subst, ◌∙◌, arith}
use Rattle.std.proofs.lemmas.Option.{none-some}
use Rattle.std.proofs.lemmas.List.{length-map, get_or-map}
use Rattle.std.proofs.lemmas.List.Kept.{AllPairs-cons}
use Rattle.std.proofs.lemmas.List.Elements.{All-tail, All-cons, All-nil}
use Rattle.std.proofs.lemmas.List.Sums.{sum_by-cons}
use Rattle.std.proofs.lemmas.Bool.Decides.{nat_tests}
use Rattle.shunt_lists.proofs.Members.{in_place, all_from, in_map, of_map, each_one, place, range_distinct as rising}
use Rattle.shunt_lists.specs.defs.Members.{In, AreDistinct}
use Rattle.shunt_base.specs.declared.keys.Stay.{Stay}
use Rattle.shunt_base.specs.defs.Keys.{IsWellFormed, AreStays}
use Rattle.shunt_stays.specs.defs.Events.{renamed, SameButId, DifferBeforeId, AllDifferBeforeId}
use Rattle.shunt_stays.proofs.OtherIds.{finds_from, found_through}
use Rattle.shunt_stays.specs.defs.Run.{AreOnTracks}
use Rattle.shunt_instance.specs.defs.Instance.{Night, IsInstance, IsOrderedNight, first_unit, first_position}
use Rattle.shunt_instance.proofs.Orders.{opened}
use Rattle.shunt_instance.proofs.Looked.{units_few}
use Rattle.shunt_blocks.specs.declared.records.Block.{Block}
use Rattle.shunt_blocks.specs.declared.records.Park.{Park}
use Rattle.shunt_blocks.specs.defs.Shapes.{shape_of, position_from, IsOnTrack, IsWithinTrains, begins_at}
use Rattle.shunt_blocks.specs.defs.Stays.{is_too_soon, parked_stay, stay_with, stay_of}
use Rattle.shunt_blocks.specs.defs.Lists.{has_unit, has_position, times_unit, times_position, ShareNothing, track_lengths, stays_of, CanStand, AreInRange, RunsThrough, placed_from, placed}
use Rattle.shunt_blocks.specs.defs.Pins.{without_id}
use Rattle.shunt_blocks.proofs.Times.{stay_formed, departure}
use Rattle.shunt_blocks.proofs.Few.{one_more, few_blocks}
use Rattle.shunt_blocks.proofs.Shapes.{begins_itself}

-- ---- one stay

-- what is known where a block has a stay
pub record IsStayOf (night : Night) (b : Block) (s : Stay) : Type 0 where
  pub at : Park
  pub parked : b.park ≡ Some at
  pub in_time : is_too_soon night (shape_of b) ≡ false
  pub is : s ≡ parked_stay night b at

stands_when : (soon : Bool) (t s : Stay) → (if soon then None else Some t) ≡ Some s → (soon ≡ false) × (s ≡ t)
stands_when true t s e = absurd (none-some _ e)
stands_when false t s e = (refl, sym (some_same e))
  where
    some_same : Some t ≡ Some s → t ≡ s
    some_same h = cc

stay_with_is : (night : Night) (b : Block) (o : Option Park) (s : Stay) → stay_with night b o ≡ Some s
    → (k : Park) × (o ≡ Some k) × (is_too_soon night (shape_of b) ≡ false) × (s ≡ parked_stay night b k)
stay_with_is night b None s e = absurd (none-some _ e)
stay_with_is night b (Some k) s e = let parts = stands_when (is_too_soon night (shape_of b)) (parked_stay night b k) s e in (k, refl, parts.0, parts.1)

pub is_stay : (night : Night) (b : Block) (s : Stay) → stay_of night b ≡ Some s → IsStayOf night b s
is_stay night b s e = let h = stay_with_is night b b.park s e in record { at = h.0; parked = h.1; in_time = h.2; is = h.3 }

-- ---- lists of stays

-- a property of the list with the stay of one block more
pub cons_stay : (P : List Stay → Type 0) (o : Option Stay) (stays : List Stay) → (o ≡ None → P stays) → ((s : Stay) → o ≡ Some s → P (s ∷ stays)) → P (cons_option o stays)
cons_stay P None stays none some = none refl
cons_stay P (Some s) stays none some = some s refl

-- a stay of the list is that of one of the blocks
pub from_block : (night : Night) (blocks : List Block) (s : Stay) → In s (stays_of night blocks) → (b : Block) × In b blocks × (stay_of night b ≡ Some s)
from_block night [] s there = absurd there
from_block night (b ∷ blocks) s there = cons_stay (λ stays. In s stays → (c : Block) × In c (b ∷ blocks) × (stay_of night c ≡ Some s)) (stay_of night b) (stays_of night blocks)
    (λ e here. let more = from_block night blocks s here in (more.0, inr more.1, more.2))
    (λ t e here. ⊎_elim (λ same. (b, inl refl, e ∙ ap Some (sym same))) (λ later. let more = from_block night blocks s later in (more.0, inr more.1, more.2)) here)
    there

-- and the stay of each of the blocks is one of the list
pub to_stay : (night : Night) (blocks : List Block) (b : Block) (s : Stay) → In b blocks → stay_of night b ≡ Some s → In s (stays_of night blocks)
to_stay night [] b s there e = absurd there
to_stay night (c ∷ blocks) b s there e = cons_stay (λ stays. In s stays) (stay_of night c) (stays_of night blocks)
    (λ none. ⊎_elim (λ same. absurd (none-some s (sym none ∙ ap (stay_of night) (sym same) ∙ e))) (λ later. to_stay night blocks b s later e) there)
    (λ t some. ⊎_elim (λ same. inl (some_same (sym e ∙ ap (stay_of night) same ∙ some))) (λ later. inr (to_stay night blocks b s later e)) there)
  where
    some_same : {t : Stay} → Some s ≡ Some t → s ≡ t
    some_same h = cc

-- ---- they are stays on tracks

tail_stands : (night : Night) (b : Block) (blocks : List Block) → CanStand night (b ∷ blocks) → CanStand night blocks
tail_stands night b blocks h = record {
  within = All-tail (IsWithinTrains night) b blocks h.within;
  small = All-tail (λ c. c.id < 2 ^ 32) b blocks h.small;
  ids = λ i j d before lt. h.ids (suc i) (suc j) d (omega (arith, before)) (omega (arith, lt));
}

-- the first block's id isn't that of a later one
other_id : (night : Night) (b : Block) (blocks : List Block) → CanStand night (b ∷ blocks) → (c : Block) → In c blocks → b.id ≢ c.id
other_id night b blocks h c there same =
    let at = place blocks c there in
    h.ids 0 (suc at.0) 0 (omega arith) (omega (arith, at.1, length-map blocks (λ x. x.id))) (same ∙ sym (get_or-map (λ x. x.id) blocks at.0 c 0 at.1 ∙ ap (λ x. x.id) (at.2 c)))

stays_apart : (night : Night) (id : ℕ) (blocks : List Block) → ((c : Block) → In c blocks → id ≢ c.id) → AllByRecursion (λ t. id ≢ t.id) (stays_of night blocks)
stays_apart night id [] other = tt
stays_apart night id (b ∷ blocks) other = cons_stay (AllByRecursion (λ t. id ≢ t.id)) (stay_of night b) (stays_of night blocks)
    (λ e. stays_apart night id blocks (λ c there. other c (inr there)))
    (λ t e. ((λ same. other b (inl refl) (same ∙ ap (λ u. u.id) (is_stay night b t e).is)), stays_apart night id blocks (λ c there. other c (inr there))))

pub are_stays : (night : Night) (blocks : List Block) → IsInstance night → CanStand night blocks → AreStays (stays_of night blocks)
are_stays night [] is h = tt
are_stays night (b ∷ blocks) is h = cons_stay AreStays (stay_of night b) (stays_of night blocks)
    (λ e. are_stays night blocks is (tail_stands night b blocks h))
    (λ s e.
    let formed = subst (λ o. IfSome o IsWellFormed) e (stay_formed night b is (h.within 0 b (omega arith)) (h.small 0 b (omega arith))) in
    let id : s.id ≡ b.id = ap (λ t. t.id) (is_stay night b s e).is in
    (formed, stays_apart night s.id blocks (λ c there same. other_id night b blocks h c there (sym id ∙ same)), are_stays night blocks is (tail_stands night b blocks h)))

pub are_on_tracks : (night : Night) (blocks : List Block) → All (IsWithinTrains night) blocks → AreOnTracks (track_lengths night.station) (stays_of night blocks)
are_on_tracks night blocks h k d lt =
    let s = get_or (stays_of night blocks) k d in
    let from = from_block night blocks s (in_place (stays_of night blocks) k d lt) in
    let is = is_stay night from.0 s from.2 in
    let track : IsOnTrack night.station (Some is.at) = subst (IsOnTrack night.station) is.parked (each_one (IsWithinTrains night) blocks from.0 h from.1).track in
    omega (arith, track, ap (λ t. t.track.0) is.is, length-map night.station.tracks (λ t. t.length))

-- ---- their keys differ before the ids

pub one_position_more : (night : Night) (b : Block) (blocks : List Block) (v : ℕ)
    → times_position night (b ∷ blocks) v ≡ cond (has_position night (shape_of b) v) 1 0 + times_position night blocks v
one_position_more night b blocks v = sum_by-cons (λ c. cond (has_position night (shape_of c) v) 1 0) b blocks

pub has_place : (night : Night) (blocks : List Block) (b : Block) (u : ℕ) → In b blocks → has_unit night (shape_of b) u ≡ true → 1 ≤ times_unit night blocks u
has_place night [] b u there has = absurd there
has_place night (c ∷ blocks) b u there has = ⊎_elim
    (λ same. omega (arith, one_more night c blocks u, ap {B = ℕ} (λ x. cond (has_unit night (shape_of x) u) 1 0) same, ap {B = ℕ} (λ t. cond t 1 0) has))
    (λ later. omega (arith, one_more night c blocks u, has_place night blocks b u later has))
    there

pub has_stop : (night : Night) (blocks : List Block) (b : Block) (v : ℕ) → In b blocks → has_position night (shape_of b) v ≡ true → 1 ≤ times_position night blocks v
has_stop night [] b v there has = absurd there
has_stop night (c ∷ blocks) b v there has = ⊎_elim
    (λ same. omega (arith, one_position_more night c blocks v, ap {B = ℕ} (λ x. cond (has_position night (shape_of x) v) 1 0) same, ap {B = ℕ} (λ t. cond t 1 0) has))
    (λ later. omega (arith, one_position_more night c blocks v, has_stop night blocks b v later has))
    there

pub has_itself : (night : Night) (b : Block) → 1 ≤ b.n → has_position night (shape_of b) (position_from night (shape_of b)) ≡ true
has_itself night b some = grind (arith, nat_tests)

-- a later block doesn't begin with the same unit, nor with the same position
other_unit : (night : Night) (b c : Block) (blocks : List Block) → ShareNothing night (b ∷ blocks) → 1 ≤ b.n → 1 ≤ c.n → In c blocks → begins_at night b ≢ begins_at night c
other_unit night b c blocks apart b_some c_some there same =
    let u = begins_at night b in
    let has : has_unit night (shape_of c) u ≡ true = subst (λ v. has_unit night (shape_of c) v ≡ true) (sym same) (begins_itself night c c_some) in
    let one : cond (has_unit night (shape_of b) u) 1 0 ≡ 1 = ap {B = ℕ} (λ t. cond t 1 0) (begins_itself night b b_some) in
    omega (arith, apart.units u, one_more night b blocks u, one, has_place night blocks c u there has)

other_position : (night : Night) (b c : Block) (blocks : List Block) → ShareNothing night (b ∷ blocks) → 1 ≤ b.n → 1 ≤ c.n → In c blocks
    → position_from night (shape_of b) ≢ position_from night (shape_of c)
other_position night b c blocks apart b_some c_some there same =
    let v = position_from night (shape_of b) in
    let has : has_position night (shape_of c) v ≡ true = subst (λ w. has_position night (shape_of c) w ≡ true) (sym same) (has_itself night c c_some) in
    let one : cond (has_position night (shape_of b) v) 1 0 ≡ 1 = ap {B = ℕ} (λ t. cond t 1 0) (has_itself night b b_some) in
    omega (arith, apart.positions v, one_position_more night b blocks v, one, has_stop night blocks c v there has)

unit_same : (night : Night) (b c : Block) → b.arr.0 ≡ c.arr.0 → b.p ≡ c.p → begins_at night b ≡ begins_at night c
unit_same night b c arr p = ap (λ a. first_unit night a + (b.p - 1)) arr ∙ ap (λ q. first_unit night c.arr.0 + (q - 1)) p

position_same : (night : Night) (b c : Block) → b.dep.0 ≡ c.dep.0 → b.q ≡ c.q → position_from night (shape_of b) ≡ position_from night (shape_of c)
position_same night b c dep q = ap (λ a. first_position night a + (b.q - 1)) dep ∙ ap (λ k. first_position night c.dep.0 + (k - 1)) q

few_places : (night : Night) (b : Block) → IsOrderedNight night → IsWithinTrains night b → b.q ≤ 8
few_places night b h w = omega (arith, (departure night b.dep.0 h w.runs.dep).few, w.runs.positions, w.runs.n)

differ : (night : Night) (b c : Block) (blocks : List Block) (s t : Stay) → IsInstance night → ShareNothing night (b ∷ blocks) → IsWithinTrains night b → IsWithinTrains night c
    → In c blocks → stay_of night b ≡ Some s → stay_of night c ≡ Some t → DifferBeforeId s t
unfolding IsInstance
differ night b c blocks s t h apart b_in c_in there b_is c_is =
    let first = is_stay night b s b_is in
    let second = is_stay night c t c_is in
    record {
      enter = λ e. other_unit night b c blocks apart b_in.runs.n c_in.runs.n there (unit_same night b c
          (sym (ap (λ x. x.enter.train) first.is) ∙ ap (λ k. k.train) e ∙ ap (λ x. x.enter.train) second.is)
          (sym (ap (λ x. x.enter.place) first.is) ∙ ap (λ k. k.place) e ∙ ap (λ x. x.enter.place) second.is));
      leave = λ e. other_position night b c blocks apart b_in.runs.n c_in.runs.n there (position_same night b c
          (sym (ap (λ x. x.leave.train) first.is) ∙ ap (λ k. k.train) e ∙ ap (λ x. x.leave.train) second.is)
          (let places : 9 - b.q ≡ 9 - c.q = sym (ap (λ x. x.leave.place) first.is) ∙ ap (λ k. k.place) e ∙ ap (λ x. x.leave.place) second.is in
          omega (arith, places, few_places night b h b_in, few_places night c h c_in)));
    }

pub rest_apart : (night : Night) (b : Block) (blocks : List Block) → ShareNothing night (b ∷ blocks) → ShareNothing night blocks
rest_apart night b blocks apart = record {
  units = λ u. omega (arith, one_more night b blocks u, apart.units u);
  positions = λ v. omega (arith, one_position_more night b blocks v, apart.positions v);
}

-- the first units of blocks that share nothing differ
pub firsts_apart : (night : Night) (blocks : List Block) → All (IsWithinTrains night) blocks → ShareNothing night blocks → AreDistinct (map (begins_at night) blocks)
firsts_apart night [] within apart = λ i j d before lt. absurd (omega (arith, lt))
firsts_apart night (b ∷ blocks) within apart =
    AllPairs-cons (λ x y. x ≢ y) (begins_at night b) (map (begins_at night) blocks)
    (λ k d lt same.
    let below : k < length blocks = omega (arith, lt, length-map blocks (begins_at night)) in
    other_unit night b (get_or blocks k b) blocks apart (within 0 b (omega arith)).runs.n (All-tail (IsWithinTrains night) b blocks within k b below).runs.n
    (in_place blocks k b below) (same ∙ get_or-map (begins_at night) blocks k b d below))
    (firsts_apart night blocks (All-tail (IsWithinTrains night) b blocks within) (rest_apart night b blocks apart))

pub all_differ : (night : Night) (blocks : List Block) → IsInstance night → All (IsWithinTrains night) blocks → ShareNothing night blocks
    → AllDifferBeforeId (stays_of night blocks)
all_differ night [] h within apart = tt
all_differ night (b ∷ blocks) h within apart =
    let others = All-tail (IsWithinTrains night) b blocks within in
    let rest = all_differ night blocks h others (rest_apart night b blocks apart) in
    cons_stay AllDifferBeforeId (stay_of night b) (stays_of night blocks)
    (λ e. rest)
    (λ s e. (
      all_from (DifferBeforeId s) (stays_of night blocks) (λ t there.
          let from = from_block night blocks t there in
          differ night b from.0 blocks s t h apart (within 0 b (omega arith)) (each_one (IsWithinTrains night) blocks from.0 others from.1) from.1 e from.2),
      rest,
    ))

-- ---- the same blocks with other ids

renamed_if : (soon : Bool) (id : ℕ) (s : Stay) → (if soon then None else Some (renamed id s)) ≡ option_map (renamed id) (if soon then None else Some s)
renamed_if true id s = refl
renamed_if false id s = refl

renamed_stay : (night : Night) (b : Block) (id : ℕ) (o : Option Park) → stay_with night (record b { id = id }) o ≡ option_map (renamed id) (stay_with night b o)
renamed_stay night b id None = refl
renamed_stay night b id (Some k) = renamed_if (is_too_soon night (shape_of b)) id (parked_stay night b k)

with_other_id : (night : Night) (b c : Block) (s : Stay) → without_id b ≡ without_id c → stay_of night c ≡ Some s → (t : Stay) × (stay_of night b ≡ Some t) × SameButId s t
with_other_id night b c s same e =
    let is : b ≡ record c { id = b.id } = ap {A = Block} (λ x. record x { id = b.id }) same in
    (renamed b.id s, ap (stay_of night) is ∙ renamed_stay night c b.id c.park ∙ ap (option_map (renamed b.id)) e, refl)

pub without_ids : (night : Night) (blocks others : List Block) → IsInstance night → CanStand night blocks → CanStand night others → ShareNothing night others
    → ((c : Block) → In c others → (b : Block) × In b blocks × (without_id b ≡ without_id c))
    → RunsThrough night blocks → RunsThrough night others
without_ids night blocks others h stand others_stand apart each through =
    found_through (track_lengths night.station) (stays_of night blocks) (stays_of night others)
    (are_stays night blocks h stand) (are_on_tracks night blocks stand.within) (are_stays night others h others_stand) (are_on_tracks night others others_stand.within)
    (all_differ night others h others_stand.within apart)
    (finds_from (stays_of night others) (stays_of night blocks) found)
    through
  where
    found : (s : Stay) → In s (stays_of night others) → (t : Stay) × In t (stays_of night blocks) × SameButId s t
    found s there =
        let from = from_block night others s there in
        let of = each from.0 from.1 in
        let other = with_other_id night of.0 from.0 s of.2 from.2 in
        (other.0, to_stay night blocks of.0 other.0 of.1 other.1, other.2)

pub ranges_stand : (night : Night) (blocks : List Block) → AreInRange night blocks → CanStand night blocks
ranges_stand night blocks h = record {
  within = λ k d lt. (h.each k d lt).within;
  small = λ k d lt. omega (arith, (h.each k d lt).to);
  ids = h.ids;
}

-- ---- lists that are one but for the ids

-- the block at the same place
alike_in : (blocks others : List Block) → map without_id blocks ≡ map without_id others → (c : Block) → In c others → (b : Block) × In b blocks × (without_id b ≡ without_id c)
alike_in blocks others same c there =
    let of = of_map without_id blocks (without_id c) (subst (In (without_id c)) (sym same) (in_map without_id others c there)) in
    (of.0, of.1, sym of.2)

heads : {X : Type 0} (x y : X) (xs ys : List X) → (x ∷ xs) ≡ (y ∷ ys) → x ≡ y
heads x y xs ys e = cc

tails : {X : Type 0} (x y : X) (xs ys : List X) → (x ∷ xs) ≡ (y ∷ ys) → xs ≡ ys
tails x y xs ys e = cc

same_shape : (b c : Block) → without_id b ≡ without_id c → shape_of b ≡ shape_of c
same_shape b c e = ap shape_of e

pub times_alike : (night : Night) (blocks others : List Block) (u : ℕ) → map without_id blocks ≡ map without_id others → times_unit night blocks u ≡ times_unit night others u
times_alike night [] [] u e = refl
times_alike night [] (c ∷ others) u e = absurd (omega (arith, ap length e))
times_alike night (b ∷ blocks) [] u e = absurd (omega (arith, ap length e))
times_alike night (b ∷ blocks) (c ∷ others) u e = omega (
  arith,
  one_more night b blocks u,
  one_more night c others u,
  ap {B = ℕ} (λ s. cond (has_unit night s u) 1 0) (same_shape b c (heads _ _ _ _ e)),
  times_alike night blocks others u (tails _ _ _ _ e),
)

pub positions_alike : (night : Night) (blocks others : List Block) (v : ℕ) → map without_id blocks ≡ map without_id others
    → times_position night blocks v ≡ times_position night others v
positions_alike night [] [] v e = refl
positions_alike night [] (c ∷ others) v e = absurd (omega (arith, ap length e))
positions_alike night (b ∷ blocks) [] v e = absurd (omega (arith, ap length e))
positions_alike night (b ∷ blocks) (c ∷ others) v e = omega (
  arith,
  one_position_more night b blocks v,
  one_position_more night c others v,
  ap {B = ℕ} (λ s. cond (has_position night s v) 1 0) (same_shape b c (heads _ _ _ _ e)),
  positions_alike night blocks others v (tails _ _ _ _ e),
)

pub alike_apart : (night : Night) (blocks others : List Block) → map without_id blocks ≡ map without_id others → ShareNothing night blocks → ShareNothing night others
alike_apart night blocks others e apart = record {
  units = λ u. omega (arith, times_alike night blocks others u e, apart.units u);
  positions = λ v. omega (arith, positions_alike night blocks others v e, apart.positions v);
}

pub alike_runs : (night : Night) (blocks others : List Block) → IsInstance night → CanStand night blocks → CanStand night others → ShareNothing night blocks
    → map without_id blocks ≡ map without_id others → RunsThrough night blocks ↔ RunsThrough night others
alike_runs night blocks others h stand others_stand apart same = (
  without_ids night blocks others h stand others_stand (alike_apart night blocks others same apart) (alike_in blocks others same),
  without_ids night others blocks h others_stand stand apart (alike_in others blocks (sym same)),
)

-- ---- places as ids

pub placed_alike : (k : ℕ) (blocks : List Block) → map without_id blocks ≡ map without_id (placed_from k blocks)
placed_alike k [] = refl
placed_alike k (b ∷ blocks) = ap (λ bs. without_id b ∷ bs) (placed_alike (k + 1) blocks)

pub placed_within : (night : Night) (k : ℕ) (blocks : List Block) → All (IsWithinTrains night) blocks → All (IsWithinTrains night) (placed_from k blocks)
placed_within night k [] h = All-nil (IsWithinTrains night)
placed_within night k (b ∷ blocks) h = let w = h 0 b (omega arith) in All-cons (IsWithinTrains night) (record b { id = k }) (placed_from (k + 1) blocks)
    (record { runs = w.runs; track = w.track }) (placed_within night (k + 1) blocks (All-tail (IsWithinTrains night) b blocks h))

pub placed_ids : (k : ℕ) (blocks : List Block) → map (λ b. b.id) (placed_from k blocks) ≡ range_with_len k (length blocks)
placed_ids k [] = refl
placed_ids k (b ∷ blocks) = ap (λ ids. k ∷ ids) (placed_ids (k + 1) blocks)

placed_small : (k : ℕ) (blocks : List Block) → k + length blocks ≤ 401 → All (λ b. b.id < 2 ^ 32) (placed_from k blocks)
placed_small k [] le = All-nil (λ b. b.id < 2 ^ 32)
placed_small k (b ∷ blocks) le = All-cons (λ b. b.id < 2 ^ 32) (record b { id = k }) (placed_from (k + 1) blocks) (omega (arith, le))
    (placed_small (k + 1) blocks (omega (arith, le)))

pub placed_stand : (night : Night) (blocks : List Block) → AreInRange night blocks → CanStand night (placed blocks)
placed_stand night blocks h = record {
  within = placed_within night 1 blocks (ranges_stand night blocks h).within;
  small = placed_small 1 blocks (omega (arith, h.few));
  ids = subst AreDistinct (sym (placed_ids 1 blocks)) (rising 1 (length blocks));
}

pub placed_runs : (night : Night) (blocks : List Block) → IsInstance night → AreInRange night blocks → ShareNothing night blocks
    → RunsThrough night blocks ↔ RunsThrough night (placed blocks)
placed_runs night blocks is h apart = alike_runs night blocks (placed blocks) is (ranges_stand night blocks h) (placed_stand night blocks h) apart (placed_alike 1 blocks)

-- blocks that share nothing can stand with their places as ids, whatever their own ids
pub apart_stand : (night : Night) (blocks : List Block) → IsInstance night → All (IsWithinTrains night) blocks → ShareNothing night blocks → CanStand night (placed blocks)
apart_stand night blocks is each apart = record {
  within = placed_within night 1 blocks each;
  small = placed_small 1 blocks (omega (arith, few_blocks night blocks each apart, units_few night (opened night is)));
  ids = subst AreDistinct (sym (placed_ids 1 blocks)) (rising 1 (length blocks));
}

pub in_placed : (k : ℕ) (blocks : List Block) (b : Block) → In b blocks → (c : Block) × In c (placed_from k blocks) × (without_id c ≡ without_id b)
in_placed k [] b there = absurd there
in_placed k (x ∷ blocks) b there = ⊎_elim
    (λ same. (record x { id = k }, inl refl, ap without_id (sym same)))
    (λ later. let more = in_placed (k + 1) blocks b later in (more.0, inr more.1, more.2))
    there

of_placed : (k : ℕ) (blocks : List Block) (c : Block) → In c (placed_from k blocks) → (b : Block) × In b blocks × (without_id b ≡ without_id c)
of_placed k [] c there = absurd there
of_placed k (x ∷ blocks) c there = ⊎_elim
    (λ same. (x, inl refl, ap without_id (sym same)))
    (λ later. let more = of_placed (k + 1) blocks c later in (more.0, inr more.1, more.2))
    there

-- with places as ids, a part of blocks that share nothing runs through where all do
pub placed_part : (night : Night) (blocks others : List Block) → IsInstance night → All (IsWithinTrains night) blocks → ShareNothing night blocks
    → All (IsWithinTrains night) others → ShareNothing night others
    → ((c : Block) → In c others → (b : Block) × In b blocks × (without_id b ≡ without_id c))
    → RunsThrough night (placed blocks) → RunsThrough night (placed others)
placed_part night blocks others is each apart each_other other_apart part through =
    without_ids night (placed blocks) (placed others) is (apart_stand night blocks is each apart) (apart_stand night others is each_other other_apart)
    (alike_apart night others (placed others) (placed_alike 1 others) other_apart) found through
  where
    found : (c : Block) → In c (placed others) → (b : Block) × In b (placed blocks) × (without_id b ≡ without_id c)
    found c there =
        let own = of_placed 1 others c there in
        let of = part own.0 own.1 in
        let there = in_placed 1 blocks of.0 of.1 in
        (there.0, there.1, there.2 ∙ of.2 ∙ own.2)

pub alone_apart : (night : Night) (b : Block) → ShareNothing night (b ∷ [])
alone_apart night b = record {
  units = λ u. few (has_unit night (shape_of b) u) _ (one_more night b [] u);
  positions = λ v. few (has_position night (shape_of b) v) _ (one_position_more night b [] v);
}
  where
    few : (has : Bool) (times : ℕ) → times ≡ cond has 1 0 + 0 → times ≤ 1
    few true times e = omega (arith, e)
    few false times e = omega (arith, e)

pub id_where : (soon : Bool) (t s : Stay) → (if soon then None else Some t) ≡ Some s → s.id ≡ t.id
id_where true t s e = absurd (none-some _ e)
id_where false t s e = let same : t ≡ s = cc in sym (ap (λ (u : Stay). u.id) same)

pub stay_when : (soon : Bool) (t s : Stay) → (if soon then None else Some t) ≡ Some s → s ≡ t
stay_when true t s e = absurd (none-some _ e)
stay_when false t s e = cc

pub id_with : (night : Night) (b : Block) (o : Option Park) (s : Stay) → stay_with night b o ≡ Some s → s.id ≡ b.id
id_with night b None s e = absurd (none-some _ e)
id_with night b (Some k) s e = id_where (is_too_soon night (shape_of b)) (parked_stay night b k) s e

pub stay_id : (night : Night) (b : Block) (s : Stay) → stay_of night b ≡ Some s → s.id ≡ b.id
stay_id night b s e = id_with night b b.park s e

pub stay_is : (night : Night) (b : Block) (o : Option Park) (s : Stay) → IsOnTrack night.station o → stay_with night b o ≡ Some s
    → (k : Park) × (k.track.0 < length night.station.tracks) × (s ≡ parked_stay night b k)
stay_is night b None s on e = absurd (none-some _ e)
stay_is night b (Some k) s on e = (k, on, stay_when (is_too_soon night (shape_of b)) (parked_stay night b k) s e)
