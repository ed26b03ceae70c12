-- The moves of blocks in key order, and that they are the night's.
use Rattle.std.proofs.Common.{◌≡◌, ℕ, ◌<◌, ◌≤◌, Bool, true, false, List, [], ◌∷◌, length, get_or, map, refl, sym, subst, ap, ◌∙◌, arith}
use Rattle.std.specs.Prelude.{All, Some, filter, not, cond}
use Rattle.std.proofs.lemmas.List.{length-map}
use Rattle.std.proofs.lemmas.List.Elements.{All-filter}
use Rattle.shunt_lists.proofs.Members.{in_place, of_map, each_one}
use Rattle.shunt_lists.specs.defs.Members.{In}
use Rattle.shunt_base.specs.declared.keys.Stay.{Stay}
use Rattle.shunt_base.specs.defs.Keys.{AreStays}
use Rattle.shunt_stays.specs.defs.Events.{Move, entry_of, leave_of, in_order}
use Rattle.shunt_stays.proofs.Halves.{Half, move_of as half_move, halves_of, of_stay, in_order_is}
use Rattle.shunt_stays.proofs.SortedEvents.{events_long}
use Rattle.shunt_instance.specs.declared.records.Train.{Train}
use Rattle.shunt_instance.specs.declared.records.Origin.TheVariants as origin
use Rattle.shunt_instance.specs.defs.Instance.{Night, IsInstance, IsOrderedNight}
use Rattle.shunt_instance.proofs.Orders.{opened}
use Rattle.shunt_blocks.specs.declared.records.Block.{Block}
use Rattle.shunt_blocks.specs.declared.records.Park.{Park}
use Rattle.shunt_blocks.specs.defs.Shapes.{IsWithinTrains, IsInRange}
use Rattle.shunt_blocks.specs.defs.Stays.{parked_stay, stay_of}
use Rattle.shunt_blocks.specs.defs.Lists.{AreInRange, stays_of}
use Rattle.shunt_tracks.specs.declared.run.Event.{Event}
use Rattle.shunt_tracks.specs.defs.Answer.{event_of}
use Rattle.shunt_tracks.specs.declared.dues.Due.{Due}
use Rattle.shunt_tracks.specs.defs.Dues.{move_of}
use Rattle.shunt_zones.specs.declared.records.Zones.{Zones}
use Rattle.shunt_zones.specs.declared.passages.Passing.{Passing}
use Rattle.shunt_zones.specs.defs.Moves.{events_of, has_been, IsMoveOf, moves_of as moves_in}
use Rattle.shunt_zones.specs.defs.Passed.{passing_of, passings_of}
use Rattle.shunt_lists.proofs.Options.{few_some}
use Rattle.shunt_blocks.proofs.StaysOf.{stay_is}

-- ---- its entry and leave are moves of the night

abbrev no_train : Train
no_train = record { name = []; minute = 0; origin = origin.Platform (record { 0 = 0 }); units = []; placed = [] }

entry_is : (night : Night) (b : Block) (k : Park) → IsOrderedNight night → IsWithinTrains night b → k.track.0 < length night.station.tracks
    → IsMoveOf night (event_of (entry_of (parked_stay night b k)))
entry_is night b k f w on = record { train = w.runs.arr; own = refl; minute = (f.timetable.arrive.each b.arr.0 no_train w.runs.arr).minute; track = on }

leave_is : (night : Night) (b : Block) (k : Park) → IsOrderedNight night → IsWithinTrains night b → k.track.0 < length night.station.tracks
    → IsMoveOf night (event_of (leave_of (parked_stay night b k)))
leave_is night b k f w on = record { train = w.runs.dep; own = refl; minute = (f.timetable.depart.each b.dep.0 no_train w.runs.dep).minute; track = on }

half_is : (night : Night) (b : Block) (h : Half) → IsOrderedNight night → IsWithinTrains night b → stay_of night b ≡ Some h.0 → IsMoveOf night (event_of (half_move h))
half_is night b (s, true) f w e = let p = stay_is night b b.park s w.track e in subst (λ (t : Stay). IsMoveOf night (event_of (entry_of t))) (sym p.2)
    (entry_is night b p.0 f w p.1)
half_is night b (s, false) f w e = let p = stay_is night b b.park s w.track e in subst (λ (t : Stay). IsMoveOf night (event_of (leave_of t))) (sym p.2)
    (leave_is night b p.0 f w p.1)

-- what the laws of blocks say of stays
pub record StayLaws : Type 0 where
  pub stays : (night : Night) (blocks : List Block) → IsInstance night → AreInRange night blocks → AreStays (stays_of night blocks)
  pub from : (night : Night) (blocks : List Block) (s : Stay) → In s (stays_of night blocks) → (b : Block) × In b blocks × (stay_of night b ≡ Some s)

event_is : (laws : StayLaws) (night : Night) (blocks : List Block) → IsInstance night → AreInRange night blocks → (m : Move) → In m (in_order (stays_of night blocks))
    → IsMoveOf night (event_of m)
event_is laws night blocks is range m there =
    let stays = stays_of night blocks in
    let h = of_map half_move (halves_of stays) m (subst (In m) (in_order_is stays (laws.stays night blocks is range)) there) in
    let b = laws.from night blocks h.0.0 (of_stay stays h.0 h.1) in
    subst (λ (n : Move). IsMoveOf night (event_of n)) (sym h.2) (half_is night b.0 h.0 (opened night is) (each_one (IsInRange night) blocks b.0 range.each b.1).within b.2)

pub events_of_night : (laws : StayLaws) (night : Night) (blocks : List Block) → IsInstance night → AreInRange night blocks → All (IsMoveOf night) (events_of night blocks)
unfolding events_of
events_of_night laws night blocks is range = λ k d lt.
    let moves = in_order (stays_of night blocks) in
    let r = of_map event_of moves (get_or (map event_of moves) k d) (in_place (map event_of moves) k d lt) in
    subst (IsMoveOf night) (sym r.2) (event_is laws night blocks is range r.0 r.1)

-- ---- how many there are

pub few_events : (night : Night) (blocks : List Block) → AreInRange night blocks → length (events_of night blocks) ≤ 800
unfolding events_of
few_events night blocks range =
    let few = range.few in
    omega (arith, few, few_some (stay_of night) blocks, events_long (stays_of night blocks), length-map (in_order (stays_of night blocks)) event_of)

-- ---- the moves among the events

pub events_are : (night : Night) (blocks : List Block) (dues seen : List Due) → seen ≡ dues → map move_of dues ≡ in_order (stays_of night blocks)
    → map event_of (map move_of seen) ≡ events_of night blocks
unfolding events_of
events_are night blocks dues seen same sorted = ap (λ l. map event_of (map move_of l)) same ∙ ap (map event_of) sorted

abbrev moves : Night → List Block → Event → Bool
moves night blocks e = not (has_been night blocks e.key)

pub moves_from : (night : Night) (blocks others : List Block) (events seen : List Event) → seen ≡ events → events ≡ events_of night others → others ≡ blocks
    → filter (moves night others) seen ≡ moves_in night blocks
unfolding moves_in
moves_from night blocks others events seen same are of =
    ap (λ (l : List Block). filter (moves night l) seen) of ∙ ap (filter (moves night blocks)) (same ∙ are ∙ ap (events_of night) of)

pub moves_of_night : (night : Night) (blocks : List Block) (events : List Event) → All (IsMoveOf night) events → All (IsMoveOf night) (filter (moves night blocks) events)
moves_of_night night blocks events all = All-filter (moves night blocks) (IsMoveOf night) events all

either_few : {X : Type 0} (b : Bool) (xs ys : List X) (n : ℕ) → length xs ≤ n → length ys ≤ n → length (cond b xs ys) ≤ n
either_few true xs ys n le more = le
either_few false xs ys n le more = more

pub filter_few : {X : Type 0} (p : X → Bool) (xs : List X) → length (filter p xs) ≤ length xs
filter_few p [] = omega arith
filter_few p (x ∷ xs) = let rest = filter_few p xs in either_few (p x) (x ∷ filter p xs) (filter p xs) (length (x ∷ xs)) (omega (arith, rest)) (omega (arith, rest))

-- ---- with their zones

pub passings_in_time : (night : Night) (zones : Zones) (all : List Event) → All (IsMoveOf night) all → All (λ p. p.event.key.minute < 2880) (map (passing_of night zones) all)
passings_in_time night zones all each = λ k d lt.
    let of = map (passing_of night zones) all in
    let r = of_map (passing_of night zones) all (get_or of k d) (in_place of k d lt) in
    subst (λ (p : Passing). p.event.key.minute < 2880) (sym r.2) (each_one (IsMoveOf night) all r.0 each r.1).minute

pub passings_are : (night : Night) (zones : Zones) (blocks : List Block) (all seen : List Event) → seen ≡ all → all ≡ moves_in night blocks
    → map (passing_of night zones) seen ≡ passings_of night zones blocks
unfolding passings_of
passings_are night zones blocks all seen same are = ap (map (passing_of night zones)) (same ∙ are)
