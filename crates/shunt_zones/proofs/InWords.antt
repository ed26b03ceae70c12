-- Each two moves that meet, in words.
use Rattle.std.proofs.Common.{◌≡◌, ◌≢◌, ◌⊎◌, inl, inr, ⊎_elim, ◌↔◌, ℕ, ◌<◌, ◌≤◌, Bool, true, false, not, min, List, [], ◌∷◌, map, filter, refl, sym, subst, ap, ◌∙◌, arith}
use Rattle.std.specs.Prelude.{◌==◌, Option, Some, None, if◌then◌else◌}
use Rattle.std.specs.List.{filter_map}
use Rattle.std.specs.Option.{option_map}
use Rattle.std.proofs.lemmas.Bool.{cases_lt, eqb-true, eq-eqb, not-true, and_from}
use Rattle.std.proofs.lemmas.Option.{none-some}
use Rattle.shunt_lists.specs.defs.Members.{In}
use Rattle.shunt_lists.proofs.Members.{in_left, in_right, in_cases, in_map, of_map, filter_from, filter_to}
use Rattle.shunt_base.specs.declared.keys.EventKey.{EventKey}
use Rattle.shunt_instance.specs.defs.Instance.{Night}
use Rattle.shunt_blocks.specs.defs.Least.{lesser}
use Rattle.shunt_plan.specs.declared.records.Plan.{Plan}
use Rattle.shunt_tracks.specs.declared.run.Event.{Event}
use Rattle.shunt_zones.specs.declared.records.Zones.{Zones}
use Rattle.shunt_zones.specs.declared.records.Meet.{Meet}
use Rattle.shunt_zones.specs.defs.Moves.{moves_of}
use Rattle.shunt_zones.specs.defs.Passed.{zones_of, has_zone, passing_of, passings_of}
use Rattle.shunt_zones.specs.defs.Meetings.{is_one_train, may_meet, least_of, shared_zone, meet_of, meets_among, meets_in, Before, MeetIn}
use Rattle.shunt_lists.proofs.Options.{some_same, of_some, to_some}
use Rattle.shunt_lists.proofs.Tests.{alike_is, first_true, second_true, both_true, is_alike, or_cases as either_true}

-- ---- tests

not_from : (a : Bool) → (a ≡ true → ⊥) → not a ≡ true
not_from true no_way = absurd (no_way refl)
not_from false no_way = refl

-- ---- the least zone that two moves share

has_in : (own : List ℕ) (zone : ℕ) → has_zone own zone ≡ true → In zone own
has_in [] zone e = absurd cc
has_in (y ∷ own) zone e = ⊎_elim (λ same. inl (sym (eqb-true y zone same))) (λ later. inr (has_in own zone later)) (either_true (y == zone) (has_zone own zone) e)

in_has : (own : List ℕ) (zone : ℕ) → In zone own → has_zone own zone ≡ true
in_has [] zone i = absurd i
in_has (y ∷ own) zone (inl e) = first_true (y == zone) (has_zone own zone) (eq-eqb y zone (sym e))
in_has (y ∷ own) zone (inr i) = second_true (y == zone) (has_zone own zone) (in_has own zone i)

-- a list is empty, or one of it is the least
abbrev Least : List ℕ → ℕ → Type 0
Least zones z = (least_of zones ≡ Some z) × In z zones × ((y : ℕ) → In y zones → z ≤ y)

alone : (x : ℕ) (zones : List ℕ) → least_of zones ≡ None → zones ≡ [] → Least (x ∷ zones) x
alone x zones none empty = (ap (lesser (Some x)) none, inl refl, below)
  where
    below : (y : ℕ) → In y (x ∷ zones) → x ≤ y
    below y (inl e) = omega (arith, e)
    below y (inr i) = absurd (subst (In y) empty i)

with_one : (x w : ℕ) (zones : List ℕ) → Least zones w → Least (x ∷ zones) (min x w)
with_one x w zones least = (ap (lesser (Some x)) least.0, ⊎_elim here there (cases_lt x w), below)
  where
    here : x < w → In (min x w) (x ∷ zones)
    here lt = let e : min x w ≡ x = omega (arith, lt) in inl e

    there : w ≤ x → In (min x w) (x ∷ zones)
    there le = let e : w ≡ min x w = omega (arith, le) in inr (subst (λ v. In v zones) e least.1)

    below : (y : ℕ) → In y (x ∷ zones) → min x w ≤ y
    below y (inl e) = omega (arith, e)
    below y (inr i) = omega (arith, least.2 y i)

least_cases : (zones : List ℕ) → ((least_of zones ≡ None) × (zones ≡ [])) ⊎ ((z : ℕ) × Least zones z)
least_cases [] = inl (refl, refl)
least_cases (x ∷ zones) = ⊎_elim (λ none. inr (x, alone x zones none.0 none.1)) (λ some. inr (min x some.0, with_one x some.0 zones some.1)) (least_cases zones)

is_least : (zones : List ℕ) (z : ℕ) → least_of zones ≡ Some z → In z zones × ((y : ℕ) → In y zones → z ≤ y)
is_least zones z e =
    ⊎_elim (λ none. absurd (none-some z (sym none.0 ∙ e)))
    (λ some. subst (λ w. In w zones × ((y : ℕ) → In y zones → w ≤ y)) (some_same some.0 z (sym some.1.0 ∙ e)) (some.1.1, some.1.2))
    (least_cases zones)

least_is : (zones : List ℕ) (z : ℕ) → In z zones → ((y : ℕ) → In y zones → z ≤ y) → least_of zones ≡ Some z
least_is zones z i below =
    ⊎_elim (λ none. absurd (subst (In z) none.1 i))
    (λ some. let low = below some.0 some.1.1 in let high = some.1.2 z i in let same : some.0 ≡ z = omega (arith, low, high) in some.1.0 ∙ ap Some same)
    (least_cases zones)

abbrev Shares : List ℕ → List ℕ → ℕ → Type 0
Shares own other z = In z own × In z other × ((y : ℕ) → In y own → In y other → z ≤ y)

shared_is : (own other : List ℕ) (z : ℕ) → shared_zone own other ≡ Some z → Shares own other z
shared_is own other z e =
    let least = is_least (filter (has_zone other) own) z e in
    let both = filter_from (has_zone other) own z least.0 in
    (both.0, has_in other z both.1, λ y i j. least.1 y (filter_to (has_zone other) own y i (in_has other y j)))

is_shared : (own other : List ℕ) (z : ℕ) → Shares own other z → shared_zone own other ≡ Some z
is_shared own other z s =
    least_is (filter (has_zone other) own) z (filter_to (has_zone other) own z s.0 (in_has other z s.1))
    (λ y i. let both = filter_from (has_zone other) own y i in s.2 y both.0 (has_in other y both.1))

-- ---- which moves may meet

abbrev MayMeet : EventKey → EventKey → Type 0
MayMeet k l = (k.minute ≡ l.minute) × (k.enters ≡ l.enters → k.train ≢ l.train)

may_is : (k l : EventKey) → may_meet k l ≡ true → MayMeet k l
may_is k l e =
    let both = both_true (k.minute == l.minute) (not (is_one_train k l)) e in
    let one : is_one_train k l ≡ false = not-true (is_one_train k l) both.1 in
    (eqb-true k.minute l.minute both.0, λ alike same. absurd (let t = and_from _ _ (is_alike k.enters l.enters alike) (eq-eqb k.train l.train same) in differ _ t one))
  where
    differ : (b : Bool) → b ≡ true → b ≡ false → ⊥
    differ b t f = absurd cc

is_may : (k l : EventKey) → MayMeet k l → may_meet k l ≡ true
is_may k l may =
    and_from _ _ (eq-eqb k.minute l.minute may.0)
    (not_from (is_one_train k l) (λ one. let both = both_true (if k.enters then l.enters else not l.enters) (k.train == l.train) one in may.1 (alike_is k.enters l.enters both.0)
    (eqb-true k.train l.train both.1)))

-- ---- the meet of two moves

abbrev meet : Event → Event → ℕ → Meet
meet e f z = record { first = e; second = f; zone = z }

if_some : (b : Bool) (o : Option Meet) (m : Meet) → (if b then o else None) ≡ Some m → (b ≡ true) × (o ≡ Some m)
if_some true o m e = (refl, e)
if_some false o m e = absurd (none-some m e)

map_some : (e f : Event) (o : Option ℕ) (m : Meet) → option_map (meet e f) o ≡ Some m → (z : ℕ) × (o ≡ Some z) × (m ≡ meet e f z)
map_some e f None m is = absurd (none-some m is)
map_some e f (Some z) m is = (z, refl, sym (some_same (meet e f z) m is))

met_is : (night : Night) (zones : Zones) (e f : Event) (m : Meet) → meet_of (passing_of night zones e) (passing_of night zones f) ≡ Some m
    → (z : ℕ) × (m ≡ meet e f z) × MeetIn night zones e f z
met_is night zones e f m is =
    let both = if_some (may_meet e.key f.key) _ m is in
    let some = map_some e f (shared_zone (zones_of night zones e) (zones_of night zones f)) m both.1 in
    let may = may_is e.key f.key both.0 in
    let shares = shared_is (zones_of night zones e) (zones_of night zones f) some.0 some.1 in
    (some.0, some.2, record { minute = may.0; trains = may.1; first = shares.0; second = shares.1; least = shares.2 })

is_met : (night : Night) (zones : Zones) (e f : Event) (z : ℕ) → MeetIn night zones e f z → meet_of (passing_of night zones e) (passing_of night zones f) ≡ Some (meet e f z)
is_met night zones e f z in_z =
    ap (λ b. if b then option_map (meet e f) (shared_zone (zones_of night zones e) (zones_of night zones f)) else None) (is_may e.key f.key (in_z.minute, in_z.trains))
    ∙ ap (option_map (meet e f)) (is_shared (zones_of night zones e) (zones_of night zones f) z (in_z.first, in_z.second, in_z.least))

-- ---- the meets of a list of moves

abbrev Meets : Night → Zones → List Event → Meet → Type 0
Meets night zones moves m = Before m.first m.second moves × MeetIn night zones m.first m.second m.zone

among : (night : Night) (zones : Zones) (moves : List Event) (m : Meet) → In m (meets_among (map (passing_of night zones) moves)) → Meets night zones moves m
among night zones [] m i = absurd i
among night zones (e ∷ moves) m i =
    ⊎_elim first (λ j. let r = among night zones moves m j in (inr r.0, r.1))
    (in_cases (filter_map (meet_of (passing_of night zones e)) (map (passing_of night zones) moves)) (meets_among (map (passing_of night zones) moves)) m i)
  where
    first : In m (filter_map (meet_of (passing_of night zones e)) (map (passing_of night zones) moves)) → Meets night zones (e ∷ moves) m
    first j =
        let some = of_some (meet_of (passing_of night zones e)) (map (passing_of night zones) moves) m j in
        let of = of_map (passing_of night zones) moves some.0 some.1 in
        let met = met_is night zones e of.0 m (ap (meet_of (passing_of night zones e)) (sym of.2) ∙ some.2) in
        subst (Meets night zones (e ∷ moves)) (sym met.1) (inl (refl, of.1), met.2)

from : (night : Night) (zones : Zones) (moves : List Event) (e f : Event) (z : ℕ) → Before e f moves → MeetIn night zones e f z
    → In (meet e f z) (meets_among (map (passing_of night zones) moves))
from night zones [] e f z before is = absurd before
from night zones (g ∷ moves) e f z (inl here) is =
    in_left (filter_map (meet_of (passing_of night zones g)) (map (passing_of night zones) moves)) (meets_among (map (passing_of night zones) moves)) (meet e f z)
    (to_some (meet_of (passing_of night zones g)) (map (passing_of night zones) moves) (passing_of night zones f) (meet e f z) (in_map (passing_of night zones) moves f here.1)
    (ap (λ h. meet_of (passing_of night zones h) (passing_of night zones f)) (sym here.0) ∙ is_met night zones e f z is))
from night zones (g ∷ moves) e f z (inr later) is =
    in_right (filter_map (meet_of (passing_of night zones g)) (map (passing_of night zones) moves)) (meets_among (map (passing_of night zones) moves)) (meet e f z)
    (from night zones moves e f z later is)

pub all_meets : (night : Night) (zones : Zones) (plan : Plan) (m : Meet) → In m (meets_in night zones plan) ↔
    (Before m.first m.second (moves_of night plan.blocks) × MeetIn night zones m.first m.second m.zone)
unfolding meets_in passings_of
all_meets night zones plan m = (among night zones (moves_of night plan.blocks) m, λ h. from night zones (moves_of night plan.blocks) m.first m.second m.zone h.0 h.1)
