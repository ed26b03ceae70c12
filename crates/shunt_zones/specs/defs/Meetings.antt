-- Moves that meet.
use Rattle.std.specs.Prelude.{◌≡◌, ◌≢◌, ◌⊎◌, ℕ, ◌≤◌, ◌==◌, Bool, not, ◌&&◌, List, [], ◌∷◌, ◌++◌, filter, Option, Some, None, if◌then◌else◌}
use Rattle.std.specs.List.{filter_map}
use Rattle.std.specs.Option.{option_map}
use Rattle.shunt_lists.specs.defs.Members.{In}
use Rattle.shunt_base.specs.declared.keys.EventKey.{EventKey}
use Rattle.shunt_instance.specs.defs.Instance.{Night}
use Rattle.shunt_blocks.specs.defs.Least.{lesser}
use Rattle.shunt_plan.specs.declared.records.Plan.{Plan}
use Rattle.shunt_tracks.specs.declared.run.Event.{Event}
use Rattle.shunt_zones.specs.declared.records.Zones.{Zones}
use Rattle.shunt_zones.specs.declared.records.Meet.{Meet}
use Rattle.shunt_zones.specs.declared.passages.Passing.{Passing}
use Rattle.shunt_zones.specs.defs.Passed.{zones_of, has_zone, passings_of}

-- whether both are entries of one arriving train, or both leaves of one departing train
abbrev pub is_one_train : EventKey → EventKey → Bool
is_one_train k l = (if k.enters then l.enters else not l.enters) && k.train == l.train

-- whether moves with these keys meet where they share a zone: they have one minute, and aren't of one train
abbrev pub may_meet : EventKey → EventKey → Bool
may_meet k l = k.minute == l.minute && not (is_one_train k l)

-- the least of these, where there is one
abbrev pub least_of : List ℕ → Option ℕ
least_of [] = None
least_of (x ∷ xs) = lesser (Some x) (least_of xs)

-- the least zone that is among both
abbrev pub shared_zone : List ℕ → List ℕ → Option ℕ
shared_zone own other = least_of (filter (has_zone other) own)

-- the meet of two moves, of which the first comes earlier
abbrev pub meet_of : Passing → Passing → Option Meet
meet_of a b = if may_meet a.event.key b.event.key then option_map (λ z. record { first = a.event; second = b.event; zone = z }) (shared_zone a.zones b.zones) else None

-- the meets of each of these moves with a later one, by the first move and then the second
abbrev pub meets_among : List Passing → List Meet
meets_among [] = []
meets_among (a ∷ later) = filter_map (meet_of a) later ++ meets_among later

-- the meets of a plan's moves
unfoldable pub meets_in : Night → Zones → Plan → List Meet
meets_in night zones plan = meets_among (passings_of night zones plan.blocks)

-- x stands in a list, and y stands behind it
abbrev pub Before : {X : Type 0} → X → X → List X → Type 0
Before x y [] = ⊥
Before x y (z ∷ zs) = ((x ≡ z) × In y zs) ⊎ Before x y zs

-- two moves have one minute, aren't both entries of one arriving train or both leaves of one departing train, and a zone is the least
-- that both pass
pub record MeetIn (night : Night) (zones : Zones) (e f : Event) (zone : ℕ) : Type 0 where
  pub minute : e.key.minute ≡ f.key.minute
  pub trains : e.key.enters ≡ f.key.enters → e.key.train ≢ f.key.train
  pub first : In zone (zones_of night zones e)
  pub second : In zone (zones_of night zones f)
  pub least : (other : ℕ) → In other (zones_of night zones e) → In other (zones_of night zones f) → zone ≤ other
