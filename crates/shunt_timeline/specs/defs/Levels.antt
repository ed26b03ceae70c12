-- One event, and what a stay changes at the events of its track.
use Rattle.std.specs.Prelude.{ℕ, ◌+◌, ◌-◌, ◌*◌, ◌^◌, ◌≤◌, ◌<◌, Bool, not, ◌&&◌, nat_le, nat_lt, length, take, drop, List, if◌then◌else◌}
use Rattle.shunt_base.specs.defs.Sides.{same_side}
use Rattle.shunt_lists.specs.defs.Members.{In}
use Rattle.shunt_base.specs.declared.keys.EventKey.{EventKey}
use Rattle.shunt_base.specs.declared.keys.Stay.{Stay}
use Rattle.shunt_base.specs.defs.Keys.{rank}
use Rattle.shunt_stays.specs.defs.Events.{key_before}
use Rattle.shunt_stays.specs.defs.Crossings.{crosses}
use Rattle.shunt_timeline.specs.declared.events.StayEvent.{StayEvent}

-- the key of an entry is its stay's first, that of a leave its second
abbrev pub key_of : StayEvent → EventKey
key_of e = if e.enters then e.stay.enter else e.stay.leave

-- the place of an event in time
abbrev pub at : StayEvent → ℕ
at e = rank (key_of e)

-- an entry that crosses x by coming after it
abbrev pub is_crossed : Stay → StayEvent → Bool
is_crossed x e = e.enters && crosses x e.stay

-- an entry that fits its track, but not with x
abbrev pub gets_over : Stay → ℕ → StayEvent → Bool
gets_over x room e = e.enters && (nat_le e.load room && nat_lt room (e.load + x.length))

-- a leave of a stay that came before x
abbrev pub has_left : Stay → StayEvent → Bool
has_left x e = not e.enters && key_before e.stay.enter x.enter

-- such a leave by the side where x came
abbrev pub has_blocked : Stay → StayEvent → Bool
has_blocked x e = has_left x e && same_side e.stay.side_out x.side_in

-- an event while x stands there too
abbrev pub raised : Stay → StayEvent → StayEvent
raised x e = record e { crossings = e.crossings + (if is_crossed x e then 1 else 0); standing = e.standing + 1; load = e.load + x.length }

-- an event once x stands there no more
abbrev pub lowered : Stay → StayEvent → StayEvent
lowered x e = record e { crossings = e.crossings - (if is_crossed x e then 1 else 0); standing = e.standing - 1; load = e.load - x.length }

-- the numbers of an event are far below the ends of their types
pub record IsSmall (e : StayEvent) : Type 0 where
  pub crossings : e.crossings ≤ 65536
  pub standing : e.standing ≤ 65536
  pub load : e.load ≤ 65536 * 2 ^ 32

-- that many events come before a key
pub record IsPlace (events : List StayEvent) (k : EventKey) (n : ℕ) : Type 0 where
  pub bound : n ≤ length events
  pub before : (e : StayEvent) → In e (take n events) → at e < rank k
  pub after : (e : StayEvent) → In e (drop n events) → rank k ≤ at e
