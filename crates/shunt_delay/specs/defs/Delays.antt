-- How late each train can be, and what stops it from being later.
use Rattle.std.specs.Prelude.{◌≡◌, ℕ, ◌+◌, ◌≤◌, ◌==◌, Bool, false, not, ◌||◌, List, [], ◌∷◌, map, filter, length, All, Option, Some, None, if◌then◌else◌}
use Rattle.std.specs.List.{range_with_len}
use Rattle.shunt_lists.specs.defs.Members.{In}
use Rattle.shunt_instance.specs.defs.Words.{train_at, has_come}
use Rattle.shunt_instance.specs.defs.Instance.{Night}
use Rattle.shunt_blocks.specs.declared.records.Block.{Block}
use Rattle.shunt_blocks.specs.defs.Shapes.{shape_of}
use Rattle.shunt_blocks.specs.defs.Stays.{is_too_soon}
use Rattle.shunt_blocks.specs.defs.Lists.{RunsThrough}
use Rattle.shunt_audit.specs.declared.types.Finding.{Finding}
use Rattle.shunt_audit.specs.declared.types.Finding.TheVariants as finding
use Rattle.shunt_audit.specs.defs.Findings.{kind_of}
use Rattle.shunt_audit.specs.defs.Listed.{findings_in}
use Rattle.shunt_delay.specs.declared.records.Delay.{Delay}
use Rattle.shunt_delay.specs.declared.records.Stop.{Stop}
use Rattle.shunt_delay.specs.declared.records.Stop.TheVariants.{Limit, TooSoon, Crossing, TooLong}
use Rattle.shunt_delay.specs.defs.Late.{late}

-- no block is too soon, and the run of the stays goes through
pub record StaysFeasible (night : Night) (blocks : List Block) : Type 0 where
  pub in_time : (b : Block) → In b blocks → is_too_soon night (shape_of b) ≡ false
  pub through : RunsThrough night blocks

-- where train i is late by any number of minutes from 0 to d, which is 120 at most, the blocks stay feasible
pub record Bears (night : Night) (blocks : List Block) (i d : ℕ) : Type 0 where
  pub most : d ≤ 120
  pub each : (e : ℕ) → e ≤ d → StaysFeasible (late i e night) blocks

-- whether a finding is TooSoon, Crossing or TooLong
abbrev pub is_of_delay : Finding → Bool
is_of_delay f = kind_of f == 6 || kind_of f == 9 || kind_of f == 10

-- the findings of these three kinds, in their order
abbrev pub delay_findings : Night → List Block → List Finding
delay_findings night blocks = filter is_of_delay (findings_in night blocks)

-- the first finding, where there is one
abbrev pub first : List Finding → Option Finding
first [] = None
first (f ∷ findings) = Some f

-- the finding that a stop tells
abbrev pub told : Stop → Option Finding
told Limit = None
told (TooSoon id) = Some (finding.TooSoon id)
told (Crossing b c) = Some (finding.Crossing b c)
told (TooLong id load) = Some (finding.TooLong id load)

-- it is the greatest that its train bears; nothing stops it at 120 minutes, and else the first finding does that one minute more would bring
pub record IsDelay (night : Night) (blocks : List Block) (delay : Delay) : Type 0 where
  pub bears : Bears night blocks delay.train.0 delay.minutes
  pub greatest : (d : ℕ) → Bears night blocks delay.train.0 d → d ≤ delay.minutes
  pub stop : told delay.stop ≡ (if delay.minutes == 120 then None else first (delay_findings (late delay.train.0 (delay.minutes + 1) night) blocks))

-- the numbers of the arriving trains of which nothing has come yet
abbrev pub comers : Night → List ℕ
comers night = filter (λ i. not (has_come (train_at night.arrive i))) (range_with_len 0 (length night.arrive))

-- in order, one delay for each of these trains
pub record AreDelays (night : Night) (blocks : List Block) (delays : List Delay) : Type 0 where
  pub trains : map (λ d. d.train.0) delays ≡ comers night
  pub each : All (IsDelay night blocks) delays
