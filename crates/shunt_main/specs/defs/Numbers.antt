-- The numbers of the statuses.
use Rattle.std.specs.Prelude.{◌≡◌, ℕ}
use Rattle.shunt.specs.declared.status.Status.{Status}
use Rattle.shunt.specs.declared.status.Status.TheVariants as status
use Rattle.shunt.specs.defs.Calls.{Call}
use Rattle.shunt.specs.defs.Ends.{Seen, Ends}

abbrev pub number_of : Status → ℕ
number_of status.Done = 0
number_of status.Findings = 1
number_of status.Words = 2
number_of status.Input = 3
number_of status.Store = 4
number_of status.Memory = 5
number_of status.NoMatching = 6
number_of status.Unfinished = 7
number_of status.Sink = 8

-- a run of a command ended with the status of this number
abbrev pub EndsAs : Call → Seen → Seen → ℕ → Type 0
EndsAs c old new n = (s : Status) × (n ≡ number_of s) × Ends c old new s
