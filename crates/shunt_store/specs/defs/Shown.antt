-- A sink in memory, in which chosen calls fail.
use Rattle.std.specs.Prelude.{ℕ, List, Contains, refl}
use Rattle.std.specs.Coded.{Coded, code_by, coded×, coded_ℕ, coded_list}
use Rattle.shunt_store.specs.declared.errors.SinkError.{SinkError}
use Rattle.shunt_store.specs.declared.errors.SinkError.TheVariants as sink
use Rattle.shunt_store.specs.defs.Causes.{one_more}

-- the bytes written, the numbers of the calls that are to fail, how many calls and how many faults there were
pub record Shown : Type 0 where
  pub bytes : List ℕ
  pub failing : List ℕ
  pub calls : ℕ
  pub faults : ℕ

-- the next call's number is among those that are to fail
abbrev pub IsToFail : Shown → Type 0
IsToFail s = Contains s.failing (one_more s.calls)

-- after one more call
abbrev pub called : Shown → Shown
called s = record s { calls = one_more s.calls }

-- how many faults there are after this error
abbrev pub faults_after : SinkError → ℕ → ℕ
faults_after sink.Fault faults = one_more faults
faults_after sink.Memory faults = faults

-- after one more call, which was refused: but for the counts all is as it was
abbrev pub refused : SinkError → Shown → Shown
refused e s = record s { calls = one_more s.calls; faults = faults_after e s.faults }

-- how it is kept in a model
abbrev pub coded_shown : Coded Shown
coded_shown =
    code_by (List ℕ × (List ℕ × (ℕ × ℕ))) (coded× (coded_list coded_ℕ) (coded× (coded_list coded_ℕ) (coded× coded_ℕ coded_ℕ)))
    (λ s. (s.bytes, (s.failing, (s.calls, s.faults))))
    (λ p. record { bytes = p.0; failing = p.1.0; calls = p.1.1.0; faults = p.1.1.1 }) (λ _. refl)
