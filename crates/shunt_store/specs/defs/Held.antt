-- A store in memory, in which chosen calls fail.
use Rattle.std.specs.Prelude.{ℕ, List, Option, Contains, refl}
use Rattle.std.specs.Coded.{Coded, code_by, coded×, coded_ℕ, coded_list, coded_option}
use Rattle.shunt_store.specs.declared.errors.StoreError.{StoreError}
use Rattle.shunt_store.specs.declared.errors.StoreError.TheVariants as store
use Rattle.shunt_store.specs.defs.Causes.{one_more}
use Rattle.shunt_store.specs.defs.Files.{Files, Stage, coded_files, coded_stage}
use Rattle.shunt_store.specs.defs.Notes.{Entries, coded_entries}

-- its files, what was read of them, what they were made to hold,
-- the numbers of the calls that are to fail, how many calls and how many faults there were,
-- what it is doing, how many bytes were taken of the open file and in all, and how many a call moves at most
pub record Held : Type 0 where
  pub files : Files
  pub heard : Entries
  pub stored : Entries
  pub failing : List ℕ
  pub calls : ℕ
  pub faults : ℕ
  pub stage : Stage
  pub taken : ℕ
  pub handed : ℕ
  pub piece : Option ℕ

-- the next call's number is among those that are to fail
abbrev pub IsToFail : Held → Type 0
IsToFail s = Contains s.failing (one_more s.calls)

-- after one more call
abbrev pub called : Held → Held
called s = record s { calls = one_more s.calls }

-- how many faults there are after this error
abbrev pub faults_after : StoreError → ℕ → ℕ
faults_after store.Fault faults = one_more faults
faults_after store.Memory faults = faults

-- after one more call, which was refused: but for the counts all is as it was
abbrev pub refused : StoreError → Held → Held
refused e s = record s { calls = one_more s.calls; faults = faults_after e s.faults }

-- how it is kept in a model
abbrev pub coded_held : Coded Held
coded_held =
    code_by ((Files × (Entries × Entries)) × (List ℕ × (ℕ × (ℕ × (Stage × (ℕ × (ℕ × Option ℕ)))))))
    (coded× (coded× coded_files (coded× coded_entries coded_entries))
    (coded× (coded_list coded_ℕ) (coded× coded_ℕ (coded× coded_ℕ (coded× coded_stage (coded× coded_ℕ (coded× coded_ℕ (coded_option coded_ℕ))))))))
    (λ s. ((s.files, (s.heard, s.stored)), (s.failing, (s.calls, (s.faults, (s.stage, (s.taken, (s.handed, s.piece))))))))
    (λ p. record {
      files = p.0.0;
      heard = p.0.1.0;
      stored = p.0.1.1;
      failing = p.1.0;
      calls = p.1.1.0;
      faults = p.1.1.1.0;
      stage = p.1.1.1.1.0;
      taken = p.1.1.1.1.1.0;
      handed = p.1.1.1.1.1.1.0;
      piece = p.1.1.1.1.1.1.1;
    }) (λ _. refl)
