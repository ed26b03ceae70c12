-- A store in memory that never faults.
use Rattle.std.specs.Prelude.{ℕ, refl}
use Rattle.std.specs.Coded.{Coded, code_by, coded×, coded_ℕ}
use Rattle.shunt_store.specs.defs.Files.{Files, Stage, coded_files, coded_stage}
use Rattle.shunt_store.specs.defs.Notes.{Entries, coded_entries}

-- its files, what was read of them, what they were made to hold, what it is doing,
-- and how many bytes were taken of the open file and in all
pub record Sure : Type 0 where
  pub files : Files
  pub heard : Entries
  pub stored : Entries
  pub stage : Stage
  pub taken : ℕ
  pub handed : ℕ

-- how it is kept in a model
abbrev pub coded_sure : Coded Sure
coded_sure =
    code_by (Files × (Entries × (Entries × (Stage × (ℕ × ℕ))))) (coded× coded_files (coded× coded_entries (coded× coded_entries (coded× coded_stage (coded× coded_ℕ coded_ℕ)))))
    (λ s. (s.files, (s.heard, (s.stored, (s.stage, (s.taken, s.handed))))))
    (λ p. record { files = p.0; heard = p.1.0; stored = p.1.1.0; stage = p.1.1.1.0; taken = p.1.1.1.1.0; handed = p.1.1.1.1.1 }) (λ _. refl)
