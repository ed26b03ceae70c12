-- The errors of a store as those of reading a file.
use Rattle.std.specs.Prelude.{◌≡◌}
use Rattle.shunt_store.specs.declared.errors.StoreError.{StoreError}
use Rattle.shunt_store.specs.declared.errors.StoreError.TheVariants as store
use Rattle.shunt_store.specs.declared.errors.ReadAllError.{ReadAllError}
use Rattle.shunt_store.specs.declared.errors.ReadAllError.TheVariants as all

-- the second has the name of the first
abbrev pub IsSameCause : StoreError → ReadAllError → Type 0
IsSameCause store.Fault e = e ≡ all.Fault
IsSameCause store.Memory e = e ≡ all.Memory
