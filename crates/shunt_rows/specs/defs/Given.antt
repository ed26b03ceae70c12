-- What a reader returned.
use Rattle.std.specs.Prelude.{◌≡◌, Result, Ok, Err}
use Rattle.shunt_rows.specs.declared.fault.ReadError.{ReadError}
use Rattle.shunt_rows.specs.declared.fault.ReadError.TheVariants as errors
use Rattle.shunt_rows.specs.declared.fault.RowFault.{RowFault}

-- a fault is the one that is stated
abbrev pub Fails : {Y : Type 0} → ReadError → Result Y RowFault → Type 0
Fails errors.Memory stated = Unit {0}
Fails (errors.Fault f) stated = stated ≡ Err f

-- What a function returned, seen by a view, is what the records state, unless memory ran out.
abbrev pub Gives : {X Y : Type 0} → (X → Y) → Result X ReadError → Result Y RowFault → Type 0
Gives view (Ok x) stated = stated ≡ Ok (view x)
Gives view (Err e) stated = Fails e stated
