-- What a record is checked for, what it says, and its first fault.
use Rattle.std.specs.Prelude.{◌≡◌, ℕ, Bool, true, List, [], ◌∷◌, ◌++◌, Option, Result, Ok, Err, if◌then◌else◌}
use Rattle.std.specs.Option.{is_some, unwrap_or}
use Rattle.shunt_rows.specs.declared.fault.RowFault.{RowFault}
use Rattle.shunt_rows.specs.declared.fault.RowKind.{RowKind}

-- A check of a record: the field that it looks at, the kind of fault where it fails, and whether it holds.
pub record Check : Type 0 where
  pub field : ℕ
  pub kind : RowKind
  pub holds : Bool

-- The checks of a record in their order, and what the record says where they all hold.
pub record Judged (A : Type 0) : Type 0 where
  pub checks : List Check
  pub value : A

-- this, with nothing to check
abbrev pub says : {A : Type 0} → A → Judged A
says x = record { checks = []; value = x }

-- one check
abbrev pub must : Bool → ℕ → RowKind → Judged (Unit {0})
must holds field k = record { checks = record { field = field; kind = k; holds = holds } ∷ []; value = tt }

-- the checks of the one, then those of what follows from its value
infixl 10 ◌>>=◌
abbrev pub ◌>>=◌ : {A B : Type 0} → Judged A → (A → Judged B) → Judged B
m >>= f = record { checks = m.checks ++ (f m.value).checks; value = (f m.value).value }

-- a value must be there; `nothing` only fills its place where there is none
abbrev pub found : {A : Type 0} → A → Option A → ℕ → RowKind → Judged A
found nothing value field k = do
  _ ← must (is_some value) field k
  says (unwrap_or value nothing)

-- this value where all of these checks hold, else the fault of the first that fails, in the record with this number
abbrev pub passes : {A : Type 0} → ℕ → List Check → A → Result A RowFault
passes n [] x = Ok x
passes n (c ∷ checks) x = if c.holds then passes n checks x else Err (record { row = n; field = c.field; kind = c.kind })

-- what the record with this number says, or its first fault
abbrev pub answer : {A : Type 0} → ℕ → Judged A → Result A RowFault
answer n judged = passes n judged.checks judged.value

-- all of these checks hold
abbrev pub AllHold : List Check → Type 0
AllHold [] = Unit {0}
AllHold (c ∷ checks) = (c.holds ≡ true) × AllHold checks

-- where the answer is a value, all checks hold, and it is the value that the record says
abbrev pub Says : {A : Type 0} → Judged A → A → Type 0
Says m x = AllHold m.checks × (m.value ≡ x)
