-- Which faults hold of records, and which is the first.
use Rattle.std.specs.Prelude.{◌≡◌, ◌⊎◌, ℕ, ◌+◌, ◌*◌, ◌<◌, Bool, true, false, not, ◌&&◌, nat_le, List, [], ◌∷◌, ◌++◌, length, Option, Some, None, Ok, Err, IsTrue, ◌↔◌}
use Rattle.shunt_rows.specs.declared.fault.RowFault.{RowFault}
use Rattle.shunt_rows.specs.declared.fault.RowKind.{RowKind}
use Rattle.shunt_rows.specs.declared.fault.RowKind.TheVariants as kinds
use Rattle.shunt_rows.specs.defs.Faults.{kind_number}
use Rattle.shunt_rows.specs.defs.Checks.{Check, Judged}
use Rattle.shunt_rows.specs.defs.Formats.{Format, judged, state_after, reading}

-- the order of faults: by record, then field, then kind
abbrev pub IsEarlierFault : RowFault → RowFault → Type 0
IsEarlierFault e f = (e.row < f.row) ⊎ ((e.row ≡ f.row) × ((e.field < f.field) ⊎ ((e.field ≡ f.field) × (kind_number e.kind < kind_number f.kind))))

-- a check of this field and kind fails
abbrev pub Finds : List Check → ℕ → RowKind → Type 0
Finds [] field k = ⊥
Finds (c ∷ checks) field k = (c ≡ record { field = field; kind = k; holds = false }) ⊎ Finds checks field k

-- the word of a record or its number of fields is at fault
abbrev pub IsShapeless : List Check → Type 0
IsShapeless checks = Finds checks 1 kinds.Kind ⊎ Finds checks 1 kinds.Fields

-- a fault holds of a record; where its word or its number of fields is at fault, its other fields are not judged
pub record IsFaulty (checks : List Check) (field : ℕ) (k : RowKind) : Type 0 where
  pub found : Finds checks field k
  pub judged : (field ≡ 1) ⊎ (IsShapeless checks → ⊥)

-- a fault holds of one of these records, given the records before it
pub record AtRecord {S V : Type 0} (f : Format S V) (rows : List (List (List ℕ))) (fault : RowFault) : Type 0 where
  pub before : List (List (List ℕ))
  pub row : List (List ℕ)
  pub after : List (List (List ℕ))
  pub place : rows ≡ before ++ row ∷ after
  pub number : fault.row ≡ length before + 1
  pub faulty : IsFaulty (judged f before row).checks fault.field fault.kind

-- a record is still needed after these ones
abbrev pub lacks : {S V : Type 0} → Format S V → List (List (List ℕ)) → Bool
lacks f [] = true
lacks f (head ∷ rows) = not (f.is_whole (state_after f (f.first head).value rows))

-- Missing, at field 0 of the record after the last one
abbrev pub AtEnd : {S V : Type 0} → Format S V → List (List (List ℕ)) → RowFault → Type 0
AtEnd f rows fault = (lacks f rows ≡ true) × (fault ≡ record { row = length rows + 1; field = 0; kind = kinds.Missing })

-- a fault holds of these records
abbrev pub Holds : {S V : Type 0} → Format S V → List (List (List ℕ)) → RowFault → Type 0
Holds f rows fault = AtRecord f rows fault ⊎ AtEnd f rows fault

-- the first fault is the least of all that hold
pub record IsFirst {S V : Type 0} (f : Format S V) (rows : List (List (List ℕ))) (fault : RowFault) : Type 0 where
  pub holds : Holds f rows fault
  pub least : (other : RowFault) → Holds f rows other → (other ≡ fault) ⊎ IsEarlierFault fault other

-- what records say together
abbrev pub said : {S V : Type 0} → Format S V → List (List (List ℕ)) → Option V
said f [] = None
said f (head ∷ rows) = Some (f.value (state_after f (f.first head).value rows))

-- records state a value where no fault holds of them
pub record States {S V : Type 0} (f : Format S V) (rows : List (List (List ℕ))) (v : V) : Type 0 where
  pub sound : (fault : RowFault) → Holds f rows fault → ⊥
  pub value : said f rows ≡ Some v

-- the place of a check in the order of fields and then kinds
abbrev pub rank : Check → ℕ
rank c = 12 * c.field + kind_number c.kind

-- the checks stand in order, from this place on
abbrev pub ascends_from : ℕ → List Check → Bool
ascends_from least [] = true
ascends_from least (c ∷ checks) = nat_le least (rank c) && ascends_from (rank c) checks

-- the checks of a record stand in the order of fields and then kinds, and look at no field 0
pub record HasChecksInOrder {A : Type 0} (m : Judged A) : Type 0 where
  pub up : IsTrue (ascends_from 13 m.checks)

-- each table of the format is in order
pub record IsInOrder {S V : Type 0} (f : Format S V) : Type 0 where
  pub first : (row : List (List ℕ)) → HasChecksInOrder (f.first row)
  pub later : (s : S) (row : List (List ℕ)) → HasChecksInOrder (f.later s row)

-- reading says what records state: a value or a first fault, and never both
pub record Tells {S V : Type 0} (f : Format S V) (rows : List (List (List ℕ))) : Type 0 where
  pub value : (v : V) → (reading f rows ≡ Ok v) ↔ States f rows v
  pub fault : (e : RowFault) → (reading f rows ≡ Err e) ↔ IsFirst f rows e
  pub either : ((v : V) × States f rows v) ⊎ ((e : RowFault) × IsFirst f rows e)
  pub never : (v : V) (e : RowFault) → States f rows v → IsFirst f rows e → ⊥
