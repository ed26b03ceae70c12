-- A format, and what a list of records states in it.
use Rattle.std.specs.Prelude.{◌≡◌, ℕ, ◌+◌, Bool, false, List, [], ◌∷◌, ◌++◌, length, Result, Ok, Err, if◌then◌else◌}
use Rattle.shunt_rows.specs.declared.fault.RowFault.{RowFault}
use Rattle.shunt_rows.specs.declared.fault.RowKind.TheVariants as kinds
use Rattle.shunt_rows.specs.defs.Checks.{Judged, answer}

-- A format, in states that say what the records so far leave.
pub record Format (S V : Type 0) : Type 0 where
  -- the first record: its checks, and the state after it
  pub first : List (List ℕ) → Judged S
  -- a later record in a state: its checks, and the state after it
  pub later : S → List (List ℕ) → Judged S
  -- the last record of the format was read
  pub has_ended : S → Bool
  -- no record is needed any more
  pub is_whole : S → Bool
  -- what all records state together
  pub value : S → V

-- a record after the last one of its format: its only fault is Tail
abbrev pub after_last : {S : Type 0} → S → Judged S
after_last s = record { checks = record { field = 1; kind = kinds.Tail; holds = false } ∷ []; value = s }

-- a later record in a state
abbrev pub in_state : {S V : Type 0} → Format S V → S → List (List ℕ) → Judged S
in_state f s row = if f.has_ended s then after_last s else f.later s row

-- the state that later records leave
abbrev pub state_after : {S V : Type 0} → Format S V → S → List (List (List ℕ)) → S
state_after f s [] = s
state_after f s (row ∷ rows) = state_after f (in_state f s row).value rows

-- a record, given the records before it
abbrev pub judged : {S V : Type 0} → Format S V → List (List (List ℕ)) → List (List ℕ) → Judged S
judged f [] row = f.first row
judged f (head ∷ before) row = in_state f (state_after f (f.first head).value before) row

-- reading goes on with what was read, unless there is a fault
infixl 10 ◌>>=◌
abbrev pub ◌>>=◌ : {A B : Type 0} → Result A RowFault → (A → Result B RowFault) → Result B RowFault
(Ok x) >>= f = f x
(Err e) >>= f = Err e

-- what the records state where none is needed any more, else Missing at the record after them, which has this number
abbrev pub ends : {S V : Type 0} → Format S V → S → ℕ → Result V RowFault
ends f s n = if f.is_whole s then Ok (f.value s) else Err (record { row = n; field = 0; kind = kinds.Missing })

-- what records state, or their first fault, from a state on and from the record with this number on
abbrev pub reading_from : {S V : Type 0} → Format S V → S → ℕ → List (List (List ℕ)) → Result V RowFault
reading_from f s n [] = ends f s n
reading_from f s n (row ∷ rows) = do
  t ← answer n (in_state f s row)
  reading_from f t (n + 1) rows

-- what records state, or their first fault, read one after the other
abbrev pub reading : {S V : Type 0} → Format S V → List (List (List ℕ)) → Result V RowFault
reading f [] = Err (record { row = 1; field = 0; kind = kinds.Missing })
reading f (head ∷ rows) = do
  s ← answer 1 (f.first head)
  reading_from f s 2 rows

-- the state that records leave, from a state and a number on, or their first fault
abbrev pub reads : {S V : Type 0} → Format S V → S → ℕ → List (List (List ℕ)) → Result S RowFault
reads f s n [] = Ok s
reads f s n (row ∷ rows) = do
  t ← answer n (in_state f s row)
  reads f t (n + 1) rows

-- reading the records of two lists, one after the other, goes on from the state that the first list leaves
abbrev pub GoesOn : {S V : Type 0} → Format S V → S → ℕ → List (List (List ℕ)) → List (List (List ℕ)) → Type 0
GoesOn f s n rows more = reading_from f s n (rows ++ more) ≡ (reads f s n rows >>= (λ t. reading_from f t (n + length rows) more))

-- each thing of a list is read from its own record, in the state that those before it leave
abbrev pub IsReadByEach : {X S V : Type 0} → Format S V → (X → List (List ℕ)) → (List X → S) → List X → Type 0
IsReadByEach {X = X} f row state all = (n : ℕ) (xs : List X) (y : X) (zs : List X) → all ≡ xs ++ y ∷ zs → answer n (in_state f (state xs) (row y)) ≡ Ok (state (xs ++ y ∷ []))
