-- What each record keeps, all records keep.
use Rattle.std.proofs.Common.{if◌then◌else◌, ◌≡◌, ℕ, ◌+◌, Bool, true, false, List, [], ◌∷◌, refl, subst, Result, Ok, Err}
use Rattle.std.specs.Prelude.{IfOk}
use Rattle.shunt_rows.specs.declared.fault.ReadError.{ReadError}
use Rattle.shunt_rows.specs.defs.Given.{Gives}
use Rattle.shunt_rows.specs.declared.fault.RowFault.{RowFault}
use Rattle.shunt_rows.specs.declared.fault.RowKind.TheVariants as kinds
use Rattle.shunt_rows.specs.defs.Checks.{answer}
use Rattle.shunt_rows.specs.defs.Formats.{Format, in_state, ends, reading_from, reading}
use Rattle.shunt_rows.specs.defs.Formats as formats

-- a state that has what is said of it, in which no record is needed any more, and whose value this is
pub record Leaves {S V : Type 0} (f : Format S V) (P : S → Type 0) (v : V) : Type 0 where
  pub state : S
  pub has : P state
  pub whole : f.is_whole state ≡ true
  pub value : f.value state ≡ v

-- where reading goes on to a value
pub goes_on : {X Y : Type 0} (r : Result X RowFault) (g : X → Result Y RowFault) (z : Y) → formats.◌>>=◌ r g ≡ Ok z → (x : X) × (r ≡ Ok x) × (g x ≡ Ok z)
goes_on (Ok x) g z e = (x, refl, e)
goes_on (Err f) g z e = absurd cc

abbrev missing : {V : Type 0} → ℕ → Result V RowFault
missing n = Err (record { row = n; field = 0; kind = kinds.Missing })

whole_ends : {V : Type 0} (whole : Bool) (x v : V) (n : ℕ) → (if whole then Ok x else missing n) ≡ Ok v → (whole ≡ true) × (x ≡ v)
whole_ends true x v n e = (refl, cc)
whole_ends false x v n e = absurd cc

ended : {S V : Type 0} (f : Format S V) (P : S → Type 0) (s : S) (n : ℕ) (v : V) → P s → ends f s n ≡ Ok v → Leaves f P v
ended f P s n v has e = let w = whole_ends (f.is_whole s) (f.value s) v n e in record { state = s; has = has; whole = w.0; value = w.1 }

kept : {S V : Type 0} (f : Format S V) (P : S → Type 0) → ((n : ℕ) (s t : S) (row : List (List ℕ)) → P s → answer n (in_state f s row) ≡ Ok t → P t)
    → (s : S) (n : ℕ) (rows : List (List (List ℕ))) (v : V) → P s → reading_from f s n rows ≡ Ok v → Leaves f P v
kept f P step s n [] v has e = ended f P s n v has e
kept f P step s n (row ∷ rows) v has e =
    let one = goes_on (answer n (in_state f s row)) (λ t. reading_from f t (n + 1) rows) v e in
    kept f P step one.0 (n + 1) rows v (step n s one.0 row has one.1) one.2

pub all_kept : {S V : Type 0} (f : Format S V) (P : S → Type 0) → ((t : S) (row : List (List ℕ)) → answer 1 (f.first row) ≡ Ok t → P t)
    → ((n : ℕ) (s t : S) (row : List (List ℕ)) → P s → answer n (in_state f s row) ≡ Ok t → P t)
    → (rows : List (List (List ℕ))) (v : V) → reading f rows ≡ Ok v → Leaves f P v
all_kept f P start step [] v e = absurd cc
all_kept f P start step (head ∷ rows) v e =
    let one = goes_on (answer 1 (f.first head)) (λ t. reading_from f t 2 rows) v e in
    kept f P step one.0 2 rows v (start one.0 head one.1) one.2

-- where the first record leaves a state with this and each later record keeps it, so has the value that is read
pub formed : {S V : Type 0} (f : Format S V) (P : S → Type 0) (Q : V → Type 0) → ((t : S) (row : List (List ℕ)) → answer 1 (f.first row) ≡ Ok t → P t)
    → ((n : ℕ) (s t : S) (row : List (List ℕ)) → P s → answer n (in_state f s row) ≡ Ok t → P t)
    → ((s : S) → P s → Q (f.value s)) → (rows : List (List (List ℕ))) (v : V) → reading f rows ≡ Ok v → Q v
formed f P Q start step end rows v e = let l = all_kept f P start step rows v e in subst Q l.value (end l.state l.has)

-- and so has what a reader gives
pub given : {X V : Type 0} (view : X → V) (Q : V → Type 0) (stated : Result V RowFault) → ((v : V) → stated ≡ Ok v → Q v) → (r : Result X ReadError) → Gives view r stated
    → IfOk r (λ x. Q (view x))
given view Q stated h (Ok x) g = h (view x) g
given view Q stated h (Err e) g = tt
