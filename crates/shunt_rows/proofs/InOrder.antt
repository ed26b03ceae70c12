-- Tables whose checks stand in order.
use Rattle.std.proofs.Common.{ℕ, ◌≤◌, Bool, true, false, List, [], ◌∷◌, refl, ap, ◌∙◌, arith, IsTrue, sym, subst, ◌++◌}
use Rattle.std.specs.Prelude.{if◌then◌else◌, nat_le, ◌&&◌}
use Rattle.std.proofs.lemmas.Bool.{le-leb, leb-true, and_parts}
use Rattle.shunt_rows.specs.defs.Checks.{Check, Judged}
use Rattle.shunt_rows.specs.defs.Fields.{no_word}
use Rattle.shunt_rows.specs.defs.FirstFault.{rank, ascends_from, HasChecksInOrder}
use Rattle.std.proofs.lemmas.List.{append-nil}

-- a choice of two tables
pub in_if : {A : Type 0} (b : Bool) {m n : Judged A} → HasChecksInOrder m → HasChecksInOrder n → HasChecksInOrder (if b then m else n)
in_if true p q = p
in_if false p q = q

-- a record of no known word
pub no_word_up : {S : Type 0} (s : S) → HasChecksInOrder (no_word s)
no_word_up s = record { up = refl }

-- checks that ascend from a place
pub record Ascends (least : ℕ) (checks : List Check) : Type 0 where
  pub up : IsTrue (ascends_from least checks)

pub none_left : {least : ℕ} → Ascends least []
none_left = record { up = refl }

-- one more check before checks that ascend from its place
pub one_before : {least : ℕ} {c : Check} {checks : List Check} → least ≤ rank c → Ascends (rank c) checks → Ascends least (c ∷ checks)
one_before {least} {c} {checks} le more = record { up = ap (λ b. b && ascends_from (rank c) checks) (le-leb least (rank c) le) ∙ more.up }

-- checks that ascend from a place ascend from one before it too
pub from_before : (least from : ℕ) (checks : List Check) → least ≤ from → Ascends from checks → Ascends least checks
from_before least from [] le a = none_left
from_before least from (c ∷ checks) le a =
    let p = and_parts (nat_le from (rank c)) (ascends_from (rank c) checks) a.up in
    one_before (let l = leb-true from (rank c) p.0 in omega (arith, l, le)) (record { up = p.1 })

-- behind a block's checks there are no more
pub whole_up : (least : ℕ) (checks : List Check) → Ascends least checks → Ascends least (checks ++ [])
whole_up least checks up = subst (Ascends least) (sym (append-nil checks)) up
