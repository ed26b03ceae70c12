-- Tests of two stays by the numbers of their keys alone.
use Rattle.std.proofs.Common.{◌≡◌, ◌≢◌, ℕ, ◌+◌, ◌≤◌, ltb, leb, Bool, true, false, cond, not, ◌&&◌, ◌||◌, refl, arith}
use Rattle.std.proofs.lemmas.Bool.{ltb-true}
use Rattle.std.proofs.lemmas.Bool.Decides.{nat_tests}
use Rattle.shunt_timeline.proofs.Steps.{flag}

-- b crosses x: who leaves first has the other in its way
abbrev pub met : (be bl xe xl : ℕ) (out same : Bool) → Bool
met be bl xe xl out same = ltb be xe && (ltb xe bl && ((ltb xl bl && not out) || (ltb bl xl && same)))

-- b came before x and leaves while x stands
abbrev pub parts : (be bl xe xl : ℕ) → Bool
parts be bl xe xl = ltb be xe && (ltb xe bl && ltb bl xl)

-- b came before x and leaves after it
abbrev pub covers : (be bl xe xl : ℕ) → Bool
covers be bl xe xl = ltb be xe && (ltb xe bl && ltb xl bl)

ways : (a b c d o p : Bool) → (c ≡ true → d ≡ true → ⊥) → flag (a && (b && ((c && not o) || (d && p)))) ≡ flag ((a && (b && d)) && p) + cond o 0 (flag (a && (b && c)))
ways false b c d true p h = refl
ways false b c d false p h = refl
ways true false c d true p h = refl
ways true false c d false p h = refl
ways true true true true o p h = absurd (h refl refl)
ways true true true false true p h = refl
ways true true true false false p h = refl
ways true true false true true true h = refl
ways true true false true true false h = refl
ways true true false true false true h = refl
ways true true false true false false h = refl
ways true true false false true p h = refl
ways true true false false false p h = refl

pub own_ways : (be bl xe xl : ℕ) (out same : Bool) → flag (met be bl xe xl out same) ≡ flag (parts be bl xe xl && same) + cond out 0 (flag (covers be bl xe xl))
own_ways be bl xe xl out same = ways (ltb be xe) (ltb xe bl) (ltb xl bl) (ltb bl xl) out same (λ s t. let p = ltb-true xl bl s in let q = ltb-true bl xl t in omega arith)

pub standing_ways : (be bl xe xl : ℕ) → be ≢ xe → bl ≢ xl → flag (leb be xe && ltb xe bl) ≡ flag (covers be bl xe xl) + flag (parts be bl xe xl)
standing_ways be bl xe xl ne nl = grind (arith, nat_tests)

-- an entry that was over or gets over
pub over_ways : (room l m : ℕ) → l ≤ m → flag (ltb room m) ≡ flag (ltb room l) + flag (leb l room && ltb room m)
over_ways room l m le = grind (arith, nat_tests)

pub stays_over : (room l : ℕ) → (leb l room && ltb room l) ≡ false
stays_over room l = grind (arith, nat_tests)
