-- The states of the generator, and what draws give.
use Rattle.std.specs.Prelude.{ℕ, zero, suc, ◌+◌, ◌*◌, ◌/◌, ◌%◌, List, [], ◌∷◌}

-- the state that a draw leaves behind, modulo 2^31
unfoldable pub next : ℕ → ℕ
next x = (1103515245 * x + 12345) % 2147483648

-- the state that that many draws leave behind
abbrev pub after : ℕ → ℕ → ℕ
after x zero = x
after x (suc n) = next (after x n)

-- what a draw below n gives that leaves the state x behind
unfoldable pub drawn : ℕ → ℕ → ℕ
drawn x n = x / 65536 % n

-- from the state x on a draw for each of these in turn: what is made of each and of the state that its draw leaves behind
abbrev pub drawn_for : {A X : Type 0} → (A → ℕ → X) → ℕ → List A → List X
drawn_for make x [] = []
drawn_for make x (a ∷ rest) = make a (next x) ∷ drawn_for make (next x) rest
