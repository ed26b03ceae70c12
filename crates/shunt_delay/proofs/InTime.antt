-- How late a train may be so that none of its blocks is too soon.
use Rattle.std.specs.Prelude.{nat_le, not, min}
use Rattle.std.proofs.Common.{◌≡◌, ◌≢◌, ⊎_elim, ℕ, ◌+◌, ◌-◌, ◌<◌, ◌≤◌, Bool, false, List, length, take, get_or, sym, subst, ap, arith}
use Rattle.std.proofs.lemmas.Bool.{cases_lt, le-leb, leb-true, not-false}
use Rattle.shunt_lists.specs.defs.Members.{In}
use Rattle.shunt_lists.proofs.TestsBelow.{each_passes, all_pass}
use Rattle.shunt_instance.specs.defs.Instance.{Night, ready}
use Rattle.shunt_blocks.specs.declared.records.Shape.{Shape}
use Rattle.shunt_blocks.specs.declared.records.Block.{Block}
use Rattle.shunt_blocks.specs.defs.Shapes.{shape_of, unit_from, AreRunsWithin}
use Rattle.shunt_blocks.specs.defs.Stays.{leave_minute, is_too_soon}
use Rattle.shunt_delay.specs.defs.Late.{late}
use Rattle.shunt_delay.specs.defs.Kept.{is_too_soon_by}
use Rattle.shunt_delay.proofs.Lately.{Units, soon_own, soon_other}
use Rattle.shunt_delay.proofs.Moved.{all_next}

-- so late the first units are ready before the departing train leaves
abbrev pub AreReadyBelow : Night → Shape → ℕ → ℕ → Type 0
AreReadyBelow night s k m = (d j : ℕ) → d ≤ m → j < k → ready night (unit_from night s + j) + d ≤ leave_minute night s

pub one_ready : (night : Night) (s : Shape) (k m left after : ℕ) → is_too_soon night s ≡ false → k < s.n → AreReadyBelow night s k m
    → left ≡ leave_minute night s - ready night (unit_from night s + k) → after ≡ min m left → AreReadyBelow night s (k + 1) after
one_ready night s k m left after in_time lt below e f d j le less =
    let now : ready night (unit_from night s + k) ≤ leave_minute night s = leb-true _ _ (each_passes s.n _ (not-false _ in_time) k lt) in
    ⊎_elim
    (λ before. below d j (omega (arith, le, f)) before)
    (λ last. let same : k ≡ j = omega arith in subst (λ (i : ℕ). ready night (unit_from night s + i) + d ≤ leave_minute night s) same (omega (arith, le, e, f, now)))
    (cases_lt j k)

pub all_ready : (night : Night) (s : Shape) (k m : ℕ) → s.n ≤ k → AreReadyBelow night s k m → (d : ℕ) → d ≤ m → is_too_soon_by night d s ≡ false
all_ready night s k m all below d le = ap (λ (t : Bool). not t) (all_pass s.n (λ j. nat_le (ready night (unit_from night s + j) + d) (leave_minute night s))
    (λ j lt. le-leb (ready night (unit_from night s + j) + d) (leave_minute night s) (below d j le (omega arith))))

-- the late train's block, and one of another train
pub own_in_time : Units → (i m : ℕ) (night : Night) (b : Block) (k : ℕ) → AreRunsWithin night (shape_of b) → b.arr.0 ≡ i → b.n ≤ k → AreReadyBelow night (shape_of b) k m → (d : ℕ)
    → d ≤ m → is_too_soon (late i d night) (shape_of b) ≡ false
own_in_time units i m night b k r own all below d le = sym (soon_own units i d night b false r own (sym (all_ready night (shape_of b) k m all below d le)))

pub other_in_time : Units → (i m : ℕ) (night : Night) (b : Block) → AreRunsWithin night (shape_of b) → b.arr.0 ≢ i → is_too_soon night (shape_of b) ≡ false → (d : ℕ) → d ≤ m
    → is_too_soon (late i d night) (shape_of b) ≡ false
other_in_time units i m night b r other in_time d le = sym (soon_other units i d night b r other in_time)

-- one block more
pub next_in_time : (i : ℕ) (night : Night) (blocks : List Block) (k : ℕ) (e : Block) (m one after : ℕ) → k < length blocks
    → ((d : ℕ) → d ≤ m → (b : Block) → In b (take k blocks) → is_too_soon (late i d night) (shape_of b) ≡ false)
    → ((d : ℕ) → d ≤ one → is_too_soon (late i d night) (shape_of (get_or blocks k e)) ≡ false)
    → after ≡ min m one → (d : ℕ) → d ≤ after → (b : Block) → In b (take (k + 1) blocks) → is_too_soon (late i d night) (shape_of b) ≡ false
next_in_time i night blocks k e m one after lt before here least d le = all_next (λ (b : Block). is_too_soon (late i d night) (shape_of b) ≡ false) blocks k e lt
    (before d (omega (arith, le, least))) (here d (omega (arith, le, least)))
