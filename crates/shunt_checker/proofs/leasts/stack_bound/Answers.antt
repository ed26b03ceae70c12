use mir.Syntax.{w64}
use Rattle.std.proofs.Common.{◌≡◌, ◌-◌, ⊎_elim, inl, inr, ℕ, ℤ, sym, subst, arith}
use Rattle.std.proofs.lemmas.Int.{ints, to_z-of_z}
use Rattle.shunt_prices.specs.defs.Bounds.{IsBoundOf}
use Rattle.shunt_stacks.specs.defs.Bounds.{IsStackSum, IsStackBound}
use Rattle.shunt_checker.proofs.Seen.{seen_sum}
use Rattle.shunt_checker.proofs.Twofold.{alone, both, opens_by, shut_by, as_stack_bound}
use Rattle.shunt_checker.proofs.leasts.stack_bound.Goals as goal

pub returns-then-not-has_open_first-clause-is : goal.returns-then-not-has_open_first-clause-is
returns-then-not-has_open_first-clause-is c =
    let night = c.args.instance.now in
    let path = c.args.path.now.blocks in
    let cases = c.args.cases.now in
    subst (IsStackBound night path cases) (sym (to_z-of_z w64 c.rounded_up-bound.result (record { sfits = c.rounded_up-bound.type_inv })))
    (as_stack_bound night path cases c.rounded_up-bound.result
    (alone cases path (IsStackSum night path cases) (c.len-last.result - 1) c.in_ok-late.late c.rounded_up-bound.result c.requires.cases.few
    (let value = c.len-last.ensures.value in let some = c.len-last.ensures.some in omega (arith, value, some))
    (shut_by cases path c.unparked_on.result c.has_open_first.result c.unparked_on.ensures.exact c.has_open_first.ensures c.if-not-has_open_first.true) c.in_ok-late.ensures.exact
    (subst (λ (z : ℤ). IsBoundOf z c.rounded_up-bound.result) (seen_sum c.in_ok-late.late c.in_ok-late.ensures.small) c.rounded_up-bound.ensures)))

pub returns-clause-is : goal.returns-clause-is
returns-clause-is c =
    let night = c.args.instance.now in
    let path = c.args.path.now.blocks in
    let cases = c.args.cases.now in
    let opens = opens_by cases path c.unparked_on.result c.has_open_first.result c.unparked_on.ensures.exact c.has_open_first.ensures c.if-not-has_open_first.false in
    let second : c.len-last.result - 1 ≡ 1 = (let value = c.len-last.ensures.value in let few = c.requires.cases.few in let many = opens.0 in omega (arith, value, few, many)) in
    let one = to_z-of_z w64 c.rounded_up.result (record { sfits = c.rounded_up.type_inv }) in
    let other = to_z-of_z w64 c.rounded_up-bound.result (record { sfits = c.rounded_up-bound.type_inv }) in
    let first = c.lesser.ensures.first in
    let last = c.lesser.ensures.second in
    subst (IsStackBound night path cases) (sym (to_z-of_z w64 c.lesser.result (record { sfits = c.lesser.type_inv })))
    (as_stack_bound night path cases c.lesser.result
    (both cases path (IsStackSum night path cases) c.in_ok-early.early c.in_ok-late.late c.rounded_up.result c.rounded_up-bound.result c.lesser.result c.requires.cases.few opens
    c.in_ok-early.ensures.exact
    (subst (λ (n : ℕ). IsStackSum night path cases n c.in_ok-late.late) second c.in_ok-late.ensures.exact)
    (subst (λ (z : ℤ). IsBoundOf z c.rounded_up.result) (seen_sum c.in_ok-early.early c.in_ok-early.ensures.small) c.rounded_up.ensures)
    (subst (λ (z : ℤ). IsBoundOf z c.rounded_up-bound.result) (seen_sum c.in_ok-late.late c.in_ok-late.ensures.small) c.rounded_up-bound.ensures)
    (omega (arith, ints, first, one)) (omega (arith, ints, last, other))
    (⊎_elim (λ e. inl (omega (arith, ints, e, one))) (λ e. inr (omega (arith, ints, e, other))) c.lesser.ensures.either)))

pub returns-clause-word : goal.returns-clause-word
returns-clause-word c =
    let fits = c.lesser.type_inv in
    record { low = omega (arith, ints, fits); high = omega (arith, ints, fits) }
