use Rattle.std.proofs.Common.{subst, sym, ℕ, ◌≤◌, ◌≡◌}
use Rattle.shunt_dual.specs.defs.Tables.{cost_at, top, total, IsPlace}
use Rattle.shunt_dual.proofs.LastRows.{all_placed, answered, no_less, unfilled}
use Rattle.shunt_dual.proofs.table.answer.Goals as goal

pub cost_of-total-requires-clause-place : goal.cost_of-total-requires-clause-place
cost_of-total-requires-clause-place c =
    subst (λ xs. IsPlace c.args.n xs) (sym c.deref.ensures.value) (all_placed c.requires.place_len c.requires.owner_len c.requires.free c.requires.paired)

pub returns-clause-duals : goal.returns-clause-duals
returns-clause-duals c =
    answered _ _ c.requires.alpha_len c.requires.debt_len (all_placed c.requires.place_len c.requires.owner_len c.requires.free c.requires.paired) c.requires.duals
    c.in_ok-alpha.ensures c.in_ok-beta.ensures

pub returns-clause-least : goal.returns-clause-least
returns-clause-least c other q =
    let k = no_less c.args.n top (cost_at c.args.table.now c.args.n) c.args.alpha.now c.args.debt.now c.args.place.items c.args.owner.now other
    (all_placed c.requires.place_len c.requires.owner_len c.requires.free c.requires.paired) c.requires.duals q in
    subst (λ (n : ℕ). n ≤ total (cost_at c.args.table.now c.args.n) other)
    (sym (subst (λ xs. c.cost_of-total.result ≡ total (cost_at c.args.table.now c.args.n) xs) c.deref.ensures.value c.cost_of-total.ensures.exact)) k

pub returns-clause-unfilled : goal.returns-clause-unfilled
returns-clause-unfilled c other q low r k =
    unfilled c.args.n (cost_at c.args.table.now c.args.n) c.args.alpha.now c.args.debt.now c.args.place.items c.args.owner.now other c.requires.table.few
    (all_placed c.requires.place_len c.requires.owner_len c.requires.free c.requires.paired) c.requires.duals q low r k
