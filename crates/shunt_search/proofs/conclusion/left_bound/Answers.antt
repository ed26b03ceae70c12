use Rattle.std.proofs.Common.{w64, to_z, of_z, ℤ, sym, subst, ◌∙◌}
use Rattle.std.proofs.lemmas.Int.{to_z-of_z}
use Rattle.shunt_search.specs.defs.Endings.{IsLeft}
use Rattle.shunt_search.proofs.Concluded.{left_of}
use Rattle.shunt_search.proofs.conclusion.left_bound.Goals as goal

pub returns : goal.returns
returns c =
    let search = c.args.search.now in
    let low = c.give_up.result in
    let least = to_z w64 (of_z w64 c.low_bound-least.result) in
    let is = to_z-of_z w64 c.low_bound-least.result (record { sfits = c.low_bound-least.type_inv }) ∙ c.low_bound-least.ensures in
    subst (λ (z : ℤ). IsLeft search.waiting.items search.low z) (sym (to_z-of_z w64 low (record { sfits = c.give_up.type_inv })))
    (subst (λ (z : ℤ). IsLeft search.waiting.items z low) is (left_of c.deref.result.now search.waiting.items least low c.deref.ensures.value c.give_up.ensures.within
    c.give_up.ensures.left c.give_up.ensures.least))
