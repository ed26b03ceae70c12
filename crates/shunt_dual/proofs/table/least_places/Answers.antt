use Rattle.std.proofs.Common.{ℕ, ◌∙◌, arith}
use Rattle.std.proofs.lemmas.List.{length-set}
use Rattle.shunt_dual.proofs.LastRows.{kept_whole, same_paired, same_duals}
use Rattle.shunt_dual.proofs.table.least_places.Goals as goal

pub answer-requires-clause-paired : goal.answer-requires-clause-paired
answer-requires-clause-paired c = same_paired _ _ c.insert_all.ensures.paired
    (kept_whole _ _ _ (omega arith) (omega arith))
    (c.deref.ensures.value ∙ kept_whole _ _ _ (omega (arith, length-set {A = ℕ})) (omega (arith, length-set {A = ℕ})))

pub answer-requires-clause-duals : goal.answer-requires-clause-duals
answer-requires-clause-duals c = same_duals _ _ _ _ c.insert_all.ensures.duals
    (c.deref-2.ensures.value ∙ kept_whole _ _ _ (omega arith) (omega arith))
    (c.deref-3.ensures.value ∙ kept_whole _ _ _ (omega arith) (omega arith))
    (kept_whole _ _ _ (omega arith) (omega arith))
    (c.deref.ensures.value ∙ kept_whole _ _ _ (omega (arith, length-set {A = ℕ})) (omega (arith, length-set {A = ℕ})))
