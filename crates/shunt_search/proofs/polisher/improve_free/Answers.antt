use Rattle.std.proofs.Common.{inl, inr, ⊎_elim, sym, subst, ◌∙◌}
use Rattle.std.proofs.lemmas.Bool.{false≢true}
use Rattle.shunt_blocks.specs.declared.records.Block.{Block}
use Rattle.shunt_blocks.specs.defs.Pins.{IsKept}
use Rattle.shunt_search.proofs.Swept.{still_kept}
use Rattle.shunt_search.proofs.polisher.improve_free.Goals as goal

pub returns-clause-keeps : goal.returns-clause-keeps
returns-clause-keeps c =
    let b = c.block_at-block.result in
    let free : IsKept c.args.pins.now b → ⊥ = λ k. false≢true (sym c.if-is_pin.false ∙ c.is_pin.ensures.1 k) in
    still_kept c.args.pins.now c.args.blocks.now c.improve.new.blocks c.args.place b c.requires.place
    (subst (λ (x : Block). IsKept c.args.pins.now x → ⊥) (c.block_at-block.ensures b) free) c.improve.ensures.others

pub returns-clause-least : goal.returns-clause-least
returns-clause-least c = λ d. ⊎_elim inl (λ l. inr (λ free. l)) (c.improve.ensures.least d)
