use mir.Syntax.{w64}
use Rattle.std.specs.Prelude.{All}
use Rattle.std.proofs.Common.{List, [], ◌∷◌, ◌++◌, length, sym, subst, ap, ◌∙◌}
use Rattle.std.proofs.lemmas.Int.{to_z-of_z}
use Rattle.shunt_blocks.specs.declared.records.Block.{Block}
use Rattle.shunt_prices.specs.defs.Sums.{IsWithin}
use Rattle.shunt_prices.specs.defs.Bounds.{unparked_in}
use Rattle.shunt_stacks.specs.defs.Bounds.{IsChoiceSum, IsChoiceBound}
use Rattle.shunt_fillings.specs.defs.Prospects.{AreSums}
use Rattle.shunt_fillings.proofs.choices.choice_bound.Goals as goal

pub least_bound-requires-clause-long : goal.least_bound-requires-clause-long
least_bound-requires-clause-long c = ap length c.deref.ensures.value ∙ c.in_ok-sums.ensures.long

pub least_bound-requires-clause-small : goal.least_bound-requires-clause-small
least_bound-requires-clause-small c = subst (All (IsWithin 4100000000000000000)) (sym c.deref.ensures.value) c.in_ok-sums.ensures.small

pub returns : goal.returns
returns c =
    let night = c.args.scene.now.instance.now in
    let path = c.args.scene.now.path.now.blocks in
    let b = c.args.block.now in
    let cases = c.args.cases.now in
    let are = subst (AreSums (IsChoiceSum night path b cases) (length cases)) (sym c.deref.ensures.value) c.in_ok-sums.ensures in
    let unparked = c.unparked_with-unparked.ensures ∙ ap (λ (bs : List Block). unparked_in (bs ++ b ∷ [])) c.blocks-2.ensures in
    subst (IsChoiceBound night path b cases) (sym (to_z-of_z w64 c.least_bound.result (record { sfits = c.least_bound.type_inv })))
    (record {
      sums = c.deref.result.now;
      are = λ k opens. are.each k opens.there;
      least = c.least_bound.ensures (path ++ b ∷ []) unparked;
    })
