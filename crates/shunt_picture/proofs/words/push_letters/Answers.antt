use Rattle.std.proofs.Common.{◌∙◌, [], ◌∷◌}
use Rattle.shunt_picture.specs.defs.Words.{letter}
use Rattle.shunt_picture.proofs.words.push_letters.Goals as goal
use Rattle.shunt_lists.proofs.Lists.{lines_more as one_more}

pub loop-kind-preserved : goal.loop-kind-preserved
loop-kind-preserved c = one_more (λ kind. letter kind ∷ []) c.args.kinds.now c.loop-kind.kind-index _ c.loop-kind.text c.push_letter.new.text c.loop-kind-test.true
    c.in_ok-push_letter.ensures ∙ c.loop-kind.invariant
