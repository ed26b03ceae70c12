use Rattle.std.proofs.Common.{◌++◌, codes, decimal, ap, ◌∙◌}
use Rattle.shunt_picture.proofs.Chained.{add}
use Rattle.shunt_picture.proofs.words.push_group_block.Goals as goal
use Rattle.shunt_lists.proofs.Options.{on_ok}

pub returns : goal.returns
unfolding Rattle.shunt_picture.specs.defs.Words.group_block
returns c = on_ok c.push_number.result _ _ c.push_number.ensures (λ last. add c.args.text.now c.push.new.self c.push_number.new.self (codes "' data-block='")
    (decimal c.args.id) c.in_ok-push.ensures (last ∙ ap (λ n. c.push.new.self ++ decimal n) c.from.ensures))
