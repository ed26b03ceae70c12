use Rattle.std.proofs.Common.{◌++◌, codes}
use Rattle.shunt_picture.proofs.Chained.{add}
use Rattle.shunt_picture.proofs.words.push_group_trains.Goals as goal
use Rattle.shunt_lists.proofs.Options.{on_ok}

pub returns : goal.returns
unfolding Rattle.shunt_picture.specs.defs.Words.group_trains
returns c = on_ok c.push-5.result _ _ c.push-5.ensures (λ last. add c.args.text.now c.push-4.new.self c.push-5.new.self
    (codes "' data-arrive='" ++ c.args.arr.now ++ codes "' data-depart='" ++ c.args.dep.now) (codes "'><title>")
    (add c.args.text.now c.push-3.new.self c.push-4.new.self (codes "' data-arrive='" ++ c.args.arr.now ++ codes "' data-depart='") (c.args.dep.now)
    (add c.args.text.now c.push-2.new.self c.push-3.new.self (codes "' data-arrive='" ++ c.args.arr.now) (codes "' data-depart='")
    (add c.args.text.now c.push.new.self c.push-2.new.self (codes "' data-arrive='") (c.args.arr.now) c.in_ok-push.ensures c.in_ok-push-2.ensures) c.in_ok-push-3.ensures)
    c.in_ok-push-4.ensures) last)
