use Rattle.shunt_search.proofs.YardChanges.{enough_room, start_yard}
use Rattle.shunt_search.proofs.yard.start.Goals as goal

pub returns-clause-yard : goal.returns-clause-yard
returns-clause-yard c =
    let plan = c.starts.ensures.partial c.args.instance.now c.args.pins.now c.in_ok-path.path.blocks c.units.ensures.formed c.requires
    (record { same = c.in_ok-path.ensures.same; rises = c.in_ok-path.ensures.order }) in
    start_yard c.args.instance.now c.args.pins.now c.blocks-2.result.now c.in_ok-path.path c.stand_placed.new.timelines _ c.units.result
    c.in_ok-path.ensures.of c.in_ok-path.ensures.pins c.in_ok-path.ensures.same c.blocks-2.ensures c.stand_placed.ensures.stand c.stand_placed.ensures.room
    (enough_room _ _ c.units.result c.in_ok-reserve.ensures.ok) c.units.ensures.exact plan.each plan.through
