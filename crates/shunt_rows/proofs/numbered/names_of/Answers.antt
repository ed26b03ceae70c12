use Rattle.shunt_rows.proofs.Numbers.{not_among}
use Rattle.shunt_rows.proofs.numbered.names_of.Goals as goal

pub add-requires : goal.add-requires
add-requires g c = not_among g.N.Naming.name c.args.things.now c.things.thing-index c.thing-item.result _ _ c.requires c.things-test.true c.thing-item.is c.name_of.ensures
    c.things.invariant
