use Rattle.shunt_planning.proofs.Sought.{lacks_where}
use Rattle.shunt_planning.proofs.plans.lacking_rest.Goals as goal

pub returns : goal.returns
returns c =
    let e = c.shortage_rest.ensures in
    lacks_where c.args.instance.now c.args.covered.now.units c.args.covered.now.places c.units.result.now c.places.result.now c.shortage_rest.result c.units.ensures
    c.places.ensures e.none e.some e.exact e.known
