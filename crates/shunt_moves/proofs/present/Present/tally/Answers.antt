use Rattle.std.proofs.Common.{◌≡◌, subst, ap}
use Rattle.shunt_cross.specs.declared.clash.Clash.{Clash}
use Rattle.shunt_moves.specs.defs.Kept.{Standing}
use Rattle.shunt_moves.specs.defs.Tallies.{tally_of}
use Rattle.shunt_moves.proofs.Counts.{made_tally, tally_kept, tally_small}
use Rattle.shunt_moves.proofs.present.Present.tally.Goals as goal

pub returns-clause-exact : goal.returns-clause-exact
returns-clause-exact c =
    subst (λ (p : Standing). made_tally c.bare.result c.twice.result c.bare-2.result c.twice-2.result c.self.inside.faults.wrong_type c.self.inside.faults.too_soon
    c.self.inside.faults.no_route_in c.self.inside.faults.no_route_out c.clash-clash.result.pairs c.clash-clash.result.over c.self.inside.faults.cost
    ≡ tally_of p.night p.state.blocks) c.self.view_is
    (tally_kept c.self.inside.instance.now c.self.inside.blocks.items c.self.inside.timelines c.self.inside.units c.self.inside.places c.self.inside.faults c.self.invariant.0
    c.bare.result c.twice.result c.bare-2.result c.twice-2.result c.clash-clash.result.pairs c.clash-clash.result.over c.bare.ensures.exact c.twice.ensures.exact
    c.bare-2.ensures.exact c.twice-2.ensures.exact
    (ap (λ (x : Clash). x.pairs) c.clash-clash.ensures.equals) (ap (λ (x : Clash). x.over) c.clash-clash.ensures.equals))

pub returns-clause-small : goal.returns-clause-small
returns-clause-small c =
    tally_small c.self.inside.instance.now c.self.inside.blocks.items c.self.inside.timelines c.self.inside.units c.self.inside.places c.self.inside.faults c.self.invariant.0
    c.bare.result c.twice.result c.bare-2.result c.twice-2.result c.clash-clash.result.pairs c.clash-clash.result.over c.bare.ensures.few c.twice.ensures.few
    c.bare-2.ensures.few c.twice-2.ensures.few
    (ap (λ (x : Clash). x.pairs) c.clash-clash.ensures.equals) (ap (λ (x : Clash). x.over) c.clash-clash.ensures.equals)
