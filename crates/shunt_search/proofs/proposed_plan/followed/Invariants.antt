use Rattle.shunt_choices.specs.defs.Paths.{IsPartialPlan}
use Rattle.shunt_search.specs.defs.Yards.{IsYard}
use Rattle.shunt_search.proofs.proposed_plan.followed.Given as goal

abbrev pub invariant-steps : goal.invariant-steps
invariant-steps l = record {
  yard : IsYard l.instance l.yard;
  partial : IsPartialPlan l.instance l.pins l.yard.path.blocks;
}
