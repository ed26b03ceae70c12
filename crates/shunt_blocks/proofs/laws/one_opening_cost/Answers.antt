use Rattle.shunt_blocks.proofs.OpeningCosts.{one_cost}
use Rattle.shunt_blocks.proofs.Singles.{any_singles}
use Rattle.shunt_blocks.proofs.laws.one_opening_cost.Goals as goal

pub returns : goal.returns
returns c = record {
  matched = λ night pins place m. one_cost night pins place m;
  any = λ night pins others within single covers. any_singles night pins others within single covers;
}
