use Rattle.shunt_proof.proofs.Starts.{one_start, one_opening, still_keeps}
use Rattle.shunt_proof.proofs.laws.starts.Goals as goal

pub returns : goal.returns
returns c = record {
  one = λ night pins start other s t. one_start night pins start other s t;
  opening = λ night pins others same. one_opening night pins others same;
  keeps = λ plan pins others same keeps. still_keeps plan pins others same keeps;
  partial = λ night pins start i usable s. c.plans_grow.ensures.pins night pins start i usable s.same s.rises;
}
