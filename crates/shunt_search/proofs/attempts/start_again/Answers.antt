use Rattle.std.proofs.Common.{w64, refl, arith}
use Rattle.std.proofs.lemmas.Int.{to_z_pos}
use Rattle.shunt_search.proofs.attempts.start_again.Goals as goal

pub returns-clause-again : goal.returns-clause-again
returns-clause-again c = record {
  begins = c.in_ok-search.ensures.start;
  many = c.in_ok-search.ensures.pins;
  yard = c.in_ok-search.ensures.yard;
  known = refl;
  low = to_z_pos w64 c.args.search.now.known.cost (let small = c.requires.small in omega (arith, small));
  floor = refl;
  empty = c.new.ensures.items;
}
