use Rattle.std.proofs.Common.{◌≡◌, ◌+◌, take, length}
use Rattle.shunt_search.specs.defs.Yards.{IsYard}
use Rattle.shunt_search.proofs.yard.Yard.back_to.Given as goal

abbrev pub invariant-rest : goal.invariant-rest
invariant-rest l = record {
  yard : IsYard l.instance l.self;
  front : l.self.path.blocks ≡ take (length l.self.path.blocks) l.initial.self.path.blocks;
  pins : l.self.path.pins ≡ l.initial.self.path.pins;
  count : length l.self.path.blocks ≡ l.fn.keep + l.left;
}

abbrev pub decreases-rest : goal.decreases-rest
decreases-rest l = l.left
