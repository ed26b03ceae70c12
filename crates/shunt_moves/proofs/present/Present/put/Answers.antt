use Rattle.shunt_moves.proofs.Chains.{comes_range, comes_few}
use Rattle.shunt_moves.proofs.present.Present.put.Goals as goal

pub come-requires-clause-in_range : goal.come-requires-clause-in_range
come-requires-clause-in_range c = comes_range c.args.self.now.night c.args.block.now c.in-Some.block c.args.self.now.state.blocks c.in-Some.is c.requires

pub come-requires-clause-few : goal.come-requires-clause-few
come-requires-clause-few c = comes_few c.args.self.now.night c.args.block.now c.in-Some.block c.args.self.now.state.blocks c.in-Some.is c.requires
