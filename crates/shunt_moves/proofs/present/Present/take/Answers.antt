use Rattle.shunt_moves.proofs.Chains.{goes_in}
use Rattle.shunt_moves.proofs.present.Present.take.Goals as goal

pub go-requires : goal.go-requires
go-requires c = goes_in c.args.block.now c.in-Some.block c.args.self.now.state.blocks c.in-Some.is c.requires
