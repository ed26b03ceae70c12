use Rattle.std.proofs.Common.{refl}
use Rattle.shunt_ruin.proofs.Judged.{numbered_in_range, numbered_feasible, carried}
use Rattle.shunt_ruin.proofs.judge.are_feasible.Goals as goal

pub go_through-requires-clause-in_range : goal.go_through-requires-clause-in_range
go_through-requires-clause-in_range c = numbered_in_range c.args.instance.now c.args.blocks.now c.requires (c.if-not-are_blocks.ensures refl)

pub returns : goal.returns
returns c =
    carried c.go_through.result (λ through. numbered_feasible c.args.instance.now c.args.blocks.now c.requires (c.if-not-are_blocks.ensures refl)
    (c.if-not-cover_units.ensures refl) (c.if-not-cover_positions.ensures refl) through) c.go_through.ensures
