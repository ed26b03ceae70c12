use Rattle.std.proofs.Common.{arith}
use Rattle.shunt_matching.proofs.Lateness.{enough_more, enough_by_all, late_at}
use Rattle.shunt_matching.proofs.first_shortage.first_late_of.Goals as goal

pub returns-then-is_late_at-clause-some : goal.returns-then-is_late_at-clause-some
returns-then-is_late_at-clause-some g c =
    late_at (g.U.Entries.entries c.args.us.now) (g.V.Entries.entries c.args.vs.now) c.args.um.now c.args.vm.now c.args.kind c.loop-v.v
    c.requires c.loop-v.invariant (omega arith) (c.is_late_at.ensures.late c.if-is_late_at.true) (c.is_late_at.ensures.short c.if-is_late_at.true)

pub loop-v-preserved : goal.loop-v-preserved
loop-v-preserved g c =
    enough_more (g.U.Entries.entries c.args.us.now) (g.V.Entries.entries c.args.vs.now) c.args.um.now c.args.vm.now c.args.kind c.loop-v.v
    c.loop-v.invariant (c.is_late_at.ensures.enough c.if-is_late_at.false)

pub returns-clause-none : goal.returns-clause-none
returns-clause-none g c =
    enough_by_all (g.U.Entries.entries c.args.us.now) (g.V.Entries.entries c.args.vs.now) c.args.um.now c.args.vm.now c.args.kind
    c.requires (λ w lt. c.loop-v.invariant w (omega arith))
