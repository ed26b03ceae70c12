use Rattle.std.proofs.Common.{sym}
use Rattle.shunt_plan.proofs.Parts.{plan_more}
use Rattle.shunt_plan.proofs.plan.PlanDraft.read_more.Goals as goal

pub returns : goal.returns
returns c = plan_more c.args.n c.args.instance.now _ c.args.self.now c.read_more.new.blocks.items c.args.row.now c.read_more.result (sym c.self.view_is) c.read_more.ensures
