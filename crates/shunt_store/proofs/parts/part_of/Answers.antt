use Rattle.std.proofs.Common.{string_bytes, ◌∙◌}
use Rattle.shunt_store.proofs.Endings.{one_behind}
use Rattle.shunt_store.proofs.parts.part_of.Goals as goal

pub loop-done-preserved : goal.loop-done-preserved
loop-done-preserved g c = c.in_ok-push_str.ensures.bytes ∙ one_behind (string_bytes c.loop-done.part) c.args.target.now c.loop-done._done c.loop-done.invariant
