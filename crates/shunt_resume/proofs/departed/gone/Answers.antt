use Rattle.std.proofs.Common.{List, map, sym, subst, ◌∙◌, ◌≡◌}
use Rattle.shunt_lists.proofs.Options.{if_ok}
use Rattle.shunt_lists.specs.defs.Members.{AreDistinct}
use Rattle.shunt_blocks.specs.declared.records.Block.{Block}
use Rattle.shunt_blocks.specs.defs.Lists.{AreInRange}
use Rattle.shunt_audit.specs.defs.Listed.{by_id}
use Rattle.shunt_audit.proofs.ById.{id_of}
use Rattle.shunt_resume.specs.defs.Resumed.{has_gone_by}
use Rattle.shunt_resume.proofs.Goings.{ids_part, sorted_gone}
use Rattle.shunt_resume.proofs.departed.gone.Goals as goal

pub by_id-requires : goal.by_id-requires
by_id-requires c =
    subst (λ (bs : List Block). AreDistinct (map id_of bs)) (sym (c.deref.ensures.value ∙ c.in_ok-gone.ensures))
    (ids_part (has_gone_by c.args.instance.now c.args.minute) c.args.blocks.now c.requires.ids)

pub returns-clause-in_range : goal.returns-clause-in_range
returns-clause-in_range c = if_ok (λ v. v.items ≡ by_id c.deref.result.now) (λ v. AreInRange c.args.instance.now v.items) c.by_id.result
    (λ v is. sorted_gone c.args.instance.now c.args.minute c.args.blocks.now c.deref.result.now v.items c.requires (c.deref.ensures.value ∙ c.in_ok-gone.ensures) is)
    c.by_id.ensures
