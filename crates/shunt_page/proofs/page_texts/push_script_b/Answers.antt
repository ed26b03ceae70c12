use Rattle.shunt_picture.proofs.Chained.{add}
use Rattle.shunt_page.proofs.page_texts.push_script_b.Goals as goal
use Rattle.shunt_lists.proofs.Options.{on_ok}

pub returns : goal.returns
unfolding Rattle.shunt_page.specs.defs.PageTexts.script_b
returns c = on_ok c.push-2.result _ _ c.push-2.ensures (λ last. add _ _ _ _ _ c.in_ok-push.ensures last)
