use Rattle.std.specs.Prelude.{map}
use Rattle.std.proofs.Common.{◌≡◌, ℕ, List, [], subst, ap, ◌∙◌}
use Rattle.shunt_blocks.specs.declared.records.Block.{Block}
use Rattle.shunt_blocks.specs.defs.Lists.{total_cost}
use Rattle.shunt_compare.specs.defs.Changes.{IsComparison}
use Rattle.shunt_inputs.specs.declared.answers.Outcome.{Outcome}
use Rattle.shunt_inputs.specs.declared.answers.FileText.{FileText}
use Rattle.shunt_inputs.specs.defs.Replies.{pair_of, says}
use Rattle.shunt_report.specs.defs.ComparisonTexts.{comparison_of}
use Rattle.shunt_dispatch.proofs.comparison.comparison_answer.Goals as goal

-- an answer that writes no file
said : (o p : Outcome) (writes : List FileText) (text told : List ℕ) → o ≡ p → writes ≡ [] → text ≡ told
    → record { outcome = o; writes = map pair_of writes; text = text } ≡ says p told
said o p writes text told ends none is = ap (λ (x : Outcome). record { outcome = x; writes = map pair_of writes; text = text }) ends
    ∙ (ap (λ (ws : List FileText). record { outcome = p; writes = map pair_of ws; text = text }) none ∙ ap (λ (t : List ℕ). record { outcome = p; writes = []; text = t }) is)

pub comparison_text-requires : goal.comparison_text-requires
comparison_text-requires c = c.comparisons.ensures c.args.instance.now c.args.plan.now.blocks c.args.other.now.blocks c.in_ok-comparison.comparison c.requires.feasible
    c.requires.other_feasible
    (subst (λ (bs : List Block). IsComparison c.args.instance.now bs c.args.other.now.blocks c.in_ok-comparison.comparison) c.as_slice-was.ensures
    (subst (λ (bs : List Block). IsComparison c.args.instance.now c.as_slice-was.result.now bs c.in_ok-comparison.comparison) c.as_slice-now.ensures c.in_ok-comparison.ensures))

pub returns : goal.returns
returns c = record {
  none = c.requires.none;
  other_none = c.requires.other_none;
  comparison = c.in_ok-comparison.comparison;
  told = subst (λ (bs : List Block). IsComparison c.args.instance.now bs c.args.other.now.blocks c.in_ok-comparison.comparison) c.as_slice-was.ensures
      (subst (λ (bs : List Block). IsComparison c.args.instance.now c.as_slice-was.result.now bs c.in_ok-comparison.comparison) c.as_slice-now.ensures c.in_ok-comparison.ensures);
  reply = said c.outcome_of_comparison.result _ c.new.result.items c.in_ok-comparison_text.field-0.items _ c.outcome_of_comparison.ensures c.new.ensures.items
      (c.in_ok-comparison_text.ensures
      ∙ (ap (λ (k : ℕ). comparison_of c.args.instance.now c.in_ok-comparison.comparison k c.blocks_cost-other_cost.result)
      (c.blocks_cost-cost.ensures.exact ∙ ap (total_cost c.args.instance.now) c.as_slice-was.ensures)
      ∙ ap (λ (k : ℕ). comparison_of c.args.instance.now c.in_ok-comparison.comparison (total_cost c.args.instance.now c.args.plan.now.blocks) k)
      (c.blocks_cost-other_cost.ensures.exact ∙ ap (total_cost c.args.instance.now) c.as_slice-now.ensures)));
}
