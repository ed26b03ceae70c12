-- From what a workbench tells to the answer of `replay`.
use Rattle.std.proofs.Common.{◌≡◌, ℕ, List, [], ◌∷◌, ◌++◌, subst, ap, ◌∙◌}
use Rattle.shunt_rows.specs.defs.Records.{text_of_rows}
use Rattle.shunt_instance.specs.defs.Instance.{Night}
use Rattle.shunt_blocks.specs.declared.records.Block.{Block}
use Rattle.shunt_blocks.specs.defs.Lists.{total_cost}
use Rattle.shunt_plan.specs.declared.edits.Turn.{Turn}
use Rattle.shunt_plan.specs.declared.records.Plan.{Plan}
use Rattle.shunt_plan.specs.defs.PlanRows.{rows_of}
use Rattle.shunt_audit.specs.declared.types.Finding.{Finding}
use Rattle.shunt_audit.specs.defs.Findings.{AreFindings}
use Rattle.shunt_moves.specs.defs.Benches.{Bench}
use Rattle.shunt_report.specs.defs.FindingTexts.{findings_of}
use Rattle.shunt_inputs.specs.declared.answers.Outcome.{Outcome}
use Rattle.shunt_judging.specs.defs.Replayed.{Replayable, after_turns, lines_from, bench_of, last_of, replay_lines, IsReplayed}
use Rattle.shunt_inputs.specs.defs.Replies.{Reply}
use Rattle.shunt_judging.specs.defs.Audited.{audit_outcome}
use Rattle.shunt_judging.proofs.Turned.{turns_night}

abbrev plan_of : List Block → ℕ → Plan
plan_of bs cost = record { blocks = bs; cost = cost }

same_plan : (bs cs : List Block) (m n : ℕ) → bs ≡ cs → m ≡ n → plan_of bs m ≡ plan_of cs n
same_plan bs cs m n e f = ap (λ (l : List Block). plan_of l m) e ∙ ap (plan_of cs) f

-- the bench behind the turns of a plan
module _ (x : Replayable) (start end : Bench) (is : start ≡ bench_of x) (done : end ≡ after_turns start x.turns) where
  end_is : end ≡ after_turns (bench_of x) x.turns
  end_is = done ∙ ap (λ (b : Bench). after_turns b x.turns) is

  -- it is of the plan's night
  pub end_night : end.night ≡ x.night
  end_night = ap (λ (b : Bench). b.night) end_is ∙ turns_night (bench_of x) x.turns

  pub of_its_night : (P : Night → Type 0) → P end.night → P x.night
  of_its_night P p = subst P end_night p

  blocks_are : end.present.blocks ≡ (last_of x).blocks
  blocks_are = ap (λ (b : Bench). b.present.blocks) end_is

  cost_is : total_cost end.night end.present.blocks ≡ total_cost x.night (last_of x).blocks
  cost_is = ap (λ night. total_cost night end.present.blocks) end_night ∙ ap (total_cost x.night) blocks_are

  pub replied : (file : List ℕ) (last : Plan) (findings : List Finding) (outcome : Outcome) (lines told whole bytes : List ℕ) (writes : List (List ℕ × List ℕ))
      → lines ≡ lines_from 1 start x.turns → last.blocks ≡ end.present.blocks → last.cost ≡ total_cost end.night end.present.blocks
      → AreFindings end.night end.present.blocks findings → told ≡ findings_of x.night findings last.cost → whole ≡ lines ++ told
      → outcome ≡ audit_outcome findings → bytes ≡ text_of_rows (rows_of x.night last) → writes ≡ (file, bytes) ∷ []
      → IsReplayed file x (record { outcome = outcome; writes = writes; text = whole })
  replied file last findings outcome lines told whole bytes writes from blocks cost found text joined ended written one = record {
    findings = findings;
    told = subst (λ night. AreFindings night (last_of x).blocks findings) end_night (subst (λ (l : List Block). AreFindings end.night l findings) blocks_are found);
    outcome = ended;
    writes = one ∙ ap (λ b. (file, b) ∷ []) (written ∙ ap (λ (p : Plan). text_of_rows (rows_of x.night p))
        (same_plan last.blocks (last_of x).blocks last.cost (total_cost x.night (last_of x).blocks) (blocks ∙ blocks_are) (cost ∙ cost_is)));
    text = joined ∙ ap (λ l. l ++ told) (from ∙ ap (λ (b : Bench). lines_from 1 b x.turns) is)
        ∙ ap (λ t. replay_lines x ++ t) (text ∙ ap (findings_of x.night findings) (cost ∙ cost_is));
  }

-- the same turns, as a slice has them
pub with_turns : (file : List ℕ) (night : Night) (plan : Plan) (ts us : List Turn) (r : Reply) → ts ≡ us → IsReplayed file (record { night = night; plan = plan; turns = ts }) r
    → IsReplayed file (record { night = night; plan = plan; turns = us }) r
with_turns file night plan ts us r same h = subst (λ (x : List Turn). IsReplayed file (record { night = night; plan = plan; turns = x }) r) same h
