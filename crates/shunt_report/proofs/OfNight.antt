-- What a verdict on a certificate tells is of the night.
use Rattle.std.proofs.Common.{◌≡◌, ◌<◌, ℕ, inl, inr, sym, subst, length, List, Option, Some}
use Rattle.shunt_instance.specs.defs.Instance.{Night}
use Rattle.shunt_blocks.specs.declared.records.Block.{Block}
use Rattle.shunt_choices.specs.defs.Paths.{masks_of, next_of}
use Rattle.shunt_choices.specs.defs.Choices.{Choice as PathChoice, IsChoiceAt}
use Rattle.shunt_choices.proofs.AtPaths.{for_next}
use Rattle.shunt_plan.specs.declared.records.Plan.{Plan}
use Rattle.shunt_proof.specs.declared.records.Choice.{Choice}
use Rattle.shunt_proof.specs.declared.records.Certificate.{Certificate}
use Rattle.shunt_proof.specs.defs.Nodes.{node_at, AreNodes, FitsDepth}
use Rattle.shunt_proof.specs.defs.Certificates.{IsCertificate}
use Rattle.shunt_proof.specs.defs.Trees.{path_at, choice_from}
use Rattle.shunt_checker.specs.declared.verdict.PlanFault.{PlanFault}
use Rattle.shunt_checker.specs.declared.verdict.PlanFault.TheVariants as fault
use Rattle.shunt_checker.specs.declared.verdict.Reason.{Reason}
use Rattle.shunt_checker.specs.declared.verdict.Verdict.{Verdict}
use Rattle.shunt_checker.specs.declared.verdict.Verdict.TheVariants as verdict
use Rattle.shunt_checker.specs.defs.PlanFaults.{IsPlanFault}
use Rattle.shunt_checker.specs.defs.NodeFaults.{NodeFault, IsNodeFault}
use Rattle.shunt_checker.specs.defs.NodeFaults.NodeFault.{NotThere, Twice, NotLean, OtherKind, Broken, LowLeaf, LowWhole, Missing}
use Rattle.shunt_checker.specs.defs.Verdicts.{IsFirstReason, IsVerdict}
use Rattle.shunt_report.specs.defs.VerdictTexts.{IsChoiceOfNight, IsPlanFaultOfNight, IsReasonOfNight, IsVerdictOfNight}
use Rattle.shunt_blocks.proofs.Shapes.{on_track}

of_plan : (night : Night) (plan : Plan) (f : PlanFault) → IsPlanFault night plan f → IsPlanFaultOfNight night f
of_plan night plan (fault.BadBlock id) h = tt
of_plan night plan (fault.Unit u) h = h.0
of_plan night plan (fault.Place v) h = h.0
of_plan night plan (fault.Blocked id) h = tt
of_plan night plan (fault.Over id load) h = tt
of_plan night plan (fault.Cost stated real) h = tt

-- a choice that a node states
stated : (night : Night) (depth : ℕ) (c : Choice) (o : Option Choice) → o ≡ Some c → FitsDepth night depth o → IsChoiceOfNight night c
stated night depth c o e h =
    let fits : FitsDepth night depth (Some c) = subst (FitsDepth night depth) e h in
    record { dep = fits.1.dep; track = fits.1.track }

missed : (night : Night) (path : List Block) (c : Choice) (d : PathChoice) → d ≡ choice_from night path c → IsChoiceAt night path d → IsChoiceOfNight night c
missed night path c d e h =
    let own = choice_from night path c in
    let there = (for_next night path (next_of (masks_of night path)) own (subst (IsChoiceAt night path) e h)).1 in
    record { dep = there.shape.shape.within.dep; track = on_track night own.shape own.option there.option }

module _ (night : Night) (start : List Block) (c : Certificate) (nodes : AreNodes night c.nodes) (k : ℕ) (lt : k < length c.nodes) where
  told : (choice : Choice) → (node_at c.nodes k).choice ≡ Some choice → IsChoiceOfNight night choice
  told choice e = stated night (node_at c.nodes k).depth choice (node_at c.nodes k).choice e (nodes.each k _ lt).choice

  of_node : (f : NodeFault) (r : Reason) → IsNodeFault night start c k f r → IsReasonOfNight night r
  of_node NotThere r h = subst (IsReasonOfNight night) (sym h.3) (told h.0 h.1)
  of_node Twice r h = subst (IsReasonOfNight night) (sym h.3) (told h.0 h.1)
  of_node NotLean r h = subst (IsReasonOfNight night) (sym h.2) tt
  of_node OtherKind r h = subst (IsReasonOfNight night) (sym h.1) tt
  of_node (Broken m d) r h = subst (IsReasonOfNight night) (sym h.2) (record {
    arr = h.1.free.shape.shape.within.arr;
    dep = h.1.free.shape.shape.within.dep;
    track = on_track night d.shape d.option h.1.free.option;
  })
  of_node LowLeaf r h = subst (IsReasonOfNight night) (sym h.3) tt
  of_node LowWhole r h = subst (IsReasonOfNight night) (sym h.2) tt
  of_node (Missing d) r h = subst (IsReasonOfNight night) (sym h.5) (missed night (path_at night start c.nodes k) h.1 d h.2 h.4.there)

of_reason : (night : Night) (start : List Block) (plan : Plan) (c : Certificate) (row : ℕ) (r : Reason) → AreNodes night c.nodes → IsFirstReason night start plan c row r
    → IsReasonOfNight night r
of_reason night start plan c row r nodes (inl h) = subst (IsReasonOfNight night) (sym h.told) (of_plan night plan h.fault h.first.is)
of_reason night start plan c row r nodes (inr (inl h)) = of_node night start c nodes h.node h.there h.first.fault r h.first.is
of_reason night start plan c row r nodes (inr (inr h)) = subst (IsReasonOfNight night) (sym h.told) tt

pub of_verdict : (night : Night) (pins : List Block) (plan : Plan) (c : Certificate) (v : Verdict) → IsCertificate night c → IsVerdict night pins plan c v
    → IsVerdictOfNight night v
of_verdict night pins plan c (verdict.Accepted bound) is h = tt
of_verdict night pins plan c (verdict.Rejected row r) is h = of_reason night h.start plan c row r is.nodes h.answers
