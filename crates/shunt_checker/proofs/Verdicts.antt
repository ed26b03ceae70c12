-- The verdict, from what is found of the plan, of the nodes and of the last record.
use Rattle.std.specs.Prelude.{◌≢◌, IfSome, IfNone, Option, Some, None}
use Rattle.std.proofs.Common.{◌≡◌, inl, inr, ℕ, ◌≤◌, List, length, pos, refl, sym, ap, subst, ◌∙◌, arith}
use Rattle.shunt_instance.specs.defs.Instance.{Night}
use Rattle.shunt_blocks.specs.declared.records.Block.{Block}
use Rattle.shunt_blocks.specs.defs.Lists.{total_cost}
use Rattle.shunt_plan.specs.declared.records.Plan.{Plan}
use Rattle.shunt_proof.specs.declared.records.Certificate.{Certificate}
use Rattle.shunt_proof.specs.defs.CertificateRows.{row_of}
use Rattle.shunt_proof.specs.defs.Trees.{IsStart}
use Rattle.shunt_checker.specs.declared.verdict.PlanFault.{PlanFault}
use Rattle.shunt_checker.specs.declared.verdict.Reason.{Reason}
use Rattle.shunt_checker.specs.declared.verdict.Reason.TheVariants as reason
use Rattle.shunt_checker.specs.declared.verdict.Verdict.TheVariants as verdict
use Rattle.shunt_checker.specs.declared.walk.Fault.{Fault}
use Rattle.shunt_checker.specs.defs.Firsts.{Finds}
use Rattle.shunt_checker.specs.defs.PlanFaults.{IsPlanFault, PlanFaultBefore, IsPlanSound}
use Rattle.shunt_checker.specs.defs.Verdicts.{IsSoundBefore, IsVerdict}
use Rattle.shunt_checker.specs.defs.Walks.{FindsFault}

pub node_there : (night : Night) (start : List Block) (c : Certificate) (q : Option Fault) (f : Fault) → q ≡ Some f → FindsFault night start c q → f.node ≤ length c.nodes
node_there night start c q f e h =
    let first : FindsFault night start c (Some f) = subst (FindsFault night start c) e h in
    let lt = first.there in
    omega (arith, lt)

module _ (night : Night) (pins : List Block) (plan : Plan) (c : Certificate) (start : List Block) (begins : IsStart night pins start) (r : Option PlanFault)
    (found : Finds (IsPlanFault night plan) PlanFaultBefore r) where
  pub of_plan : (f : PlanFault) → r ≡ Some f → IsVerdict night pins plan c (verdict.Rejected 0 (reason.PlanFinding f))
  of_plan f e =
      let first : Finds (IsPlanFault night plan) PlanFaultBefore (Some f) = subst (Finds (IsPlanFault night plan) PlanFaultBefore) e found in
      record { start = start; begins = begins; answers = inl (record { fault = f; first = record { is = first.is; first = first.first }; at = refl; told = refl }) }

  module _ (none : r ≡ None) where
    plan_sound : IsPlanSound night plan
    plan_sound =
        let no_fault : Finds (IsPlanFault night plan) PlanFaultBefore None = subst (Finds (IsPlanFault night plan) PlanFaultBefore) none found in
        no_fault

    module _ (q : Option Fault) (h : FindsFault night start c q) where
      pub of_node : (f : Fault) (row : ℕ) → q ≡ Some f → row ≡ row_of c.nodes f.node → IsVerdict night pins plan c (verdict.Rejected row f.reason)
      of_node f row e at =
          let first : FindsFault night start c (Some f) = subst (FindsFault night start c) e h in
          record {
            start = start;
            begins = begins;
            answers = inr (inl (record {
              node = f.node;
              there = first.there;
              before = record { of_plan = plan_sound; of_nodes = first.before };
              first = first.first;
              at = at;
            }));
          }

      sound_all : q ≡ None → IsSoundBefore night start plan c (length c.nodes)
      sound_all e =
          let all : FindsFault night start c None = subst (FindsFault night start c) e h in
          record { of_plan = plan_sound; of_nodes = all }

      module _ (e : q ≡ None) (w : Option Reason) (cost : ℕ) (is : cost ≡ total_cost night plan.blocks) where
        pub of_end : (row : ℕ) (s : Reason) → w ≡ Some s → IfSome w (λ x. (c.cost ≢ cost) × (x ≡ reason.CostStated (pos c.cost) (pos cost))) → row ≡ row_of c.nodes (length c.nodes)
            → IsVerdict night pins plan c (verdict.Rejected row s)
        of_end row s ew some at =
            let here : (c.cost ≢ cost) × (s ≡ reason.CostStated (pos c.cost) (pos cost)) = subst
            (λ (o : Option Reason). IfSome o (λ x. (c.cost ≢ cost) × (x ≡ reason.CostStated (pos c.cost) (pos cost)))) ew some in
            record {
              start = start;
              begins = begins;
              answers = inr (inr (record {
                before = sound_all e;
                other = λ same. here.0 (same ∙ sym is);
                at = at;
                told = here.1 ∙ ap (λ (n : ℕ). reason.CostStated (pos c.cost) (pos n)) is;
              }));
            }

        pub accepted : w ≡ None → IfNone w (c.cost ≡ cost) → IsVerdict night pins plan c (verdict.Accepted c.bound)
        accepted ew none =
            let same : c.cost ≡ cost = subst (λ (o : Option Reason). IfNone o (c.cost ≡ cost)) ew none in
            record { start = start; begins = begins; answers = (refl, record { before = sound_all e; cost = same ∙ is }) }
