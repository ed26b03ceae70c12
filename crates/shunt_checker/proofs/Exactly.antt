-- Nothing is wrong exactly when a certificate is accepted.
use Rattle.std.specs.Prelude.{◌↔◌, ◌≢◌}
use Rattle.std.proofs.Common.{◌≡◌, inl, inr, ℕ, ◌+◌, ◌<◌, ◌≤◌, ℤ, pos, List, Some, None, length, sym, subst, arith}
use Rattle.shunt_base.specs.declared.duals.Case.{Case}
use Rattle.shunt_instance.specs.defs.Words.{train_at, kind_at}
use Rattle.shunt_instance.specs.defs.Instance.{Night, IsInstance, unit_at, make_unit}
use Rattle.shunt_blocks.specs.declared.records.Shape.{Shape}
use Rattle.shunt_blocks.specs.declared.records.Block.{Block}
use Rattle.shunt_blocks.specs.defs.Pins.{AreUsable, Keeps}
use Rattle.shunt_blocks.specs.defs.Shapes.{AreRunsWithin, unit_from}
use Rattle.shunt_choices.specs.defs.Paths.{IsPartialPlan}
use Rattle.shunt_prices.specs.defs.Limits.{AreCases}
use Rattle.shunt_plan.specs.declared.records.Plan.{Plan}
use Rattle.shunt_plan.specs.defs.Plans.{IsPlanInRange}
use Rattle.shunt_proof.specs.declared.records.Choice.{Choice}
use Rattle.shunt_proof.specs.declared.records.NodeKind.TheVariants.{Branch, Whole}
use Rattle.shunt_proof.specs.declared.records.Node.{Node}
use Rattle.shunt_proof.specs.declared.records.Version.{Version}
use Rattle.shunt_proof.specs.declared.records.Version.TheVariants.{Stacks}
use Rattle.shunt_proof.specs.declared.records.Certificate.{Certificate}
use Rattle.shunt_proof.specs.defs.Nodes.{node_at, AreNodes, FitsChoice}
use Rattle.shunt_proof.specs.defs.Certificates.{IsCertificate}
use Rattle.shunt_proof.specs.defs.Trees.{IsStart, depth_at, parent, longer_with, path_at, duals_at}
use Rattle.shunt_proof.specs.defs.Versions.{IsBoundIn, IsStepBoundIn}
use Rattle.shunt_proof.specs.defs.Proves.{IsPlaced, ProvesIn, AreRightIn}
use Rattle.shunt_proof.specs.defs.Accepted.{AreLeanIn, IsAccepted}
use Rattle.shunt_checker.specs.declared.verdict.Reason.{Reason}
use Rattle.shunt_checker.specs.declared.verdict.Verdict.{Verdict}
use Rattle.shunt_checker.specs.declared.verdict.Verdict.TheVariants as verdict
use Rattle.shunt_checker.specs.defs.Verdicts.{IsSoundVerdict, IsFirstReason, Answers, IsVerdict, Accepts}
use Rattle.shunt_checker.proofs.Chosen.{choice_is, no_choice, not_whole}
use Rattle.shunt_checker.proofs.Refuted.{plan_sound, node_sound}
use Rattle.shunt_checker.proofs.Versioned.{IsSolid, BoundLaws}
use Rattle.shunt_checker.proofs.Acceptance.{feasible, states, placed_there, node_right, node_lean}
use Rattle.shunt_blocks.proofs.Shapes.{all_within}

-- what follows below, of one night
pub record Laws (night : Night) : Type 0 where
  pub unit : (s : Shape) (k : ℕ) → AreRunsWithin night s → k < s.n → unit_at night (unit_from night s + k)
      ≡ make_unit s.arr.0 (s.p + k) (kind_at (train_at night.arrive s.arr.0) (s.p + k))
  pub bounds : BoundLaws night
  pub one_bound : (version : Version) (path : List Block) (cases : List Case) (bound other : ℤ) → IsBoundIn version night path cases bound
      → IsBoundIn version night path cases other → bound ≡ other
  pub one_step : (version : Version) (path longer : List Block) (cases : List Case) (bound other : ℤ) → IsStepBoundIn version night path longer cases bound
      → IsStepBoundIn version night path longer cases other → bound ≡ other
  pub path : (start : List Block) (nodes : List Node) (k : ℕ) → AreNodes night nodes → 1 ≤ k → k < length nodes
      → path_at night start nodes k ≡ longer_with night (path_at night start nodes (parent nodes k)) (node_at nodes k).choice
  pub parent : (nodes : List Node) (k : ℕ) → AreNodes night nodes → 1 ≤ k → k < length nodes →
      (parent nodes k < k) × (depth_at nodes k ≡ depth_at nodes (parent nodes k) + 1) × ((node_at nodes (parent nodes k)).kind ≡ Branch)
  pub choice : (nodes : List Node) (k : ℕ) → AreNodes night nodes → 1 ≤ k → k < length nodes → (c : Choice) × ((node_at nodes k).choice ≡ Some c) × FitsChoice night c
  pub cases : (nodes : List Node) (k : ℕ) → AreNodes night nodes → k < length nodes → (node_at nodes k).kind ≢ Whole → AreCases night (duals_at nodes k)
  pub exactly : (version : Version) (start : List Block) (nodes : List Node) (L : ℤ) → AreNodes night nodes → 1 ≤ length nodes
      → ProvesIn version night start nodes L 0 ↔ AreRightIn version night start nodes L
  pub one_start : (pins start other : List Block) → IsStart night pins start → IsStart night pins other → start ≡ other
  pub partial : (pins start : List Block) (nodes : List Node) (k : ℕ) → IsInstance night → AreNodes night nodes → AreUsable night pins → IsStart night pins start →
      ((i : ℕ) → 1 ≤ i → i < length nodes → IsPlaced night start nodes i) → k < length nodes → IsPartialPlan night pins (path_at night start nodes k)

-- a partial plan's blocks share nothing, and their run goes through
solid_plan : (night : Night) (pins path : List Block) → IsInstance night → IsPartialPlan night pins path → IsSolid night path
solid_plan night pins path formed h = record { formed = formed; within = all_within night path h.each; apart = h.apart; through = h.through }

module _ (night : Night) (laws : Laws night) (formed : IsInstance night) (pins start : List Block) (plan : Plan) (c : Certificate) (range : IsPlanInRange night plan)
    (keeps : Keeps plan.blocks pins)
    (cert : IsCertificate night c) (usable : c.version ≡ Stacks → AreUsable night pins) (begins : IsStart night pins start) where
  root_choice : (k : ℕ) → k < length c.nodes → k ≡ 0 → (node_at c.nodes k).choice ≡ None
  root_choice k lt e = no_choice night (depth_at c.nodes k) (node_at c.nodes k).choice (cert.nodes.each k _ lt).choice
      (subst (λ (w : ℕ). depth_at c.nodes w ≡ 0) (sym e) (cert.nodes.root cert.some))

  -- where nothing is wrong
  module _ (h : IsSoundVerdict night start plan c) where
    all_placed : (k : ℕ) → 1 ≤ k → k < length c.nodes → IsPlaced night start c.nodes k
    all_placed k later lt = let l = laws.choice c.nodes k cert.nodes later lt in placed_there night start c k (h.before.of_nodes k lt) l.0 l.1

    solid : (k : ℕ) → k < length c.nodes → c.version ≡ Stacks → IsSolid night (path_at night start c.nodes k)
    solid k lt e = solid_plan night pins (path_at night start c.nodes k) formed (laws.partial pins start c.nodes k formed cert.nodes (usable e) begins all_placed lt)

    all_right : AreRightIn c.version night start c.nodes (pos c.bound)
    all_right k lt = node_right night start c k (h.before.of_nodes k lt) laws.bounds (solid k lt) (λ d there. choice_is night laws.unit (path_at night start c.nodes k) d there)
        (λ other. (laws.cases c.nodes k cert.nodes lt other).some) (λ later. let l = laws.choice c.nodes k cert.nodes later lt in (l.0, l.1))

    all_lean : AreLeanIn c.version night start c.nodes
    all_lean k later lt =
        let up = laws.parent c.nodes k cert.nodes later lt in
        let before = up.0 in
        let above : parent c.nodes k < length c.nodes = omega (arith, before, lt) in
        let l = laws.choice c.nodes k cert.nodes later lt in
        node_lean night start c k (h.before.of_nodes k lt) laws.bounds (solid (parent c.nodes k) above) (laws.path start c.nodes k cert.nodes later lt) later l.0 l.1
        (laws.cases c.nodes (parent c.nodes k) cert.nodes above (not_whole _ up.2)).some

    pub accepted : IsAccepted night pins plan.blocks plan.cost c
    accepted = record {
      feasible = feasible night plan range h.before.of_plan;
      keeps = keeps;
      states = states night plan h.before.of_plan;
      cost = h.cost;
      start = start;
      begins = begins;
      root = (laws.exactly c.version start c.nodes (pos c.bound) cert.nodes cert.some).1 all_right;
      lean = all_lean;
    }

  pub nothing_wrong : IsAccepted night pins plan.blocks plan.cost c → IsSoundVerdict night start plan c
  nothing_wrong h =
      let e : h.start ≡ start = laws.one_start pins h.start start h.begins begins in
      let right : AreRightIn c.version night start c.nodes (pos c.bound) =
      (laws.exactly c.version start c.nodes (pos c.bound) cert.nodes cert.some).0 (subst (λ (s : List Block). ProvesIn c.version night s c.nodes (pos c.bound) 0) e h.root) in
      let lean : AreLeanIn c.version night start c.nodes = subst (λ (s : List Block). AreLeanIn c.version night s c.nodes) e h.lean in
      record {
        before = record {
          of_plan = plan_sound night plan h.feasible h.states;
          of_nodes = λ k lt. node_sound night laws.one_bound laws.one_step start c k (root_choice k lt) (right k lt) (λ later. lean k later lt);
        };
        cost = h.cost;
      }

-- ---- verdicts

pub unsound : (night : Night) (start : List Block) (plan : Plan) (c : Certificate) (row : ℕ) (r : Reason) → IsFirstReason night start plan c row r
    → IsSoundVerdict night start plan c → ⊥
unsound night start plan c row r (inl p) h = h.before.of_plan p.fault p.first.is
unsound night start plan c row r (inr (inl n)) h = h.before.of_nodes n.node n.there n.first.fault r n.first.is
unsound night start plan c row r (inr (inr e)) h = e.other h.cost

module _ (night : Night) (laws : Laws night) (formed : IsInstance night) (pins : List Block) (plan : Plan) (c : Certificate) (range : IsPlanInRange night plan)
    (keeps : Keeps plan.blocks pins) (cert : IsCertificate night c)
    (usable : c.version ≡ Stacks → AreUsable night pins) where
  answered : (start : List Block) → IsStart night pins start → (v : Verdict) → Answers night start plan c v → Accepts v ↔ IsAccepted night pins plan.blocks plan.cost c
  answered start begins (verdict.Accepted bound) a = (λ _. accepted night laws formed pins start plan c range keeps cert usable begins a.1, λ _. tt)
  answered start begins (verdict.Rejected row r) a = (
    λ never. absurd never,
    λ h. unsound night start plan c row r a
        (nothing_wrong night laws formed pins start plan c range keeps cert usable begins h),
  )

  pub accepts : (v : Verdict) → IsVerdict night pins plan c v → Accepts v ↔ IsAccepted night pins plan.blocks plan.cost c
  accepts v h = answered h.start h.begins v h.answers
