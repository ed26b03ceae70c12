-- The findings of a plan: those of its blocks, and that it states another cost.
use Rattle.std.proofs.Common.{◌≡◌, ◌≢◌, inl, inr, ⊎_elim, ◌↔◌, ℕ, Bool, true, false, List, [], ◌∷◌, ◌++◌, refl, sym, subst, ap, ◌∙◌, arith}
use Rattle.std.specs.Prelude.{All, not, ◌==◌}
use Rattle.std.proofs.lemmas.Bool.{not-true, not_from_false, eqb-false, ne_eqb, eq-eqb}
use Rattle.std.proofs.lemmas.Bool.Decides.{nat_tests}
use Rattle.shunt_lists.proofs.Members.{in_left, in_right, in_cases, in_place}
use Rattle.shunt_lists.specs.defs.Members.{In}
use Rattle.shunt_instance.specs.defs.Instance.{Night, IsInstance}
use Rattle.shunt_blocks.specs.declared.records.Block.{Block}
use Rattle.shunt_blocks.specs.defs.Lists.{AreInRange, IsFeasible, total_cost}
use Rattle.shunt_plan.specs.declared.records.Plan.{Plan}
use Rattle.shunt_audit.specs.declared.types.Finding.{Finding}
use Rattle.shunt_audit.specs.declared.types.Finding.TheVariants.{UnitBare, UnitTwice, PlaceBare, PlaceTwice, WrongType, TooSoon, NoRouteIn, NoRouteOut, Crossing, TooLong, StatedCost}
use Rattle.shunt_audit.specs.defs.Findings.{IsFinding, IsOfNight, AreFindings, AreSorted, kind_of}
use Rattle.shunt_audit.specs.defs.Listed.{noted, findings_in}
use Rattle.shunt_audit.specs.defs.Plans.{IsPlanFinding, ArePlanFindings, plan_findings}
use Rattle.shunt_audit.proofs.Lists.{of_noted, to_noted}
use Rattle.shunt_audit.proofs.Order.{Rising, in_order, of_order, unique, one_kind, joined, noted_rises}
use Rattle.shunt_audit.proofs.Exactly.{exactly, ordered, listed_stretch}
use Rattle.shunt_audit.proofs.BlockStays.{BlockLaws}
use Rattle.shunt_audit.proofs.Feasible.{none_where_feasible}

abbrev misstated : Night → Plan → Bool
misstated night plan = not (plan.cost == total_cost night plan.blocks)

abbrev stated : Night → Plan → Finding
stated night plan = StatedCost plan.cost (total_cost night plan.blocks)

differ : (a b : ℕ) → not (a == b) ≡ true → a ≢ b
differ a b t = eqb-false a b (not-true (a == b) t)

told_apart : (a b : ℕ) → a ≢ b → not (a == b) ≡ true
told_apart a b ne = not_from_false (a == b) (ne_eqb a b ne)

plan_from : (night : Night) (plan : Plan) (f : Finding) → In f (plan_findings night plan) → IsPlanFinding night plan f
unfolding plan_findings
plan_from night plan f h = ⊎_elim (λ i. inl ((exactly night plan.blocks f).0 i))
    (λ i. let r = of_noted (misstated night plan) (stated night plan) f i in inr (record { is = r.1; differs = differ plan.cost (total_cost night plan.blocks) r.0 }))
    (in_cases (findings_in night plan.blocks) (noted (misstated night plan) (stated night plan)) f h)

plan_to : (night : Night) (plan : Plan) (f : Finding) → IsPlanFinding night plan f → In f (plan_findings night plan)
unfolding plan_findings
plan_to night plan f (inl h) = in_left (findings_in night plan.blocks) (noted (misstated night plan) (stated night plan)) f ((exactly night plan.blocks f).1 h)
plan_to night plan f (inr h) = in_right (findings_in night plan.blocks) (noted (misstated night plan) (stated night plan)) f
    (subst (λ (g : Finding). In g (noted (misstated night plan) (stated night plan))) (sym h.is)
    (to_noted (misstated night plan) (stated night plan) (told_apart plan.cost (total_cost night plan.blocks) h.differs)))

pub plan_exactly : (night : Night) (plan : Plan) (f : Finding) → In f (plan_findings night plan) ↔ IsPlanFinding night plan f
plan_exactly night plan f = (λ i. plan_from night plan f i, λ h. plan_to night plan f h)

plan_rises : (night : Night) (plan : Plan) → AreInRange night plan.blocks → Rising (plan_findings night plan)
unfolding plan_findings
plan_rises night plan h =
    (joined 1 10 11 11 (findings_in night plan.blocks) (noted (misstated night plan) (stated night plan)) (omega arith) (omega arith) (omega arith)
    (listed_stretch night plan.blocks h)
    (one_kind 11 (noted (misstated night plan) (stated night plan)) (noted_rises (misstated night plan) (stated night plan))
    (λ f i. ap kind_of (of_noted (misstated night plan) (stated night plan) f i).1))).rises

pub plan_ordered : (night : Night) (plan : Plan) → AreInRange night plan.blocks → AreSorted (plan_findings night plan)
plan_ordered night plan h = in_order (plan_findings night plan) (plan_rises night plan h)

pub only_plan : (night : Night) (plan : Plan) (fs : List Finding) → AreInRange night plan.blocks → AreSorted fs → ((f : Finding) → In f fs ↔ IsPlanFinding night plan f)
    → fs ≡ plan_findings night plan
only_plan night plan fs h order same =
    unique fs (plan_findings night plan) (of_order fs order) (plan_rises night plan h)
    (λ f. (λ i. plan_to night plan f ((same f).0 i), λ i. (same f).1 (plan_from night plan f i)))

-- ---- none

front_none : (fs gs : List Finding) → (fs ++ gs ≡ []) → fs ≡ []
front_none [] gs e = refl
front_none (f ∷ fs) gs e = absurd (cc)

back_none : (fs gs : List Finding) → (fs ++ gs ≡ []) → gs ≡ []
back_none [] gs e = e
back_none (f ∷ fs) gs e = absurd (cc)

unnoted : (t : Bool) (f : Finding) → noted t f ≡ [] → t ≡ false
unnoted true f e = absurd (cc)
unnoted false f e = refl

not_noted : (t : Bool) (f : Finding) → t ≡ false → noted t f ≡ []
not_noted true f e = absurd (cc)
not_noted false f e = refl

alike : (a b : ℕ) → not (a == b) ≡ false → a ≡ b
alike a b e = grind (arith, nat_tests)

told_alike : (a b : ℕ) → a ≡ b → not (a == b) ≡ false
told_alike a b e = ap not (eq-eqb a b e)

pub plan_none : (laws : BlockLaws) (night : Night) (plan : Plan) → IsInstance night → AreInRange night plan.blocks
    → (plan_findings night plan ≡ []) ↔ IsFeasible night plan.blocks × (plan.cost ≡ total_cost night plan.blocks)
unfolding plan_findings
plan_none laws night plan n h =
    let law = none_where_feasible laws night plan.blocks n h in
    let more = noted (misstated night plan) (stated night plan) in (
      λ e. (
        law.0 (front_none (findings_in night plan.blocks) more e),
        alike plan.cost (total_cost night plan.blocks)
            (unnoted (misstated night plan) (stated night plan) (back_none (findings_in night plan.blocks) more e)),
      ),
      λ p. ap (λ (l : List Finding). l ++ more) (law.1 p.0) ∙ not_noted (misstated night plan) (stated night plan) (told_alike plan.cost (total_cost night plan.blocks) p.1),
    )

-- ---- the numbers that findings carry

of_blocks : (night : Night) (blocks : List Block) (f : Finding) → IsFinding night blocks f → IsOfNight night f
of_blocks night blocks (UnitBare u) h = h.0
of_blocks night blocks (UnitTwice u) h = h.0
of_blocks night blocks (PlaceBare v) h = h.0
of_blocks night blocks (PlaceTwice v) h = h.0
of_blocks night blocks (WrongType id) h = tt
of_blocks night blocks (TooSoon id) h = tt
of_blocks night blocks (NoRouteIn id) h = tt
of_blocks night blocks (NoRouteOut id) h = tt
of_blocks night blocks (Crossing i j) h = tt
of_blocks night blocks (TooLong id load) h = tt
of_blocks night blocks (StatedCost stated real) h = tt

of_plan : (night : Night) (plan : Plan) (f : Finding) → IsPlanFinding night plan f → IsOfNight night f
of_plan night plan f (inl h) = of_blocks night plan.blocks f h
of_plan night plan f (inr h) = subst (IsOfNight night) (sym h.is) tt

pub blocks_numbered : (night : Night) (blocks : List Block) → All (IsOfNight night) (findings_in night blocks)
blocks_numbered night blocks k d lt = of_blocks night blocks _ ((exactly night blocks _).0 (in_place (findings_in night blocks) k d lt))

pub plan_numbered : (night : Night) (plan : Plan) → All (IsOfNight night) (plan_findings night plan)
plan_numbered night plan k d lt = of_plan night plan _ ((plan_exactly night plan _).0 (in_place (plan_findings night plan) k d lt))

-- ---- the lists that are found

pub blocks_found : (night : Night) (blocks : List Block) → AreInRange night blocks → AreFindings night blocks (findings_in night blocks)
blocks_found night blocks h = record { in_order = ordered night blocks h; exactly = exactly night blocks }

pub plan_found : (night : Night) (plan : Plan) → AreInRange night plan.blocks → ArePlanFindings night plan (plan_findings night plan)
plan_found night plan h = record { in_order = plan_ordered night plan h; exactly = plan_exactly night plan }
