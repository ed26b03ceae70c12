-- There is one first reason.
use Rattle.std.specs.Prelude.{Option, Some, None, Err}
use Rattle.std.specs.Option.{IsSomeAnd}
use Rattle.std.proofs.Common.{◌≡◌, ⊎_elim, inl, inr, ℕ, ◌+◌, ◌<◌, ℤ, pos, List, refl, sym, ap, subst, ◌∙◌, arith}
use Rattle.std.proofs.lemmas.Bool.{cases_lt}
use Rattle.shunt_base.specs.declared.ids.Side.{Side}
use Rattle.shunt_base.specs.declared.ids.Side.TheVariants.{A, B}
use Rattle.shunt_base.specs.declared.ids.TrackId.{TrackId}
use Rattle.shunt_base.specs.declared.duals.Case.{Case}
use Rattle.shunt_stays.specs.defs.Events.{Move}
use Rattle.shunt_stays.specs.defs.Run.{Stop}
use Rattle.shunt_stays.specs.defs.Run.Stop.{Blocked, Over}
use Rattle.shunt_instance.specs.defs.Words.{train_at, kind_at}
use Rattle.shunt_instance.specs.defs.Instance.{Night, unit_at, make_unit}
use Rattle.shunt_blocks.specs.declared.records.Shape.{Shape}
use Rattle.shunt_blocks.specs.declared.records.Block.{Block}
use Rattle.shunt_blocks.specs.declared.records.Park.{Park}
use Rattle.shunt_blocks.specs.defs.Shapes.{AreRunsWithin, unit_from}
use Rattle.shunt_choices.specs.defs.Paths.{masks_of, next_of}
use Rattle.shunt_choices.specs.defs.Choices.{Choice as PathChoice, IsChoice, ParkBefore, OptionBefore, longer_by, chosen}
use Rattle.shunt_prices.specs.defs.Limits.{case_at}
use Rattle.shunt_prices.specs.defs.Cases.{weight_with, duals_over}
use Rattle.shunt_plan.specs.declared.records.Plan.{Plan}
use Rattle.shunt_proof.specs.declared.records.Choice.{Choice}
use Rattle.shunt_proof.specs.declared.records.NodeKind.TheVariants.{Leaf, Whole}
use Rattle.shunt_proof.specs.declared.records.Certificate.{Certificate}
use Rattle.shunt_proof.specs.defs.CertificateRows.{row_of}
use Rattle.shunt_proof.specs.defs.Trees.{path_at, duals_at, best_before}
use Rattle.shunt_proof.specs.defs.Versions.{IsStepBoundIn}
use Rattle.shunt_checker.specs.declared.verdict.PlanFault.{PlanFault}
use Rattle.shunt_checker.specs.declared.verdict.PlanFault.TheVariants as fault
use Rattle.shunt_checker.specs.declared.verdict.Reason.{Reason}
use Rattle.shunt_checker.specs.declared.verdict.Reason.TheVariants as reason
use Rattle.shunt_checker.specs.declared.verdict.Verdict.{Verdict}
use Rattle.shunt_checker.specs.declared.verdict.Verdict.TheVariants as verdict
use Rattle.shunt_checker.specs.defs.PlanFaults.{IsPlanFault, IsFirstPlanFault, EndsBlocked, EndsOver, StopsBy, plan_rank, plan_number}
use Rattle.shunt_checker.specs.defs.NodeFaults.{NodeFault, NotThere, Twice, NotLean, OtherKind, Broken, LowLeaf, LowWhole, Missing, IsNodeFault, IsFirstNodeFault, EarlierChoice, EarlierPlace, node_rank}
use Rattle.shunt_checker.specs.defs.Verdicts.{IsFirstReason, Answers, IsVerdict}
use Rattle.shunt_checker.proofs.Exactly.{Laws, unsound}
use Rattle.shunt_checker.specs.defs.Children.{said}
use Rattle.shunt_checker.proofs.Searches.{shape_is}
use Rattle.shunt_checker.proofs.Acceptance.{one_choice}

-- neither number is less
level : (a b : ℕ) → (a < b → ⊥) → (b < a → ⊥) → a ≡ b
level a b never back = ⊎_elim (λ less. absurd (never less)) (λ past. ⊎_elim (λ less. absurd (back less)) (λ le. omega (arith, past, le)) (cases_lt b a)) (cases_lt a b)

-- ---- plans

module _ (night : Night) (plan : Plan) where
  one_stop : (s t : Stop) → StopsBy night plan.blocks s → StopsBy night plan.blocks t → s ≡ t
  one_stop s t h k =
      let e : Err s ≡ Err t = sym h ∙ k in
      cc

  not_one : (m n : Move) (load : ℕ) → StopsBy night plan.blocks (Blocked m) → StopsBy night plan.blocks (Over n load) → ⊥
  not_one m n load h k = let e : Blocked m ≡ Over n load = one_stop (Blocked m) (Over n load) h k in cc

  one_blocked : {id other : ℕ} → EndsBlocked night plan.blocks id → EndsBlocked night plan.blocks other → id ≡ other
  one_blocked h k =
      let e : Blocked h.move ≡ Blocked k.move = one_stop (Blocked h.move) (Blocked k.move) h.stops k.stops in
      let m : h.move ≡ k.move = cc in
      sym h.named ∙ (ap (λ (x : Move). x.key.id) m ∙ k.named)

  one_over : {id load other most : ℕ} → EndsOver night plan.blocks id load → EndsOver night plan.blocks other most → (id ≡ other) × (load ≡ most)
  one_over {id} {load} {other} {most} h k =
      let e : Over h.move load ≡ Over k.move most = one_stop (Over h.move load) (Over k.move most) h.stops k.stops in
      let m : h.move ≡ k.move = cc in
      let n : load ≡ most = cc in
      (sym h.named ∙ (ap (λ (x : Move). x.key.id) m ∙ k.named), n)

  one_plan : (f g : PlanFault) → IsPlanFault night plan f → IsPlanFault night plan g → plan_rank f ≡ plan_rank g → plan_number f ≡ plan_number g → f ≡ g
  one_plan (fault.BadBlock id) (fault.BadBlock id2) h k rank number = ap (λ (n : ℕ). fault.BadBlock n) number
  one_plan (fault.BadBlock id) (fault.Unit u2) h k rank number = absurd (omega (arith, rank))
  one_plan (fault.BadBlock id) (fault.Place v2) h k rank number = absurd (omega (arith, rank))
  one_plan (fault.BadBlock id) (fault.Blocked id2) h k rank number = absurd (omega (arith, rank))
  one_plan (fault.BadBlock id) (fault.Over id2 load2) h k rank number = absurd (omega (arith, rank))
  one_plan (fault.BadBlock id) (fault.Cost stated2 real2) h k rank number = absurd (omega (arith, rank))
  one_plan (fault.Unit u) (fault.BadBlock id2) h k rank number = absurd (omega (arith, rank))
  one_plan (fault.Unit u) (fault.Unit u2) h k rank number = ap (λ (n : ℕ). fault.Unit n) number
  one_plan (fault.Unit u) (fault.Place v2) h k rank number = absurd (omega (arith, rank))
  one_plan (fault.Unit u) (fault.Blocked id2) h k rank number = absurd (omega (arith, rank))
  one_plan (fault.Unit u) (fault.Over id2 load2) h k rank number = absurd (omega (arith, rank))
  one_plan (fault.Unit u) (fault.Cost stated2 real2) h k rank number = absurd (omega (arith, rank))
  one_plan (fault.Place v) (fault.BadBlock id2) h k rank number = absurd (omega (arith, rank))
  one_plan (fault.Place v) (fault.Unit u2) h k rank number = absurd (omega (arith, rank))
  one_plan (fault.Place v) (fault.Place v2) h k rank number = ap (λ (n : ℕ). fault.Place n) number
  one_plan (fault.Place v) (fault.Blocked id2) h k rank number = absurd (omega (arith, rank))
  one_plan (fault.Place v) (fault.Over id2 load2) h k rank number = absurd (omega (arith, rank))
  one_plan (fault.Place v) (fault.Cost stated2 real2) h k rank number = absurd (omega (arith, rank))
  one_plan (fault.Blocked id) (fault.BadBlock id2) h k rank number = absurd (omega (arith, rank))
  one_plan (fault.Blocked id) (fault.Unit u2) h k rank number = absurd (omega (arith, rank))
  one_plan (fault.Blocked id) (fault.Place v2) h k rank number = absurd (omega (arith, rank))
  one_plan (fault.Blocked id) (fault.Blocked id2) h k rank number = ap (λ (n : ℕ). fault.Blocked n) (one_blocked h k)
  one_plan (fault.Blocked id) (fault.Over id2 load2) h k rank number = absurd (not_one h.move k.move _ h.stops k.stops)
  one_plan (fault.Blocked id) (fault.Cost stated2 real2) h k rank number = absurd (omega (arith, rank))
  one_plan (fault.Over id load) (fault.BadBlock id2) h k rank number = absurd (omega (arith, rank))
  one_plan (fault.Over id load) (fault.Unit u2) h k rank number = absurd (omega (arith, rank))
  one_plan (fault.Over id load) (fault.Place v2) h k rank number = absurd (omega (arith, rank))
  one_plan (fault.Over id load) (fault.Blocked id2) h k rank number = absurd (not_one k.move h.move _ k.stops h.stops)
  one_plan (fault.Over id load) (fault.Over id2 load2) h k rank number = let e = one_over h k in ap (λ (n : ℕ). fault.Over n load) e.0 ∙ ap (λ (n : ℕ). fault.Over id2 n) e.1
  one_plan (fault.Over id load) (fault.Cost stated2 real2) h k rank number = absurd (omega (arith, rank))
  one_plan (fault.Cost stated real) (fault.BadBlock id2) h k rank number = absurd (omega (arith, rank))
  one_plan (fault.Cost stated real) (fault.Unit u2) h k rank number = absurd (omega (arith, rank))
  one_plan (fault.Cost stated real) (fault.Place v2) h k rank number = absurd (omega (arith, rank))
  one_plan (fault.Cost stated real) (fault.Blocked id2) h k rank number = absurd (omega (arith, rank))
  one_plan (fault.Cost stated real) (fault.Over id2 load2) h k rank number = absurd (omega (arith, rank))
  one_plan (fault.Cost stated real) (fault.Cost stated2 real2) h k rank number = ap (λ (n : ℕ). fault.Cost n real) (h.0 ∙ sym k.0)
      ∙ ap (λ (n : ℕ). fault.Cost stated2 n) (h.1 ∙ sym k.1)

  pub one_plan_fault : (f g : PlanFault) → IsFirstPlanFault night plan f → IsFirstPlanFault night plan g → f ≡ g
  one_plan_fault f g h k =
      let rank = level (plan_rank f) (plan_rank g) (λ less. k.first f h.is (inl less)) (λ less. h.first g k.is (inl less)) in
      let number = level (plan_number f) (plan_number g) (λ less. k.first f h.is (inr (rank, less))) (λ less. h.first g k.is (inr (sym rank, less))) in
      one_plan f g h.is k.is rank number

-- ---- choices

side_level : (a b : Side) → ((a ≡ A) × (b ≡ B) → ⊥) → ((b ≡ A) × (a ≡ B) → ⊥) → a ≡ b
side_level A A never back = refl
side_level A B never back = absurd (never (refl, refl))
side_level B A never back = absurd (back (refl, refl))
side_level B B never back = refl

park_level : (k l : Park) → (ParkBefore k l → ⊥) → (ParkBefore l k → ⊥) → k ≡ l
park_level k l never back =
    let number = level k.track.0 l.track.0 (λ less. never (inl less)) (λ less. back (inl less)) in
    let track : k.track ≡ l.track = ap (λ (n : ℕ). record { 0 = n }) number in
    let first = side_level k.side_in l.side_in (λ before. never (inr (track, inl before))) (λ before. back (inr (sym track, inl before))) in
    let second = side_level k.side_out l.side_out (λ before. never (inr (track, inr (first, before)))) (λ before. back (inr (sym track, inr (sym first, before)))) in
    ap (λ (t : TrackId). record { track = t; side_in = k.side_in; side_out = k.side_out }) track
    ∙ (ap (λ (a : Side). record { track = l.track; side_in = a; side_out = k.side_out }) first
    ∙ ap (λ (a : Side). record { track = l.track; side_in = l.side_in; side_out = a }) second)

option_level : (o p : Option Park) → (OptionBefore o p → ⊥) → (OptionBefore p o → ⊥) → o ≡ p
option_level None None never back = refl
option_level None (Some l) never back = absurd (never tt)
option_level (Some k) None never back = absurd (back tt)
option_level (Some k) (Some l) never back = ap (λ (x : Park). Some x) (park_level k l never back)

module _ (night : Night) (unit_law : (s : Shape) (k : ℕ) → AreRunsWithin night s → k < s.n
    → unit_at night (unit_from night s + k) ≡ make_unit s.arr.0 (s.p + k) (kind_at (train_at night.arrive s.arr.0) (s.p + k))) where
  -- two shapes of the night, neither of which comes before the other, are one
  pub choice_level : (d e : PathChoice) → AreRunsWithin night d.shape → AreRunsWithin night e.shape → (EarlierChoice night d e → ⊥) → (EarlierChoice night e d → ⊥) → d ≡ e
  choice_level d e wd we never back =
      let unit = level (unit_from night d.shape) (unit_from night e.shape) (λ less. never (inl less)) (λ less. back (inl less)) in
      let n = level d.shape.n e.shape.n (λ less. never (inr (unit, inl (inl less)))) (λ less. back (inr (sym unit, inl (inl less)))) in
      let dep = level d.shape.dep.0 e.shape.dep.0 (λ less. never (inr (unit, inl (inr (n, inl less))))) (λ less. back (inr (sym unit, inl (inr (sym n, inl less))))) in
      let q = level d.shape.q e.shape.q (λ less. never (inr (unit, inl (inr (n, inr (dep, less)))))) (λ less. back (inr (sym unit, inl (inr (sym n, inr (sym dep, less)))))) in
      let shape : d.shape ≡ e.shape =
      shape_is night unit_law d.shape (unit_from night e.shape) e.shape.n e.shape.dep.0 e.shape.q wd unit n dep q
      ∙ sym (shape_is night unit_law e.shape (unit_from night e.shape) e.shape.n e.shape.dep.0 e.shape.q we refl refl refl refl) in
      let option = option_level d.option e.option (λ before. never (inr (unit, inr (shape, before)))) (λ before. back (inr (sym unit, inr (sym shape, before)))) in
      ap (λ (s : Shape). record { shape = s; option = d.option }) shape ∙ ap (λ (o : Option Park). record { shape = e.shape; option = o }) option

-- ---- nodes

there_within : (night : Night) (path : List Block) (o : Option ℕ) (d : PathChoice) → IsSomeAnd o (λ u. IsChoice night (masks_of night path) u d) → AreRunsWithin night d.shape
there_within night path None d never = absurd never
there_within night path (Some u) d h = h.shape.shape.within

module _ (night : Night) (laws : Laws night) (start : List Block) (c : Certificate) (k : ℕ) where
  abbrev path : List Block
  path = path_at night start c.nodes k

  abbrev cases : List Case
  cases = duals_at c.nodes k

  abbrev told : ℕ → PathChoice → Reason
  told m d = reason.DualBroken (chosen 0 d) (weight_with night (case_at cases m) d.shape d.option) (duals_over night (case_at cases m).duals d.shape)

  one_broken : (m n : ℕ) (d e : PathChoice) (r s : Reason) → IsNodeFault night start c k (Broken m d) r → IsNodeFault night start c k (Broken n e) s
      → (EarlierPlace night (Broken m d) (Broken n e) → ⊥) → (EarlierPlace night (Broken n e) (Broken m d) → ⊥) → r ≡ s
  one_broken m n d e r s f g never back =
      let case = level m n (λ less. never (inl less)) (λ less. back (inl less)) in
      let choice = choice_level night laws.unit d e f.1.free.shape.shape.within g.1.free.shape.shape.within (λ before. never (inr (case, before)))
      (λ before. back (inr (sym case, before))) in
      f.2 ∙ (ap (λ (x : ℕ). told x d) case ∙ (ap (λ (x : PathChoice). told n x) choice ∙ sym g.2))

  one_missing : (d e : PathChoice) (r s : Reason) → IsNodeFault night start c k (Missing d) r → IsNodeFault night start c k (Missing e) s
      → (EarlierPlace night (Missing d) (Missing e) → ⊥) → (EarlierPlace night (Missing e) (Missing d) → ⊥) → r ≡ s
  one_missing d e r s f g never back =
      let choice = choice_level night laws.unit d e (there_within night path (next_of (masks_of night path)) d f.4.there)
      (there_within night path (next_of (masks_of night path)) e g.4.there) never back in
      let stated : f.1 ≡ g.1 = ap (λ (x : PathChoice). said x) (sym f.2 ∙ (choice ∙ g.2)) in
      let bound : f.3 ≡ g.3 = laws.one_step c.version path (longer_by path e) cases f.3 g.3
      (subst (λ (x : PathChoice). IsStepBoundIn c.version night path (longer_by path x) cases f.3) choice f.4.low.is) g.4.low.is in
      f.5 ∙ (ap (λ (x : Choice). reason.ChildMissing x f.3) stated ∙ (ap (λ (x : ℤ). reason.ChildMissing g.1 x) bound ∙ sym g.5))

  one_told : (f g : NodeFault) (r s : Reason) → IsNodeFault night start c k f r → IsNodeFault night start c k g s → node_rank f ≡ node_rank g
      → (EarlierPlace night f g → ⊥) → (EarlierPlace night g f → ⊥) → r ≡ s
  one_told NotThere NotThere r s f g rank never back = f.3 ∙ (ap (λ (x : Choice). reason.ChildNotThere x) (one_choice _ f.0 g.0 f.1 g.1) ∙ sym g.3)
  one_told NotThere Twice r s f g rank never back = absurd (omega (arith, rank))
  one_told NotThere NotLean r s f g rank never back = absurd (omega (arith, rank))
  one_told NotThere OtherKind r s f g rank never back = absurd (omega (arith, rank))
  one_told NotThere (Broken m2 d2) r s f g rank never back = absurd (omega (arith, rank))
  one_told NotThere LowLeaf r s f g rank never back = absurd (omega (arith, rank))
  one_told NotThere LowWhole r s f g rank never back = absurd (omega (arith, rank))
  one_told NotThere (Missing d2) r s f g rank never back = absurd (omega (arith, rank))
  one_told Twice NotThere r s f g rank never back = absurd (omega (arith, rank))
  one_told Twice Twice r s f g rank never back = f.3 ∙ (ap (λ (x : Choice). reason.ChildTwice x) (one_choice _ f.0 g.0 f.1 g.1) ∙ sym g.3)
  one_told Twice NotLean r s f g rank never back = absurd (omega (arith, rank))
  one_told Twice OtherKind r s f g rank never back = absurd (omega (arith, rank))
  one_told Twice (Broken m2 d2) r s f g rank never back = absurd (omega (arith, rank))
  one_told Twice LowLeaf r s f g rank never back = absurd (omega (arith, rank))
  one_told Twice LowWhole r s f g rank never back = absurd (omega (arith, rank))
  one_told Twice (Missing d2) r s f g rank never back = absurd (omega (arith, rank))
  one_told NotLean NotThere r s f g rank never back = absurd (omega (arith, rank))
  one_told NotLean Twice r s f g rank never back = absurd (omega (arith, rank))
  one_told NotLean NotLean r s f g rank never back = f.2 ∙ (ap (λ (x : ℤ). reason.ChildNotLean x (pos (best_before night start c.nodes k)))
      (laws.one_step c.version _ _ _ f.0 g.0 f.1.is g.1.is) ∙ sym g.2)
  one_told NotLean OtherKind r s f g rank never back = absurd (omega (arith, rank))
  one_told NotLean (Broken m2 d2) r s f g rank never back = absurd (omega (arith, rank))
  one_told NotLean LowLeaf r s f g rank never back = absurd (omega (arith, rank))
  one_told NotLean LowWhole r s f g rank never back = absurd (omega (arith, rank))
  one_told NotLean (Missing d2) r s f g rank never back = absurd (omega (arith, rank))
  one_told OtherKind NotThere r s f g rank never back = absurd (omega (arith, rank))
  one_told OtherKind Twice r s f g rank never back = absurd (omega (arith, rank))
  one_told OtherKind NotLean r s f g rank never back = absurd (omega (arith, rank))
  one_told OtherKind OtherKind r s f g rank never back = f.1 ∙ sym g.1
  one_told OtherKind (Broken m2 d2) r s f g rank never back = absurd (omega (arith, rank))
  one_told OtherKind LowLeaf r s f g rank never back = absurd (omega (arith, rank))
  one_told OtherKind LowWhole r s f g rank never back = absurd (omega (arith, rank))
  one_told OtherKind (Missing d2) r s f g rank never back = absurd (omega (arith, rank))
  one_told (Broken m d) NotThere r s f g rank never back = absurd (omega (arith, rank))
  one_told (Broken m d) Twice r s f g rank never back = absurd (omega (arith, rank))
  one_told (Broken m d) NotLean r s f g rank never back = absurd (omega (arith, rank))
  one_told (Broken m d) OtherKind r s f g rank never back = absurd (omega (arith, rank))
  one_told (Broken m d) (Broken m2 d2) r s f g rank never back = one_broken m m2 d d2 r s f g never back
  one_told (Broken m d) LowLeaf r s f g rank never back = absurd (omega (arith, rank))
  one_told (Broken m d) LowWhole r s f g rank never back = absurd (omega (arith, rank))
  one_told (Broken m d) (Missing d2) r s f g rank never back = absurd (omega (arith, rank))
  one_told LowLeaf NotThere r s f g rank never back = absurd (omega (arith, rank))
  one_told LowLeaf Twice r s f g rank never back = absurd (omega (arith, rank))
  one_told LowLeaf NotLean r s f g rank never back = absurd (omega (arith, rank))
  one_told LowLeaf OtherKind r s f g rank never back = absurd (omega (arith, rank))
  one_told LowLeaf (Broken m2 d2) r s f g rank never back = absurd (omega (arith, rank))
  one_told LowLeaf LowLeaf r s f g rank never back = f.3 ∙ (ap (λ (x : ℤ). reason.LeafLow x (pos c.bound)) (laws.one_bound c.version _ _ f.1 g.1 f.2.is g.2.is) ∙ sym g.3)
  one_told LowLeaf LowWhole r s f g rank never back = absurd (let e : Leaf ≡ Whole = sym f.0 ∙ g.0 in cc)
  one_told LowLeaf (Missing d2) r s f g rank never back = absurd (omega (arith, rank))
  one_told LowWhole NotThere r s f g rank never back = absurd (omega (arith, rank))
  one_told LowWhole Twice r s f g rank never back = absurd (omega (arith, rank))
  one_told LowWhole NotLean r s f g rank never back = absurd (omega (arith, rank))
  one_told LowWhole OtherKind r s f g rank never back = absurd (omega (arith, rank))
  one_told LowWhole (Broken m2 d2) r s f g rank never back = absurd (omega (arith, rank))
  one_told LowWhole LowLeaf r s f g rank never back = absurd (let e : Leaf ≡ Whole = sym g.0 ∙ f.0 in cc)
  one_told LowWhole LowWhole r s f g rank never back = f.2 ∙ sym g.2
  one_told LowWhole (Missing d2) r s f g rank never back = absurd (omega (arith, rank))
  one_told (Missing d) NotThere r s f g rank never back = absurd (omega (arith, rank))
  one_told (Missing d) Twice r s f g rank never back = absurd (omega (arith, rank))
  one_told (Missing d) NotLean r s f g rank never back = absurd (omega (arith, rank))
  one_told (Missing d) OtherKind r s f g rank never back = absurd (omega (arith, rank))
  one_told (Missing d) (Broken m2 d2) r s f g rank never back = absurd (omega (arith, rank))
  one_told (Missing d) LowLeaf r s f g rank never back = absurd (omega (arith, rank))
  one_told (Missing d) LowWhole r s f g rank never back = absurd (omega (arith, rank))
  one_told (Missing d) (Missing d2) r s f g rank never back = one_missing d d2 r s f g never back

  pub one_node_reason : (r s : Reason) → IsFirstNodeFault night start c k r → IsFirstNodeFault night start c k s → r ≡ s
  one_node_reason r s f g =
      let rank = level (node_rank f.fault) (node_rank g.fault) (λ less. g.first f.fault r f.is (inl less)) (λ less. f.first g.fault s g.is (inl less)) in
      one_told f.fault g.fault r s f.is g.is rank (λ before. g.first f.fault r f.is (inr (rank, before))) (λ before. f.first g.fault s g.is (inr (sym rank, before)))

-- ---- reasons

module _ (night : Night) (laws : Laws night) (start : List Block) (plan : Plan) (c : Certificate) where
  record AreOne (row other : ℕ) (r s : Reason) : Type 0 where
    rows : row ≡ other
    reasons : r ≡ s

  one_reason : (row other : ℕ) (r s : Reason) → IsFirstReason night start plan c row r → IsFirstReason night start plan c other s → AreOne row other r s
  one_reason row other r s (inl p) (inl q) = record {
    rows = p.at ∙ sym q.at;
    reasons = p.told ∙ (ap (λ (f : PlanFault). reason.PlanFinding f) (one_plan_fault night plan p.fault q.fault p.first q.first) ∙ sym q.told);
  }
  one_reason row other r s (inl p) (inr (inl n)) = absurd (n.before.of_plan p.fault p.first.is)
  one_reason row other r s (inl p) (inr (inr e)) = absurd (e.before.of_plan p.fault p.first.is)
  one_reason row other r s (inr (inl n)) (inl p) = absurd (n.before.of_plan p.fault p.first.is)
  one_reason row other r s (inr (inl n)) (inr (inl m)) =
      let node = level n.node m.node (λ less. m.before.of_nodes n.node less n.first.fault r n.first.is) (λ less. n.before.of_nodes m.node less m.first.fault s m.first.is) in
      record {
        rows = n.at ∙ (ap (λ (k : ℕ). row_of c.nodes k) node ∙ sym m.at);
        reasons = one_node_reason night laws start c m.node r s (subst (λ (k : ℕ). IsFirstNodeFault night start c k r) node n.first) m.first;
      }
  one_reason row other r s (inr (inl n)) (inr (inr e)) = absurd (e.before.of_nodes n.node n.there n.first.fault r n.first.is)
  one_reason row other r s (inr (inr e)) (inl p) = absurd (e.before.of_plan p.fault p.first.is)
  one_reason row other r s (inr (inr e)) (inr (inl n)) = absurd (e.before.of_nodes n.node n.there n.first.fault s n.first.is)
  one_reason row other r s (inr (inr e)) (inr (inr f)) = record { rows = e.at ∙ sym f.at; reasons = e.told ∙ sym f.told }

  one_answer : (v w : Verdict) → Answers night start plan c v → Answers night start plan c w → v ≡ w
  one_answer (verdict.Accepted b) (verdict.Accepted d) a h = ap (λ (n : ℕ). verdict.Accepted n) (a.0 ∙ sym h.0)
  one_answer (verdict.Accepted b) (verdict.Rejected row r) a h = absurd (unsound night start plan c row r h a.1)
  one_answer (verdict.Rejected row r) (verdict.Accepted b) a h = absurd (unsound night start plan c row r a h.1)
  one_answer (verdict.Rejected row r) (verdict.Rejected other s) a h =
      let one = one_reason row other r s a h in
      ap (λ (n : ℕ). verdict.Rejected n r) one.rows ∙ ap (λ (x : Reason). verdict.Rejected other x) one.reasons

pub one_verdict : (night : Night) (laws : Laws night) (pins : List Block) (plan : Plan) (c : Certificate) (v w : Verdict) → IsVerdict night pins plan c v
    → IsVerdict night pins plan c w → v ≡ w
one_verdict night laws pins plan c v w h k =
    let e : k.start ≡ h.start = laws.one_start pins k.start h.start k.begins h.begins in
    one_answer night laws h.start plan c v w h.answers (subst (λ (s : List Block). Answers night s plan c w) e k.answers)
