-- When each status comes of a command that searches, and what its files then say.
use Rattle.std.proofs.Common.{◌≡◌, ◌≢◌, ◌<◌, ◌≤◌, Some, sym, subst, ap, inl, inr, refl, ⊎_elim, Bool, true, false, Result, Ok, Err, List, length, map, ◌∙◌, ℕ, pos, arith}
use Rattle.std.proofs.lemmas.Bool.{eqb-true, eq-eqb}
use Rattle.std.specs.Prelude.{◌↔◌, ◌⊎◌, ◌==◌, ℤ, if◌then◌else◌}
use Rattle.shunt_store.specs.defs.Files.{Files}
use Rattle.shunt_store.specs.defs.Causes.{Rose}
use Rattle.shunt_instance.specs.defs.Instance.{Night, IsInstance}
use Rattle.shunt_matching.specs.defs.Nights.{HasMatching, HasNoMatching}
use Rattle.shunt_blocks.specs.declared.records.Block.{Block}
use Rattle.shunt_blocks.specs.defs.Lists.{IsFeasible, ShareNothing, total_cost}
use Rattle.shunt_blocks.specs.defs.Pins.{AreUsable, Keeps, without_id}
use Rattle.shunt_choices.specs.defs.Paths.{IsPartialPlan}
use Rattle.shunt_choices.specs.defs.Choices.{partial_plans}
use Rattle.shunt_plan.specs.declared.records.Plan.{Plan}
use Rattle.shunt_proof.specs.declared.records.Node.{Node}
use Rattle.shunt_proof.specs.declared.records.Version.{Version}
use Rattle.shunt_proof.specs.declared.records.Certificate.{Certificate}
use Rattle.shunt_proof.specs.defs.Nodes.{AreNodes}
use Rattle.shunt_proof.specs.defs.Trees.{IsStart, path_at}
use Rattle.shunt_proof.specs.defs.Proves.{ProvesIn, IsPlaced, AreRightIn}
use Rattle.shunt_proof.specs.defs.Accepted.{IsAccepted}
use Rattle.shunt_inputs.specs.declared.answers.Outcome.{Outcome}
use Rattle.shunt_inputs.specs.declared.answers.Outcome.TheVariants as outcome
use Rattle.shunt.specs.declared.status.Status.{Status}
use Rattle.shunt.specs.declared.status.Status.TheVariants as status
use Rattle.shunt.specs.defs.Calls.{Call}
use Rattle.shunt_inputs.specs.defs.Inputs.{Agrees}
use Rattle.shunt_inputs.specs.defs.Replies.{Reply, Decided}
use Rattle.shunt.specs.defs.Replies.{Value, stated_in, IsAnswer}
use Rattle.shunt_planning.specs.defs.Planned.{IsPlanned, IsSoughtOver, planned, search_outcome}
use Rattle.shunt.specs.defs.Ends.{Seen, Ends, IsWhole, Yields, the_status}
use Rattle.shunt_planning.specs.defs.Found.{AreStated, IsBounded, IsCheapest, AreDifferent}
use Rattle.shunt.proofs.Exactly.{decides, has_reply, completes, reply_at, short_outcome, EndsAs}

-- ---- outcomes

outcome_done : (cost bound : ℕ) → search_outcome cost bound ≡ outcome.Done → bound ≡ cost
outcome_done cost bound e = at (bound == cost) refl e
  where
    at : (b : Bool) → (bound == cost) ≡ b → (if b then outcome.Done else outcome.Unfinished) ≡ outcome.Done → bound ≡ cost
    at true is e = eqb-true bound cost is
    at false is e = absurd (let h : outcome.Unfinished ≡ outcome.Done = e in cc)

done_outcome : (cost bound : ℕ) → bound ≡ cost → search_outcome cost bound ≡ outcome.Done
done_outcome cost bound e = ap (λ (b : Bool). if b then outcome.Done else outcome.Unfinished) (eq-eqb bound cost e)

outcome_unfinished : (cost bound : ℕ) → search_outcome cost bound ≡ outcome.Unfinished → bound ≡ cost → ⊥
outcome_unfinished cost bound e same = let h : outcome.Done ≡ outcome.Unfinished = sym (done_outcome cost bound same) ∙ e in cc

either : (cost bound : ℕ) → (search_outcome cost bound ≡ outcome.Done) ⊎ (search_outcome cost bound ≡ outcome.Unfinished)
either cost bound = at (bound == cost)
  where
    at : (b : Bool) → ((if b then outcome.Done else outcome.Unfinished) ≡ outcome.Done) ⊎ ((if b then outcome.Done else outcome.Unfinished) ≡ outcome.Unfinished)
    at true = inl refl
    at false = inr refl

-- ---- one search

module _ (pins : List Block) (units places : List Bool) (m : ℕ) (p k : List ℕ) (night : Night) (r : Reply) where
  pub planned_outcome : (is : IsPlanned pins m p k night r) → r.outcome ≡ search_outcome is.certificate.cost is.certificate.bound
  planned_outcome is = ap (λ (r : Reply). r.outcome) is.reply

  none_outcome : HasNoMatching night units places → IsSoughtOver pins units places m p k night r → r.outcome ≡ outcome.NoMatching
  none_outcome none (inl is) = absurd (none is.0.0 is.0.1)
  none_outcome none (inr is) = short_outcome night r is

  none_told : r.outcome ≡ outcome.NoMatching → IsSoughtOver pins units places m p k night r → HasNoMatching night units places
  none_told o (inr is) = is.none
  none_told o (inl (some, is)) = absurd (⊎_elim
      (λ e. (let h : outcome.Done ≡ outcome.NoMatching = sym e ∙ sym (planned_outcome is) ∙ o in cc))
      (λ e. (let h : outcome.Unfinished ≡ outcome.NoMatching = sym e ∙ sym (planned_outcome is) ∙ o in cc))
      (either is.certificate.cost is.certificate.bound))

  no_found : r.outcome ≡ outcome.Findings → IsSoughtOver pins units places m p k night r → ⊥
  no_found o (inr is) = let h : outcome.NoMatching ≡ outcome.Findings = sym (short_outcome night r is) ∙ o in cc
  no_found o (inl (some, is)) = ⊎_elim
      (λ e. (let h : outcome.Done ≡ outcome.Findings = sym e ∙ sym (planned_outcome is) ∙ o in cc))
      (λ e. (let h : outcome.Unfinished ≡ outcome.Findings = sym e ∙ sym (planned_outcome is) ∙ o in cc))
      (either is.certificate.cost is.certificate.bound)

  its_plan : (o : Outcome) → (o ≡ outcome.NoMatching → ⊥) → r.outcome ≡ o → IsSoughtOver pins units places m p k night r → IsPlanned pins m p k night r
  its_plan o other e (inl (some, is)) = is
  its_plan o other e (inr is) = absurd (other (sym e ∙ short_outcome night r is))

  all_fit : HasMatching night units places → partial_plans night pins < m → IsSoughtOver pins units places m p k night r → r.outcome ≡ outcome.Done
  all_fit matching fewer (inl (some, is)) = planned_outcome is ∙ done_outcome is.certificate.cost is.certificate.bound (is.meet.spent.optimal fewer)
  all_fit matching fewer (inr is) = absurd (is.none matching.0 matching.1)

-- that a proved bound is a bound
abbrev pub Bounds : Type 0
Bounds = (night : Night) (pins own : List Block) (stated : ℕ) (c : Certificate) (plan : List Block) → IsInstance night → AreNodes night c.nodes → ShareNothing night pins
    → IsAccepted night pins own stated c → IsFeasible night plan → Keeps plan pins → c.bound ≤ total_cost night plan

-- what the laws of certificates say
pub record TreeLaws : Type 0 where
  pub exactly : (version : Version) (night : Night) (start : List Block) (nodes : List Node) (L : ℤ) → AreNodes night nodes → 1 ≤ length nodes
      → ProvesIn version night start nodes L 0 ↔ AreRightIn version night start nodes L
  pub partial : (night : Night) (pins start : List Block) (nodes : List Node) (k : ℕ) → IsInstance night → AreNodes night nodes → AreUsable night pins → IsStart night pins start
      → ((i : ℕ) → 1 ≤ i → i < length nodes → IsPlaced night start nodes i) → k < length nodes → IsPartialPlan night pins (path_at night start nodes k)
  pub one : (night : Night) (start : List Block) (nodes : List Node) (j k : ℕ) → IsInstance night → AreNodes night nodes
      → ((i : ℕ) → 1 ≤ i → i < length nodes → IsPlaced night start nodes i)
      → j < length nodes → k < length nodes → map without_id (path_at night start nodes j) ≡ map without_id (path_at night start nodes k) → j ≡ k

module _ (bounds : Bounds) (pins : List Block) (m : ℕ) (p k : List ℕ) (night : Night) (r : Reply) (of_night : IsInstance night) (usable : AreUsable night pins)
    (is : IsPlanned pins m p k night r) where
  pub bounded : IsBounded night pins is.plan is.certificate.bound
  bounded = record {
    feasible = is.meet.accepted.feasible;
    keeps = is.meet.accepted.keeps;
    states = is.meet.accepted.states;
    least = λ other sound keeps. bounds night pins is.plan.blocks is.plan.cost is.certificate other of_night is.statable.nodes usable.apart is.meet.accepted sound keeps;
  }

  pub stated : AreStated night pins is.plan is.certificate
  stated = record { in_range = is.in_range; statable = is.statable; accepted = is.meet.accepted; above_root = is.meet.above_root; steady = is.meet.steady }

  cost_is : is.certificate.cost ≡ is.plan.cost
  cost_is = is.meet.accepted.cost ∙ sym is.meet.accepted.states

  pub cheapest : search_outcome is.certificate.cost is.certificate.bound ≡ outcome.Done → IsCheapest night pins is.plan × (is.certificate.bound ≡ is.plan.cost)
  cheapest e = let same = outcome_done is.certificate.cost is.certificate.bound e ∙ cost_is in (subst (IsBounded night pins is.plan) same bounded, same)

  pub below : search_outcome is.certificate.cost is.certificate.bound ≡ outcome.Unfinished → is.certificate.bound < is.plan.cost
  below e =
      let most = bounded.least is.plan.blocks bounded.feasible bounded.keeps in
      let states = bounded.states in
      let differs : is.certificate.bound ≢ is.plan.cost = λ same. outcome_unfinished is.certificate.cost is.certificate.bound e (same ∙ sym cost_is) in
      omega (arith, most, states, differs)

  different : (laws : TreeLaws) → is.certificate.bound < is.certificate.cost → AreDifferent night pins is.certificate.nodes m
  different laws below =
      let c = is.certificate in
      let a = is.meet.accepted in
      let right = (laws.exactly c.version night a.start c.nodes (pos c.bound) is.statable.nodes is.statable.some).0 a.root in
      let placed : (i : ℕ) → 1 ≤ i → i < length c.nodes → IsPlaced night a.start c.nodes i = λ i some lt. (right i lt).placed some in
      record {
        many_nodes = is.meet.spent.all below;
        start = a.start;
        begins = a.begins;
        partial = λ j lt. laws.partial night pins a.start c.nodes j of_night is.statable.nodes usable a.begins placed lt;
        differ = λ i j lt less same. laws.one night a.start c.nodes i j of_night is.statable.nodes placed lt less same;
      }

-- ---- a command that searches

abbrev pub EndsSearch : Status → Type 0
EndsSearch x = (x ≡ status.Done) ⊎ ((x ≡ status.NoMatching) ⊎ ((x ≡ status.Unfinished) ⊎ (x ≡ status.Memory)))

-- what a command searches for, over what its input files state: the night, the pins, what they leave out, where it is written, and on what
-- it searches
pub record Search (c : Call) : Type 1 where
  pub night : Value c → Night
  pub pins : Value c → List Block
  pub units : Value c → List Bool
  pub places : Value c → List Bool
  pub most : ℕ
  pub plan : List ℕ
  pub certificate : List ℕ
  pub ready : Value c → Type 0

-- the matching of what the pins leave
abbrev pub Matched : (c : Call) → Search c → Value c → Type 0
Matched c q v = HasMatching (q.night v) (q.units v) (q.places v)

abbrev pub Unmatched : (c : Call) → Search c → Value c → Type 0
Unmatched c q v = HasNoMatching (q.night v) (q.units v) (q.places v)

abbrev pub IsReady : (c : Call) → Search c → Value c → Type 0
IsReady c q v = q.ready v

abbrev pub Sought : (c : Call) → Search c → Value c → Reply → Type 0
Sought c q v r = IsSoughtOver (q.pins v) (q.units v) (q.places v) q.most q.plan q.certificate (q.night v) r

abbrev pub Found : (c : Call) → Search c → Value c → Reply → Type 0
Found c q v r = IsPlanned (q.pins v) q.most q.plan q.certificate (q.night v) r

-- an answer of findings on what isn't ready for a search, or that of a search
abbrev pub Seeks : (c : Call) → Search c → Value c → Reply → Type 0
Seeks c q v r = ((IsReady c q v → ⊥) × (r.outcome ≡ outcome.Findings)) ⊎ (IsReady c q v × Sought c q v r)

-- that this is how a command answers, which searches over usable pins alone
pub record Answers (c : Call) (q : Search c) : Type 0 where
  pub seeks : (files : Files) (v : Value c) (r : Reply) → stated_in c files ≡ Ok v → IsAnswer c v r → Seeks c q v r
  pub formed : (files : Files) (v : Value c) → stated_in c files ≡ Ok v → IsInstance (q.night v)
  pub usable : (v : Value c) → IsReady c q v → AreUsable (q.night v) (q.pins v)

-- a reply with this outcome, over accepted files
record Tells (c : Call) (q : Search c) (o : Outcome) (old new : Seen) : Type 0 where
  files : Files
  agrees : Agrees old.files files
  value : Value c
  ok : stated_in c files ≡ Ok value
  reply : Reply
  outcome : reply.outcome ≡ o
  seeks : Seeks c q value reply
  whole : IsWhole reply old new

-- a reply with this outcome, which is neither that of findings nor that of a shortage, has both
pub record Finds (c : Call) (q : Search c) (o : Outcome) (old new : Seen) : Type 0 where
  pub files : Files
  pub agrees : Agrees old.files files
  pub value : Value c
  pub ok : stated_in c files ≡ Ok value
  pub formed : IsInstance (q.night value)
  pub usable : AreUsable (q.night value) (q.pins value)
  pub reply : Reply
  pub is : Found c q value reply
  pub outcome : search_outcome is.certificate.cost is.certificate.bound ≡ o
  pub whole : IsWhole (planned o q.plan q.certificate (q.night value) is.plan is.certificate) old new

module _ (c : Call) (q : Search c) (answers : Answers c q) where
  answer_at : (files : Files) (v : Value c) (r : Reply) → stated_in c files ≡ Ok v → Decided (stated_in c files) (IsAnswer c) r → Seeks c q v r
  answer_at files v r ok is = answers.seeks files v r ok (subst (λ x. Decided x (IsAnswer c) r) ok is)

  -- an outcome of accepted files is that of an answer on what they state
  tells : (x : Result (Value c) (List ℕ)) (r : Reply) (o : Outcome) → (o ≡ outcome.Input → ⊥) → Decided x (IsAnswer c) r → r.outcome ≡ o → (v : Value c) × (x ≡ Ok v)
  tells (Err text) r o other is e = absurd (other (sym e ∙ ap (λ (r : Reply). r.outcome) is))
  tells (Ok v) r o other is e = (v, refl)

  told : (o : Outcome) (old new : Seen) → (o ≡ outcome.Input → ⊥) → Ends c old new (the_status o) → Tells c q o old new
  told o old new other ends =
      let h = has_reply c o old new ends in
      let at = tells (stated_in c h.1.0) h.0 o other h.1.2 h.2 in
      record {
        files = h.1.0;
        agrees = h.1.1;
        value = at.0;
        ok = at.1;
        reply = h.0;
        outcome = h.2;
        seeks = answer_at h.1.0 at.0 h.0 at.1 h.1.2;
        whole = h.3;
      }

  -- ---- what isn't ready

  unusable_outcome : (v : Value c) (r : Reply) → (IsReady c q v → ⊥) → Seeks c q v r → r.outcome ≡ outcome.Findings
  unusable_outcome v r bad (inl is) = is.1
  unusable_outcome v r bad (inr is) = absurd (bad is.0)

  its_search : (v : Value c) (r : Reply) → IsReady c q v → Seeks c q v r → Sought c q v r
  its_search v r good (inl is) = absurd (is.0 good)
  its_search v r good (inr is) = is.1

  unusable_told : (v : Value c) (r : Reply) → r.outcome ≡ outcome.Findings → Seeks c q v r → IsReady c q v → ⊥
  unusable_told v r o (inl is) good = is.0 good
  unusable_told v r o (inr is) good = no_found (q.pins v) (q.units v) (q.places v) q.most q.plan q.certificate (q.night v) r o is.1

  usable_told : (v : Value c) (r : Reply) → (r.outcome ≡ outcome.Findings → ⊥) → Seeks c q v r → IsReady c q v × Sought c q v r
  usable_told v r other (inl is) = absurd (other is.1)
  usable_told v r other (inr is) = is

  pub findings_there : (old new : Seen) (x : Status) (files : Files) (v : Value c) → old.files ≡ Some files → stated_in c files ≡ Ok v → (IsReady c q v → ⊥) → Ends c old new x
      → (x ≡ status.Findings) ⊎ Yields x
  findings_there old new x files v known ok bad e = decides c outcome.Findings old new x files known (λ r is. unusable_outcome v r bad (answer_at files v r ok is)) e

  pub findings_only : (old new : Seen) → Ends c old new status.Findings → (files : Files) × Agrees old.files files
      × ((v : Value c) × (stated_in c files ≡ Ok v) × (IsReady c q v → ⊥))
  findings_only old new e =
      let f = told outcome.Findings old new (λ e. cc) e in
      (f.files, f.agrees, (f.value, f.ok, unusable_told f.value f.reply f.outcome f.seeks))

  -- ---- no matching

  pub no_matching_there : (old new : Seen) (x : Status) (files : Files) (v : Value c) → old.files ≡ Some files → stated_in c files ≡ Ok v → IsReady c q v → Unmatched c q v
      → Ends c old new x → (x ≡ status.NoMatching) ⊎ Yields x
  no_matching_there old new x files v known ok good none e =
      decides c outcome.NoMatching old new x files known (λ r is.
      none_outcome (q.pins v) (q.units v) (q.places v) q.most q.plan q.certificate (q.night v) r none (its_search v r good (answer_at files v r ok is))) e

  pub no_matching_only : (old new : Seen) → Ends c old new status.NoMatching → (files : Files) × Agrees old.files files
      × ((v : Value c) × (stated_in c files ≡ Ok v) × IsReady c q v × Unmatched c q v)
  no_matching_only old new e =
      let f = told outcome.NoMatching old new (λ e. cc) e in
      let is = usable_told f.value f.reply (λ g. (let h : outcome.NoMatching ≡ outcome.Findings = sym f.outcome ∙ g in cc)) f.seeks in (
        f.files,
        f.agrees,
        (
          f.value,
          f.ok,
          is.0,
          none_told (q.pins f.value) (q.units f.value) (q.places f.value) q.most q.plan q.certificate
              (q.night f.value) f.reply f.outcome is.1,
        ),
      )

  -- ---- a plan and a certificate

  pub finds : (o : Outcome) (old new : Seen) → (o ≡ outcome.Input → ⊥) → (o ≡ outcome.Findings → ⊥) → (o ≡ outcome.NoMatching → ⊥) → Ends c old new (the_status o)
      → Finds c q o old new
  finds o old new input found other e =
      let f = told o old new input e in
      let v = f.value in
      let sought = usable_told v f.reply (λ g. found (sym f.outcome ∙ g)) f.seeks in
      let is = its_plan (q.pins v) (q.units v) (q.places v) q.most q.plan q.certificate (q.night v) f.reply o other f.outcome sought.1 in
      let end = sym (planned_outcome (q.pins v) (q.units v) (q.places v) q.most q.plan q.certificate (q.night v) f.reply is) ∙ f.outcome in
      record {
        files = f.files;
        agrees = f.agrees;
        value = v;
        ok = f.ok;
        formed = answers.formed f.files v f.ok;
        usable = answers.usable v sought.0;
        reply = f.reply;
        is = is;
        outcome = end;
        whole = subst (λ r. IsWhole r old new) (is.reply ∙ ap (λ (x : Outcome). planned x q.plan q.certificate (q.night v) is.plan is.certificate) end) f.whole;
      }

  pub done_cheapest : (bounds : Bounds) (old new : Seen) → Ends c old new status.Done
      → (files : Files) × Agrees old.files files × ((v : Value c) × (stated_in c files ≡ Ok v)
      × ((plan : Plan) × (d : Certificate) × AreStated (q.night v) (q.pins v) plan d × IsCheapest (q.night v) (q.pins v) plan × (d.bound ≡ plan.cost)
      × IsWhole (planned outcome.Done q.plan q.certificate (q.night v) plan d) old new))
  done_cheapest bounds old new e =
      let f = finds outcome.Done old new (λ e. cc) (λ e. cc) (λ e. cc) e in
      let best = cheapest bounds (q.pins f.value) q.most q.plan q.certificate (q.night f.value) f.reply f.formed f.usable f.is f.outcome in (
        f.files,
        f.agrees,
        (
          f.value,
          f.ok,
          (
            f.is.plan,
            f.is.certificate,
            stated bounds (q.pins f.value) q.most q.plan q.certificate (q.night f.value) f.reply f.formed f.usable f.is,
            best.0,
            best.1,
            f.whole,
          ),
        ),
      )

  pub unfinished_bounded : (bounds : Bounds) (laws : TreeLaws) (old new : Seen) → Ends c old new status.Unfinished
      → (files : Files) × Agrees old.files files × ((v : Value c) × (stated_in c files ≡ Ok v)
      × ((plan : Plan) × (d : Certificate) × AreStated (q.night v) (q.pins v) plan d × IsBounded (q.night v) (q.pins v) plan d.bound × (d.bound < plan.cost)
      × AreDifferent (q.night v) (q.pins v) d.nodes q.most × IsWhole (planned outcome.Unfinished q.plan q.certificate (q.night v) plan d) old new))
  unfinished_bounded bounds laws old new e =
      let f = finds outcome.Unfinished old new (λ e. cc) (λ e. cc) (λ e. cc) e in
      let less = below bounds (q.pins f.value) q.most q.plan q.certificate (q.night f.value) f.reply f.formed f.usable f.is f.outcome in
      let same = cost_is bounds (q.pins f.value) q.most q.plan q.certificate (q.night f.value) f.reply f.formed f.usable f.is in
      let lower = subst (λ (x : ℕ). f.is.certificate.bound < x) (sym same) less in (
        f.files,
        f.agrees,
        (
          f.value,
          f.ok,
          (
            f.is.plan,
            f.is.certificate,
            stated bounds (q.pins f.value) q.most q.plan q.certificate (q.night f.value) f.reply f.formed f.usable f.is,
            bounded bounds (q.pins f.value) q.most q.plan q.certificate (q.night f.value) f.reply f.formed f.usable f.is,
            less,
            different bounds (q.pins f.value) q.most q.plan q.certificate (q.night f.value) f.reply f.formed f.usable f.is laws lower,
            f.whole,
          ),
        ),
      )

  -- ---- completeness

  pub done_there : (old new : Seen) (x : Status) (files : Files) (v : Value c) → old.files ≡ Some files → stated_in c files ≡ Ok v → IsReady c q v → Matched c q v
      → partial_plans (q.night v) (q.pins v) < q.most → Ends c old new x → (x ≡ status.Done) ⊎ Yields x
  done_there old new x files v known ok good matching fewer e =
      decides c outcome.Done old new x files known (λ r is.
      all_fit (q.pins v) (q.units v) (q.places v) q.most q.plan q.certificate (q.night v) r matching fewer (its_search v r good (answer_at files v r ok is))) e

  sought_well : (v : Value c) (r : Reply) (x : Status) → x ≡ the_status r.outcome → Sought c q v r → EndsSearch x
  sought_well v r x e (inr is) = inr (inl (e ∙ ap the_status (short_outcome (q.night v) r is)))
  sought_well v r x e (inl (some, is)) =
      let end = e ∙ ap the_status (planned_outcome (q.pins v) (q.units v) (q.places v) q.most q.plan q.certificate (q.night v) r is) in
      ⊎_elim (λ done. inl (end ∙ ap the_status done)) (λ left. inr (inr (inl (end ∙ ap the_status left)))) (either is.certificate.cost is.certificate.bound)

  well : (v : Value c) (r : Reply) (x : Status) → x ≡ the_status r.outcome → Seeks c q v r → (x ≡ status.Findings) ⊎ EndsSearch x
  well v r x e (inl is) = inl (e ∙ ap the_status is.1)
  well v r x e (inr is) = inr (sought_well v r x e is.1)

  pub ends_well : (old new : Seen) (x : Status) (files : Files) (v : Value c) → old.files ≡ Some files → stated_in c files ≡ Ok v → (Rose old.store_faults new.store_faults → ⊥)
      → (Rose old.sink_faults new.sink_faults → ⊥) → Ends c old new x → (x ≡ status.Findings) ⊎ EndsSearch x
  ends_well old new x files v known ok ns nk e = at (completes c old new x ns nk e)
    where
      at : EndsAs c old x → (x ≡ status.Findings) ⊎ EndsSearch x
      at (inl memory) = inr (inr (inr (inr memory)))
      at (inr h) = well v h.0 x h.2 (answer_at files v h.0 ok (reply_at c old.files files h.0 known h.1))
