-- The first fault of a plan, kind by kind.
use Rattle.std.specs.Prelude.{◌≢◌, Option, Some, None, Result, Ok, Err}
use Rattle.std.proofs.Common.{◌≡◌, ⊎_elim, ℕ, ◌<◌, List, refl, sym, subst, ◌∙◌, arith}
use Rattle.shunt_stays.specs.defs.Run.{Through, Stop, run_of}
use Rattle.shunt_stays.specs.defs.Run.Stop.{Blocked, Over}
use Rattle.shunt_instance.specs.defs.Instance.{Night}
use Rattle.shunt_blocks.specs.declared.records.Block.{Block}
use Rattle.shunt_blocks.specs.defs.Lists.{track_lengths, stays_of, total_cost}
use Rattle.shunt_tracks.specs.defs.Answer.{answer}
use Rattle.shunt_plan.specs.declared.records.Plan.{Plan}
use Rattle.shunt_checker.specs.declared.verdict.PlanFault.{PlanFault}
use Rattle.shunt_checker.specs.declared.verdict.PlanFault.TheVariants as fault
use Rattle.shunt_checker.specs.defs.Firsts.{Finds}
use Rattle.shunt_checker.specs.defs.PlanFaults.{HasBadBlock, IsPlanFault, PlanFaultBefore, plan_rank, plan_number}
use Rattle.shunt_checker.specs.defs.Stops.{Less, IsUnitFault, IsPlaceFault, stop_fault, From}

-- what was found of the same blocks, as it was
pub moved : (Holds : List Block → ℕ → Type 0) (bs blocks : List Block) (r x : Option ℕ) → bs ≡ blocks → r ≡ x → Finds (Holds bs) Less r → Finds (Holds blocks) Less x
moved Holds bs blocks r x e f h = subst (λ (cs : List Block). Finds (Holds cs) Less x) e (subst (Finds (Holds bs) Less) f h)

module _ (night : Night) (plan : Plan) where
  first_of : (f : PlanFault) → From night plan (plan_rank f) → IsPlanFault night plan f
      → ((g : PlanFault) → IsPlanFault night plan g → plan_rank g ≡ plan_rank f → plan_number g < plan_number f → ⊥)
      → Finds (IsPlanFault night plan) PlanFaultBefore (Some f)
  first_of f from is least = record {
    is = is;
    first = λ g h before. ⊎_elim
        (λ less. let le = from g h in omega (arith, le, less))
        (λ same. least g h same.0 same.1)
        before;
  }

  pub from_bad : From night plan 1
  from_bad (fault.BadBlock id) h = omega arith
  from_bad (fault.Unit u) h = omega arith
  from_bad (fault.Place v) h = omega arith
  from_bad (fault.Blocked id) h = omega arith
  from_bad (fault.Over id load) h = omega arith
  from_bad (fault.Cost stated real) h = omega arith

  pub from_unit : Finds (HasBadBlock night plan.blocks) Less None → From night plan 2
  from_unit none (fault.BadBlock id) h = absurd (none id h)
  from_unit none (fault.Unit u) h = omega arith
  from_unit none (fault.Place v) h = omega arith
  from_unit none (fault.Blocked id) h = omega arith
  from_unit none (fault.Over id load) h = omega arith
  from_unit none (fault.Cost stated real) h = omega arith

  pub from_place : From night plan 2 → Finds (IsUnitFault night plan.blocks) Less None → From night plan 3
  from_place from none (fault.BadBlock id) h = absurd (let le = from (fault.BadBlock id) h in omega (arith, le))
  from_place from none (fault.Unit u) h = absurd (none u (record { there = h.0; other = h.1 }))
  from_place from none (fault.Place v) h = omega arith
  from_place from none (fault.Blocked id) h = omega arith
  from_place from none (fault.Over id load) h = omega arith
  from_place from none (fault.Cost stated real) h = omega arith

  pub from_run : From night plan 3 → Finds (IsPlaceFault night plan.blocks) Less None → From night plan 4
  from_run from none (fault.BadBlock id) h = absurd (let le = from (fault.BadBlock id) h in omega (arith, le))
  from_run from none (fault.Unit u) h = absurd (let le = from (fault.Unit u) h in omega (arith, le))
  from_run from none (fault.Place v) h = absurd (none v (record { there = h.0; other = h.1 }))
  from_run from none (fault.Blocked id) h = omega arith
  from_run from none (fault.Over id load) h = omega arith
  from_run from none (fault.Cost stated real) h = omega arith

  -- ---- each kind

  pub bad_first : (id : ℕ) → Finds (HasBadBlock night plan.blocks) Less (Some id) → Finds (IsPlanFault night plan) PlanFaultBefore (Some (fault.BadBlock id))
  bad_first id f = first_of (fault.BadBlock id) from_bad f.is least
    where
      least : (g : PlanFault) → IsPlanFault night plan g → plan_rank g ≡ 1 → plan_number g < id → ⊥
      least (fault.BadBlock other) h e less = f.first other h less
      least (fault.Unit u) h e less = omega (arith, e)
      least (fault.Place v) h e less = omega (arith, e)
      least (fault.Blocked other) h e less = omega (arith, e)
      least (fault.Over other load) h e less = omega (arith, e)
      least (fault.Cost stated real) h e less = omega (arith, e)

  pub unit_first : From night plan 2 → (u : ℕ) → Finds (IsUnitFault night plan.blocks) Less (Some u) → Finds (IsPlanFault night plan) PlanFaultBefore (Some (fault.Unit u))
  unit_first from u f = first_of (fault.Unit u) from (f.is.there, f.is.other) least
    where
      least : (g : PlanFault) → IsPlanFault night plan g → plan_rank g ≡ 2 → plan_number g < u → ⊥
      least (fault.BadBlock other) h e less = omega (arith, e)
      least (fault.Unit w) h e less = f.first w (record { there = h.0; other = h.1 }) less
      least (fault.Place v) h e less = omega (arith, e)
      least (fault.Blocked other) h e less = omega (arith, e)
      least (fault.Over other load) h e less = omega (arith, e)
      least (fault.Cost stated real) h e less = omega (arith, e)

  pub place_first : From night plan 3 → (v : ℕ) → Finds (IsPlaceFault night plan.blocks) Less (Some v) → Finds (IsPlanFault night plan) PlanFaultBefore (Some (fault.Place v))
  place_first from v f = first_of (fault.Place v) from (f.is.there, f.is.other) least
    where
      least : (g : PlanFault) → IsPlanFault night plan g → plan_rank g ≡ 3 → plan_number g < v → ⊥
      least (fault.BadBlock other) h e less = omega (arith, e)
      least (fault.Unit u) h e less = omega (arith, e)
      least (fault.Place w) h e less = f.first w (record { there = h.0; other = h.1 }) less
      least (fault.Blocked other) h e less = omega (arith, e)
      least (fault.Over other load) h e less = omega (arith, e)
      least (fault.Cost stated real) h e less = omega (arith, e)

  -- of the first event, and of the cost, there is no number
  none_less : (f : PlanFault) → plan_number f ≡ 0 → (g : PlanFault) → IsPlanFault night plan g → plan_rank g ≡ plan_rank f → plan_number g < plan_number f → ⊥
  none_less f zero g h e less = omega (arith, zero, less)

  run_told : (r : Result Through Stop) → run_of (track_lengths night.station) (stays_of night plan.blocks) ≡ r → From night plan 4 → (f : PlanFault)
      → stop_fault (answer r) ≡ Some f → Finds (IsPlanFault night plan) PlanFaultBefore (Some f)
  run_told (Ok t) e from f told = let no : None ≡ Some f = told in absurd cc
  run_told (Err (Blocked m)) e from f told =
      subst (λ (g : PlanFault). Finds (IsPlanFault night plan) PlanFaultBefore (Some g)) (let s : Some (fault.Blocked m.key.id) ≡ Some f = told in cc)
      (first_of (fault.Blocked m.key.id) from (record { move = m; stops = e; named = refl }) (none_less (fault.Blocked m.key.id) refl))
  run_told (Err (Over m load)) e from f told =
      subst (λ (g : PlanFault). Finds (IsPlanFault night plan) PlanFaultBefore (Some g)) (let s : Some (fault.Over m.key.id load) ≡ Some f = told in cc)
      (first_of (fault.Over m.key.id load) from (record { move = m; stops = e; named = refl }) (none_less (fault.Over m.key.id load) refl))

  pub run_first : From night plan 4 → (f : PlanFault) → stop_fault (answer (run_of (track_lengths night.station) (stays_of night plan.blocks))) ≡ Some f
      → Finds (IsPlanFault night plan) PlanFaultBefore (Some f)
  run_first from f told = run_told (run_of (track_lengths night.station) (stays_of night plan.blocks)) refl from f told

  not_stopped : (r : Result Through Stop) → run_of (track_lengths night.station) (stays_of night plan.blocks) ≡ r → stop_fault (answer r) ≡ None → (stop : Stop) → r ≡ Err stop → ⊥
  not_stopped (Ok t) e none stop err = let no : Ok t ≡ Err stop = err in cc
  not_stopped (Err (Blocked m)) e none stop err = let no : Some (fault.Blocked m.key.id) ≡ None = none in cc
  not_stopped (Err (Over m load)) e none stop err = let no : Some (fault.Over m.key.id load) ≡ None = none in cc

  pub from_cost : From night plan 4 → stop_fault (answer (run_of (track_lengths night.station) (stays_of night plan.blocks))) ≡ None → From night plan 5
  from_cost from none (fault.BadBlock id) h = absurd (let le = from (fault.BadBlock id) h in omega (arith, le))
  from_cost from none (fault.Unit u) h = absurd (let le = from (fault.Unit u) h in omega (arith, le))
  from_cost from none (fault.Place v) h = absurd (let le = from (fault.Place v) h in omega (arith, le))
  from_cost from none (fault.Blocked id) h = absurd (not_stopped (run_of (track_lengths night.station) (stays_of night plan.blocks)) refl none (Blocked h.move) h.stops)
  from_cost from none (fault.Over id load) h = absurd (not_stopped (run_of (track_lengths night.station) (stays_of night plan.blocks)) refl none (Over h.move load) h.stops)
  from_cost from none (fault.Cost stated real) h = omega arith

  pub cost_first : From night plan 5 → plan.cost ≢ total_cost night plan.blocks → Finds (IsPlanFault night plan) PlanFaultBefore
      (Some (fault.Cost plan.cost (total_cost night plan.blocks)))
  cost_first from other = first_of (fault.Cost plan.cost (total_cost night plan.blocks)) from (refl, refl, other)
      (none_less (fault.Cost plan.cost (total_cost night plan.blocks)) refl)

  pub nothing_found : From night plan 5 → plan.cost ≡ total_cost night plan.blocks → Finds (IsPlanFault night plan) PlanFaultBefore None
  nothing_found from same (fault.BadBlock id) h = let le = from (fault.BadBlock id) h in omega (arith, le)
  nothing_found from same (fault.Unit u) h = let le = from (fault.Unit u) h in omega (arith, le)
  nothing_found from same (fault.Place v) h = let le = from (fault.Place v) h in omega (arith, le)
  nothing_found from same (fault.Blocked id) h = let le = from (fault.Blocked id) h in omega (arith, le)
  nothing_found from same (fault.Over id load) h = let le = from (fault.Over id load) h in omega (arith, le)
  nothing_found from same (fault.Cost stated real) h = h.2 (h.0 ∙ (same ∙ sym h.1))
