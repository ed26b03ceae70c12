use Rattle.std.specs.Prelude.{All, ◌≤ℤ◌}
use Rattle.std.proofs.Common.{w64, to_z, of_z, ℕ, ◌<◌, ℤ, List, length, get_or, subst, arith}
use Rattle.std.proofs.lemmas.Int.{to_z-of_z}
use Rattle.std.proofs.lemmas.Grind.{common_steps}
use Rattle.shunt_base.specs.declared.duals.Case.{Case}
use Rattle.shunt_proof.specs.defs.Versions.{HoldIn}
use Rattle.shunt_search.specs.declared.child.Child.{Child}
use Rattle.shunt_search.specs.defs.Judges.{version_of}
use Rattle.shunt_search.specs.defs.WalkStates.{OpensAbove}
use Rattle.shunt_search.proofs.LiftedCases.{opens_all}
use Rattle.shunt_search.proofs.child_visits.lifts.Goals as goal

pub returns : goal.returns
returns c = λ yes.
    let night = c.args.instance.now in
    let blocks = c.args.yard.now.path.blocks in
    let least = c.args.least in
    let children = c.in_ok-children.children.items in
    let all : All (λ (x : Child). least ≤ℤ x.bound) children =
    subst (λ (z : ℤ). All (λ (x : Child). z ≤ℤ x.bound) children) (to_z-of_z w64 least (record { sfits = c.ranges.least.sfits }))
    (subst (λ (l : List Child). (k : ℕ) (d : Child) → k < length l → to_z w64 (of_z w64 least) ≤ℤ (get_or l k d).bound) c.deref.ensures.value (c.are_above.ensures yes)) in
    record {
      there = let many = c.len.ensures in let below = c.if-place-len.false in grind (arith, common_steps);
      hold = subst (λ (l : List Case). HoldIn (version_of c.args.guide.now.judge) night blocks l) c.cases_in-cases.ensures (c.hold.ensures.0 c.if-not-hold.false);
      opens = subst (λ (l : List Case). OpensAbove (version_of c.args.guide.now.judge) night blocks l c.args.best least) c.cases_in-cases.ensures
          (opens_all c.bounds_by_version.ensures.one_step (version_of c.args.guide.now.judge) night blocks c.cases_in-cases.result.now c.args.best children c.in_ok-children.ensures
          least all);
    }
