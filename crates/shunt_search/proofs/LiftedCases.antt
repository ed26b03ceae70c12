-- Cases that bound each child of a path by so much.
use Rattle.std.specs.Prelude.{All, pos, ◌≤ℤ◌}
use Rattle.std.proofs.Common.{◌≡◌, ⊎_elim, ℕ, List, ℤ, sym, subst, ap, ◌∙◌, arith}
use Rattle.std.proofs.lemmas.Int.{ints}
use Rattle.shunt_lists.specs.defs.Members.{In}
use Rattle.shunt_base.specs.declared.duals.Case.{Case}
use Rattle.shunt_instance.specs.defs.Instance.{Night}
use Rattle.shunt_blocks.specs.declared.records.Block.{Block}
use Rattle.shunt_blocks.specs.defs.Lists.{RunsThrough, placed}
use Rattle.shunt_choices.specs.defs.Choices.{Choice, longer_by}
use Rattle.shunt_proof.specs.declared.records.Version.{Version}
use Rattle.shunt_proof.specs.defs.Versions.{IsStepBoundIn, StepReachesIn}
use Rattle.shunt_search.specs.declared.child.Child.{Child}
use Rattle.shunt_search.specs.defs.Yards.{choice_of, more_by, IsOpen, IsClosed, AreChildren}
use Rattle.shunt_search.specs.defs.WalkStates.{OpensAbove}
use Rattle.shunt_search.proofs.Offered.{longer_is, of_choices}
use Rattle.shunt_lists.proofs.Members.{each_one as of_all}

-- a path with a block more than another has one bound by cases
abbrev pub OneLaw : Type 0
OneLaw = (version : Version) (night : Night) (path longer : List Block) (cases : List Case) (bound other : ℤ) → IsStepBoundIn version night path longer cases bound
    → IsStepBoundIn version night path longer cases other → bound ≡ other

module _ (one : OneLaw) (version : Version) (night : Night) (path : List Block) (cases : List Case) (best : ℕ) (children : List Child)
    (C : AreChildren version night path cases best children) where
  -- what is open isn't closed
  not_closed : (c : Child) → IsOpen version night path cases best c.block c.bound → IsClosed version night path cases best (choice_of c.block) → ⊥
  not_closed c o closed =
      let is : longer_by path (choice_of c.block) ≡ more_by path c.block = longer_is path c.block o.next.id in
      let reach = subst (λ (l : List Block). StepReachesIn version night path l cases (pos best)) is
      (closed (subst (λ (l : List Block). RunsThrough night (placed l)) (sym is) o.through)) in
      let same = one version night path (more_by path c.block) cases reach.0 c.bound reach.1 o.is in
      let below = o.below in
      let high = reach.2 in
      omega (arith, ints, same, below, high)

  -- a child of the same choice has the same bound
  same_bound : (c other : Child) → IsOpen version night path cases best c.block c.bound → In other children → choice_of c.block ≡ choice_of other.block → c.bound ≡ other.bound
  same_bound c other o i e =
      let its = C.each other i in
      let is : more_by path c.block ≡ more_by path other.block = sym (longer_is path c.block o.next.id) ∙ ap (λ (k : Choice). longer_by path k) e
      ∙ longer_is path other.block its.next.id in
      one version night path (more_by path other.block) cases c.bound other.bound (subst (λ (l : List Block). IsStepBoundIn version night path l cases c.bound) is o.is) its.is

  pub opens_all : (least : ℤ) → All (λ (c : Child). least ≤ℤ c.bound) children → OpensAbove version night path cases best least
  opens_all least all = λ c o. ⊎_elim
      (λ closed. absurd (not_closed c o closed))
      (λ i.
      let found = of_choices version night path cases best children (choice_of c.block) i in
      let low = of_all (λ (x : Child). least ≤ℤ x.bound) children found.0 all found.1 in
      let same = same_bound c found.0 o found.1 found.2 in
      omega (arith, ints, low, same))
      (C.others (choice_of c.block) o.next.choice)
