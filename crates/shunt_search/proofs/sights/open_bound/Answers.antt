use Rattle.std.specs.Prelude.{pos, ◌≤ℤ◌}
use Rattle.std.proofs.Common.{ℤ, ◌∙◌, sym, subst, w64, rules, SFits}
use Rattle.std.proofs.lemmas.Int.{to_z-of_z}
use Rattle.std.proofs.lemmas.Option.{IfSome_then}
use Rattle.shunt_proof.specs.declared.records.Version.TheVariants.{Stacks}
use Rattle.shunt_proof.specs.defs.Versions.{IsStepBoundIn}
use Rattle.shunt_search.specs.defs.Yards.{more_by}
use Rattle.shunt_search.proofs.Offered.{is_closed, none_then}
use Rattle.shunt_search.proofs.sights.open_bound.Goals as goal

pub returns-then-not-through-clause-none : goal.returns-then-not-through-clause-none
returns-then-not-through-clause-none c =
    is_closed Stacks c.args.instance.now c.args.yard.now.path.blocks c.args.cases.now c.args.best c.args.block.now c.requires.next.id
    (λ runs. absurd (let yes = c.goes_through-through.ensures.1 runs in let no = c.if-not-through.true in cc))

pub returns-clause-some : goal.returns-clause-some
returns-clause-some c =
    let fits : SFits w64 c.in_ok-bound.bound = search rules in
    let night = c.args.instance.now in
    let path = c.args.yard.now.path.blocks in
    IfSome_then c.bound_below.result c.bound_below.ensures.some (λ bound is. record {
      next = c.requires.next;
      through = c.goes_through-through.ensures.0 c.if-not-through.false;
      is = subst (λ (z : ℤ). IsStepBoundIn Stacks night path (more_by path c.args.block.now) c.args.cases.now z)
          (sym (is.0 ∙ to_z-of_z w64 c.in_ok-bound.bound fits)) c.in_ok-bound.ensures;
      below = is.1;
    })

pub returns-clause-none : goal.returns-clause-none
returns-clause-none c =
    let fits : SFits w64 c.in_ok-bound.bound = search rules in
    none_then c.bound_below.result c.bound_below.ensures.none
    (λ high. is_closed Stacks c.args.instance.now c.args.yard.now.path.blocks c.args.cases.now c.args.best c.args.block.now c.requires.next.id
    (λ runs. (c.in_ok-bound.bound, c.in_ok-bound.ensures, subst (λ (z : ℤ). pos c.args.best ≤ℤ z) (to_z-of_z w64 c.in_ok-bound.bound fits) high)))
