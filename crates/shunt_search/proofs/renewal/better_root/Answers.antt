use Rattle.std.proofs.Common.{⊎_elim, sym, subst, ap, arith}
use Rattle.std.proofs.lemmas.Int.{ints}
use Rattle.shunt_proof.specs.declared.records.Version.TheVariants.{Stacks}
use Rattle.shunt_search.specs.declared.root_bounds.Root.{Root}
use Rattle.shunt_search.specs.defs.Roots.{IsRoot}
use Rattle.shunt_search.proofs.renewal.better_root.Goals as goal

pub returns-then-not-stack_cases_hold-clause-root : goal.returns-then-not-stack_cases_hold-clause-root
returns-then-not-stack_cases_hold-clause-root c = c.roots_with_stacks.ensures c.args.instance.now c.args.yard.now c.args.known c.units.ensures.formed c.requires.yard
    c.requires.known

pub returns-clause-root : goal.returns-clause-root
returns-clause-root c =
    let night = c.args.instance.now in
    let path = c.args.yard.now.path.blocks in
    let known = c.roots_with_stacks.ensures night c.args.yard.now c.args.known c.units.ensures.formed c.requires.yard c.requires.known in
    let most = c.in_ok-more.more in
    let is_most = c.in_ok-more.ensures in
    let low = known.low.high in
    ⊎_elim
    (λ same. subst (λ (r : Root). IsRoot Stacks night path r) (sym same) known)
    (λ new. subst (λ (r : Root). IsRoot Stacks night path r) (sym new.0) (let more = new.1 in record {
      rooted = record {
        statable = record { within = c.requires.cases; apart = c.requires.apart };
        hold = c.stack_cases_hold.ensures.0 c.if-not-stack_cases_hold.false;
        floor = known.rooted.floor;
        assignment = known.rooted.assignment;
        above = λ bound is. let e = c.bounds_by_version.ensures.one Stacks night path c.args.proposed most bound is_most is in omega (arith, ints, e, low, more);
      };
      low = record { high = omega (arith, ints, low, more); reach = (most, is_most, omega (arith, ints)) };
    }))
    c.higher_root.ensures

pub returns-clause-floor : goal.returns-clause-floor
returns-clause-floor c =
    ⊎_elim
    (λ same. let e = ap (λ (r : Root). r.floor) same in omega (arith, ints, e))
    (λ new. let e = ap (λ (r : Root). r.floor) new.0 in let more = new.1 in omega (arith, ints, e, more))
    c.higher_root.ensures
