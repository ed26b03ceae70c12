use Rattle.std.proofs.Common.{w64, ℤ, sym, subst, arith}
use Rattle.std.proofs.lemmas.Int.{ints, to_z-of_z}
use Rattle.shunt_proof.specs.declared.records.Version.TheVariants.{Prices}
use Rattle.shunt_search.specs.defs.Roots.{IsFloor}
use Rattle.shunt_search.proofs.root_bounds.if_better.Goals as goal

pub returns : goal.returns
returns c =
    let night = c.args.instance.now in
    let path = c.args.path.now.blocks in
    let known = c.requires.known in
    let most = c.cases_bound-more.result in
    let is_most = c.cases_bound-more.ensures in
    let more = c.if-more-known.false in
    record {
      rooted = record {
        statable = record { within = c.requires.cases; apart = c.requires.apart };
        hold = c.cases_hold.ensures.0 c.if-not-cases_hold.false;
        floor = known.rooted.floor;
        assignment = known.rooted.assignment;
        above = λ bound is. let e = c.bounds.ensures.one_of_cases night path c.args.proposed most bound is_most is in let low = known.low.high in omega (arith, ints, e, low, more);
      };
      low = subst (λ (z : ℤ). IsFloor Prices night path c.args.proposed known.rooted.floor z) (sym (to_z-of_z w64 most (record { sfits = c.cases_bound-more.type_inv })))
          (record { high = let low = known.low.high in omega (arith, ints, low, more); reach = (most, is_most, omega (arith, ints)) });
    }
