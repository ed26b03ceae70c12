use Rattle.std.proofs.Common.{w64, ℤ, sym, subst, arith}
use Rattle.std.proofs.lemmas.Int.{ints, to_z-of_z}
use Rattle.shunt_proof.specs.declared.records.Version.TheVariants.{Prices}
use Rattle.shunt_search.specs.defs.Roots.{IsFloor}
use Rattle.shunt_search.proofs.root_bounds.root_of.Goals as goal

pub returns : goal.returns
returns c =
    let night = c.args.instance.now in
    let path = c.args.path.now.blocks in
    let rooted = c.requires.cases in
    let bound = c.cases_bound.result in
    let is = c.cases_bound.ensures in
    record {
      rooted = rooted;
      low = subst (λ (z : ℤ). IsFloor Prices night path c.args.cases rooted.floor z) (sym (to_z-of_z w64 bound (record { sfits = c.cases_bound.type_inv })))
          (record { high = rooted.above bound is; reach = (bound, is, omega (arith, ints)) });
    }
