use Rattle.std.proofs.Common.{arith}
use Rattle.shunt_checker.specs.declared.verdict.Verdict.TheVariants as verdict
use Rattle.shunt_instance.specs.defs.Instance.{Night}
use Rattle.shunt_checker.proofs.Exactly.{Laws, accepted, nothing_wrong, accepts}
use Rattle.shunt_checker.proofs.Unique.{one_verdict}
use Rattle.shunt_checker.proofs.laws.reasons.Goals as goal

pub returns : goal.returns
returns c =
    let laws : (night : Night) → Laws night = λ night. record {
      unit = λ s k within lt. c.places.ensures.unit night s k within lt;
      bounds = record {
        of_cases = λ path cases some. c.bounds.ensures.of_cases night path cases some;
        some = λ version path cases formed within apart through n. c.bounds_by_version.ensures.some version night path cases formed within apart through n;
        some_step = λ version path b cases formed within apart free through n. c.bounds_by_version.ensures.some_step version night path b cases formed within apart free through n;
      };
      one_bound = λ version path cases x y is so. c.bounds_by_version.ensures.one version night path cases x y is so;
      one_step = λ version path longer cases x y is so. c.bounds_by_version.ensures.one_step version night path longer cases x y is so;
      parent = λ nodes k h some lt. c.parents.ensures.parent night nodes k h some lt;
      path = λ start nodes k h some lt. c.parents.ensures.path night start nodes k h some lt;
      choice = λ nodes k h some lt. c.parents.ensures.choice night nodes k h some lt;
      cases = λ nodes k h lt other. c.parents.ensures.cases night nodes k h lt other;
      exactly = λ version start nodes L h some. c.trees_by_version.ensures.exactly version night start nodes L h some;
      one_start = λ pins start other h k. c.starts.ensures.one night pins start other h k;
      partial = λ pins start nodes k formed h usable begins placed lt. c.few_nodes.ensures.partial night pins start nodes k formed h usable begins placed lt;
    } in
    record {
      none = λ night pins start plan cert h range keeps is usable begins.
          (accepted night (laws night) h pins start plan cert range keeps is usable begins, nothing_wrong night (laws night) h pins start plan cert range keeps is usable begins);
      verdict = λ night pins plan cert v h range keeps is usable told. accepts night (laws night) h pins plan cert range keeps is usable v told;
      one = λ night pins plan cert v other told again. one_verdict night (laws night) pins plan cert v other told again;
      bound = λ night pins plan cert bound other h range keeps is usable told feasible kept.
          let accepted = (accepts night (laws night) h pins plan cert range keeps is (λ e. usable) (verdict.Accepted bound) told).0 tt in
          let least = c.proved_by_version.ensures.accepted cert.version night pins plan.blocks plan.cost cert other h is.nodes usable.apart accepted feasible kept in
          omega (arith, least, told.answers.0);
    }
