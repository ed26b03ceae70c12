use Rattle.shunt_proof.specs.declared.records.Version.TheVariants.{Prices}
use Rattle.shunt_proof.proofs.laws.trees.Goals as goal

pub returns : goal.returns
returns c = record {
  exactly = λ night start nodes L h some. c.trees_by_version.ensures.exactly Prices night start nodes L h some;
  falls = λ night start nodes k L M le r. c.trees_by_version.ensures.falls Prices night start nodes k L M le r;
  reaches = λ night path cases bound L is. c.bounds_by_version.ensures.reaches Prices night path cases bound L is;
}
