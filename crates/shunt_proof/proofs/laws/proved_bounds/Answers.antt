use Rattle.shunt_proof.specs.declared.records.Version.TheVariants.{Prices}
use Rattle.shunt_proof.proofs.laws.proved_bounds.Goals as goal

pub returns : goal.returns
returns c = record {
  node = λ night start nodes L k plan i h lt apart p f keeps. c.proved_by_version.ensures.node Prices night start nodes L k plan i h lt apart p f keeps;
  accepted = λ night pins own stated x plan i h apart a f keeps. c.proved_by_version.ensures.accepted x.version night pins own stated x plan i h apart a f keeps;
}
