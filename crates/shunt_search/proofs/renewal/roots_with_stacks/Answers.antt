use Rattle.shunt_proof.specs.declared.records.Version.TheVariants.{Stacks}
use Rattle.shunt_search.proofs.Renewed.{StackLaws, root_with_stacks}
use Rattle.shunt_search.proofs.renewal.roots_with_stacks.Goals as goal

pub returns : goal.returns
returns c =
    let laws : StackLaws = record {
      hold = c.never_below_prices.ensures.hold;
      bound = c.never_below_prices.ensures.bound;
      one = λ night path cases x y p q. c.bounds_by_version.ensures.one Stacks night path cases x y p q;
    } in
    λ night y r i yard root. root_with_stacks laws night i y yard r root
