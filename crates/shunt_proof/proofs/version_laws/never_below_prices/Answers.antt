use Rattle.shunt_proof.proofs.Few.{CountLaws}
use Rattle.shunt_proof.proofs.Whole.{PinLaws}
use Rattle.shunt_proof.proofs.Stacked.{PriceLaws, all_right, all_lean, accepted_with_stacks}
use Rattle.shunt_proof.proofs.version_laws.never_below_prices.Goals as goal

pub returns : goal.returns
returns c =
    let laws : PriceLaws = record {
      hold = c.never_below_prices.ensures.hold;
      bound = c.never_below_prices.ensures.bound;
      choice = c.never_below_prices.ensures.choice;
    } in
    let counts : CountLaws = record {
      most = c.few_blocks.ensures.most;
      at_path = c.choices.ensures.at_path;
      grows = c.plans_grow.ensures.grows;
      once = c.plans_grow.ensures.once;
    } in
    let pinned : PinLaws = record { alone = c.plans_grow.ensures.pins; any_order = c.plans_counted.ensures.any_order } in
    record {
      right = λ night pins start nodes L i h usable s right. all_right laws counts night i pins start (pinned.alone night pins start i usable s.same s.rises) nodes h L right;
      lean = λ night pins start nodes L i h usable s right lean. all_lean laws counts night i pins start
          (pinned.alone night pins start i usable s.same s.rises) nodes h L right lean;
      accepted = λ night pins own stated x i h usable a. accepted_with_stacks laws counts pinned night i pins own stated x h usable a;
    }
