use Rattle.shunt_proof.proofs.Costs.{CostLaws, costs_less}
use Rattle.shunt_proof.proofs.Proved.{BoundLaws, proved}
use Rattle.shunt_proof.proofs.Few.{CountLaws}
use Rattle.shunt_proof.proofs.Whole.{PinLaws, accepted_bound, few_accepted}
use Rattle.shunt_proof.proofs.version_laws.proved_by_version.Goals as goal

pub returns : goal.returns
returns c =
    let costs : CostLaws = record { dual = c.weak_duality.ensures.duals; weights = c.weights.ensures } in
    let laws : BoundLaws = record {
      places = record { unit_in = c.places.ensures.unit_in; position_in = c.places.ensures.position_in };
      dual = c.weak_duality.ensures.cases;
      hold = c.longer_paths.ensures.hold;
      stack_dual = c.weak_duality-2.ensures.path;
      choice_dual = c.weak_duality-2.ensures.choice;
      held = c.held_choices.ensures;
      cost = λ night plan path i f apart keeps. costs_less costs night path plan i f apart keeps;
    } in
    let counts : CountLaws = record {
      most = c.few_blocks.ensures.most;
      at_path = c.choices.ensures.at_path;
      grows = c.plans_grow.ensures.grows;
      once = c.plans_grow.ensures.once;
    } in
    let pinned : PinLaws = record { alone = c.plans_grow.ensures.pins; any_order = c.plans_counted.ensures.any_order } in
    record {
      node = λ version night start nodes L k plan i h lt apart p f keeps. proved laws night i start nodes h plan f version L k lt p apart keeps;
      accepted = λ version night pins own stated x plan i h apart a f keeps. accepted_bound laws version night i pins own stated x h apart a plan f keeps;
      few = λ version night pins own stated x i h usable a. few_accepted counts pinned version night i pins own stated x h usable a;
    }
