use Rattle.shunt_proof.proofs.Few.{CountLaws, is_partial}
use Rattle.shunt_proof.proofs.Whole.{PinLaws, few_nodes}
use Rattle.shunt_proof.proofs.laws.few_nodes.Goals as goal

pub returns : goal.returns
returns c =
    let laws : CountLaws = record {
      most = c.few_blocks.ensures.most;
      at_path = c.choices.ensures.at_path;
      grows = c.plans_grow.ensures.grows;
      once = c.plans_grow.ensures.once;
    } in
    let pins : PinLaws = record { alone = c.plans_grow.ensures.pins; any_order = c.plans_counted.ensures.any_order } in
    record {
      partial = λ night pins start nodes k i h usable s all lt. is_partial laws night i start nodes h all pins
          (c.plans_grow.ensures.pins night pins start i usable s.same s.rises) k lt;
      few = λ night pin start nodes i h usable s all. few_nodes laws pins night i pin start nodes h usable s all;
      accepted = λ night pin own stated x i h usable a. c.proved_by_version.ensures.few x.version night pin own stated x i h usable a;
    }
