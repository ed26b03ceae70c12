use Rattle.std.proofs.Common.{◌<◌, length, arith, ◌∙◌}
use Rattle.std.proofs.lemmas.List.{length-set}
use Rattle.shunt_choices.specs.defs.Free.{is_free_run}
use Rattle.shunt_choices.proofs.Runs.{table_more, table_small}
use Rattle.shunt_choices.proofs.free.reaches.Goals as goal

pub loop-v-preserved : goal.loop-v-preserved
loop-v-preserved c =
    let within : c.loop-v.v < length c.loop-v.reach = omega (arith, c.loop-v.invariant.long, c.loop-v-test.true, c.positions-v-end.ensures.few) in
    record {
      exact = table_more (is_free_run c.args.instance.now c.args.covered.now c.args.u) c.loop-v.reach c.loop-v.v c.reach_at.result within c.loop-v.invariant.exact
          c.reach_at.ensures.exact;
      few = table_small 8 c.loop-v.reach c.loop-v.v c.reach_at.result within c.loop-v.invariant.few c.reach_at.ensures.few;
      long = length-set c.loop-v.reach c.loop-v.v c.reach_at.result ∙ c.loop-v.invariant.long;
    }
