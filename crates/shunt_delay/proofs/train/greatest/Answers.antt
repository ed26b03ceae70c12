use Rattle.std.proofs.Common.{refl, sym, subst, arith}
use Rattle.std.specs.Prelude.{Some}
use Rattle.shunt_delay.specs.defs.Late.{late}
use Rattle.shunt_delay.specs.defs.Kept.{Stops, Hold}
use Rattle.shunt_delay.proofs.Others.{still_others, held_still, held_on}
use Rattle.shunt_delay.proofs.Greatest.{at_first, one_more, at_stop}
use Rattle.shunt_delay.proofs.train.greatest.Goals as goal
use Rattle.shunt_delay.proofs.train.greatest.Goals.{then-minutes-in_time+in_ok-found, else-minutes-in_time+in_ok-found-2}

pub loop-minutes-init : goal.loop-minutes-init
loop-minutes-init c = record {
  from = omega arith;
  below = at_first c.args.instance.now c.args.blocks.now c.args.train.0 c.requires.ready.feasible;
  hold = held_still c.args.timelines.now;
}

pub stop_at-requires-clause-others : goal.stop_at-requires-clause-others
stop_at-requires-clause-others c = still_others c.args.instance.now c.args.blocks.now c.args.train.0 c.args.own.now c.args.timelines.now c.loop-minutes.timelines c.requires.others
    c.loop-minutes.invariant.hold

pub stop_at-requires-clause-in_time : goal.stop_at-requires-clause-in_time
stop_at-requires-clause-in_time c = c.train_in_time-in_time.ensures.in_time c.loop-minutes.minutes c.if-minutes-in_time.true

pub returns-in_err-found-clause-same : goal.returns-in_err-found-clause-same
returns-in_err-found-clause-same c = held_on c.args.timelines.now c.loop-minutes.timelines c.stop_at.new.timelines c.loop-minutes.invariant.hold c.stop_at.ensures.same

pub returns-in-Some-clause-same : goal.returns-in-Some-clause-same
returns-in-Some-clause-same c = elim c.if-minutes-in_time.branch [
  | then-minutes-in_time+in_ok-found w ↦ subst (Hold c.args.timelines.now) (sym w.timelines-is)
      (held_on c.args.timelines.now c.loop-minutes.timelines w.stop_at.new.timelines c.loop-minutes.invariant.hold w.stop_at.ensures.same)
  | else-minutes-in_time+in_ok-found-2 w ↦ subst (Hold c.args.timelines.now) (sym w.timelines-is) c.loop-minutes.invariant.hold
]

pub returns-in-Some-clause-delay : goal.returns-in-Some-clause-delay
returns-in-Some-clause-delay c =
    let stops : Stops (late c.args.train.0 c.loop-minutes.minutes c.args.instance.now) c.args.blocks.now (Some c.in-Some.stop) = subst
    (Stops (late c.args.train.0 c.loop-minutes.minutes c.args.instance.now) c.args.blocks.now) c.in-Some.is (elim c.if-minutes-in_time.branch [
      | then-minutes-in_time+in_ok-found w ↦ subst (Stops (late c.args.train.0 c.loop-minutes.minutes c.args.instance.now) c.args.blocks.now)
          (sym w.found-is) w.in_ok-found.ensures.stops
      | else-minutes-in_time+in_ok-found-2 w ↦ subst (Stops (late c.args.train.0 c.loop-minutes.minutes c.args.instance.now) c.args.blocks.now)
          (sym w.found-is) w.in_ok-found-2.ensures
    ]) in (
      refl,
      at_stop c.args.instance.now c.args.blocks.now c.args.train c.loop-minutes.minutes _ c.in-Some.stop (let f = c.loop-minutes.invariant.from in omega arith)
          (let lt = c.loop-minutes-test.true in omega arith) c.loop-minutes.invariant.below stops,
    )

pub loop-minutes-preserved : goal.loop-minutes-preserved
loop-minutes-preserved c = record {
  from = omega arith;
  below = one_more c.args.instance.now c.args.blocks.now c.args.train.0 c.loop-minutes.minutes c.loop-minutes.invariant.below
      (subst (Stops (late c.args.train.0 c.loop-minutes.minutes c.args.instance.now) c.args.blocks.now) c.in_default.is (elim c.if-minutes-in_time.branch [
        | then-minutes-in_time+in_ok-found w ↦ subst (Stops (late c.args.train.0 c.loop-minutes.minutes c.args.instance.now) c.args.blocks.now)
            (sym w.found-is) w.in_ok-found.ensures.stops
        | else-minutes-in_time+in_ok-found-2 w ↦ subst (Stops (late c.args.train.0 c.loop-minutes.minutes c.args.instance.now) c.args.blocks.now)
            (sym w.found-is) w.in_ok-found-2.ensures
      ]));
  hold = elim c.if-minutes-in_time.branch [
    | then-minutes-in_time+in_ok-found w ↦ subst (Hold c.args.timelines.now) (sym w.timelines-is)
        (held_on c.args.timelines.now c.loop-minutes.timelines w.stop_at.new.timelines c.loop-minutes.invariant.hold w.stop_at.ensures.same)
    | else-minutes-in_time+in_ok-found-2 w ↦ subst (Hold c.args.timelines.now) (sym w.timelines-is) c.loop-minutes.invariant.hold
  ];
}
