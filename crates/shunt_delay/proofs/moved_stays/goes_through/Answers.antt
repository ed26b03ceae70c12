use Rattle.std.proofs.Common.{◌∙◌}
use Rattle.std.proofs.lemmas.Bool.{eqb-true}
use Rattle.shunt_delay.proofs.Moved.{back_again, runs_through}
use Rattle.shunt_delay.proofs.moved_stays.goes_through.Goals as goal

pub returns-then-clash-eq0-clause-through : goal.returns-then-clash-eq0-clause-through
returns-then-clash-eq0-clause-through c = λ stays listed same none. runs_through c.args.own.now c.args.minutes c.args.timelines.now c.put.new.timelines stays c.put.ensures.members
    c.put.ensures.lengths c.clash-clash.ensures.formed c.clash-clash.ensures.placed
    (c.clash-clash.ensures.through.0 (c.if-clash-eq0.true, eqb-true c.clash-clash.result.over 0 none)) listed same

pub returns-then-clash-eq0-clause-same : goal.returns-then-clash-eq0-clause-same
returns-then-clash-eq0-clause-same c = record {
  members = back_again c.args.own.now c.args.minutes c.args.timelines.now c.put.new.timelines c.take.new.timelines c.requires c.put.ensures.members c.take.ensures.members;
  lengths = c.take.ensures.lengths ∙ c.put.ensures.lengths;
  room = c.take.ensures.room ∙ c.put.ensures.room;
}

pub returns-else-clash-eq0-clause-same : goal.returns-else-clash-eq0-clause-same
returns-else-clash-eq0-clause-same c = record {
  members = back_again c.args.own.now c.args.minutes c.args.timelines.now c.put.new.timelines c.take.new.timelines c.requires c.put.ensures.members c.take.ensures.members;
  lengths = c.take.ensures.lengths ∙ c.put.ensures.lengths;
  room = c.take.ensures.room ∙ c.put.ensures.room;
}
