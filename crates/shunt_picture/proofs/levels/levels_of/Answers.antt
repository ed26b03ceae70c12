use Rattle.std.proofs.Common.{◌-◌, ap, ◌∙◌, arith}
use Rattle.shunt_picture.specs.defs.Levels.{is_shown, level_at, levels_of}
use Rattle.shunt_picture.proofs.Ranges.{mapped_noted}
use Rattle.shunt_picture.proofs.levels.levels_of.Goals as goal

pub loop-minute-preserved : goal.loop-minute-preserved
loop-minute-preserved c =
    let from = c.loop-minute.invariant.from in
    let to = c.loop-minute.invariant.to in
    let lt = c.loop-minute-test.true in
    record {
      from = omega (arith, from);
      to = omega (arith, from, to, lt);
      levels = mapped_noted (level_at c.args.stays.now) (is_shown c.args.stays.now c.args.from) c.args.from
          (c.loop-minute.minute - c.args.from) _ c.loop-minute.minute c.loop-minute.levels.items c.note_level.new.levels.items (omega (arith, from))
          (omega (arith, from)) c.loop-minute.invariant.levels c.in_ok-note_level.ensures;
    }

pub returns : goal.returns
returns c =
    let from = c.loop-minute.invariant.from in
    let to = c.loop-minute.invariant.to in
    let ge = c.loop-minute-test.false in
    c.loop-minute.invariant.levels ∙ ap (levels_of c.args.stays.now c.args.from) (omega (arith, from, to, ge))
