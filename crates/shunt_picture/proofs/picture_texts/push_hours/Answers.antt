use Rattle.std.proofs.Common.{◌-◌, ◌++◌, ap, ◌∙◌, arith}
use Rattle.std.specs.List.{flat_map, range_with_len}
use Rattle.shunt_picture.specs.defs.PictureTexts.{hour_text}
use Rattle.shunt_picture.proofs.Ranges.{texts_more}
use Rattle.shunt_picture.proofs.picture_texts.push_hours.Goals as goal

pub loop-hour-preserved : goal.loop-hour-preserved
loop-hour-preserved c =
    let from = c.loop-hour.invariant.from in
    let to = c.loop-hour.invariant.to in
    let lt = c.loop-hour-test.true in
    record {
      from = omega (arith, from);
      to = omega (arith, from, to, lt);
      text = texts_more (hour_text c.args.picture.now) c.args.picture.now.from (c.loop-hour.hour - c.args.picture.now.from) _ c.loop-hour.hour c.args.text.now c.loop-hour.text
          c.push_hour.new.text (omega (arith, from)) (omega (arith, from)) c.loop-hour.invariant.text c.in_ok-push_hour.ensures;
    }

pub returns : goal.returns
returns c =
    let from = c.loop-hour.invariant.from in
    let to = c.loop-hour.invariant.to in
    let ge = c.loop-hour-test.false in
    c.loop-hour.invariant.text ∙ ap (λ k. c.args.text.now ++ flat_map (hour_text c.args.picture.now) (range_with_len c.args.picture.now.from k)) (omega (arith, from, to, ge))
