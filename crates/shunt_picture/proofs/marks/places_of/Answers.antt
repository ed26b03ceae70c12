use Rattle.std.proofs.Common.{◌+◌, ◌-◌, arith}
use Rattle.shunt_picture.specs.defs.Marks.{is_told}
use Rattle.shunt_picture.proofs.Ranges.{noted_more}
use Rattle.shunt_picture.proofs.marks.places_of.Goals as goal

pub loop-place-preserved : goal.loop-place-preserved
loop-place-preserved c =
    let from = c.loop-place.invariant.from in
    let lt = c.loop-place-test.true in
    record {
      from = omega (arith, from);
      to = omega (arith, lt);
      places = noted_more (λ place. is_told c.args.findings.now c.args.kind (c.args.first + place)) 1
          (c.loop-place.place - 1) _ c.loop-place.place c.loop-place.places.items c.note_place.new.places.items (omega (arith, from))
          (omega (arith, from)) c.loop-place.invariant.places c.in_ok-note_place.ensures;
    }
