use Rattle.std.proofs.Common.{◌≤◌, ◌<◌, List, length, ℕ, slice_index, subst, ap, ◌∙◌, arith}
use Rattle.shunt_picture.specs.defs.Words.{x_of}
use Rattle.shunt_picture.proofs.Laid.{rowed_more, rowed_all}
use Rattle.shunt_picture.proofs.marks.train_rows.Goals as goal

pub loop-train-preserved : goal.loop-train-preserved
loop-train-preserved c =
    let old = c.loop-train.invariant in
    let t = c.train-item.result in
    let row = c.row_from-row.result in
    let noted = c.in_ok-note_end.ensures in
    let few = old.few in
    let more = noted.few in
    let place = c.x_of-x.ensures.exact ∙ ap (x_of c.args.from) c.number.ensures.value in
    record {
      rowed = rowed_more c.args.from c.args.trains.now c.loop-train.train-index c.loop-train.rows.items c.push.new.self.items c.loop-train.ends.items
          c.note_end.new.ends.items t row
          old.rowed c.loop-train-test.true c.train-item.is
          (subst (λ (l : List ℕ). row < length l → slice_index l row ≤ x_of c.args.from t.minute) c.deref.ensures.value
          (λ lt. subst (λ x. slice_index c.deref.result.now row ≤ x) place (c.row_from-row.ensures.free lt)))
          noted.within noted.longer noted.few
          (noted.here ∙ c.end_of-end.ensures.exact)
          noted.others c.in_ok-push.ensures.items;
      few = omega (arith, few, more);
    }

pub returns : goal.returns
returns c = rowed_all c.args.from c.args.trains.now c.loop-train.train-index c.loop-train.rows.items c.loop-train.ends.items c.loop-train.invariant.rowed c.loop-train-test.false
