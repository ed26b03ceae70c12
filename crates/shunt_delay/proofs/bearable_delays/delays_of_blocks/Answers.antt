use Rattle.std.specs.Prelude.{All, map, not}
use Rattle.std.specs.List.{filter, range_with_len}
use Rattle.std.proofs.Common.{◌≡◌, ℕ, ◌+◌, List, sym, subst, ap, ◌∙◌}
use Rattle.shunt_base.specs.declared.ids.ArrId.{ArrId}
use Rattle.shunt_instance.specs.declared.records.Train.{Train}
use Rattle.shunt_instance.specs.defs.Words.{train_at, has_come}
use Rattle.shunt_timeline.specs.defs.Holdings.{Holding}
use Rattle.shunt_delay.specs.declared.records.Delay.{Delay}
use Rattle.shunt_delay.specs.defs.Delays.{IsDelay}
use Rattle.shunt_delay.specs.defs.Kept.{AreAll}
use Rattle.shunt_delay.proofs.Planned.{trains_more, each_more, trains_same}
use Rattle.shunt_delay.proofs.bearable_delays.delays_of_blocks.Goals as goal
use Rattle.shunt_delay.proofs.bearable_delays.delays_of_blocks.Goals.{then-not-has_come+in_ok-delay+in_ok-push, else-not-has_come}

pub stays_of-requires : goal.stays_of-requires
stays_of-requires c = λ k d lt. (c.requires.in_range.each k d lt).within

pub loop-index-preserved : goal.loop-index-preserved
loop-index-preserved c =
    let night = c.args.instance.now in
    let is : has_come (train_at night.arrive c.loop-index.index) ≡ c.has_come.result = ap (λ (n : ℕ). has_come (train_at night.arrive n)) (sym c.train_at-train.ensures)
    ∙ ap (λ (t : Train). has_come t) (sym c.arrive.ensures.exact) ∙ sym c.has_come.ensures in
    elim c.if-not-has_come.branch [
      | then-not-has_come+in_ok-delay+in_ok-push w ↦
          let after = ap (λ (v : _). v.items) w.delays-is ∙ w.in_ok-push.ensures.items in
          record {
            all = subst (λ (h : Holding). AreAll night c.args.blocks.now h) (sym w.timelines-is) w.delay_of.ensures.all;
            trains = trains_more night c.loop-index.index c.loop-index.delays.items c.if-not-has_come.delays.items w.in_ok-delay.delay
                (ap (λ (t : ArrId). t.0) w.in_ok-delay.ensures.delay.0 ∙ c.train_at-train.ensures) (is ∙ w.if-not-has_come.true) c.loop-index.invariant.trains after;
            each = each_more night c.args.blocks.now c.loop-index.delays.items c.if-not-has_come.delays.items w.in_ok-delay.delay c.loop-index.invariant.each
                w.in_ok-delay.ensures.delay.1 after;
          }
      | else-not-has_come w ↦
          let same = ap (λ (v : _). v.items) w.delays-is in
          record {
            all = subst (λ (h : Holding). AreAll night c.args.blocks.now h) (sym w.timelines-is) c.loop-index.invariant.all;
            trains = subst (λ (ds : List Delay). map (λ (d : Delay). d.train.0) ds
                ≡ filter (λ i. not (has_come (train_at night.arrive i))) (range_with_len 0 (c.loop-index.index + 1))) (sym same)
                (trains_same night c.loop-index.index c.loop-index.delays.items (is ∙ w.if-not-has_come.false) c.loop-index.invariant.trains);
            each = subst (λ (ds : List Delay). All (IsDelay night c.args.blocks.now) ds) (sym same) c.loop-index.invariant.each;
          }
    ]
