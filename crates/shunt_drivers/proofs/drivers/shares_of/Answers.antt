use Rattle.std.proofs.Common.{◌∙◌, ◌<◌, ◌≤◌, List, sym, subst}
use Rattle.std.specs.Prelude.{All, AllPairs}
use Rattle.shunt_rows.proofs.Texts.{if_ok}
use Rattle.shunt_drivers.specs.declared.shares.MoveSpan.{MoveSpan}
use Rattle.shunt_drivers.specs.defs.SharedMoves.{IsLeast}
use Rattle.shunt_drivers.proofs.SpanCounts.{spans_rise, spans_run, spans_in_time, as_many, below_800, each_below, in_time, minutes_in_time}
use Rattle.shunt_drivers.proofs.drivers.shares_of.Goals as goal

pub share_spans-requires-clause-rise : goal.share_spans-requires-clause-rise
share_spans-requires-clause-rise c = subst (AllPairs (λ (a b : MoveSpan). a.start ≤ b.start)) (sym (c.deref.ensures.value ∙ c.in_ok-spans.ensures))
    (spans_rise c.args.instance.now c.args.crew.now c.args.moves.now c.requires.rise)

pub share_spans-requires-clause-run : goal.share_spans-requires-clause-run
share_spans-requires-clause-run c = subst (All (λ (a : MoveSpan). a.start < a.end)) (sym (c.deref.ensures.value ∙ c.in_ok-spans.ensures))
    (spans_run c.args.instance.now _ c.args.crew.now c.args.moves.now c.requires.crew)

pub returns-clause-least : goal.returns-clause-least
returns-clause-least c = if_ok c.share_spans.result _ _ c.share_spans.ensures (λ s is. subst (λ (l : List MoveSpan). IsLeast l s.shares.items s.drivers s.busy)
    (c.deref.ensures.value ∙ c.in_ok-spans.ensures) is)

pub returns-clause-many : goal.returns-clause-many
returns-clause-many c = if_ok c.share_spans.result _ _ c.share_spans.ensures (λ s is. as_many c.args.instance.now c.args.crew.now c.args.moves.now s.shares.items s.drivers s.busy
    (subst (λ (l : List MoveSpan). IsLeast l s.shares.items s.drivers s.busy) (c.deref.ensures.value ∙ c.in_ok-spans.ensures) is))

pub returns-clause-below : goal.returns-clause-below
returns-clause-below c = if_ok c.share_spans.result _ _ c.share_spans.ensures (λ s is.
    below_800 c.args.instance.now c.args.crew.now c.args.moves.now s.shares.items s.drivers s.busy
    (subst (λ (l : List MoveSpan). IsLeast l s.shares.items s.drivers s.busy) (c.deref.ensures.value ∙ c.in_ok-spans.ensures) is) c.requires.few)

pub returns-clause-numbered : goal.returns-clause-numbered
returns-clause-numbered c = if_ok c.share_spans.result _ _ c.share_spans.ensures (λ s is. each_below s.shares.items s.drivers
    (below_800 c.args.instance.now c.args.crew.now c.args.moves.now s.shares.items s.drivers s.busy
    (subst (λ (l : List MoveSpan). IsLeast l s.shares.items s.drivers s.busy) (c.deref.ensures.value ∙ c.in_ok-spans.ensures) is) c.requires.few) is.numbered)

pub returns-clause-in_time : goal.returns-clause-in_time
returns-clause-in_time c = if_ok c.share_spans.result _ _ c.share_spans.ensures (λ s is. in_time _ s.drivers s.busy
    (spans_in_time c.args.instance.now c.args.crew.now c.args.moves.now (minutes_in_time c.args.instance.now c.args.moves.now c.requires.of_night))
    (subst (λ (l : List MoveSpan). IsLeast l s.shares.items s.drivers s.busy) (c.deref.ensures.value ∙ c.in_ok-spans.ensures) is).at_busy)
