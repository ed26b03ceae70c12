use Rattle.std.specs.Prelude.{IfOk, IsTrue, ◌↔◌}
use Rattle.std.proofs.Common.{List, subst, ◌∙◌}
use Rattle.shunt_blocks.specs.declared.records.Block.{Block}
use Rattle.shunt_blocks.specs.defs.Lists.{RunsThrough, placed}
use Rattle.shunt_checker.proofs.Growth.{within_with, apart_with, short_with}
use Rattle.shunt_checker.proofs.missed_choices.goes_through.Goals as goal

pub runs_placed-requires-clause-few : goal.runs_placed-requires-clause-few
runs_placed-requires-clause-few c =
    short_with (record { unit_in = c.places.ensures.unit_in; position_in = c.places.ensures.position_in }) c.args.instance.now c.args.path.now c.args.shape c.args.park
    c.requires.path c.requires.free c.requires.track c.requires.few c.deref.result.now (c.deref.ensures.value ∙ c.in_ok-blocks.ensures)

pub runs_placed-requires-clause-within : goal.runs_placed-requires-clause-within
runs_placed-requires-clause-within c =
    within_with (record { unit_in = c.places.ensures.unit_in; position_in = c.places.ensures.position_in }) c.args.instance.now c.args.path.now c.args.shape c.args.park
    c.requires.path c.requires.free c.requires.track c.requires.few c.deref.result.now (c.deref.ensures.value ∙ c.in_ok-blocks.ensures)

pub runs_placed-requires-clause-apart : goal.runs_placed-requires-clause-apart
runs_placed-requires-clause-apart c =
    apart_with (record { unit_in = c.places.ensures.unit_in; position_in = c.places.ensures.position_in }) c.args.instance.now c.args.path.now c.args.shape c.args.park
    c.requires.path c.requires.free c.requires.track c.requires.few c.deref.result.now (c.deref.ensures.value ∙ c.in_ok-blocks.ensures)

pub returns : goal.returns
returns c =
    subst (λ (bs : List Block). IfOk c.runs_placed.result (λ b. IsTrue b ↔ RunsThrough c.args.instance.now (placed bs)))
    (c.deref.ensures.value ∙ c.in_ok-blocks.ensures) c.runs_placed.ensures
