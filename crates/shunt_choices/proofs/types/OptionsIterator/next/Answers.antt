use Rattle.std.specs.Prelude.{IfSome, Option}
use Rattle.std.proofs.Common.{◌∷◌, ◌+◌, ◌*◌, ◌<◌, length, arith, sym, ap, subst, ◌∙◌}
use Rattle.shunt_blocks.specs.declared.records.Park.{Park}
use Rattle.shunt_choices.specs.defs.Cursors.{options_left}
use Rattle.shunt_blocks.specs.defs.Blocks.{is_option}
use Rattle.shunt_choices.proofs.Rests.{on_track, option_given, option_skipped, options_end}
use Rattle.shunt_choices.proofs.Progress.{progress}
use Rattle.shunt_choices.proofs.types.OptionsIterator.next.Goals as goal

pub is_option-requires-clause-track : goal.is_option-requires-clause-track
is_option-requires-clause-track c =
    let below : c.candidates.self-inside.at < 4 * length c.candidates.self-inside.instance.now.station.tracks + 1 = omega
    (arith, c.candidates.invariant.end, c.candidates-test.true) in
    subst (λ (o : Option Park). IfSome o (λ k. k.track.0 < length c.candidates.self-inside.instance.now.station.tracks)) (sym c.candidate-option.ensures)
    (on_track (length c.candidates.self-inside.instance.now.station.tracks) c.candidates.self-inside.at below)

pub returns-then-is_option-clause-steps : goal.returns-then-is_option-clause-steps
returns-then-is_option-clause-steps c =
    let below : c.candidates.self-inside.at < 4 * length c.candidates.self-inside.instance.now.station.tracks + 1 = omega
    (arith, c.candidates.invariant.end, c.candidates-test.true) in
    sym c.candidates.invariant.left
    ∙ option_given c.candidates.self-inside.instance.now c.candidates.self-inside.shape c.candidates.self-inside.at below
    (ap (is_option c.candidates.self-inside.instance.now c.candidates.self-inside.shape) (sym c.candidate-option.ensures) ∙ sym c.is_option.ensures.is ∙ c.if-is_option.true)
    ∙ ap (λ (o : Option Park). o ∷ options_left c.candidates.self-inside.instance.now c.candidates.self-inside.shape (c.candidates.self-inside.at + 1))
    (sym c.candidate-option.ensures)

pub returns-then-is_option-clause-goes : goal.returns-then-is_option-clause-goes
returns-then-is_option-clause-goes c = progress _ _ _ (returns-then-is_option-clause-steps c)

pub candidates-preserved : goal.candidates-preserved
candidates-preserved c =
    let below : c.candidates.self-inside.at < 4 * length c.candidates.self-inside.instance.now.station.tracks + 1 = omega
    (arith, c.candidates.invariant.end, c.candidates-test.true) in
    record {
      shape = c.candidates.invariant.shape;
      within = omega (arith, c.candidates-test.true);
      end = c.candidates.invariant.end;
      left = sym (option_skipped c.candidates.self-inside.instance.now c.candidates.self-inside.shape c.candidates.self-inside.at below
          (ap (is_option c.candidates.self-inside.instance.now c.candidates.self-inside.shape) (sym c.candidate-option.ensures) ∙ sym c.is_option.ensures.is
          ∙ c.if-is_option.false)) ∙ c.candidates.invariant.left;
    }

pub returns-clause-steps : goal.returns-clause-steps
returns-clause-steps c =
    let nothing = options_end c.candidates.self-inside.instance.now c.candidates.self-inside.shape c.candidates.self-inside.at
    (omega (arith, c.candidates.invariant.end, c.candidates-test.false)) in
    (sym c.candidates.invariant.left ∙ nothing, nothing)
