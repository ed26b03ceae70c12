use Rattle.std.proofs.Common.{◌≡◌, map, drop, length}
use Rattle.shunt_stays.specs.defs.Run.{run}
use Rattle.shunt_tracks.specs.defs.Blocks.{blocks_of, Fit}
use Rattle.shunt_tracks.specs.defs.Dues.{move_of}
use Rattle.shunt_tracks.specs.defs.Answer.{answer}
use Rattle.shunt_tracks.proofs.Turns.{after}
use Rattle.shunt_tracks.proofs.run.run_dues.Given as goal

abbrev pub invariant-loop-due : goal.invariant-loop-due
invariant-loop-due l = record {
  sizes : length l.tracks.items ≡ length l.lengths;
  fit : Fit (λ v. blocks_of v.items) l.lengths l.tracks.items;
  run : after l.steps.items (answer (run l.lengths (map move_of (drop l.due-index l.dues)) (map (λ v. blocks_of v.items) l.tracks.items)))
      ≡ answer (run l.lengths (map move_of l.dues) (map (λ v. blocks_of v.items) l.fn.tracks.items));
}
