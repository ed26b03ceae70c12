use Rattle.shunt_tracks.specs.defs.Blocks.{blocks_of}
use Rattle.shunt_tracks.proofs.SortedDues.{dues_on}
use Rattle.shunt_tracks.proofs.Turns.{fit_empty}
use Rattle.shunt_tracks.proofs.run.run_lists.Goals as goal

pub run_dues-requires-clause-on : goal.run_dues-requires-clause-on
run_dues-requires-clause-on c = rw c.deref.ensures.value (dues_on c.args.lengths.now c.args.stays.now c.in_ok-dues.dues.items c.requires.tracks c.in_ok-dues.ensures)

pub run_dues-requires-clause-fit : goal.run_dues-requires-clause-fit
run_dues-requires-clause-fit c = fit_empty (λ v. blocks_of v.items) c.args.lengths.now c.in_ok-tracks.tracks.items c.in_ok-tracks.ensures
