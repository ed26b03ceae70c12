use Rattle.std.proofs.Common.{◌<◌, ◌∙◌, length}
use Rattle.std.proofs.lemmas.List.{length-set}
use Rattle.shunt_tracks.specs.defs.Blocks.{blocks_of}
use Rattle.shunt_tracks.proofs.Turns.{turned, fits, within}
use Rattle.shunt_tracks.proofs.run.run_dues.Goals as goal

pub loop-due-preserved : goal.loop-due-preserved
loop-due-preserved c =
    let i = c.loop-due.invariant in
    let lt : c.from-track.result < length c.loop-due.tracks.items = within c.args.lengths.now c.args.dues.now c.loop-due.due-index c.from-track.result
    (length c.loop-due.tracks.items) _ c.requires.on c.loop-due-test.true c.from-track.ensures i.sizes in
    record {
      sizes = length-set c.loop-due.tracks.items c.from-track.result c.done.new.blocks ∙ i.sizes;
      fit = fits (λ v. blocks_of v.items) c.args.lengths.now c.args.dues.now c.loop-due.due-index c.loop-due.tracks.items c.from-track.result _ c.index_mut.result.now
          c.loop-due-test.true c.from-track.ensures lt c.index_mut.ensures.value c.in_ok-load.field-0 c.in-Moved.load c.done.new.blocks c.in-Moved.is c.in_ok-load.ensures i.fit;
      run = turned (λ v. blocks_of v.items) c.args.lengths.now c.args.dues.now c.loop-due.due-index c.loop-due.tracks.items c.from-track.result _ c.index_mut.result.now
          c.loop-due-test.true c.from-track.ensures lt c.index_mut.ensures.value c.loop-due.steps.items c.push.new.self.items c.in_ok-load.field-0 c.in-Moved.load c.done.new.blocks
          c.event_of-event.result _ c.in-Moved.is c.in_ok-load.ensures c.event_of-event.ensures c.in_ok-push-in-Moved.ensures.items i.run;
    }
