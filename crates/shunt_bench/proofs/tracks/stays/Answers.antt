use Rattle.std.proofs.Common.{rules, arith, subst, sym, ◌<◌, ◌+◌}
use Rattle.std.specs.List.{All}
use Rattle.std.proofs.lemmas.List.Elements.{All-push}
use Rattle.shunt_base.specs.declared.keys.Stay.{Stay}
use Rattle.shunt_base.specs.defs.Keys.{AreStays}
use Rattle.shunt_bench.proofs.tracks.stays.Goals as goal
use Rattle.shunt_stays.proofs.NumberedStays.{AreBelow, stays_more, below_more}

pub loop-number-preserved : goal.loop-number-preserved
loop-number-preserved c =
    let i = c.loop-number.invariant in
    let all = c.loop-number.all.items in
    let s = c.stay.result in
    let e = sym c.in_ok-push.ensures.items in
    record {
      formed = subst AreStays e (stays_more c.loop-number.number all s i.formed i.below c.stay.ensures.formed c.stay.ensures.id);
      below = subst (AreBelow (c.loop-number.number + 1)) e (below_more c.loop-number.number all s i.below c.stay.ensures.id);
      tracks = subst (All (λ (t : Stay). t.track.0 < 1)) e (All-push (λ t. t.track.0 < 1) all s i.tracks (omega (arith, c.stay.ensures.track)));
      size = search rules;
    }
