use Rattle.std.proofs.Common.{rules, arith, subst, sym, ◌<◌, ◌+◌}
use Rattle.std.specs.List.{All}
use Rattle.std.proofs.lemmas.List.Elements.{All-push}
use Rattle.shunt_base.specs.declared.keys.Stay.{Stay}
use Rattle.shunt_base.specs.defs.Keys.{AreStays}
use Rattle.shunt_tables.proofs.stays.stays.Goals as goal
use Rattle.shunt_stays.proofs.NumberedStays.{AreBelow, stays_more, below_more}

pub loop-number-preserved : goal.loop-number-preserved
loop-number-preserved c =
    let i = c.loop-number.invariant in
    let all = c.loop-number.all.items in
    let s = c.stay_at.result in
    let e = sym c.in_ok-push.ensures.items in
    record {
      formed = subst AreStays e (stays_more c.loop-number.number all s i.formed i.below c.stay_at.ensures.formed c.stay_at.ensures.id);
      below = subst (AreBelow (c.loop-number.number + 1)) e (below_more c.loop-number.number all s i.below c.stay_at.ensures.id);
      tracks = subst (All (λ (t : Stay). t.track.0 < c.args.tracks)) e (All-push (λ t. t.track.0 < c.args.tracks) all s i.tracks (omega (arith, c.stay_at.ensures.track)));
      size = search rules;
    }
