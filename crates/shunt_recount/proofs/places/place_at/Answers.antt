use Rattle.std.proofs.Common.{◌≡◌, subst, arith}
use Rattle.shunt_recount.specs.defs.Moments.{IsRank, fixed_of, free_of, events_of}
use Rattle.shunt_recount.proofs.Beside.{starts}
use Rattle.shunt_recount.proofs.Ranked.{rank_le, zero_rank, end_rank}
use Rattle.shunt_recount.proofs.places.place_at.Goals as goal

pub places-init : goal.places-init
places-init c =
    let m = c.args.moments.now in
    let long = c.len.ensures in
    record {
      there = record {
        starts = omega arith;
        ends = c.requires.within;
        within = omega arith;
        passed = zero_rank (events_of m);
        top = subst (IsRank (events_of m) m.end) (omega (arith, long)) (end_rank (fixed_of m) (free_of m) m.end (events_of m) c.requires.moments.events);
      };
      surround = λ others more own beside comes. starts (fixed_of m) (free_of m) others more own m.end c.args.room;
    }

pub places-preserved : goal.places-preserved
places-preserved c = record { there = c.in_ok-place.ensures.there; surround = c.in_ok-place.ensures.leads c.args.room c.places.invariant.surround }

pub returns-clause-begins : goal.returns-clause-begins
returns-clause-begins c =
    let p = c.places.place in
    let there = c.places.invariant.there in
    let le = rank_le (events_of c.args.moments.now) p.x c.args.at p.passed c.args.last there.passed c.requires.last there.starts in
    let more = c.places-test.false in
    let same : p.passed ≡ c.args.last = omega (arith, le, more) in
    same
