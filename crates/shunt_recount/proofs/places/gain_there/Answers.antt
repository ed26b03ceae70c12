use Rattle.std.specs.Prelude.{Some, IfSome}
use Rattle.std.proofs.Common.{◌≡◌, ℤ, refl, subst, arith}
use Rattle.shunt_stacks.specs.defs.Spans.{best}
use Rattle.shunt_recount.specs.defs.Visits.{span_of}
use Rattle.shunt_recount.specs.defs.Moments.{fixed_of, free_of, events_of}
use Rattle.shunt_recount.specs.defs.Places.{IsInPlace}
use Rattle.shunt_stacks.proofs.MaybeGains.{each_some}
use Rattle.shunt_recount.proofs.Beside.{NestLaws, skipped, whole_with}
use Rattle.shunt_recount.proofs.Ranked.{rank_le, none_between}
use Rattle.shunt_recount.proofs.Small.{gain_small, seen_more}
use Rattle.shunt_recount.proofs.places.gain_there.Goals as goal

pub gain_from-requires : goal.gain_from-requires
gain_from-requires c =
    let p = c.requires.place in
    let starts = p.starts in
    let ends = p.ends in
    record {
      moments = c.requires.moments;
      known = c.requires.known;
      end = p.within;
      top = p.top;
      passed = rank_le (events_of c.args.moments.now) c.args.place.x c.args.place.key.end c.args.place.passed c.args.place.key.top p.passed p.top (omega (arith, starts, ends));
    }

pub gain_from-requires-2 : goal.gain_from-requires-2
gain_from-requires-2 c =
    let leaves = c.requires.span.leaves in
    let gone = c.if-own-place.false in
    let within = c.requires.place.within in
    record {
      moments = c.requires.moments;
      known = c.requires.known;
      end = omega (arith, leaves, gone, within);
      top = c.requires.ranks.until;
      passed = rank_le (events_of c.args.moments.now) c.args.own.visit.inside c.args.own.visit.until c.args.own.inside c.args.own.until c.requires.ranks.inside
          c.requires.ranks.until c.requires.span.stays;
    }

pub gain_from-requires-3 : goal.gain_from-requires-3
gain_from-requires-3 c =
    let p = c.requires.place in
    let gone = c.if-own-place.false in
    record {
      moments = c.requires.moments;
      known = c.requires.known;
      end = p.within;
      top = p.top;
      passed = rank_le (events_of c.args.moments.now) c.args.own.visit.gone c.args.place.key.end c.args.own.gone c.args.place.key.top c.requires.ranks.gone p.top
          (omega (arith, gone));
    }

pub in_place-requires-clause-without : goal.in_place-requires-clause-without
in_place-requires-clause-without c =
    let m = c.args.moments.now in
    let v = c.requires.moments.visits in
    let p = c.requires.place in
    let starts = p.starts in
    let ends = p.ends in
    gain_small (fixed_of m) (free_of m) v.own v.small c.args.place.x c.args.place.key.end c.args.place.key.room c.in_ok-without.without
    (c.in_ok-without.ensures c.args.place.x p.passed (omega (arith, starts, ends)))

pub in_place-requires-clause-inside : goal.in_place-requires-clause-inside
in_place-requires-clause-inside c =
    let m = c.args.moments.now in
    let v = c.requires.moments.visits in
    let o = c.args.own in
    let stays = c.requires.span.stays in
    gain_small (fixed_of m) (free_of m) v.own v.small o.visit.inside o.visit.until _ c.in_ok-inside.inside
    (c.in_ok-inside.ensures o.visit.inside c.requires.ranks.inside stays)

pub in_place-requires-clause-behind : goal.in_place-requires-clause-behind
in_place-requires-clause-behind c =
    let m = c.args.moments.now in
    let v = c.requires.moments.visits in
    let o = c.args.own in
    let p = c.requires.place in
    let gone = c.if-own-place.false in
    gain_small (fixed_of m) (free_of m) v.own v.small o.visit.gone c.args.place.key.end c.args.place.key.room c.in_ok-behind.behind
    (c.in_ok-behind.ensures o.visit.gone c.requires.ranks.gone (omega (arith, gone)))

pub returns-clause-exact : goal.returns-clause-exact
returns-clause-exact c = λ room whole rank surround others more beside.
    let m = c.args.moments.now in
    let v = c.requires.moments.visits in
    let o = c.args.own in
    let place = c.args.place in
    let p = c.requires.place in
    let starts = p.starts in
    let ends = p.ends in
    let within = p.within in
    let gone = c.if-own-place.false in
    let long = c.if-own-place-2.false in
    let stays = c.requires.span.stays in
    let laws : NestLaws = record { at_fixed = c.nests.ensures.at_fixed; at_none = c.nests.ensures.at_none; agree = c.nests.ensures.agree } in
    let there = skipped laws (fixed_of m) (free_of m) v.own others more (span_of o.visit) beside m.end room place.x place.key.end place.key.room ends within
    (surround others more (span_of o.visit) beside refl) o.visit.comes starts (omega arith)
    (none_between (fixed_of m) (free_of m) m.end (events_of m) c.requires.moments.events place.x o.visit.comes place.passed p.passed rank (omega (arith, ends, within))) in
    let without = c.in_ok-without.ensures o.visit.comes rank (omega (arith, ends)) in
    let inside = c.in_ok-inside.ensures o.visit.inside c.requires.ranks.inside stays in
    let behind = c.in_ok-behind.ensures o.visit.gone c.requires.ranks.gone (omega (arith, gone)) in
    let leaves = c.requires.span.leaves in
    each_some (IsInPlace (Some c.args.whole) c.in_ok-without.without c.in_ok-inside.inside c.in_ok-behind.behind)
    (λ (z : ℤ). best m.end others more 0 m.end room ≡ Some z) c.in_place.result
    (subst (λ (w : ℤ). IfSome c.in_place.result (IsInPlace (Some w) c.in_ok-without.without c.in_ok-inside.inside c.in_ok-behind.behind))
    (seen_more c.args.whole c.requires.whole) c.in_place.ensures.exact)
    (λ z is. whole_with laws (fixed_of m) (free_of m) v.own others more (span_of o.visit) beside m.end room place.key.end place.key.room within c.requires.bare
    (omega (arith, gone)) (omega (arith, long)) there (Some c.args.whole) c.in_ok-without.without c.in_ok-inside.inside c.in_ok-behind.behind
    (whole m.end (omega arith)) (without m.end (omega (arith, within))) (inside m.end (omega (arith, leaves, gone, within))) (behind m.end (omega (arith, within))) z is)
