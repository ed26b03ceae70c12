use Rattle.std.specs.Prelude.{Some}
use Rattle.std.proofs.Common.{ℕ, ℤ, List, ap, sym, subst, arith, ◌∙◌}
use Rattle.shunt_prices.specs.defs.Sums.{IsWithin}
use Rattle.shunt_stacks.specs.defs.Spans.{IsSpan}
use Rattle.shunt_recount.specs.declared.visits.Visit.{Visit}
use Rattle.shunt_recount.specs.defs.Visits.{span_of, IsBest}
use Rattle.shunt_recount.specs.defs.Moments.{IsRank, IsStop, fixed_of, free_of, events_of}
use Rattle.shunt_recount.specs.defs.Places.{IsBeside}
use Rattle.shunt_recount.proofs.Small.{seen_more}
use Rattle.shunt_recount.proofs.places.gain_beside.Goals as goal

pub place_at-requires : goal.place_at-requires
place_at-requires c =
    let same = ap (λ (v : Visit). v.comes) c.stop_of-stop.ensures.same in
    let comes = c.requires.comes in
    record {
      moments = c.requires.moments;
      last = subst (λ (es : List ℕ). IsRank es c.stop_of-stop.result.visit.comes c.rank-last.result) c.deref-2.ensures.value c.rank-last.ensures;
      within = omega (arith, same, comes);
    }

pub gain_there-requires : goal.gain_there-requires
gain_there-requires c =
    let same = c.stop_of-stop.ensures.same in
    record {
      moments = c.requires.moments;
      known = c.requires.known;
      place = c.in-Some.ensures.there;
      ranks = subst (λ (es : List ℕ). IsStop es c.stop_of-stop.result) c.deref.ensures.value c.stop_of-stop.ensures.is;
      span = subst (λ (v : Visit). IsSpan (span_of v)) (sym same) c.requires.span;
      bare = ap (λ (v : Visit). v.gain) same ∙ c.requires.bare;
      whole = subst (IsWithin 2560000000000000) (sym (seen_more c.args.whole c.requires.small)) c.requires.small;
    }

pub returns-clause-exact : goal.returns-clause-exact
returns-clause-exact c = λ others more beside.
    let m = c.args.table.now.moments in
    let last = subst (λ (es : List ℕ). IsRank es c.stop_of-stop.result.visit.comes c.rank-last.result) c.deref-2.ensures.value c.rank-last.ensures in
    c.gain_there.ensures.exact c.args.room
    (subst (λ (w : ℤ). IsBest (fixed_of m) (free_of m) 0 m.end c.args.room (Some w)) (sym (seen_more c.args.whole c.requires.small)) c.requires.whole)
    (subst (IsRank (events_of m) c.stop_of-stop.result.visit.comes) (sym c.in-Some.ensures.begins) last) c.in-Some.ensures.surround others more
    (subst (λ (v : Visit). IsBeside (fixed_of m) (free_of m) others more (span_of v)) (sym c.stop_of-stop.ensures.same) beside)
