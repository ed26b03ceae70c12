use Rattle.std.proofs.Common.{◌≡◌, ℕ, List, sym, subst, arith}
use Rattle.shunt_lists.specs.defs.Members.{In}
use Rattle.std.specs.Prelude.{◌↔◌}
use Rattle.shunt_stacks.specs.defs.Spans.{Span}
use Rattle.shunt_recount.specs.defs.Visits.{spans_of, fixed_in, free_in, IsBest}
use Rattle.shunt_recount.specs.defs.Moments.{IsRank, fixed_of, free_of, events_of}
use Rattle.shunt_recount.proofs.Ranked.{end_rank, zero_rank}
use Rattle.shunt_recount.proofs.Stepped.{moved_best, agree_all}
use Rattle.shunt_recount.proofs.tables.greatest_gain.Goals as goal

pub value-requires : goal.value-requires
value-requires c =
    let m = c.in_ok-moments.moments in
    let is = c.in_ok-moments.ensures.is in
    let same = c.in_ok-moments.ensures.end_same in
    let long = c.len.ensures in
    let rank = end_rank (fixed_of m) (free_of m) m.end (events_of m) is.events in
    record {
      moments = is;
      known = c.in_ok-known.ensures m;
      end = omega (arith, same);
      top = subst (λ (y : ℕ). IsRank (events_of m) y c.len.result) same (subst (IsRank (events_of m) m.end) (omega (arith, long)) rank);
      passed = omega arith;
    }

pub returns-clause-whole : goal.returns-clause-whole
returns-clause-whole c = c.in_ok-gain.ensures.is 0 (zero_rank (events_of c.in_ok-moments.moments)) (omega arith)

pub returns-clause-is : goal.returns-clause-is
returns-clause-is c =
    let m = c.in_ok-moments.moments in
    let v = c.new-visits.result in
    let is = c.new-visits.ensures in
    let at = c.in_ok-moments.ensures in
    let here : fixed_of m ≡ fixed_in v = at.fixed_same in
    let there : free_of m ≡ free_in v = at.free_same in
    moved_best (spans_of c.args.fixed.items) (spans_of c.args.free.items) (fixed_in v) (free_in v) 0 c.args.end c.args.room c.in_ok-gain.gain
    (λ n enough. c.nests.ensures.agree (fixed_in v) (free_in v) (spans_of c.args.fixed.items)
    (spans_of c.args.free.items) n 0 c.args.end c.args.room is.visits.own c.requires.own enough
    (agree_all (fixed_in v) (free_in v) (spans_of c.args.fixed.items) (spans_of c.args.free.items) 0 c.args.end is.fixed_same is.free_same))
    (subst (λ (xs : List Span). IsBest xs (free_in v) 0 c.args.end c.args.room c.in_ok-gain.gain) here
    (subst (λ (ys : List Span). IsBest (fixed_of m) ys 0 c.args.end c.args.room c.in_ok-gain.gain) there
    (c.in_ok-gain.ensures.is 0 (zero_rank (events_of m)) (omega arith))))

pub returns-clause-table : goal.returns-clause-table
returns-clause-table c =
    let m = c.in_ok-moments.moments in
    let v = c.new-visits.result in
    let is = c.new-visits.ensures in
    let at = c.in_ok-moments.ensures in
    let here : fixed_of m ≡ fixed_in v = at.fixed_same in
    let there : free_of m ≡ free_in v = at.free_same in
    record {
      moments = at.is;
      known = c.in_ok-gain.ensures.known;
      fixed_same = λ s. subst (λ (xs : List Span). In s xs ↔ In s (spans_of c.args.fixed.items)) (sym here) (is.fixed_same s);
      free_same = λ s. subst (λ (xs : List Span). In s xs ↔ In s (spans_of c.args.free.items)) (sym there) (is.free_same s);
      end_same = at.end_same;
    }
