-- How many listed events are before an event, and what that tells of the greatest gain from there on.
use Rattle.std.specs.Prelude.{Option, Some, None, true, false, map}
use Rattle.std.proofs.Common.{◌≡◌, ◌⊎◌, inl, inr, ⊎_elim, ℕ, zero, suc, Bool, ◌+◌, ◌-◌, ◌<◌, ◌≤◌, List, length, get_or, ℤ, pos, refl, sym, subst, ap, ◌∙◌, arith}
use Rattle.std.proofs.lemmas.Bool.{cases_lt}
use Rattle.shunt_lists.specs.defs.Members.{In}
use Rattle.shunt_lists.proofs.Members.{in_map}
use Rattle.shunt_stacks.specs.defs.Spans.{Span, IsSpan, AreOwn, greater, greatest_of, best_with, best_step, best}
use Rattle.shunt_recount.specs.declared.moments.Stop.{Stop}
use Rattle.shunt_recount.specs.declared.moments.Moment.{Moment}
use Rattle.shunt_recount.specs.declared.moments.Moments.{Moments}
use Rattle.shunt_recount.specs.defs.Visits.{IsBest, span_of}
use Rattle.shunt_recount.specs.defs.Moments.{event_at, IsRank, AreEvents, stop_spans, IsMoment, fixed_of, free_of, events_of, AreMoments, IsValue, AreGains, IsStopAt}
use Rattle.shunt_stacks.proofs.Best.{of_coming as comes_there}
use Rattle.shunt_recount.proofs.Stepped.{NoneLaw, part_passed, part_empty, by_fixed, by_free}

pub rank_le : (events : List ℕ) (x y i j : ℕ) → IsRank events x i → IsRank events y j → x ≤ y → i ≤ j
rank_le events x y i j a b le = ⊎_elim
    (λ (less : j < i). let w = a.within in let p = a.before j less in let q = b.behind j (omega arith) (omega (arith, less, w)) in absurd (omega (arith, p, q, le)))
    (λ more. more)
    (cases_lt j i)

pub rank_same : (events : List ℕ) (x i j : ℕ) → IsRank events x i → IsRank events x j → i ≡ j
rank_same events x i j a b = let p = rank_le events x x i j a b (omega arith) in let q = rank_le events x x j i b a (omega arith) in omega (arith, p, q)

-- an event behind a listed one has more before it
pub rank_more : (events : List ℕ) (k y j : ℕ) → k < length events → event_at events k < y → IsRank events y j → k < j
rank_more events k y j lt later b = ⊎_elim (λ less. less) (λ (le : j ≤ k). let q = b.behind k le lt in absurd (omega (arith, q, later))) (cases_lt k j)

module _ (fixed free : List Span) (end : ℕ) (events : List ℕ) (are : AreEvents fixed free end events) where
  rise_le : (j k : ℕ) → j ≤ k → k < length events → event_at events j ≤ event_at events k
  rise_le j k le lt = ⊎_elim
      (λ (less : j < k). let r = are.rise j k less lt in omega (arith, r))
      (λ (more : k ≤ j). let e : j ≡ k = omega (arith, le, more) in subst (λ (i : ℕ). event_at events j ≤ event_at events i) e (omega arith))
      (cases_lt j k)

  pub own_rank : (k : ℕ) → k < length events → IsRank events (event_at events k) k
  own_rank k lt = record { within = omega (arith, lt); before = λ i less. are.rise i k less lt; behind = λ i le there. rise_le k i le there }

  pub next_rank : (k : ℕ) → k < length events → IsRank events (event_at events k + 1) (k + 1)
  next_rank k lt = record {
    within = omega (arith, lt);
    before = λ i less. let r = rise_le i k (omega (arith, less)) lt in omega (arith, r);
    behind = λ i le there. let r = are.rise k i (omega (arith, le)) there in omega (arith, r);
  }

  -- there are no more events than numbers before the end
  risen : (k : ℕ) → k < length events → k ≤ event_at events k
  risen zero lt = omega arith
  risen (suc k) lt =
      let before = risen k (omega (arith, lt)) in
      let r = are.rise k (suc k) (omega arith) lt in
      omega (arith, before, r)

  pub few_events : length events ≤ end
  few_events = ⊎_elim
      (λ (some : 0 < length events).
      let k = length events - 1 in
      let lt : k < length events = omega (arith, some) in
      let a = risen k lt in
      let b = are.within k lt in
      omega (arith, a, b, some))
      (λ (none : length events ≤ 0). omega (arith, none))
      (cases_lt 0 (length events))

  pub end_rank : IsRank events end (length events)
  end_rank = record { within = omega arith; before = λ k less. are.within k less; behind = λ k le there. absurd (omega (arith, le, there)) }

  -- what comes from an event on comes at a listed one that is not before it
  from_rank : (x j : ℕ) → IsRank events x j → (s : Span) → In s fixed ⊎ In s free → x ≤ s.from → s.from < end →
      (k : ℕ) × (j ≤ k) × (k < length events) × (event_at events k ≡ s.from)
  from_rank x j rank s i le lt =
      let a = are.all s i lt in (
        a.0,
        ⊎_elim (λ (less : a.0 < j). let p = rank.before a.0 less in let e = a.2 in absurd (omega (arith, p, e, le))) (λ more. more) (cases_lt a.0 j),
        a.1,
        a.2,
      )

  -- of the same rank are events between which nothing comes, and so are an event and the next listed one
  pub none_between : (x y j : ℕ) → IsRank events x j → IsRank events y j → y ≤ end → (s : Span) → In s fixed ⊎ In s free → x ≤ s.from → y ≤ s.from
  none_between x y j a b to s i le = ⊎_elim
      (λ (less : s.from < end).
      let h = from_rank x j a s i le less in
      let q = b.behind h.0 h.1 h.2 in
      let e = h.3 in
      omega (arith, q, e))
      (λ (more : end ≤ s.from). omega (arith, more, to))
      (cases_lt s.from end)

  module _ (law : NoneLaw fixed free) (y room : ℕ) (to : y ≤ end) where
    -- where nothing is listed before an end there is nothing to gain
    pub none_value : (x j : ℕ) → IsRank events y j → IsRank events x j → x ≤ y → IsBest fixed free x y room (Some (pos 0))
    none_value x j last rank le = part_empty fixed free law x y room y le (omega arith) (λ s i from. ⊎_elim
        (λ (less : s.from < end).
        let a = from_rank x j rank s i from less in
        let q = last.behind a.0 a.1 a.2 in
        let e = a.3 in
        omega (arith, q, e))
        (λ (more : end ≤ s.from). omega (arith, more, to))
        (cases_lt s.from end))

    -- the gain from a listed event on is that from where as many have passed
    pub same_value : (x j : ℕ) (g : Option ℤ) → IsRank events x j → j < length events → event_at events j ≤ y → IsBest fixed free (event_at events j) y room g →
        IsBest fixed free x y room g
    same_value x j g rank lt before is = part_passed fixed free law x y room (event_at events j) g (rank.behind j (omega arith) lt) before
        (λ s i from. ⊎_elim
        (λ (less : s.from < end).
        let a = from_rank x j rank s i from less in
        let r = rise_le j a.0 a.1 a.2 in
        let e = a.3 in
        omega (arith, r, e))
        (λ (more : end ≤ s.from). omega (arith, more, to, before))
        (cases_lt s.from end))
        is

pub zero_rank : (events : List ℕ) → IsRank events 0 0
zero_rank events = record { within = omega arith; before = λ k less. absurd (omega (arith, less)); behind = λ k le there. omega arith }

-- ---- the gains of a row

-- the laws of the recursion
pub record StepLaws : Type 0 where
  pub steps : (fixed free : List Span) (n x y room : ℕ) → AreOwn fixed free → y ≤ x + n → best n fixed free x y room ≡ best_step (best n fixed free) fixed free x y room
  pub at_none : (fixed free : List Span) (n x y room : ℕ) → AreOwn fixed free → ((s : Span) → In s fixed ⊎ In s free → s.from ≡ x → ⊥) → x < y → y ≤ x + n →
      best n fixed free x y room ≡ best n fixed free (x + 1) y room

module _ (laws : StepLaws) (m : Moments) (are : AreMoments m) where
  passes : NoneLaw (fixed_of m) (free_of m)
  passes n x y room = laws.at_none (fixed_of m) (free_of m) n x y room are.visits.own

  module _ (end top room : ℕ) (to : end ≤ m.end) (last : IsRank (events_of m) end top) where
    -- nothing is gained at the end itself
    pub first_gain : IsValue m top end room (Some (pos 0))
    first_gain x rank le = none_value (fixed_of m) (free_of m) m.end (events_of m) are.events passes end room to x top last rank le

    module _ (j : ℕ) (lt : j < top) where
      listed_is : j < length (events_of m)
      listed_is = let w = last.within in omega (arith, lt, w)

      early : event_at (events_of m) j < end
      early = last.before j lt

      -- the gain with what comes at the next event is that from there on
      with_moment : (g : Option ℤ) → IsBest (fixed_of m) (free_of m) (event_at (events_of m) j) end room g → IsValue m j end room g
      with_moment g is x rank le = let e = early in same_value (fixed_of m) (free_of m) m.end (events_of m) are.events passes end room to x j g rank listed_is (omega (arith, e)) is

      pub fixed_gain : (mo : Moment) (g : Option ℤ) → IsMoment (fixed_of m) (free_of m) (events_of m) (event_at (events_of m) j) mo → mo.is_fixed ≡ true →
          ((n : ℕ) → end ≤ event_at (events_of m) j + n → g ≡ greater None (greatest_of (map (best_with (best n (fixed_of m) (free_of m)) end room) (stop_spans mo.stops.items)))) →
          IsValue m j end room g
      fixed_gain mo g moment fixed is = let h = moment.fixed_come fixed in with_moment g (λ n enough.
          by_fixed (best n (fixed_of m) (free_of m)) (fixed_of m) (free_of m) (event_at (events_of m) j) end room early (stop_spans mo.stops.items) g h.1 h.0 (is n enough)
          ∙ sym (laws.steps (fixed_of m) (free_of m) n (event_at (events_of m) j) end room are.visits.own enough))

      pub free_gain : (mo : Moment) (without g : Option ℤ) → IsMoment (fixed_of m) (free_of m) (events_of m) (event_at (events_of m) j) mo → mo.is_fixed ≡ false →
          IsValue m (j + 1) end room without →
          ((n : ℕ) → end ≤ event_at (events_of m) j + n → g ≡ greater without (greatest_of (map (best_with (best n (fixed_of m) (free_of m)) end room) (stop_spans mo.stops.items)))) →
          IsValue m j end room g
      free_gain mo without g moment free rest is =
          let h = moment.free_come free in
          let e = early in
          let behind = rest (event_at (events_of m) j + 1) (next_rank (fixed_of m) (free_of m) m.end (events_of m) are.events j listed_is) (omega (arith, e)) in
          with_moment g (λ n enough.
          by_free (best n (fixed_of m) (free_of m)) (fixed_of m) (free_of m) (event_at (events_of m) j) end room early (stop_spans mo.stops.items) without g h.1 h.0
          (behind n (omega (arith, enough))) (is n enough)
          ∙ sym (laws.steps (fixed_of m) (free_of m) n (event_at (events_of m) j) end room are.visits.own enough))

-- ---- a visit that comes at the event with a number

module _ (m : Moments) (are : AreMoments m) (k : ℕ) (lt : k < length (events_of m)) (s : Stop) (at : IsStopAt m k s) where
  pub span_is : IsSpan (span_of s.visit)
  span_is = are.visits.own.spans (span_of s.visit) at.ours

  pub gone_later : k < s.gone
  gone_later =
      let is = span_is in
      let a : s.visit.comes < s.visit.inside = is.enters in
      let b : s.visit.inside ≤ s.visit.until = is.stays in
      let d : s.visit.until < s.visit.gone = is.leaves in
      let e = at.comes in
      rank_more (events_of m) k s.visit.gone s.gone lt (omega (arith, a, b, d, e)) at.ranks.gone

  pub inside_later : k < s.inside
  inside_later =
      let is = span_is in
      let a : s.visit.comes < s.visit.inside = is.enters in
      let e = at.comes in
      rank_more (events_of m) k s.visit.inside s.inside lt (omega (arith, a, e)) at.ranks.inside

  pub gone_within : (end top : ℕ) → IsRank (events_of m) end top → s.visit.gone ≤ end → s.gone ≤ top
  gone_within end top rank le = rank_le (events_of m) s.visit.gone end s.gone top at.ranks.gone rank le

  pub inside_until : s.inside ≤ s.until
  inside_until = rank_le (events_of m) s.visit.inside s.visit.until s.inside s.until at.ranks.inside at.ranks.until (let is = span_is in is.stays)

module _ (m : Moments) (k : ℕ) (mo : Moment) (is : IsMoment (fixed_of m) (free_of m) (events_of m) (event_at (events_of m) k) mo) (s : Stop) (i : In s mo.stops.items) where
  -- one of the visits of a moment comes there
  stop_by : (b : Bool) → mo.is_fixed ≡ b → IsStopAt m k s
  stop_by true e =
      let h = comes_there (event_at (events_of m) k) (fixed_of m) (span_of s.visit)
      (subst (λ (l : List Span). In (span_of s.visit) l) (is.fixed_come e).1 (in_map (λ (t : Stop). span_of t.visit) mo.stops.items s i)) in
      record { ours = inl h.0; comes = h.1; ranks = is.stops s i }
  stop_by false e =
      let h = comes_there (event_at (events_of m) k) (free_of m) (span_of s.visit)
      (subst (λ (l : List Span). In (span_of s.visit) l) (is.free_come e).1 (in_map (λ (t : Stop). span_of t.visit) mo.stops.items s i)) in
      record { ours = inr h.0; comes = h.1; ranks = is.stops s i }

  pub stop_there : IsStopAt m k s
  stop_there = stop_by mo.is_fixed refl

-- a visit of a moment at which a fixed one comes is fixed
pub fixed_stop : (m : Moments) (k : ℕ) (mo : Moment) → IsMoment (fixed_of m) (free_of m) (events_of m) (event_at (events_of m) k) mo → mo.is_fixed ≡ true → (s : Stop)
    → In s mo.stops.items → In (span_of s.visit) (fixed_of m)
fixed_stop m k mo is e s i = (comes_there (event_at (events_of m) k) (fixed_of m) (span_of s.visit)
    (subst (λ (l : List Span). In (span_of s.visit) l) (is.fixed_come e).1 (in_map (λ (t : Stop). span_of t.visit) mo.stops.items s i))).0

-- the next gain of a row
pub next_is : (laws : StepLaws) (m : Moments) (are : AreMoments m) (end top room j : ℕ) (to : end ≤ m.end) (last : IsRank (events_of m) end top) (lt : j < top)
    (mo : Moment) (b : Bool) → mo.is_fixed ≡ b → IsMoment (fixed_of m) (free_of m) (events_of m) (event_at (events_of m) j) mo → (without behind g : Option ℤ) →
    (mo.is_fixed ≡ true → without ≡ None) → (mo.is_fixed ≡ false → without ≡ behind) → IsValue m (j + 1) end room behind →
    ((n : ℕ) → end ≤ event_at (events_of m) j + n → g ≡ greater without (greatest_of (map (best_with (best n (fixed_of m) (free_of m)) end room) (stop_spans mo.stops.items)))) →
    IsValue m j end room g
next_is laws m are end top room j to last lt mo true e is without behind g fixed free rest h = fixed_gain laws m are end top room to last j lt mo g is e
    (λ n enough. h n enough ∙ ap (λ (o : Option ℤ). greater o (greatest_of (map (best_with (best n (fixed_of m) (free_of m)) end room) (stop_spans mo.stops.items)))) (fixed e))
next_is laws m are end top room j to last lt mo false e is without behind g fixed free rest h = free_gain laws m are end top room to last j lt mo without g is e
    (subst (IsValue m (j + 1) end room) (sym (free e)) rest) h

-- what stands in a row for where a visit is gone
pub behind_is : (m : Moments) (are : AreMoments m) (end top room : ℕ) (gains : List (Option ℤ)) (s : Stop) → 1 ≤ length gains → length gains ≤ top →
    IsRank (events_of m) end top → IsStopAt m (top - length gains) s → s.visit.gone ≤ end → AreGains m end room gains →
    ((top - s.gone) < length gains) × IsBest (fixed_of m) (free_of m) s.visit.gone end room (get_or gains (top - s.gone) None)
behind_is m are end top room gains s some few last at gone is =
    let within = last.within in
    let lt : (top - length gains) < length (events_of m) = omega (arith, some, few, within) in
    let later = gone_later m are (top - length gains) lt s at in
    let le = gone_within m are (top - length gains) lt s at end top last gone in
    let there : (top - s.gone) < length gains = omega (arith, later, some, few) in
    (there, is top s.gone (top - s.gone) last (omega (arith, le)) there s.visit.gone at.ranks.gone gone)
