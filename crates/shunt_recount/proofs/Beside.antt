-- What is gained with one fixed span more, by the gains without it: around its place, inside it and behind it.
use Rattle.std.specs.Prelude.{Option, Some, None}
use Rattle.std.proofs.Common.{◌≡◌, ◌⊎◌, ⊎_elim, inl, inr, ℕ, ◌+◌, ◌-◌, ◌<◌, ◌≤◌, List, ℤ, pos, ◌+ℤ◌, ◌-ℤ◌, refl, sym, subst, ap, ◌∙◌, arith}
use Rattle.std.proofs.lemmas.Int.{ints}
use Rattle.shunt_lists.specs.defs.Members.{In}
use Rattle.shunt_stacks.specs.defs.Spans.{Span, IsSpan, IsOutside, AreOwn, AgreeWithin, plus, best, best_with, sum_with}
use Rattle.shunt_stacks.proofs.MaybeGains.{plus_zero, behind_out, inside_out, with_yes}
use Rattle.shunt_recount.specs.declared.moments.Stop.{Stop}
use Rattle.shunt_recount.specs.declared.moments.Moments.{Moments}
use Rattle.shunt_recount.specs.declared.places.Place.{Place}
use Rattle.shunt_recount.specs.defs.Visits.{span_of}
use Rattle.shunt_recount.specs.defs.Moments.{IsStop, fixed_of, free_of, events_of, AreMoments}
use Rattle.shunt_recount.specs.defs.Places.{IsBeside, IsPlaceAt, Surrounds, Surround, IsPast, IsInPlace}
use Rattle.shunt_recount.proofs.Stepped.{NoneLaw, passed_to}

-- what the law of the crate below says
pub record NestLaws : Type 0 where
  pub at_fixed : (fixed free : List Span) (n x y room : ℕ) (f : Span) → AreOwn fixed free → In f fixed → f.from ≡ x → x < y → y ≤ x + n
      → best n fixed free x y room ≡ best_with (best n fixed free) y room f
  pub at_none : (fixed free : List Span) (n x y room : ℕ) → AreOwn fixed free → ((s : Span) → In s fixed ⊎ In s free → s.from ≡ x → ⊥) → x < y → y ≤ x + n
      → best n fixed free x y room ≡ best n fixed free (x + 1) y room
  pub agree : (fixed free others more : List Span) (n x y room : ℕ) → AreOwn fixed free → AreOwn others more → y ≤ x + n → AgreeWithin fixed free others more x y
      → best n fixed free x y room ≡ best n others more x y room

-- ---- gains that there may be

abbrev IsThere : Option ℤ → Type 0
IsThere None = ⊥
IsThere (Some x) = Unit {0}

abbrev value : Option ℤ → ℤ
value None = pos 0
value (Some x) = x

-- what is around is what the whole is more than what is at the place
pub told : (whole without inside behind : Option ℤ) (w o i b : ℤ) → whole ≡ Some w → without ≡ Some o → inside ≡ Some i → behind ≡ Some b
    → (r : ℤ) → r ≡ (w -ℤ o) +ℤ (i +ℤ b) → IsInPlace whole without inside behind r
told whole without inside behind w o i b a c d e r is around h =
    ap (λ (q : Option ℤ). plus around (plus (Some (pos 0)) (plus q behind))) d
    ∙ ap (λ (q : Option ℤ). plus around (plus (Some (pos 0)) (plus (Some i) q))) e
    ∙ each around (sym a ∙ h ∙ ap (plus around) c)
  where
    each : (around : Option ℤ) → Some w ≡ plus around (Some o) → plus around (plus (Some (pos 0)) (plus (Some i) (Some b))) ≡ Some r
    each None f = absurd (subst IsThere f tt)
    each (Some x) f = let same : w ≡ x +ℤ o = ap value f in ap Some (omega (arith, ints, same, is))

-- ---- one span

module _ (laws : NestLaws) (fixed free : List Span) (own_now : AreOwn fixed free) (others more : List Span) (own : Span) (beside : IsBeside fixed free others more own)
    (events room : ℕ) where
  abbrev now : ℕ → ℕ → ℕ → Option ℤ
  now = best events fixed free

  abbrev then : ℕ → ℕ → ℕ → Option ℤ
  then = best events others more

  among : (x y r : ℕ) → y ≤ x + events → IsOutside x y own → then x y r ≡ now x y r
  among x y r few out = sym (laws.agree fixed free others more events x y r own_now beside.own_events few (beside.agree x y out))

  none_now : NoneLaw fixed free
  none_now n x y r = laws.at_none fixed free n x y r own_now

  none_then : NoneLaw others more
  none_then n x y r = laws.at_none others more n x y r beside.own_events

  later_then : (x z : ℕ) → z ≤ own.from → ((s : Span) → In s fixed ⊎ In s free → x ≤ s.from → z ≤ s.from) → (s : Span) → In s others ⊎ In s more → x ≤ s.from → z ≤ s.from
  later_then x z early none s j le = ⊎_elim
      (λ l. ⊎_elim
      (λ old. none s (inl old) le)
      (λ (one : s ≡ own). subst (λ (t : Span). z ≤ t.from) (sym one) early)
      (beside.only s l))
      (λ r. none s (inr (beside.free_are s r)) le)
      j

  module _ (px end left : ℕ) (later : own.from < end) (few : end ≤ events) (at : Surrounds fixed free others more own events room px end left) where
    -- events at which nothing comes are passed over
    pub skipped : (z : ℕ) → px ≤ z → z ≤ own.from → ((s : Span) → In s fixed ⊎ In s free → px ≤ s.from → z ≤ s.from)
        → Surrounds fixed free others more own events room z end left
    skipped z le early none = record {
      around = at.around;
      without = at.without
          ∙ ap (plus at.around) (passed_to fixed free none_now events end left px z le (omega (arith, early, later)) (omega (arith, few)) none);
      with_it = λ gone. at.with_it gone
          ∙ ap (plus at.around) (passed_to others more none_then events end left px z le (omega (arith, early, later)) (omega (arith, few)) (later_then px z early none));
    }

    module _ (early : px < own.from) (f : Span) (j : In f fixed) (here : f.from ≡ px) (gone : f.past ≤ end) (long : f.length ≤ left) where
      f_is : IsSpan f
      f_is = own_now.spans f (inl j)

      f_now : now px end left ≡ sum_with now end left f
      f_now = laws.at_fixed fixed free events px end left f own_now j here (omega (arith, early, later)) (omega (arith, few)) ∙ with_yes now end left f gone long

      f_then : then px end left ≡ sum_with then end left f
      f_then = laws.at_fixed others more events px end left f beside.own_events (beside.kept f j) here (omega (arith, early, later)) (omega (arith, few))
          ∙ with_yes then end left f gone long

      pub passed : f.past ≤ own.from → Surrounds fixed free others more own events room f.past end left
      passed before = record {
        around = plus at.around (plus (Some f.gain) (now f.inside f.until (left - f.length)));
        without = at.without
            ∙ ap (plus at.around) f_now
            ∙ behind_out at.around f.gain (now f.inside f.until (left - f.length)) (now f.past end left);
        with_it = λ le. at.with_it le
            ∙ ap (plus at.around) f_then
            ∙ ap (λ (o : Option ℤ). plus at.around (plus (Some f.gain) (plus o (then f.past end left))))
            (among f.inside f.until (left - f.length) (omega (arith, gone, few, f_is.leaves)) (inl (omega (arith, before, f_is.leaves))))
            ∙ behind_out at.around f.gain (now f.inside f.until (left - f.length)) (then f.past end left);
      }

      pub entered : own.from < f.until → Surrounds fixed free others more own events room f.inside f.until (left - f.length)
      entered there = record {
        around = plus at.around (plus (Some f.gain) (now f.past end left));
        without = at.without
            ∙ ap (plus at.around) f_now
            ∙ inside_out at.around f.gain (now f.inside f.until (left - f.length)) (now f.past end left);
        with_it = λ le. at.with_it (omega (arith, le, gone, f_is.leaves))
            ∙ ap (plus at.around) f_then
            ∙ ap (λ (o : Option ℤ). plus at.around (plus (Some f.gain) (plus (then f.inside f.until (left - f.length)) o)))
            (among f.past end left (omega (arith, few)) (inr (inr (omega (arith, le, f_is.leaves)))))
            ∙ inside_out at.around f.gain (then f.inside f.until (left - f.length)) (now f.past end left);
      }

  -- at the span's own event
  module _ (end left : ℕ) (few : end ≤ events) (bare : own.gain ≡ pos 0) (gone : own.past ≤ end) (long : own.length ≤ left)
      (at : Surrounds fixed free others more own events room own.from end left) where
    is : IsSpan own
    is = beside.own_events.spans own (inl beside.own_there)

    with_own : then own.from end left ≡ plus (Some (pos 0)) (plus (now own.inside own.until (left - own.length)) (now own.past end left))
    with_own =
        laws.at_fixed others more events own.from end left own beside.own_events beside.own_there refl (omega (arith, gone, is.enters, is.stays, is.leaves)) (omega (arith, few))
        ∙ with_yes then end left own gone long
        ∙ ap (λ (z : ℤ). plus (Some z) (plus (then own.inside own.until (left - own.length)) (then own.past end left))) bare
        ∙ ap (λ (o : Option ℤ). plus (Some (pos 0)) (plus o (then own.past end left)))
        (among own.inside own.until (left - own.length) (omega (arith, gone, few, is.leaves)) (inr (inl (omega arith, omega arith))))
        ∙ ap (λ (o : Option ℤ). plus (Some (pos 0)) (plus (now own.inside own.until (left - own.length)) o))
        (among own.past end left (omega (arith, few)) (inr (inr (omega arith))))

    pub whole_with : (whole without inside behind : Option ℤ) → whole ≡ now 0 events room → without ≡ now own.from end left
        → inside ≡ now own.inside own.until (left - own.length) → behind ≡ now own.past end left → (z : ℤ) → IsInPlace whole without inside behind z
        → best events others more 0 events room ≡ Some z
    whole_with whole without inside behind a b c d z is_z =
        at.with_it gone
        ∙ ap (plus at.around) with_own
        ∙ ap (λ (o : Option ℤ). plus at.around (plus (Some (pos 0)) (plus o (now own.past end left)))) (sym c)
        ∙ ap (λ (o : Option ℤ). plus at.around (plus (Some (pos 0)) (plus inside o))) (sym d)
        ∙ is_z at.around (a ∙ at.without ∙ ap (plus at.around) (sym b))

pub starts : (fixed free others more : List Span) (own : Span) (events room : ℕ) → Surrounds fixed free others more own events room 0 events room
starts fixed free others more own events room = record {
  around = Some (pos 0);
  without = plus_zero (best events fixed free 0 events room);
  with_it = λ le. plus_zero (best events others more 0 events room);
}

-- ---- from one place to the next

module _ (m : Moments) (at : ℕ) (p q : Place) (s : Stop) (is : IsSpan (span_of s.visit)) (ranks : IsStop (events_of m) s) (past : IsPast at p s q) where
  pub past_there : IsPlaceAt m at p → IsPlaceAt m at q
  past_there place = ⊎_elim
      (λ h. subst (IsPlaceAt m at) (sym h.1) (record { starts = h.0; ends = place.ends; within = place.within; passed = ranks.gone; top = place.top }))
      (λ h. subst (IsPlaceAt m at) (sym h.2)
      (record {
        starts = h.0;
        ends = h.1;
        within = let e = place.within in let g = past.gone in let l = is.leaves in omega (arith, e, g, l);
        passed = ranks.inside;
        top = ranks.until;
      }))
      past.either

  pub past_later : (k : ℕ) → k < s.gone → k < s.inside → k < q.passed
  past_later k gone inside = ⊎_elim
      (λ h. subst (λ (r : Place). k < r.passed) (sym h.1) gone)
      (λ h. subst (λ (r : Place). k < r.passed) (sym h.2) inside)
      past.either

module _ (laws : NestLaws) (m : Moments) (are : AreMoments m) (room at : ℕ) (p : Place) (place : IsPlaceAt m at p) where
  pub past_leads : (e : ℕ) → p.x ≤ e → e < at → ((s : Span) → In s (fixed_of m) ⊎ In s (free_of m) → p.x ≤ s.from → e ≤ s.from) →
      (s : Stop) → In (span_of s.visit) (fixed_of m) → s.visit.comes ≡ e → (q : Place) → IsPast at p s q → Surround m room at p → Surround m room at q
  past_leads e le before none s j here q past known others more own beside comes =
      let ends = place.ends in
      let later : own.from < p.key.end = omega (arith, ends, comes) in
      let start = skipped laws (fixed_of m) (free_of m) are.visits.own others more own beside m.end room p.x p.key.end p.key.room later place.within
      (known others more own beside comes) e le (omega (arith, before, comes)) none in
      ⊎_elim
      (λ h. subst (λ (r : Place). Surrounds (fixed_of m) (free_of m) others more own m.end room r.x r.key.end r.key.room) (sym h.1)
      (passed laws (fixed_of m) (free_of m) are.visits.own others more own beside m.end room e p.key.end p.key.room later place.within start (omega (arith, before, comes))
      (span_of s.visit) j here past.gone past.long (let b = h.0 in omega (arith, b, comes))))
      (λ h. subst (λ (r : Place). Surrounds (fixed_of m) (free_of m) others more own m.end room r.x r.key.end r.key.room) (sym h.2)
      (entered laws (fixed_of m) (free_of m) are.visits.own others more own beside m.end room e p.key.end p.key.room later place.within start (omega (arith, before, comes))
      (span_of s.visit) j here past.gone past.long (let b = h.1 in omega (arith, b, comes))))
      past.either
