-- What is gained with one fixed span more, by the gains without it: around its place, inside it and behind it.
use Rattle.std.specs.Prelude.{Option, Some, None}
use Rattle.std.proofs.Common.{◌≡◌, ◌⊎◌, ⊎_elim, inl, inr, ℕ, ◌+◌, ◌-◌, ◌<◌, ◌≤◌, List, [], ◌∷◌, ℤ, pos, ◌+ℤ◌, ◌-ℤ◌, refl, sym, subst, ap, ◌∙◌, arith}
use Rattle.std.proofs.lemmas.Int.{ints}
use Rattle.shunt_lists.specs.defs.Members.{In}
use Rattle.shunt_lists.proofs.Members.{of_one, in_left, in_right, in_cases}
use Rattle.shunt_stacks.specs.defs.Spans.{Span, IsSpan, IsOutside, AreOwn, AgreeWithin, plus, best, best_with, sum_with}
use Rattle.shunt_stacks.proofs.MaybeGains.{plus_zero, behind_out, inside_out, with_yes}
use Rattle.shunt_gains.specs.declared.places.Place.{Place}
use Rattle.shunt_gains.specs.defs.Places.{IsBeside, IsPlaceAt, Surrounds, Surround, IsPast, IsInPlace}

-- what the law of the crate below says
pub record NestLaws : Type 0 where
  pub at_fixed : (fixed free : List Span) (n x y room : ℕ) (f : Span) → AreOwn fixed free → In f fixed → f.from ≡ x → x < y → y ≤ x + n
      → best n fixed free x y room ≡ best_with (best n fixed free) y room f
  pub at_none : (fixed free : List Span) (n x y room : ℕ) → AreOwn fixed free → ((s : Span) → In s fixed ⊎ In s free → s.from ≡ x → ⊥) → x < y → y ≤ x + n
      → best n fixed free x y room ≡ best n fixed free (x + 1) y room
  pub agree : (fixed free others more : List Span) (n x y room : ℕ) → AreOwn fixed free → AreOwn others more → y ≤ x + n → AgreeWithin fixed free others more x y
      → best n fixed free x y room ≡ best n others more x y room

-- ---- gains that there may be

abbrev IsThere : Option ℤ → Type 0
IsThere None = ⊥
IsThere (Some x) = Unit {0}

abbrev value : Option ℤ → ℤ
value None = pos 0
value (Some x) = x

-- what is around is what the whole is more than what is at the place
pub told : (whole without inside behind : Option ℤ) (w o i b : ℤ) → whole ≡ Some w → without ≡ Some o → inside ≡ Some i → behind ≡ Some b
    → (r : ℤ) → r ≡ (w -ℤ o) +ℤ (i +ℤ b) → IsInPlace whole without inside behind r
told whole without inside behind w o i b a c d e r is around h =
    ap (λ (q : Option ℤ). plus around (plus (Some (pos 0)) (plus q behind))) d
    ∙ ap (λ (q : Option ℤ). plus around (plus (Some (pos 0)) (plus (Some i) q))) e
    ∙ each around (sym a ∙ h ∙ ap (plus around) c)
  where
    each : (around : Option ℤ) → Some w ≡ plus around (Some o) → plus around (plus (Some (pos 0)) (plus (Some i) (Some b))) ≡ Some r
    each None f = absurd (subst IsThere f tt)
    each (Some x) f = let same : w ≡ x +ℤ o = ap value f in ap Some (omega (arith, ints, same, is))

-- ---- one span

module _ (laws : NestLaws) (fixed free : List Span) (own_now : AreOwn fixed free) (others more : List Span) (own : Span) (beside : IsBeside fixed free others more own)
    (events room : ℕ) where
  abbrev now : ℕ → ℕ → ℕ → Option ℤ
  now = best events fixed free

  abbrev then : ℕ → ℕ → ℕ → Option ℤ
  then = best events others more

  among : (x y r : ℕ) → y ≤ x + events → IsOutside x y own → then x y r ≡ now x y r
  among x y r few out = sym (laws.agree fixed free others more events x y r own_now beside.own_events few (beside.agree x y out))

  kept : (f : Span) → In f fixed → In f others
  kept f j = subst (λ (ss : List Span). In f ss) (sym beside.fixed_are) (in_left fixed (own ∷ []) f j)

  own_there : In own others
  own_there = subst (λ (ss : List Span). In own ss) (sym beside.fixed_are) (in_right fixed (own ∷ []) own (inl refl))

  none_then : (x : ℕ) → ((s : Span) → In s fixed ⊎ In s free → s.from ≡ x → ⊥) → x < own.from → (s : Span) → In s others ⊎ In s more → s.from ≡ x → ⊥
  none_then x bare early s j e = ⊎_elim
      (λ l. ⊎_elim
      (λ old. bare s (inl old) e)
      (λ one. let from = ap (λ (t : Span). t.from) (of_one own s one) in omega (arith, from, e, early))
      (in_cases fixed (own ∷ []) s (subst (λ (ss : List Span). In s ss) beside.fixed_are l)))
      (λ r. bare s (inr (beside.free_are s r)) e)
      j

  module _ (p : Place) (early : p.x < own.from) (later : own.from < p.end) (few : p.end ≤ events) (at : Surrounds fixed free others more own events room p) where
    pub skipped : ((s : Span) → In s fixed ⊎ In s free → s.from ≡ p.x → ⊥)
        → Surrounds fixed free others more own events room (record { x = p.x + 1; end = p.end; room = p.room })
    skipped bare = record {
      around = at.around;
      without = at.without
          ∙ ap (plus at.around) (laws.at_none fixed free events p.x p.end p.room own_now bare (omega (arith, early, later)) (omega (arith, few)));
      with_it = λ le. at.with_it le
          ∙ ap (plus at.around) (laws.at_none others more events p.x p.end p.room beside.own_events (none_then p.x bare early) (omega (arith, early, later)) (omega (arith, few)));
    }

    module _ (f : Span) (j : In f fixed) (here : f.from ≡ p.x) (gone : f.past ≤ p.end) (long : f.length ≤ p.room) where
      f_is : IsSpan f
      f_is = own_now.spans f (inl j)

      f_now : now p.x p.end p.room ≡ sum_with now p.end p.room f
      f_now = laws.at_fixed fixed free events p.x p.end p.room f own_now j here (omega (arith, early, later)) (omega (arith, few)) ∙ with_yes now p.end p.room f gone long

      f_then : then p.x p.end p.room ≡ sum_with then p.end p.room f
      f_then = laws.at_fixed others more events p.x p.end p.room f beside.own_events (kept f j) here (omega (arith, early, later)) (omega (arith, few))
          ∙ with_yes then p.end p.room f gone long

      pub passed : f.past ≤ own.from → Surrounds fixed free others more own events room (record { x = f.past; end = p.end; room = p.room })
      passed before = record {
        around = plus at.around (plus (Some f.gain) (now f.inside f.until (p.room - f.length)));
        without = at.without
            ∙ ap (plus at.around) f_now
            ∙ behind_out at.around f.gain (now f.inside f.until (p.room - f.length)) (now f.past p.end p.room);
        with_it = λ le. at.with_it le
            ∙ ap (plus at.around) f_then
            ∙ ap (λ (o : Option ℤ). plus at.around (plus (Some f.gain) (plus o (then f.past p.end p.room))))
            (among f.inside f.until (p.room - f.length) (omega (arith, gone, few, f_is.leaves)) (inl (omega (arith, before, f_is.leaves))))
            ∙ behind_out at.around f.gain (now f.inside f.until (p.room - f.length)) (then f.past p.end p.room);
      }

      pub entered : own.from < f.until → Surrounds fixed free others more own events room (record { x = f.inside; end = f.until; room = p.room - f.length })
      entered there = record {
        around = plus at.around (plus (Some f.gain) (now f.past p.end p.room));
        without = at.without
            ∙ ap (plus at.around) f_now
            ∙ inside_out at.around f.gain (now f.inside f.until (p.room - f.length)) (now f.past p.end p.room);
        with_it = λ le. at.with_it (omega (arith, le, gone, f_is.leaves))
            ∙ ap (plus at.around) f_then
            ∙ ap (λ (o : Option ℤ). plus at.around (plus (Some f.gain) (plus (then f.inside f.until (p.room - f.length)) o)))
            (among f.past p.end p.room (omega (arith, few)) (inr (inr (omega (arith, le, f_is.leaves)))))
            ∙ inside_out at.around f.gain (then f.inside f.until (p.room - f.length)) (now f.past p.end p.room);
      }

  -- at the span's own event
  module _ (p : Place) (here : p.x ≡ own.from) (few : p.end ≤ events) (bare : own.gain ≡ pos 0) (gone : own.past ≤ p.end) (long : own.length ≤ p.room)
      (at : Surrounds fixed free others more own events room p) where
    is : IsSpan own
    is = beside.own_events.spans own (inl own_there)

    with_own : then own.from p.end p.room ≡ plus (Some (pos 0)) (plus (now own.inside own.until (p.room - own.length)) (now own.past p.end p.room))
    with_own =
        laws.at_fixed others more events own.from p.end p.room own beside.own_events own_there refl (omega (arith, gone, is.enters, is.stays, is.leaves)) (omega (arith, few))
        ∙ with_yes then p.end p.room own gone long
        ∙ ap (λ (z : ℤ). plus (Some z) (plus (then own.inside own.until (p.room - own.length)) (then own.past p.end p.room))) bare
        ∙ ap (λ (o : Option ℤ). plus (Some (pos 0)) (plus o (then own.past p.end p.room)))
        (among own.inside own.until (p.room - own.length) (omega (arith, gone, few, is.leaves)) (inr (inl (omega arith, omega arith))))
        ∙ ap (λ (o : Option ℤ). plus (Some (pos 0)) (plus (now own.inside own.until (p.room - own.length)) o))
        (among own.past p.end p.room (omega (arith, few)) (inr (inr (omega arith))))

    pub whole_with : (whole without inside behind : Option ℤ) → whole ≡ now 0 events room → without ≡ now own.from p.end p.room
        → inside ≡ now own.inside own.until (p.room - own.length) → behind ≡ now own.past p.end p.room → (z : ℤ) → IsInPlace whole without inside behind z
        → best events others more 0 events room ≡ Some z
    whole_with whole without inside behind a b c d z is_z =
        at.with_it gone
        ∙ ap (λ (x : ℕ). plus at.around (then x p.end p.room)) here
        ∙ ap (plus at.around) with_own
        ∙ ap (λ (o : Option ℤ). plus at.around (plus (Some (pos 0)) (plus o (now own.past p.end p.room)))) (sym c)
        ∙ ap (λ (o : Option ℤ). plus at.around (plus (Some (pos 0)) (plus inside o))) (sym d)
        ∙ is_z at.around (a ∙ at.without ∙ ap (λ (x : ℕ). plus at.around (now x p.end p.room)) here ∙ ap (plus at.around) (sym b))

pub starts : (fixed free : List Span) (events room at : ℕ) → Surround fixed free events room at (record { x = 0; end = events; room = room })
starts fixed free events room at others more own beside comes = record {
  around = Some (pos 0);
  without = plus_zero (best events fixed free 0 events room);
  with_it = λ le. plus_zero (best events others more 0 events room);
}

-- ---- from one place to the next

module _ (at : ℕ) (p q : Place) (f : Span) (is : IsSpan f) (past : IsPast at p f q) where
  pub past_later : f.from ≡ p.x → p.x < q.x
  past_later here = ⊎_elim
      (λ h. let x = ap (λ (r : Place). r.x) h.1 in omega (arith, here, x, is.enters, is.stays, is.leaves))
      (λ h. let x = ap (λ (r : Place). r.x) h.2 in omega (arith, here, x, is.enters))
      past.either

  pub past_there : (events : ℕ) → IsPlaceAt events at p → IsPlaceAt events at q
  past_there events place = ⊎_elim
      (λ h. subst (IsPlaceAt events at) (sym h.1) (record { starts = h.0; ends = place.ends; within = place.within }))
      (λ h. subst (IsPlaceAt events at) (sym h.2)
      (record { starts = h.0; ends = h.1; within = let e = place.within in let g = past.gone in omega (arith, e, g, is.leaves) }))
      past.either

module _ (laws : NestLaws) (fixed free : List Span) (own_now : AreOwn fixed free) (events room at : ℕ) (p : Place) (place : IsPlaceAt events at p) (before : p.x < at) where
  pub past_leads : (f : Span) → In f fixed → f.from ≡ p.x → (q : Place) → IsPast at p f q → Surround fixed free events room at p → Surround fixed free events room at q
  past_leads f j here q past known others more own beside comes =
      let early : p.x < own.from = omega (arith, before, comes) in
      let e = place.ends in
      let later : own.from < p.end = omega (arith, e, comes) in
      let start = known others more own beside comes in
      ⊎_elim
      (λ h. subst (Surrounds fixed free others more own events room) (sym h.1)
      (passed laws fixed free own_now others more own beside events room p early later place.within start f j here past.gone past.long (let b = h.0 in omega (arith, b, comes))))
      (λ h. subst (Surrounds fixed free others more own events room) (sym h.2)
      (entered laws fixed free own_now others more own beside events room p early later place.within start f j here past.gone past.long (let b = h.1 in omega (arith, b, comes))))
      past.either

  pub skip_leads : ((s : Span) → In s fixed ⊎ In s free → s.from ≡ p.x → ⊥) → Surround fixed free events room at p
      → Surround fixed free events room at (record { x = p.x + 1; end = p.end; room = p.room })
  skip_leads bare known others more own beside comes =
      let e = place.ends in
      skipped laws fixed free own_now others more own beside events room p (omega (arith, before, comes)) (omega (arith, e, comes)) place.within
      (known others more own beside comes) bare
