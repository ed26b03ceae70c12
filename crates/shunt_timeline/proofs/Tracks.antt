-- Lists of tracks, of which one changes.
use Rattle.std.proofs.Common.{◌≡◌, ◌≢◌, ⊎_elim, ℕ, zero, suc, ◌+◌, ◌<◌, ◌≤◌, List, [], ◌∷◌, length, get_or, set, vec_capacity, refl, sym, subst, ap, ◌∙◌, arith}
use Rattle.std.proofs.lemmas.Bool.{cases_eq}
use Rattle.std.proofs.lemmas.List.{get_or_default}
use Rattle.std.proofs.Math.ListN.{length-set}
use Rattle.shunt_timeline.specs.declared.track.TrackTimeline.{TrackTimeline}
use Rattle.shunt_timeline.specs.defs.Sound.{lengths_of, AreSame}

-- what holds of a track that was put in and of the others
pub at_set : (P : ℕ → TrackTimeline → Type 0) (xs : List TrackTimeline) (i : ℕ) (y : TrackTimeline) → i < length xs → P i y
    → ((t : ℕ) (d : TrackTimeline) → t < length xs → t ≢ i → P t (get_or xs t d))
    → (t : ℕ) (d : TrackTimeline) → t < length (set xs i y) → P t (get_or (set xs i y) t d)
at_set P xs i y lt here there t d within = ⊎_elim
    (λ e. subst (λ n. P n (get_or (set xs i y) n d)) (sym e) (subst (P i) (sym (same xs i y d lt)) here))
    (λ ne. subst (P t) (sym (other xs i t y d ne)) (there t d (omega (arith, length-set {A = TrackTimeline})) ne))
    (cases_eq t i)
  where
    same : (xs : List TrackTimeline) (i : ℕ) (y d : TrackTimeline) → i < length xs → get_or (set xs i y) i d ≡ y
    same [] i y d lt = absurd (omega arith)
    same (x ∷ xs) zero y d lt = refl
    same (x ∷ xs) (suc i) y d lt = same xs i y d (omega arith)

    other : (xs : List TrackTimeline) (i t : ℕ) (y d : TrackTimeline) → t ≢ i → get_or (set xs i y) t d ≡ get_or xs t d
    other [] i t y d ne = refl
    other (x ∷ xs) zero zero y d ne = absurd (ne refl)
    other (x ∷ xs) zero (suc t) y d ne = refl
    other (x ∷ xs) (suc i) zero y d ne = refl
    other (x ∷ xs) (suc i) (suc t) y d ne = other xs i t y d (λ e. ne (ap (λ n. suc n) e))

pub lengths_set : (xs : List TrackTimeline) (i : ℕ) (y d : TrackTimeline) → i < length xs → y.length ≡ (get_or xs i d).length → lengths_of (set xs i y) ≡ lengths_of xs
lengths_set [] i y d lt e = absurd (omega arith)
lengths_set (x ∷ xs) zero y d lt e = ap (λ n. n ∷ lengths_of xs) e
lengths_set (x ∷ xs) (suc i) y d lt e = ap (λ l. x.length ∷ l) (lengths_set xs i y d (omega arith) e)

pub length_lengths : (xs : List TrackTimeline) → length (lengths_of xs) ≡ length xs
length_lengths [] = refl
length_lengths (x ∷ xs) = ap (λ n. suc n) (length_lengths xs)

pub length_at : (xs : List TrackTimeline) (i : ℕ) (d : TrackTimeline) → i < length xs → get_or (lengths_of xs) i 0 ≡ (get_or xs i d).length
length_at [] i d lt = absurd (omega arith)
length_at (x ∷ xs) zero d lt = refl
length_at (x ∷ xs) (suc i) d lt = length_at xs i d (omega arith)

pub same_at_first : (xs : List TrackTimeline) → AreSame xs xs
same_at_first xs = record { count = refl; lengths = refl; events = λ t d lt. refl; room = λ t d lt. omega arith }

pub same_next : (before now : List TrackTimeline) (i : ℕ) (y d : TrackTimeline) → AreSame before now → i < length now → y.length ≡ (get_or now i d).length
    → y.events.items ≡ (get_or now i d).events.items → vec_capacity (get_or now i d).events ≤ vec_capacity y.events → AreSame before (set now i y)
same_next before now i y d s lt length_is events_are more = record {
  count = omega (arith, length-set {A = TrackTimeline}, s.count);
  lengths = lengths_set now i y d lt length_is ∙ s.lengths;
  events = λ t e within. at_set (λ t z. t < length before → z.events.items ≡ (get_or before t e).events.items) now i y lt
      (λ w. events_are ∙ ap (λ (z : TrackTimeline). z.events.items) (get_or_default now i d e lt) ∙ s.events i e w)
      (λ u f v ne w. ap (λ (z : TrackTimeline). z.events.items) (get_or_default now u f e v) ∙ s.events u e w)
      t e (omega (arith, length-set {A = TrackTimeline}, s.count)) within;
  room = λ t e within. at_set (λ t z. t < length before → vec_capacity (get_or before t e).events ≤ vec_capacity z.events) now i y lt
      (λ w. let r = s.room i e w in let q : vec_capacity (get_or now i d).events ≡ vec_capacity (get_or now i e).events = ap (λ (z : TrackTimeline). vec_capacity z.events)
      (get_or_default now i d e lt) in omega arith)
      (λ u f v ne w. let r = s.room u e w in let q : vec_capacity (get_or now u f).events
      ≡ vec_capacity (get_or now u e).events = ap (λ (z : TrackTimeline). vec_capacity z.events) (get_or_default now u f e v) in omega arith)
      t e (omega (arith, length-set {A = TrackTimeline}, s.count)) within;
}

pub room_next : (now : List TrackTimeline) (most i : ℕ) (y : TrackTimeline) → i < length now → most ≤ vec_capacity y.events
    → ((t : ℕ) (d : TrackTimeline) → t < i → most ≤ vec_capacity (get_or now t d).events) → (t : ℕ) (d : TrackTimeline) → t < i + 1
    → most ≤ vec_capacity (get_or (set now i y) t d).events
room_next now most i y lt here there t d within = at_set (λ t z. t < i + 1 → most ≤ vec_capacity z.events) now i y lt (λ w. here) (λ u f v ne w. there u f (omega arith)) t d
    (omega (arith, length-set {A = TrackTimeline})) within

-- the element as code reads it
pub same_put : (before now : List TrackTimeline) (i : ℕ) (y z : TrackTimeline) → AreSame before now → i < length now → z ≡ get_or now i z → y.length ≡ z.length
    → y.events.items ≡ z.events.items
    → vec_capacity z.events ≤ vec_capacity y.events → AreSame before (set now i y)
same_put before now i y z s lt is length_is events_are more = same_next before now i y z s lt (length_is ∙ ap (λ (t : TrackTimeline). t.length) is)
    (events_are ∙ ap (λ (t : TrackTimeline). t.events.items) is) (let e : vec_capacity (get_or now i z).events
    ≡ vec_capacity z.events = ap (λ (t : TrackTimeline). vec_capacity t.events) (sym is) in omega arith)
