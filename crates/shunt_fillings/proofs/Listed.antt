-- Pieces that are listed one after another, and stacks track by track.
use Rattle.std.specs.Prelude.{map, filter, All, None}
use Rattle.std.specs.List.{AllZip}
use Rattle.std.proofs.Common.{◌≡◌, ⊎_elim, ℕ, zero, suc, ◌+◌, ◌<◌, ◌≤◌, List, [], ◌∷◌, ◌++◌, length, take, get_or, ℤ, pos, refl, sym, subst, ap, ◌∙◌, arith}
use Rattle.std.proofs.lemmas.Bool.{cases_lt}
use Rattle.std.proofs.lemmas.List.{map-append, take_more, get_or_default}
use Rattle.std.proofs.lemmas.List.Elements.{filter-append, All-nil, All-cons}
use Rattle.shunt_lists.specs.defs.Members.{In}
use Rattle.shunt_lists.proofs.Members.{in_map, in_place}
use Rattle.shunt_instance.specs.declared.records.Station.{Station}
use Rattle.shunt_instance.specs.defs.Words.{is_open_at}
use Rattle.shunt_instance.specs.defs.Instance.{Night}
use Rattle.shunt_stacks.specs.defs.Stacks.{Stack, both_sides, sides_below}
use Rattle.shunt_stacks.specs.defs.Spans.{Span}
use Rattle.shunt_stacks.specs.defs.Numbers.{span_of}
use Rattle.shunt_gains.specs.declared.numbers.Events.{Events}
use Rattle.shunt_gains.specs.defs.Events.{entry_of, leave_of}
use Rattle.shunt_gains.specs.declared.pieces.Piece.{Piece}
use Rattle.shunt_gains.specs.defs.Tables.{spans_of, span_of as piece_span}
use Rattle.shunt_fillings.specs.declared.ends.Stack.{Stack as OurStack}
use Rattle.shunt_fillings.specs.declared.candidates.Candidate.{Candidate}
use Rattle.shunt_fillings.specs.defs.Pieces.{seen, all_seen, ends_of, span_with, spans_with}

one_on : (i : ℕ) → suc i ≡ i + 1
one_on i = omega arith

-- ---- stacks

abbrev pub open_below : Station → ℕ → List Stack
open_below s t = filter (λ k. is_open_at s k.track k.side) (sides_below t)

pub more_ends : (s : Station) (t : ℕ) (old new : List Stack) → new ≡ old ++ ends_of s t → old ≡ open_below s t → new ≡ open_below s (t + 1)
more_ends s t old new e is = e
    ∙ (ap (λ (l : List Stack). l ++ ends_of s t) is
    ∙ (sym (filter-append (λ (k : Stack). is_open_at s k.track k.side) (sides_below t) (both_sides t)) ∙ ap (λ (n : ℕ). open_below s n) (one_on t)))

-- ---- one shape

-- a candidate that is not there, for places past a list's end
abbrev pub no_candidate : Candidate
no_candidate = record { block = record { id = 0; arr = record { 0 = 0 }; p = 0; n = 0; dep = record { 0 = 0 }; q = 0; park = None }; gain = pos 0 }

module _ (night : Night) (e : Events) (ks : List Candidate) (i : ℕ) (d : Candidate) (lt : i < length ks) where
  pub next_span : (p : Piece) (z : ℤ) (old new : List Piece) → new ≡ old ++ p ∷ [] → spans_of old ≡ spans_with night e (take i ks) →
      piece_span p ≡ span_of night (entry_of e) (leave_of e) (λ b. z) (get_or ks i d).block → z ≡ (get_or ks i d).gain → spans_of new ≡ spans_with night e (take (i + 1) ks)
  next_span p z old new more before own gains =
      ap spans_of more
      ∙ (map-append piece_span old (p ∷ [])
      ∙ (ap (λ (l : List Span). l ++ piece_span p ∷ []) before
      ∙ (ap (λ (s : Span). spans_with night e (take i ks) ++ s ∷ []) (own ∙ ap (λ (g : ℤ). span_of night (entry_of e) (leave_of e) (λ b. g) (get_or ks i d).block) gains)
      ∙ sym (ap (spans_with night e) (take_more ks i d lt) ∙ map-append (span_with night e) (take i ks) (get_or ks i d ∷ [])))))

-- ---- what is found of all stacks

pub one_after : {A B : Type 0} (R : A → B → Type 0) (xs : List A) (ys : List B) (x : A) (y : B) → AllZip R xs ys → R x y → AllZip R (xs ++ x ∷ []) (ys ++ y ∷ [])
one_after R [] [] x y h r = (r, tt)
one_after R [] (z ∷ ys) x y h r = absurd h
one_after R (w ∷ xs) [] x y h r = absurd h
one_after R (w ∷ xs) (z ∷ ys) x y h r = (h.0, one_after R xs ys x y h.1 r)

pub zip_after : {B : Type 0} (R : Stack → B → Type 0) (stacks : List OurStack) (i : ℕ) (d : OurStack) (old new : List B) (g : B) → i < length stacks → new ≡ old ++ g ∷ [] →
    AllZip R (all_seen (take i stacks)) old → R (seen (get_or stacks i d)) g → AllZip R (all_seen (take (i + 1) stacks)) new
zip_after R stacks i d old new g lt e before own = subst (AllZip R (all_seen (take (i + 1) stacks))) (sym e)
    (subst (λ (ks : List Stack). AllZip R ks (old ++ g ∷ [])) (sym (ap all_seen (take_more stacks i d lt) ∙ map-append seen (take i stacks) (get_or stacks i d ∷ [])))
    (one_after R (all_seen (take i stacks)) old (seen (get_or stacks i d)) g before own))

pub seen_in : (stacks : List OurStack) (i : ℕ) (d : OurStack) (all : List Stack) → i < length stacks → all_seen stacks ≡ all → In (seen (get_or stacks i d)) all
seen_in stacks i d all lt e = subst (λ (ks : List Stack). In (seen (get_or stacks i d)) ks) e (in_map seen stacks (get_or stacks i d) (in_place stacks i d lt))

seen_long : (stacks : List OurStack) → length (all_seen stacks) ≡ length stacks
seen_long [] = refl
seen_long (s ∷ stacks) = ap suc (seen_long stacks)

pub zip_long : {A B : Type 0} (R : A → B → Type 0) (xs : List A) (ys : List B) → AllZip R xs ys → length ys ≡ length xs
zip_long R [] [] h = refl
zip_long R [] (y ∷ ys) h = absurd h
zip_long R (x ∷ xs) [] h = absurd h
zip_long R (x ∷ xs) (y ∷ ys) h = ap suc (zip_long R xs ys h.1)

-- what is found of the stack with a number
pub zip_seen : {B : Type 0} (R : Stack → B → Type 0) (stacks : List OurStack) (ys : List B) (i : ℕ) (d : OurStack) (y : B) → AllZip R (all_seen stacks) ys → i < length stacks
    → R (seen (get_or stacks i d)) (get_or ys i y)
zip_seen R [] ys i d y h lt = absurd (omega (arith, lt))
zip_seen R (w ∷ stacks) [] i d y h lt = absurd h
zip_seen R (w ∷ stacks) (z ∷ ys) zero d y h lt = h.0
zip_seen R (w ∷ stacks) (z ∷ ys) (suc i) d y h lt = zip_seen R stacks ys i d y h.1 (omega (arith, lt))

pub zip_there : {B : Type 0} (R : Stack → B → Type 0) (stacks : List OurStack) (ys : List B) (i : ℕ) → AllZip R (all_seen stacks) ys → i < length stacks → i < length ys
zip_there R stacks ys i h lt = let long = zip_long R (all_seen stacks) ys h in let same = seen_long stacks in omega (arith, lt, long, same)

pub zip_map : {A B C : Type 0} (R : A → B → Type 0) (Q : A → C → Type 0) (f : B → C) → ((x : A) (y : B) → R x y → Q x (f y)) → (xs : List A) (ys : List B) → AllZip R xs ys
    → AllZip Q xs (map f ys)
zip_map R Q f to [] [] h = tt
zip_map R Q f to [] (y ∷ ys) h = absurd h
zip_map R Q f to (x ∷ xs) [] h = absurd h
zip_map R Q f to (x ∷ xs) (y ∷ ys) h = (to x y h.0, zip_map R Q f to xs ys h.1)

pub zip_each : {A B : Type 0} (R : A → B → Type 0) (P : B → Type 0) → ((x : A) (y : B) → R x y → P y) → (xs : List A) (ys : List B) → AllZip R xs ys → All P ys
zip_each R P to [] [] h = All-nil P
zip_each R P to [] (y ∷ ys) h = absurd h
zip_each R P to (x ∷ xs) [] h = absurd h
zip_each R P to (x ∷ xs) (y ∷ ys) h = All-cons P y ys (to x y h.0) (zip_each R P to xs ys h.1)

-- ---- the stack of an option

module _ (P : OurStack → Type 0) (stacks : List OurStack) (k : ℕ) (e : OurStack) (lt : k < length stacks) (here : P (get_or stacks k e)) where
  pub at_any : (d : OurStack) → P (get_or stacks k d)
  at_any d = subst P (get_or_default stacks k e d lt) here

  pub below_one_more : ((j : ℕ) (d : OurStack) → j < k → P (get_or stacks j d)) → (j : ℕ) (d : OurStack) → j < k + 1 → P (get_or stacks j d)
  below_one_more known j d less = ⊎_elim
      (λ (first : j < k). known j d first)
      (λ (past : k ≤ j). let same : k ≡ j = omega (arith, past, less) in subst (λ (i : ℕ). P (get_or stacks i d)) same (at_any d))
      (cases_lt j k)
