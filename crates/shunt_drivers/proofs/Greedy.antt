-- Each move goes to the first driver who is free.
use Rattle.std.proofs.Common.{◌≡◌, ◌≢◌, inl, ⊎_elim, ℕ, zero, suc, ◌+◌, ◌<◌, ◌≤◌, Bool, true, false, cond, List, [], ◌∷◌, ◌++◌, length, get_or, set, map, filter, refl, sym, subst, ap, ◌∙◌, arith}
use Rattle.std.specs.Prelude.{All, AllPairs, nat_lt, slice_index, Option, Some, None}
use Rattle.std.proofs.lemmas.Bool.{cases_lt, cases_eq}
use Rattle.std.proofs.lemmas.Bool.Decides.{nat_tests}
use Rattle.std.proofs.lemmas.List.{get_or-set_same, get_or-set_other, length-set, length_push, get_or_push, get_or_append_left}
use Rattle.std.proofs.lemmas.List.Elements.{All-push, All-weaker, All-nil}
use Rattle.std.proofs.lemmas.List.Quantifiers.{all_pairs_push}
use Rattle.shunt_lists.specs.defs.Members.{In}
use Rattle.shunt_lists.proofs.Members.{in_left, in_right}
use Rattle.shunt_lists.proofs.Lists.{no_pairs}
use Rattle.shunt_drivers.specs.declared.shares.MoveSpan.{MoveSpan}
use Rattle.shunt_drivers.specs.declared.shares.MoveShare.{MoveShare}
use Rattle.shunt_drivers.specs.defs.SharedMoves.{runs_at}
use Rattle.shunt_lists.proofs.Tests.{lt_true}

-- ---- how many of a list pass a test

abbrev pub many : {X : Type 0} → (X → Bool) → List X → ℕ
many p xs = length (filter p xs)

abbrev pub flag : Bool → ℕ
flag b = cond b 1 0

kept : {X : Type 0} (b : Bool) (x : X) (xs : List X) → length (cond b (x ∷ xs) xs) ≡ length xs + flag b
kept true x xs = omega arith
kept false x xs = omega arith

pub one : {X : Type 0} (p : X → Bool) (x : X) (xs : List X) → many p (x ∷ xs) ≡ many p xs + flag (p x)
one p x xs = kept (p x) x (filter p xs)

many_push : {X : Type 0} (p : X → Bool) (xs : List X) (y : X) → many p (xs ++ y ∷ []) ≡ many p xs + flag (p y)
many_push p [] y = one p y []
many_push p (x ∷ xs) y = omega (arith, one p x (xs ++ y ∷ []), one p x xs, many_push p xs y)

many_set : {X : Type 0} (p : X → Bool) (xs : List X) (k : ℕ) (y d : X) → k < length xs → many p (set xs k y) + flag (p (get_or xs k d)) ≡ many p xs + flag (p y)
many_set p [] k y d lt = absurd (omega arith)
many_set p (x ∷ xs) zero y d lt = omega (arith, one p y xs, one p x xs)
many_set p (x ∷ xs) (suc k) y d lt = omega (arith, one p x (set xs k y), one p x xs, many_set p xs k y d (omega arith))

many_few : {X : Type 0} (p : X → Bool) (xs : List X) → many p xs ≤ length xs
many_few p [] = omega arith
many_few p (x ∷ xs) = let rest = many_few p xs in few (p x) rest (one p x xs)
  where
    few : (b : Bool) → many p xs ≤ length xs → many p (x ∷ xs) ≡ many p xs + flag b → many p (x ∷ xs) ≤ length (x ∷ xs)
    few true le e = omega (arith, le, e)
    few false le e = omega (arith, le, e)

many_all : {X : Type 0} (p : X → Bool) (xs : List X) → All (λ x. p x ≡ true) xs → many p xs ≡ length xs
many_all p [] all = refl
many_all p (x ∷ xs) all = let rest = many_all p xs (λ k d lt. all (suc k) d (omega (arith, lt))) in omega (arith, one p x xs, ap flag (all 0 x (omega arith)), rest)

-- ---- what is kept while moves are shared

abbrev pub Running : List MoveShare → ℕ → ℕ
Running shares t = many (λ (s : MoveShare). runs_at t s.span) shares

abbrev pub Free : List ℕ → ℕ → ℕ
Free free t = many (λ f. nat_lt t f) free

-- its driver isn't free before its end
abbrev pub Holds : List ℕ → MoveShare → Type 0
Holds free s = (s.driver < length free) × (s.span.end ≤ slice_index free s.driver)

abbrev pub Follows : MoveShare → MoveShare → Type 0
Follows a b = a.driver ≡ b.driver → a.span.end ≤ b.span.start

abbrev pub Busy : List MoveShare → ℕ → Option ℕ → ℕ → Type 0
Busy shares n None last = (shares ≡ []) × (n ≡ 0)
Busy shares n (Some b) last = (b ≤ last) × (0 < n) × (Running shares b ≡ n) × ((t : ℕ) → t < b → Running shares t < n)

pub record IsGreedy (shares : List MoveShare) (free : List ℕ) (busy : Option ℕ) (last : ℕ) : Type 0 where
  pub held : All (Holds free) shares
  pub apart : AllPairs Follows shares
  pub used : (driver : ℕ) → driver < length free → In driver (map (λ s. s.driver) shares)
  pub counts : (t : ℕ) → last ≤ t → Running shares t ≡ Free free t
  pub most : (t : ℕ) → Running shares t ≤ length free
  pub at_busy : Busy shares (length free) busy last

pub at_first : IsGreedy [] [] None 0
at_first = record {
  held = All-nil (Holds []);
  apart = no_pairs Follows;
  used = λ driver lt. absurd (omega (arith, lt));
  counts = λ t le. refl;
  most = λ t.
      omega arith;
  at_busy = (refl, refl);
}

abbrev share : MoveSpan → ℕ → MoveShare
share span driver = record { span = span; driver = driver }

not_yet : (t : ℕ) (s : MoveSpan) → t < s.start → flag (runs_at t s) ≡ 0
not_yet t s lt = grind (arith, nat_tests)

started : (t : ℕ) (s : MoveSpan) → s.start ≤ t → flag (runs_at t s) ≡ flag (nat_lt t s.end)
started t s le = grind (arith, nat_tests)

running_on : (t : ℕ) (s : MoveSpan) → s.start ≤ t → t < s.end → flag (runs_at t s) ≡ 1
running_on t s le lt = grind (arith, nat_tests)

over : (t f : ℕ) → f ≤ t → flag (nat_lt t f) ≡ 0
over t f le = grind (arith, nat_tests)

drivers_more : (shares : List MoveShare) (s : MoveShare) → map (λ (x : MoveShare). x.driver) (shares ++ s ∷ []) ≡ map (λ (x : MoveShare). x.driver) shares ++ s.driver ∷ []
drivers_more [] s = refl
drivers_more (x ∷ shares) s = ap (λ l. x.driver ∷ l) (drivers_more shares s)

module _ (shares : List MoveShare) (free : List ℕ) (busy : Option ℕ) (last : ℕ) (g : IsGreedy shares free busy last) (span : MoveSpan) (le : last ≤ span.start)
    (runs : span.start < span.end) where
  before : (driver t : ℕ) → t < span.start → Running (shares ++ share span driver ∷ []) t ≡ Running shares t
  before driver t lt = omega (arith, many_push (λ (s : MoveShare). runs_at t s.span) shares (share span driver), not_yet t span lt)

  now : (driver t : ℕ) → span.start ≤ t → Running (shares ++ share span driver ∷ []) t ≡ Running shares t + flag (nat_lt t span.end)
  now driver t from = omega (arith, many_push (λ (s : MoveShare). runs_at t s.span) shares (share span driver), started t span from)

  by_span : (driver : ℕ) (n : ℕ) (after : List ℕ) → length after ≡ n → ((t : ℕ) → span.start ≤ t → Running (shares ++ share span driver ∷ []) t ≡ Free after t) → length free ≤ n
      → (t : ℕ) → Running (shares ++ share span driver ∷ []) t ≤ n
  by_span driver n after long counts fewer t =
      ⊎_elim (λ lt. omega (arith, before driver t lt, g.most t, fewer)) (λ from. omega (arith, counts t from, many_few (λ f. nat_lt t f) after, long)) (cases_lt t span.start)

  kept_used : (driver d : ℕ) → In d (map (λ s. s.driver) shares) → In d (map (λ s. s.driver) (shares ++ share span driver ∷ []))
  kept_used driver d i = subst (In d) (sym (drivers_more shares (share span driver))) (in_left (map (λ (s : MoveShare). s.driver) shares) (driver ∷ []) d i)

  -- a driver who is free takes the move
  module _ (k : ℕ) (lt : k < length free) (from : slice_index free k ≤ span.start) where
    reused : (t : ℕ) → span.start ≤ t → Running (shares ++ share span k ∷ []) t ≡ Free (set free k span.end) t
    reused t late =
        let old = over t (get_or free k 0) (omega (arith, from, late)) in
        omega (arith, now k t late, g.counts t (omega (arith, le, late)), many_set (λ f. nat_lt t f) free k span.end 0 lt, old)

    still : (s : MoveShare) → Holds free s → Holds (set free k span.end) s
    still s h = (omega (arith, h.0, length-set free k span.end), ⊎_elim same other (cases_eq s.driver k))
      where
        same : s.driver ≡ k → s.span.end ≤ slice_index (set free k span.end) s.driver
        same e =
            let mine : slice_index free s.driver ≡ slice_index free k = ap (slice_index free) e in
            let new : slice_index (set free k span.end) s.driver ≡ span.end = ap (slice_index (set free k span.end)) e ∙ get_or-set_same free k span.end 0 lt in
            omega (arith, h.1, mine, new, from, runs)

        other : s.driver ≢ k → s.span.end ≤ slice_index (set free k span.end) s.driver
        other ne = omega (arith, h.1, get_or-set_other free k s.driver span.end 0 ne)

    follows : (j : ℕ) (d : MoveShare) → j < length shares → Follows (get_or shares j d) (share span k)
    follows j d small same =
        let h = g.held j d small in
        let mine : slice_index free (get_or shares j d).driver ≡ slice_index free k = ap (slice_index free) same in
        omega (arith, h.1, mine, from)

    stays_busy : (b : Option ℕ) → Busy shares (length free) b last → Busy (shares ++ share span k ∷ []) (length free) b span.start
    stays_busy None h = absurd (omega (arith, lt, h.1))
    stays_busy (Some b) h = (
      omega (arith, h.0, le),
      h.1,
      ⊎_elim (λ early. omega (arith, before k b early, h.2)) at_start (cases_lt b span.start),
      λ t small. ⊎_elim (λ early. omega (arith, before k t early, h.3 t small)) (λ late. absurd (omega (arith, h.0, le, late, small))) (cases_lt t span.start),
    )
      where
        at_start : span.start ≤ b → Running (shares ++ share span k ∷ []) b ≡ length free
        at_start late =
            let most = many_few (λ f. nat_lt b f) (set free k span.end) in
            let one_more : flag (nat_lt b span.end) ≡ 1 = ap flag (lt_true b span.end (omega (arith, h.0, le, runs))) in
            absurd (omega (arith, now k b late, reused b late, most, one_more, h.2, length-set free k span.end))

    pub by_free : IsGreedy (shares ++ share span k ∷ []) (set free k span.end) busy span.start
    by_free = record {
      held = All-push (Holds (set free k span.end)) shares (share span k) (All-weaker (Holds free) (Holds (set free k span.end)) still shares g.held)
          (omega (arith, lt, length-set free k span.end), let new = get_or-set_same free k span.end 0 lt in omega (arith, new));
      apart = all_pairs_push Follows shares (share span k) g.apart follows;
      used = λ d small. kept_used k d (g.used d (omega (arith, small, length-set free k span.end)));
      counts = reused;
      most = λ t. let n = by_span k (length free) (set free k span.end) (length-set free k span.end) reused (omega arith) t in omega (arith, n, length-set free k span.end);
      at_busy = subst (λ n. Busy (shares ++ share span k ∷ []) n busy span.start) (sym (length-set free k span.end)) (stays_busy busy g.at_busy);
    }

  -- none is free, and a new driver takes it
  module _ (all : All (λ f. span.start < f) free) where
    whole : Free free span.start ≡ length free
    whole = many_all (λ f. nat_lt span.start f) free (λ k d lt. lt_true span.start (get_or free k d) (all k d lt))

    grown : (t : ℕ) → span.start ≤ t → Running (shares ++ share span (length free) ∷ []) t ≡ Free (free ++ span.end ∷ []) t
    grown t late = omega (arith, now (length free) t late, g.counts t (omega (arith, le, late)), many_push (λ f. nat_lt t f) free span.end)

    longer : length (free ++ span.end ∷ []) ≡ length free + 1
    longer = length_push free span.end

    still_held : (s : MoveShare) → Holds free s → Holds (free ++ span.end ∷ []) s
    still_held s h = (omega (arith, h.0, longer), omega (arith, h.1, get_or_append_left free (span.end ∷ []) 0 s.driver h.0))

    new_follows : (j : ℕ) (d : MoveShare) → j < length shares → Follows (get_or shares j d) (share span (length free))
    new_follows j d small same = let h = g.held j d small in absurd (omega (arith, h.0, same))

    new_busy : Busy (shares ++ share span (length free) ∷ []) (length free + 1) (Some span.start) span.start
    new_busy =
        let one_more : flag (nat_lt span.start span.end) ≡ 1 = ap flag (lt_true span.start span.end runs) in (
          omega arith,
          omega arith,
          omega (arith, now (length free) span.start (omega arith), g.counts span.start le, whole, one_more),
          λ t early. omega (arith, before (length free) t early, g.most t),
        )

    new_used : (d : ℕ) → d < length free + 1 → In d (map (λ s. s.driver) (shares ++ share span (length free) ∷ []))
    new_used d small = ⊎_elim (λ lt. kept_used (length free) d (g.used d lt)) (λ ge. let same : d
        ≡ length free = omega (arith, ge, small) in subst (In d) (sym (drivers_more shares (share span (length free))))
        (in_right (map (λ (s : MoveShare). s.driver) shares) (length free ∷ []) d (inl same))) (cases_lt d (length free))

    pub by_new : IsGreedy (shares ++ share span (length free) ∷ []) (free ++ span.end ∷ []) (Some span.start) span.start
    by_new = record {
      held = All-push (Holds (free ++ span.end ∷ [])) shares (share span (length free)) (All-weaker (Holds free) (Holds (free ++ span.end ∷ [])) still_held shares g.held)
          (omega (arith, longer), let new = get_or_push free span.end 0 (length free) refl in omega (arith, new));
      apart = all_pairs_push Follows shares (share span (length free)) g.apart new_follows;
      used = λ d small. new_used d (omega (arith, small, longer));
      counts = grown;
      most = λ t. let n = by_span (length free) (length free + 1) (free ++ span.end ∷ []) longer grown (omega arith) t in omega (arith, n, longer);
      at_busy = subst (λ n. Busy (shares ++ share span (length free) ∷ []) n (Some span.start) span.start) (sym longer) new_busy;
    }
