-- Lists of events, of stops and of moments that grow by one.
use Rattle.std.specs.Prelude.{◌==◌, Bool, true, false}
use Rattle.std.specs.List.Sorted.{IsNonDecreasingBy}
use Rattle.std.proofs.Math.Seq.{get_or-append_seam}
use Rattle.std.proofs.Common.{◌≡◌, ◌⊎◌, ⊎_elim, ℕ, ◌+◌, ◌<◌, ◌≤◌, List, [], ◌∷◌, ◌++◌, length, take, get_or, refl, sym, subst, ap, ◌∙◌, arith}
use Rattle.std.proofs.lemmas.Bool.{cases_lt}
use Rattle.std.proofs.lemmas.Bool.Decides.{nat_tests}
use Rattle.std.proofs.lemmas.List.{get_or_append_left, get_or_default, map-append, take_more, length-append}
use Rattle.shunt_lists.specs.defs.Members.{In}
use Rattle.shunt_lists.proofs.Members.{in_cases, of_one}
use Rattle.shunt_stacks.specs.defs.Spans.{Span}
use Rattle.shunt_recount.specs.declared.visits.Visit.{Visit}
use Rattle.shunt_recount.specs.declared.moments.Stop.{Stop}
use Rattle.shunt_recount.specs.defs.Visits.{span_of, spans_of}
use Rattle.shunt_recount.specs.defs.Moments.{event_at, AreEvents, stop_spans}

-- one more at the end of a list
module _ {X : Type 0} (xs new : List X) (x : X) (e : new ≡ xs ++ x ∷ []) where
  pub one_longer : length new ≡ length xs + 1
  one_longer = ap length e ∙ length-append xs (x ∷ [])

  pub as_before : (k : ℕ) (d : X) → k < length xs → get_or new k d ≡ get_or xs k d
  as_before k d lt = ap (λ (l : List X). get_or l k d) e ∙ get_or_append_left xs (x ∷ []) d k lt

  pub last_one : (k : ℕ) (d : X) → k ≡ length xs → get_or new k d ≡ x
  last_one k d last = ap (λ (l : List X). get_or l k d) e ∙ (ap (λ (i : ℕ). get_or (xs ++ x ∷ []) i d) last ∙ get_or-append_seam xs x [] d)

-- what holds of each element by its place holds of each of one more
pub each_more : {X : Type 0} (P : ℕ → X → Type 0) (xs new : List X) (x : X) → new ≡ xs ++ x ∷ [] → ((k : ℕ) (d : X) → k < length xs → P k (get_or xs k d)) → P (length xs) x →
    (k : ℕ) (d : X) → k < length new → P k (get_or new k d)
each_more P xs new x e each own k d lt = ⊎_elim
    (λ (less : k < length xs). subst (P k) (sym (as_before xs new x e k d less)) (each k d less))
    (λ (more : length xs ≤ k).
    let n = one_longer xs new x e in
    let last : k ≡ length xs = omega (arith, n, lt, more) in
    subst (P k) (sym (last_one xs new x e k d last)) (subst (λ (i : ℕ). P i x) (sym last) own))
    (cases_lt k (length xs))

pub in_order : (events : List ℕ) → ((j k : ℕ) → j < k → k < length events → event_at events j < event_at events k) → IsNonDecreasingBy (λ e. e) events
in_order events rise j k d le lt = ⊎_elim
    (λ (less : j < k).
    let a = get_or_default events j 0 d (omega (arith, less, lt)) in
    let b = get_or_default events k 0 d lt in
    let r = rise j k less lt in
    omega (arith, a, b, r))
    (λ (more : k ≤ j). let e : j ≡ k = omega (arith, le, more) in subst (λ (i : ℕ). get_or events j d ≤ get_or events i d) e (omega arith))
    (cases_lt j k)

module _ (fixed free : List Span) where
  pub no_events : (first : ℕ) → ((s : Span) → In s fixed ⊎ In s free → 0 ≤ s.from → first ≤ s.from) → AreEvents fixed free first []
  no_events first none = record {
    rise = λ j k less lt. absurd (omega (arith, lt));
    within = λ k lt. absurd (omega (arith, lt));
    all = λ s i lt. let h = none s i (omega arith) in absurd (omega (arith, h, lt));
  }

  pub more_events : (event next : ℕ) (events new : List ℕ) → new ≡ events ++ event ∷ [] → event < next →
      ((s : Span) → In s fixed ⊎ In s free → event + 1 ≤ s.from → next ≤ s.from) → AreEvents fixed free event events → AreEvents fixed free next new
  more_events event next events new e later none are =
      let n = one_longer events new event e in
      let old = λ (k : ℕ) (lt : k < length events). as_before events new event e k 0 lt in
      record {
        rise = λ j k less lt. ⊎_elim
            (λ (before : k < length events).
            let a = old k before in
            let b = old j (omega (arith, less, before)) in
            let r = are.rise j k less before in
            omega (arith, a, b, r))
            (λ (behind : length events ≤ k).
            let last : k ≡ length events = omega (arith, n, lt, behind) in
            let a = last_one events new event e k 0 last in
            let before : j < length events = omega (arith, less, last) in
            let b = old j before in
            let r = are.within j before in
            omega (arith, a, b, r))
            (cases_lt k (length events));
        within = λ k lt. ⊎_elim
            (λ (before : k < length events). let a = old k before in let r = are.within k before in omega (arith, a, r, later))
            (λ (behind : length events ≤ k). let a = last_one events new event e k 0 (omega (arith, n, lt, behind)) in omega (arith, a, later))
            (cases_lt k (length events));
        all = λ s i lt. ⊎_elim
            (λ (before : s.from < event). let h = are.all s i before in (h.0, omega (arith, n, h.1), old h.0 h.1 ∙ h.2))
            (λ (behind : event ≤ s.from). ⊎_elim
            (λ (here : s.from < event + 1).
            let own : event ≡ s.from = omega (arith, here, behind) in
            (length events, omega (arith, n), last_one events new event e (length events) 0 refl ∙ own))
            (λ (there : event + 1 ≤ s.from). let h = none s i there in absurd (omega (arith, h, lt)))
            (cases_lt s.from (event + 1)))
            (cases_lt s.from event);
      }

pub more_stops : (visits : List Visit) (i : ℕ) (d : Visit) (stops new : List Stop) (s : Stop) → i < length visits → new ≡ stops ++ s ∷ []
    → stop_spans stops ≡ spans_of (take i visits) → s.visit ≡ get_or visits i d →
    stop_spans new ≡ spans_of (take (i + 1) visits)
more_stops visits i d stops new s lt e before own =
    ap stop_spans e
    ∙ (map-append (λ (t : Stop). span_of t.visit) stops (s ∷ [])
    ∙ (ap (λ (l : List Span). l ++ span_of s.visit ∷ []) before
    ∙ (ap (λ (v : Visit). spans_of (take i visits) ++ span_of v ∷ []) own
    ∙ sym (ap spans_of (take_more visits i d lt) ∙ map-append span_of (take i visits) (get_or visits i d ∷ [])))))

pub more_each : {X : Type 0} (P : X → Type 0) (xs new : List X) (x : X) → new ≡ xs ++ x ∷ [] → ((y : X) → In y xs → P y) → P x → (y : X) → In y new → P y
more_each P xs new x e each own y i = ⊎_elim (λ early. each y early) (λ last. subst P (sym (of_one x y last)) own) (in_cases xs (x ∷ []) y (subst (λ l. In y l) e i))

pub some_long : (n : ℕ) (b : Bool) → b ≡ (n == 0) → b ≡ false → 0 < n
some_long n b e f = grind (arith, nat_tests)

pub none_long : (n : ℕ) (b : Bool) → b ≡ (n == 0) → b ≡ true → n ≡ 0
none_long n b e f = grind (arith, nat_tests)
