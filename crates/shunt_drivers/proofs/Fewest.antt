-- No sharing uses fewer drivers than moves run at one minute.
use Rattle.std.proofs.Common.{◌≡◌, ◌⊎◌, inl, inr, ⊎_elim, ℕ, zero, suc, ◌+◌, ◌<◌, ◌≤◌, Bool, true, false, cond, List, [], ◌∷◌, ◌++◌, length, get_or, set, take, map, refl, sym, subst, ap, ◌∙◌, arith}
use Rattle.std.specs.Prelude.{All, AllPairs, slice_index, Option, Some, None}
use Rattle.std.specs.List.{zip}
use Rattle.std.proofs.lemmas.Bool.{cases_Bool}
use Rattle.std.proofs.lemmas.Bool.Decides.{nat_tests}
use Rattle.std.proofs.lemmas.List.{get_or-map, length-map, map-append, take_more}
use Rattle.std.proofs.lemmas.List.Elements.{All-weaker}
use Rattle.shunt_lists.specs.defs.Members.{In}
use Rattle.shunt_lists.proofs.Members.{in_to}
use Rattle.shunt_drivers.specs.declared.shares.MoveSpan.{MoveSpan}
use Rattle.shunt_drivers.specs.declared.shares.MoveShare.{MoveShare}
use Rattle.shunt_drivers.specs.defs.SharedMoves.{runs_at, running, AreSharesApart, IsSharing, IsBusy, IsLeast, AddsShare}
use Rattle.shunt_drivers.proofs.Greedy.{many, one, flag, Running, Holds, Follows, Busy, IsGreedy, by_free, by_new}

-- ---- names, of which one is taken out

abbrev Split : List ℕ → ℕ → Type 0
Split names x = (rest : List ℕ) × (length names ≡ length rest + 1) × ((y : ℕ) → In y names → (y ≡ x) ⊎ In y rest)

split : (names : List ℕ) (x : ℕ) → In x names → Split names x
split [] x i = absurd i
split (n ∷ names) x (inl e) = (names, omega arith, here)
  where
    here : (y : ℕ) → In y (n ∷ names) → (y ≡ x) ⊎ In y names
    here y (inl same) = inl (same ∙ sym e)
    here y (inr j) = inr j
split (n ∷ names) x (inr i) = let s = split names x i in (n ∷ s.0, (let long = s.1 in omega (arith, long)), there s)
  where
    there : (s : Split names x) (y : ℕ) → In y (n ∷ names) → (y ≡ x) ⊎ In y (n ∷ s.0)
    there s y (inl same) = inr (inl same)
    there s y (inr j) = ⊎_elim (λ e. inl e) (λ k. inr (inr k)) (s.2 y j)

-- ---- moves with their drivers

abbrev Runs : ℕ → MoveSpan × ℕ → Bool
Runs t p = runs_at t p.0

apart_from : (p : MoveSpan × ℕ) (pairs : List (MoveSpan × ℕ)) → AllPairs AreSharesApart (p ∷ pairs) → (q : MoveSpan × ℕ) → In q pairs → AreSharesApart p q
apart_from p pairs all q i = let c = in_to pairs q i in subst (AreSharesApart p) c.2 (all 0 (suc c.0) q (omega arith) (let lt = c.1 in omega (arith, lt)))

later_apart : (p : MoveSpan × ℕ) (pairs : List (MoveSpan × ℕ)) → AllPairs AreSharesApart (p ∷ pairs) → AllPairs AreSharesApart pairs
later_apart p pairs all = λ i j d lt small. all (suc i) (suc j) d (omega (arith, lt)) (omega (arith, small))

no_more : (t : ℕ) (pairs : List (MoveSpan × ℕ)) (names : List ℕ) → AllPairs AreSharesApart pairs → ((q : MoveSpan × ℕ) → In q pairs → Runs t q ≡ true → In q.1 names)
    → many (Runs t) pairs ≤ length names
no_more t [] names apart named = omega arith
no_more t (p ∷ pairs) names apart named =
    ⊎_elim (runs (λ rest. no_more t pairs rest (later_apart p pairs apart))) (rests (no_more t pairs names (later_apart p pairs apart) (λ q i r. named q (inr i) r)))
    (cases_Bool (Runs t p))
  where
    runs : ((rest : List ℕ) → ((q : MoveSpan × ℕ) → In q pairs → Runs t q ≡ true → In q.1 rest) → many (Runs t) pairs ≤ length rest) → Runs t p ≡ true
        → many (Runs t) (p ∷ pairs) ≤ length names
    runs less now =
        let s = split names p.1 (named p (inl refl) now) in
        let few = less s.0 (λ q i r. ⊎_elim (λ same. absurd (apart_from p pairs apart q i (sym same) t now r)) (λ k. k) (s.2 q.1 (named q (inr i) r))) in
        let long = s.1 in
        omega (arith, one (Runs t) p pairs, ap flag now, few, long)

    rests : many (Runs t) pairs ≤ length names → Runs t p ≡ false → many (Runs t) (p ∷ pairs) ≤ length names
    rests few idle = omega (arith, one (Runs t) p pairs, ap flag idle, few)

of_zip : (spans : List MoveSpan) (given : List ℕ) (q : MoveSpan × ℕ) → In q (zip spans given) → In q.1 given
of_zip [] given q i = absurd i
of_zip (s ∷ spans) [] q i = absurd i
of_zip (s ∷ spans) (d ∷ given) q (inl e) = inl (ap (λ (w : MoveSpan × ℕ). w.1) e)
of_zip (s ∷ spans) (d ∷ given) q (inr i) = inr (of_zip spans given q i)

running_zip : (t : ℕ) (spans : List MoveSpan) (given : List ℕ) → length given ≡ length spans → running spans t ≡ many (Runs t) (zip spans given)
running_zip t [] given e = refl
running_zip t (s ∷ spans) [] e = absurd (omega (arith, e))
running_zip t (s ∷ spans) (d ∷ given) e = omega (arith, one (runs_at t) s spans, one (Runs t) (s, d) (zip spans given), running_zip t spans given (omega (arith, e)))

no_fewer : (t : ℕ) (spans : List MoveSpan) (given names : List ℕ) → IsSharing spans given → ((driver : ℕ) → In driver given → In driver names) → running spans t ≤ length names
no_fewer t spans given names s named = omega (arith, running_zip t spans given s.each, no_more t (zip spans given) names s.apart (λ q i r. named q.1 (of_zip spans given q i)))

-- ---- what was shared

running_map : (t : ℕ) (shares : List MoveShare) → running (map (λ s. s.span) shares) t ≡ Running shares t
running_map t [] = refl
running_map t (s ∷ shares) = omega (
  arith,
  one (runs_at t) s.span (map (λ (x : MoveShare). x.span) shares),
  one (λ (x : MoveShare). runs_at t x.span) s shares,
  running_map t shares,
)

abbrev both : MoveShare → MoveSpan × ℕ
both s = (s.span, s.driver)

zipped : (shares : List MoveShare) → zip (map (λ s. s.span) shares) (map (λ s. s.driver) shares) ≡ map both shares
zipped [] = refl
zipped (s ∷ shares) = ap (λ l. both s ∷ l) (zipped shares)

before_end : (t : ℕ) (s : MoveSpan) → runs_at t s ≡ true → t < s.end
before_end t s e = grind (arith, nat_tests)

from_start : (t : ℕ) (s : MoveSpan) → runs_at t s ≡ true → s.start ≤ t
from_start t s e = grind (arith, nat_tests)

follow_apart : (a b : MoveShare) → Follows a b → AreSharesApart (both a) (both b)
follow_apart a b follows = λ same t first second. absurd (let le = follows same in let lt = before_end t a.span first in let from = from_start t b.span second in omega
    (arith, le, lt, from))

shares_apart : (shares : List MoveShare) → AllPairs Follows shares → AllPairs AreSharesApart (map both shares)
shares_apart shares all = λ i j d lt small.
    let z : MoveShare = record { span = d.0; driver = d.1 } in
    let inside : j < length shares = omega (arith, small, length-map shares both) in
    let first : get_or (map both shares) i d ≡ both (get_or shares i z) = get_or-map both shares i z d (omega (arith, lt, inside)) in
    let second : get_or (map both shares) j d ≡ both (get_or shares j z) = get_or-map both shares j z d inside in
    subst (λ (x : MoveSpan × ℕ). AreSharesApart x (get_or (map both shares) j d)) (sym first)
    (subst (AreSharesApart (both (get_or shares i z))) (sym second) (follow_apart (get_or shares i z) (get_or shares j z) (all i j z lt inside)))

busy_is : (shares : List MoveShare) (n last : ℕ) (b : Option ℕ) → Busy shares n b last → IsBusy (map (λ s. s.span) shares) n b
busy_is shares n last None h = (ap (map (λ (s : MoveShare). s.span)) h.0, h.1)
busy_is shares n last (Some b) h = (h.1, running_map b shares ∙ h.2, λ t early. let few = h.3 t early in omega (arith, running_map t shares, few))

-- none are needed, or as many as run at the busy minute
at_least : (spans : List MoveSpan) (n : ℕ) (b : Option ℕ) → IsBusy spans n b → (given names : List ℕ) → IsSharing spans given → ((driver : ℕ) → In driver given → In driver names)
    → n ≤ length names
at_least spans n None h given names s named = omega (arith, h.1)
at_least spans n (Some b) h given names s named = omega (arith, h.1, no_fewer b spans given names s named)

least_of : (shares : List MoveShare) (free : List ℕ) (busy : Option ℕ) (last : ℕ) → IsGreedy shares free busy last → IsLeast (map (λ s. s.span) shares) shares (length free) busy
least_of shares free busy last g =
    let busy_so = busy_is shares (length free) last busy g.at_busy in
    record {
      spans_are = refl;
      sharing = record {
        each = omega (arith, length-map shares (λ (s : MoveShare). s.driver), length-map shares (λ (s : MoveShare). s.span));
        apart = subst (AllPairs AreSharesApart) (sym (zipped shares)) (shares_apart shares g.apart);
      };
      numbered = All-weaker (Holds free) (λ s. s.driver < length free) (λ s h. h.0) shares g.held;
      used = g.used;
      at_busy = busy_so;
      fewest = at_least (map (λ s. s.span) shares) (length free) busy busy_so;
    }

pub least : (spans : List MoveSpan) (shares : List MoveShare) (free : List ℕ) (n : ℕ) (busy : Option ℕ) (last : ℕ) → IsGreedy shares free busy last
    → map (λ s. s.span) shares ≡ spans
    → n ≡ length free → IsLeast spans shares n busy
least spans shares free n busy last g are many_of = subst (λ k. IsLeast spans shares k busy) (sym many_of)
    (subst (λ l. IsLeast l shares (length free) busy) are (least_of shares free busy last g))

-- ---- one move more

added : (shares after : List MoveShare) (free free_after : List ℕ) (busy now : Option ℕ) (last : ℕ) (span : MoveSpan) (new : Bool) → IsGreedy shares free busy last
    → last ≤ span.start
    → span.start < span.end → AddsShare shares after free free_after span new
    → now ≡ cond new (Some span.start) busy → IsGreedy after free_after now span.start
added shares after free free_after busy now last span new g le runs a is = ⊎_elim reused grown a.took
  where
    reused : (new ≡ false) × (a.driver < length free) × (slice_index free a.driver ≤ span.start) × (free_after ≡ set free a.driver span.end)
        → IsGreedy after free_after now span.start
    reused t =
        subst (λ l. IsGreedy l free_after now span.start) (sym a.shared) (subst (λ l. IsGreedy (shares ++ record { span = span; driver = a.driver } ∷ []) l now span.start)
        (sym t.3)
        (subst (λ b. IsGreedy (shares ++ record { span = span; driver = a.driver } ∷ []) (set free a.driver span.end) b span.start)
        (sym (is ∙ ap (λ b. cond b (Some span.start) busy) t.0)) (by_free shares free busy last g span le runs a.driver t.1 t.2)))

    grown : (new ≡ true) × All (λ f. span.start < f) free × (a.driver ≡ length free) × (free_after ≡ free ++ span.end ∷ []) → IsGreedy after free_after now span.start
    grown t =
        subst (λ l. IsGreedy l free_after now span.start) (sym (a.shared ∙ ap (λ d. shares ++ record { span = span; driver = d } ∷ []) t.2))
        (subst (λ l. IsGreedy (shares ++ record { span = span; driver = length free } ∷ []) l now span.start) (sym t.3)
        (subst (λ b. IsGreedy (shares ++ record { span = span; driver = length free } ∷ []) (free ++ span.end ∷ []) b span.start)
        (sym (is ∙ ap (λ b. cond b (Some span.start) busy) t.0)) (by_new shares free busy last g span le runs t.1)))

-- ---- the place in the list of moves

so_far : (spans : List MoveSpan) (shares after : List MoveShare) (i : ℕ) (span d : MoveSpan) (driver : ℕ) → i < length spans → span ≡ get_or spans i d
    → after ≡ shares ++ record { span = span; driver = driver } ∷ [] → map (λ s. s.span) shares ≡ take i spans
    → map (λ s. s.span) after ≡ take (i + 1) spans
so_far spans shares after i span d driver lt at grown are =
    ap (map (λ (s : MoveShare). s.span)) grown ∙ spans_push shares span driver ∙ ap (λ (l : List MoveSpan). l ++ span ∷ []) are ∙ ap (λ (s : MoveSpan). take i spans ++ s ∷ []) at
    ∙ sym (take_more spans i d lt)
  where
    spans_push : (shares : List MoveShare) (span : MoveSpan) (driver : ℕ) → map (λ (s : MoveShare). s.span) (shares ++ record { span = span; driver = driver } ∷ [])
        ≡ map (λ (s : MoveShare). s.span) shares ++ span ∷ []
    spans_push shares span driver = map-append (λ (s : MoveShare). s.span) shares (record { span = span; driver = driver } ∷ [])

last_start : (spans : List MoveSpan) (i : ℕ) (span d : MoveSpan) → AllPairs (λ (a b : MoveSpan). a.start ≤ b.start) spans → i < length spans → span ≡ get_or spans i d
    → slice_index (0 ∷ map (λ s. s.start) spans) i ≤ span.start
last_start spans zero span d rise lt at = omega arith
last_start spans (suc i) span d rise lt at =
    let start : slice_index (map (λ (s : MoveSpan). s.start) spans) i ≡ (get_or spans i d).start = get_or-map (λ (s : MoveSpan). s.start) spans i d 0 (omega (arith, lt)) in
    let le = rise i (suc i) d (omega arith) lt in
    omega (arith, start, le, ap (λ (s : MoveSpan). s.start) at)

this_start : (spans : List MoveSpan) (i : ℕ) (span d : MoveSpan) → i < length spans → span ≡ get_or spans i d → slice_index (0 ∷ map (λ s. s.start) spans) (i + 1) ≡ span.start
this_start spans i span d lt at = ap (slice_index (0 ∷ map (λ (s : MoveSpan). s.start) spans)) next ∙ get_or-map (λ (s : MoveSpan). s.start) spans i d 0 lt
    ∙ ap (λ (s : MoveSpan). s.start) (sym at)
  where
    next : i + 1 ≡ suc i
    next = omega arith

-- one turn
pub turn : (spans : List MoveSpan) (i : ℕ) (d : MoveSpan) (shares after : List MoveShare) (free free_after : List ℕ) (busy now : Option ℕ) (new : Bool)
    → AllPairs (λ (a b : MoveSpan). a.start ≤ b.start) spans → All (λ (s : MoveSpan). s.start < s.end) spans → i < length spans
    → map (λ s. s.span) shares ≡ take i spans → IsGreedy shares free busy (slice_index (0 ∷ map (λ s. s.start) spans) i)
    → AddsShare shares after free free_after (get_or spans i d) new
    → now ≡ cond new (Some (get_or spans i d).start) busy
    → (map (λ s. s.span) after ≡ take (i + 1) spans) × IsGreedy after free_after now (slice_index (0 ∷ map (λ s. s.start) spans) (i + 1))
turn spans i d shares after free free_after busy now new rise run lt are greedy adds is =
    let span = get_or spans i d in (
      so_far spans shares after i span d adds.driver lt refl adds.shared are,
      subst (IsGreedy after free_after now) (sym (this_start spans i span d lt refl))
          (added shares after free free_after busy now (slice_index (0 ∷ map (λ (s : MoveSpan). s.start) spans) i) span new greedy (last_start spans i span d rise lt refl)
          (run i d lt) adds is),
    )
