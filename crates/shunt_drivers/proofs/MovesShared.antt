-- Moves that are shared as spans are shared as moves, and no sharing of them uses fewer drivers.
use Rattle.std.proofs.Common.{◌≡◌, inl, inr, ⊎_elim, ℕ, zero, suc, ◌+◌, ◌<◌, ◌≤◌, ◌^◌, true, List, [], ◌∷◌, ◌++◌, length, get_or, map, drop, refl, sym, subst, ap, ◌∙◌, arith}
use Rattle.std.specs.Prelude.{All, Option, Some, unwrap_or}
use Rattle.std.specs.List.{zip}
use Rattle.std.proofs.lemmas.Bool.{cases_lt}
use Rattle.std.proofs.lemmas.List.{get_or-map, get_or_default, length-map, append_assoc, drop_more}
use Rattle.std.proofs.lemmas.List.Elements.{All-push}
use Rattle.std.proofs.lemmas.Slice.Zip.{length-zip, get_or-zip}
use Rattle.shunt_lists.specs.defs.Members.{In, AreDistinct}
use Rattle.shunt_lists.proofs.Members.{in_to, in_place, in_map, of_map}
use Rattle.shunt_instance.specs.defs.Instance.{Night}
use Rattle.shunt_tracks.specs.declared.run.Event.{Event}
use Rattle.shunt_zones.specs.defs.Meetings.{Before}
use Rattle.shunt_drivers.specs.declared.records.Crew.{Crew}
use Rattle.shunt_drivers.specs.declared.records.Duty.{Duty}
use Rattle.shunt_drivers.specs.declared.shares.MoveSpan.{MoveSpan}
use Rattle.shunt_drivers.specs.declared.shares.MoveShare.{MoveShare}
use Rattle.shunt_drivers.specs.defs.RosterFormat.{MoveName, name_of, named_by, is_one, no_move, duty_by, IsRoster}
use Rattle.shunt_drivers.specs.defs.Spans.{span_of, spans_of}
use Rattle.shunt_drivers.specs.defs.SharedMoves.{AreSharesApart, IsSharing, IsLeast}
use Rattle.shunt_drivers.specs.defs.Shared.{IsDutyOf, HasDuty, Overlap, IsSharingOf, drivers_of, IsFewest}
use Rattle.shunt_drivers.specs.defs.Dealt.{dealt}
use Rattle.shunt_drivers.specs.defs.RosterFaults.{duty_for}
use Rattle.shunt_drivers.proofs.MoveNames.{one_tells, tells_one, found_in, finds}
use Rattle.shunt_drivers.proofs.SpanCounts.{few_drivers}

abbrev no_duty : Duty
no_duty = record { driver = 0; enters = true; id = 0 }

abbrev no_span : MoveSpan
no_span = record { start = 0; end = 0 }

abbrev no_share : MoveShare
no_share = record { span = no_span; driver = 0 }

-- ---- places

abbrev Places : Event → Event → List Event → Type 0
Places e f moves = (i : ℕ) × (j : ℕ) × (i < j) × (j < length moves) × (get_or moves i e ≡ e) × (get_or moves j f ≡ f)

pub before_places : (e f : Event) (moves : List Event) → Before e f moves → Places e f moves
before_places e f [] b = absurd b
before_places e f (m ∷ moves) (inl b) = let c = in_to moves f b.1 in (0, suc c.0, omega arith, (let lt = c.1 in omega (arith, lt)), sym b.0, c.2)
before_places e f (m ∷ moves) (inr b) = let p = before_places e f moves b in (suc p.0, suc p.1, (let lt = p.2 in omega (arith, lt)), (let lt = p.3 in omega (arith, lt)), p.4, p.5)

pub places_before : (moves : List Event) (i j : ℕ) (d : Event) → i < j → j < length moves → Before (get_or moves i d) (get_or moves j d) moves
places_before [] i j d lt small = absurd (omega (arith, small))
places_before (m ∷ moves) i zero d lt small = absurd (omega (arith, lt))
places_before (m ∷ moves) zero (suc j) d lt small = inl (refl, in_place moves j d (omega (arith, small)))
places_before (m ∷ moves) (suc i) (suc j) d lt small = inr (places_before moves i j d (omega (arith, lt)) (omega (arith, small)))

-- of distinct things, one stands at one place
pub same_place : (names : List MoveName) (i k : ℕ) (d : MoveName) → AreDistinct names → i < length names → k < length names → get_or names i d ≡ get_or names k d → i ≡ k
same_place names i k d differ small within e =
    ⊎_elim (λ lt. absurd (differ i k d lt within e)) (λ ge. ⊎_elim (λ lt. absurd (differ k i d lt small (sym e))) (λ le. omega (arith, ge, le)) (cases_lt k i)) (cases_lt i k)

-- ---- which duty is a move's

pub pick : List Duty → Event → Duty
pick duties e = unwrap_or (duty_for duties e) no_duty

pub picked : (duties : List Duty) (e : Event) → HasDuty duties e → (duty_for duties e ≡ Some (pick duties e)) × IsDutyOf duties e (pick duties e)
unfolding pick
picked duties e has =
    let test = λ (d : Duty). is_one (named_by d) (name_of e) in
    let f = finds test duties has.0 has.1.0 (tells_one (named_by has.0) (name_of e) has.1.1) in
    let same : pick duties e ≡ f.0 = ap (λ o. unwrap_or o no_duty) f.1 in
    let found = found_in test duties f.0 f.1 in
    (f.1 ∙ ap Some (sym same), subst (IsDutyOf duties e) (sym same) (found.0, one_tells (named_by f.0) (name_of e) found.1))

-- ---- duties dealt out to moves

-- one more move is dealt
pub one_dealt : (moves : List Event) (shares : List MoveShare) (i : ℕ) (e : Event) (s : MoveShare) (d : Duty) (duties more : List Duty) → i < length moves → i < length shares
    → d ≡ duty_by ((get_or shares i s).driver + 1) (get_or moves i e)
    → more ≡ duties ++ d ∷ [] → more ++ dealt (drop (i + 1) moves) (drop (i + 1) shares) ≡ duties ++ dealt (drop i moves) (drop i shares)
one_dealt moves shares i e s d duties more lt within is push =
    let one = duty_by ((get_or shares i s).driver + 1) (get_or moves i e) in
    ap (λ l. l ++ dealt (drop (i + 1) moves) (drop (i + 1) shares)) (push ∙ ap (λ x. duties ++ x ∷ []) is)
    ∙ append_assoc duties (one ∷ []) (dealt (drop (i + 1) moves) (drop (i + 1) shares))
    ∙ ap (λ l. duties ++ l) (sym (ap (λ l. dealt l (drop i shares)) (drop_more moves i e lt)
    ∙ ap (λ l. dealt (get_or moves i e ∷ drop (i + 1) moves) l) (drop_more shares i s within)))

pub small_dealt : (d : Duty) (duties more : List Duty) → d.id < 2 ^ 32 → All (λ (x : Duty). x.id < 2 ^ 32) duties → more ≡ duties ++ d ∷ [] → All (λ (x : Duty). x.id < 2 ^ 32) more
small_dealt d duties more small all push = subst (All (λ (x : Duty). x.id < 2 ^ 32)) (sym push) (All-push (λ (x : Duty). x.id < 2 ^ 32) duties d all small)

dealt_names : (moves : List Event) (shares : List MoveShare) → length shares ≡ length moves → map named_by (dealt moves shares) ≡ map name_of moves
dealt_names [] shares e = refl
dealt_names (m ∷ moves) [] e = absurd (omega (arith, e))
dealt_names (m ∷ moves) (s ∷ shares) e = ap (λ l. name_of m ∷ l) (dealt_names moves shares (omega (arith, e)))

abbrev numbers : List MoveShare → List ℕ
numbers shares = map (λ s. s.driver + 1) shares

dealt_drivers : (moves : List Event) (shares : List MoveShare) → length shares ≡ length moves → drivers_of (dealt moves shares) ≡ numbers shares
dealt_drivers [] [] e = refl
dealt_drivers [] (s ∷ shares) e = absurd (omega (arith, e))
dealt_drivers (m ∷ moves) [] e = absurd (omega (arith, e))
dealt_drivers (m ∷ moves) (s ∷ shares) e = ap (λ l. (s.driver + 1) ∷ l) (dealt_drivers moves shares (omega (arith, e)))

-- each of these moves has a duty where these are theirs in their order
has_each : (moves : List Event) (duties : List Duty) → map named_by duties ≡ map name_of moves → (e : Event) → In e moves → HasDuty duties e
has_each moves duties named e i =
    let c = in_to (map name_of moves) (name_of e) (in_map name_of moves e i) in
    let many : length duties ≡ length moves = omega (arith, ap length named, length-map duties named_by, length-map moves name_of) in
    let inside : c.0 < length duties = (let lt = c.1 in omega (arith, lt, many, length-map moves name_of)) in
    let at : get_or (map named_by duties) c.0 (name_of e) ≡ named_by (get_or duties c.0 no_duty) = get_or-map named_by duties c.0 no_duty (name_of e) inside in
    (get_or duties c.0 no_duty, (in_place duties c.0 no_duty inside, sym at ∙ ap (λ l. get_or l c.0 (name_of e)) named ∙ c.2))

used_one : (shares : List MoveShare) (k : ℕ) → In k (map (λ (s : MoveShare). s.driver) shares) → In (k + 1) (numbers shares)
used_one [] k i = absurd i
used_one (s ∷ shares) k (inl e) = inl (ap (λ (x : ℕ). x + 1) e)
used_one (s ∷ shares) k (inr i) = inr (used_one shares k i)

module _ (night : Night) (crew : Crew) (moves : List Event) (shares : List MoveShare) (duties : List Duty) (drivers : ℕ) (busy : Option ℕ)
    (least : IsLeast (spans_of night crew moves) shares drivers busy) (named : map named_by duties ≡ map name_of moves)
    (numbered : drivers_of duties ≡ numbers shares) (differ : AreDistinct (map name_of moves)) where
  many_duties : length duties ≡ length moves
  many_duties = omega (arith, ap length named, length-map duties named_by, length-map moves name_of)

  many_shares : length shares ≡ length duties
  many_shares = omega (arith, ap length numbered, length-map duties (λ (d : Duty). d.driver), length-map shares (λ (s : MoveShare). s.driver + 1))

  -- the duty of a move stands at its place
  at_move : (i : ℕ) (e : Event) (a : Duty) → i < length moves → get_or moves i e ≡ e → IsDutyOf duties e a → get_or duties i a ≡ a
  at_move i e a lt at is =
      let c = in_to duties a is.0 in
      let within : c.0 < length duties = c.1 in
      let there : get_or (map named_by duties) c.0 (name_of e) ≡ name_of e = get_or-map named_by duties c.0 a (name_of e) within ∙ ap named_by c.2 ∙ is.1 in
      let here : get_or (map name_of moves) i (name_of e) ≡ name_of e = get_or-map name_of moves i e (name_of e) lt ∙ ap name_of at in
      let same : i ≡ c.0 = same_place (map name_of moves) i c.0 (name_of e) differ (omega (arith, lt, length-map moves name_of))
      (omega (arith, within, many_duties, length-map moves name_of))
      (here ∙ sym there ∙ ap (λ l. get_or l c.0 (name_of e)) named) in
      ap (λ k. get_or duties k a) same ∙ c.2

  -- its driver is the one of the span at this place
  driver_at : (i : ℕ) (a : Duty) → i < length duties → get_or duties i a ≡ a → get_or (map (λ (s : MoveShare). s.driver) shares) i 0 + 1 ≡ a.driver
  driver_at i a lt at =
      let inside : i < length shares = omega (arith, lt, many_shares) in
      let first : get_or (map (λ (s : MoveShare). s.driver) shares) i 0 ≡ (get_or shares i no_share).driver = get_or-map (λ (s : MoveShare). s.driver) shares i no_share 0 inside in
      let second : get_or (numbers shares) i 0 ≡ (get_or shares i no_share).driver + 1 = get_or-map (λ (s : MoveShare). s.driver + 1) shares i no_share 0 inside in
      let third : get_or (drivers_of duties) i 0 ≡ a.driver = get_or-map (λ (d : Duty). d.driver) duties i a 0 lt ∙ ap (λ (d : Duty). d.driver) at in
      omega (arith, first, second, third, ap (λ l. get_or l i 0) numbered)

  span_at : (i : ℕ) (e : Event) → i < length moves → get_or moves i e ≡ e → get_or (spans_of night crew moves) i no_span ≡ span_of night crew e
  span_at i e lt at = get_or-map (span_of night crew) moves i e no_span lt ∙ ap (span_of night crew) at

  abbrev given : List ℕ
  given = map (λ (s : MoveShare). s.driver) shares

  pair_at : (i : ℕ) (e : Event) → i < length moves → get_or moves i e ≡ e → get_or (zip (spans_of night crew moves) given) i (no_span, 0) ≡ (span_of night crew e, get_or given i 0)
  pair_at i e lt at =
      get_or-zip (spans_of night crew moves) given i (no_span, 0) (omega (arith, lt, length-map moves (span_of night crew)))
      (omega (arith, lt, many_shares, many_duties, length-map shares (λ (s : MoveShare). s.driver)))
      ∙ ap (λ (a : MoveSpan). let p : MoveSpan × ℕ = (a, get_or given i 0) in p) (span_at i e lt at)

  apart : (e f : Event) (a b : Duty) → Before e f moves → Overlap night crew duties e f a b → ⊥
  apart e f a b before o =
      let p = before_places e f moves before in
      let i = p.0 in
      let j = p.1 in
      let lt : i < j = p.2 in
      let small : j < length moves = p.3 in
      let inside : i < length moves = omega (arith, lt, small) in
      let first = driver_at i a (omega (arith, inside, many_duties)) (at_move i e a inside p.4 o.first) in
      let second = driver_at j b (omega (arith, small, many_duties)) (at_move j f b small p.5 o.second) in
      let long : j < length (zip (spans_of night crew moves) given) = omega (
        arith,
        small,
        many_shares,
        many_duties,
        length-zip (spans_of night crew moves) given,
        length-map moves (span_of night crew),
        length-map shares (λ (s : MoveShare). s.driver),
      ) in
      let two = least.sharing.apart i j (no_span, 0) lt long in
      let three : AreSharesApart (span_of night crew e, get_or given i 0) (get_or (zip (spans_of night crew moves) given) j (no_span, 0)) = subst
      (λ q. AreSharesApart q (get_or (zip (spans_of night crew moves) given) j (no_span, 0))) (pair_at i e inside p.4) two in
      let four : AreSharesApart (span_of night crew e, get_or given i 0) (span_of night crew f, get_or given j 0) = subst (AreSharesApart (span_of night crew e, get_or given i 0))
      (pair_at j f small p.5) three in
      four (omega (arith, first, second, o.driver)) o.minute o.runs o.runs_too

  each_number : All (λ (d : Duty). (1 ≤ d.driver) × (d.driver ≤ drivers)) duties
  each_number = λ k d lt.
      let a = get_or duties k no_duty in
      let same : get_or duties k d ≡ a = get_or_default duties k d no_duty lt in
      let at = driver_at k a lt (get_or_default duties k a no_duty lt) in
      let share : get_or given k 0 ≡ (get_or shares k no_share).driver = get_or-map (λ (s : MoveShare). s.driver) shares k no_share 0 (omega (arith, lt, many_shares)) in
      let less : (get_or shares k no_share).driver < drivers = least.numbered k no_share (omega (arith, lt, many_shares)) in
      (omega (arith, at, ap (λ (x : Duty). x.driver) same), omega (arith, at, share, less, ap (λ (x : Duty). x.driver) same))

  used : (driver : ℕ) → 1 ≤ driver → driver ≤ drivers → In driver (drivers_of duties)
  used zero some within = absurd (omega (arith, some))
  used (suc k) some within =
      let next : k + 1 ≡ suc k = omega arith in
      subst (In (suc k)) (sym numbered) (subst (λ n. In n (numbers shares)) next (used_one shares k (least.used k (omega (arith, within)))))

  -- a move's span beside its driver
  pair_of : (other : List Duty) (i : ℕ) (d : MoveSpan × ℕ) → i < length moves → get_or (zip (spans_of night crew moves) (map (λ e. (pick other e).driver) moves)) i d
      ≡ (span_of night crew (get_or moves i no_move), (pick other (get_or moves i no_move)).driver)
  pair_of other i d lt =
      let theirs = map (λ (e : Event). (pick other e).driver) moves in
      let spans = spans_of night crew moves in
      get_or-zip spans theirs i d (omega (arith, lt, length-map moves (span_of night crew))) (omega (arith, lt, length-map moves (λ (e : Event). (pick other e).driver)))
      ∙ ap (λ (a : MoveSpan). let p : MoveSpan × ℕ = (a, get_or theirs i d.1) in p) (get_or-map (span_of night crew) moves i no_move d.0 lt)
      ∙ ap (λ (n : ℕ). let p : MoveSpan × ℕ = (span_of night crew (get_or moves i no_move), n) in p) (get_or-map (λ (e : Event). (pick other e).driver) moves i no_move d.1 lt)

  -- a sharing of the moves is one of the spans
  as_spans : (other : List Duty) → IsSharingOf night crew moves other → IsSharing (spans_of night crew moves) (map (λ e. (pick other e).driver) moves)
  as_spans other s = record {
    each = omega (arith, length-map moves (λ (e : Event). (pick other e).driver), length-map moves (span_of night crew));
    apart = λ i j d lt small.
        let theirs = map (λ (e : Event). (pick other e).driver) moves in
        let spans = spans_of night crew moves in
        let inside : j < length moves = omega (
          arith,
          small,
          length-zip spans theirs,
          length-map moves (span_of night crew),
          length-map moves (λ (e : Event). (pick other e).driver),
        ) in
        let e = get_or moves i no_move in
        let f = get_or moves j no_move in
        let first : get_or (zip spans theirs) i d ≡ (span_of night crew e, (pick other e).driver) = pair_of other i d (omega (arith, lt, inside)) in
        let second : get_or (zip spans theirs) j d ≡ (span_of night crew f, (pick other f).driver) = pair_of other j d inside in
        subst (λ q. AreSharesApart q (get_or (zip spans theirs) j d)) (sym first) (subst (AreSharesApart (span_of night crew e, (pick other e).driver)) (sym second)
        (λ same t runs runs_too. s.apart e f (pick other e) (pick other f) (places_before moves i j no_move lt inside) (record {
          first = (picked other e (s.each e (in_place moves i no_move (omega (arith, lt, inside))))).1;
          second = (picked other f (s.each f (in_place moves j no_move inside))).1;
          driver = same;
          minute = t;
          runs = runs;
          runs_too = runs_too;
        })));
  }

  fewest : (other : List Duty) (names : List ℕ) → IsSharingOf night crew moves other → ((driver : ℕ) → In driver (drivers_of other) → In driver names) → drivers ≤ length names
  fewest other names s all = least.fewest (map (λ (e : Event). (pick other e).driver) moves) names (as_spans other s) in_names
    where
      in_names : (driver : ℕ) → In driver (map (λ (e : Event). (pick other e).driver) moves) → In driver names
      in_names driver i =
          let r = of_map (λ (e : Event). (pick other e).driver) moves driver i in
          all driver (subst (λ n. In n (drivers_of other)) (sym r.2) (in_map (λ (d : Duty). d.driver) other (pick other r.0) (picked other r.0 (s.each r.0 r.1)).1.0))

  pub shared : IsFewest night crew moves duties drivers busy
  shared = record {
    in_order = named;
    sharing = record { each = has_each moves duties named; once = subst AreDistinct (sym named) differ; apart = apart };
    numbered = each_number;
    used = used;
    at_busy = least.at_busy;
    fewest = fewest;
  }

  -- a file can state these duties
  pub written : length moves ≤ 800 → All (λ (d : Duty). d.id < 2 ^ 32) duties → IsRoster moves duties
  written few small = record {
    few = omega (arith, few, many_duties);
    spelled = λ k d lt.
        let n = each_number k d lt in
        let drivers_few = few_drivers (spans_of night crew moves) shares drivers busy least in
        let id = small k d lt in
        record { first = n.0; last = (let last = n.1 in omega (arith, last, drivers_few, few, length-map moves (span_of night crew))); id = omega (arith, id) };
    of_moves = record {
      each = λ k d lt. subst (In (named_by (get_or duties k d))) named (in_map named_by duties (get_or duties k d) (in_place duties k d lt));
      once = subst AreDistinct (sym named) differ;
    };
  }

-- the same of the shares as they are seen
pub all_shared : (night : Night) (crew : Crew) (moves : List Event) (shares seen : List MoveShare) (duties : List Duty) (drivers n : ℕ) (busy b : Option ℕ)
    → IsLeast (spans_of night crew moves) shares drivers busy → seen ≡ shares → length shares ≡ length moves → duties ≡ dealt moves seen
    → AreDistinct (map name_of moves) → n ≡ drivers → b ≡ busy → IsFewest night crew moves duties n b
all_shared night crew moves shares seen duties drivers n busy b least same many is differ count minute =
    let all = is ∙ ap (dealt moves) same in
    subst (λ k. IsFewest night crew moves duties k b) (sym count) (subst (IsFewest night crew moves duties drivers) (sym minute)
    (shared night crew moves shares duties drivers busy least (ap (map named_by) all ∙ dealt_names moves shares many) (ap drivers_of all ∙ dealt_drivers moves shares many) differ))

pub all_written : (night : Night) (crew : Crew) (moves : List Event) (shares seen : List MoveShare) (duties : List Duty) (drivers : ℕ) (busy : Option ℕ)
    → IsLeast (spans_of night crew moves) shares drivers busy → seen ≡ shares → length shares ≡ length moves → duties ≡ dealt moves seen
    → AreDistinct (map name_of moves) → length moves ≤ 800 → All (λ (d : Duty). d.id < 2 ^ 32) duties → IsRoster moves duties
all_written night crew moves shares seen duties drivers busy least same many is differ few small =
    let all = is ∙ ap (dealt moves) same in
    written night crew moves shares duties drivers busy least (ap (map named_by) all ∙ dealt_names moves shares many)
    (ap drivers_of all ∙ dealt_drivers moves shares many) differ few small
