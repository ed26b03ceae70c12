-- The removal of a stay from its track, step by step.
use Rattle.std.proofs.Common.{◌≡◌, inl, ⊎_elim, ℕ, zero, suc, ◌+◌, ◌-◌, ◌<◌, ◌≤◌, ltb, Bool, true, false, List, [], ◌∷◌, ◌++◌, length, get_or, take, drop, map, refl, sym, subst, ap, ◌∙◌, append_assoc, arith}
use Rattle.std.specs.List.{count_by}
use Rattle.std.proofs.lemmas.Bool.{cases_Bool, cases_eq, true≢false}
use Rattle.std.proofs.lemmas.List.{take-append-drop, length-take-le, length-drop, take_at, drop_at, length-append, length-map}
use Rattle.std.proofs.lemmas.List.Sums.{count_by-le-length}
use Rattle.shunt_lists.proofs.Members.{in_place, in_right, in_cases, in_drop}
use Rattle.shunt_lists.specs.defs.Members.{In}
use Rattle.shunt_base.specs.declared.keys.EventKey.{EventKey}
use Rattle.shunt_base.specs.declared.keys.Stay.{Stay}
use Rattle.shunt_base.specs.defs.Keys.{rank, IsKey, IsWellFormed, AreStays}
use Rattle.shunt_base.proofs.Ranks.{rank_tells}
use Rattle.shunt_stays.specs.defs.Crossings.{crosses, load_at, load_after, pairs_in, overs_in}
use Rattle.shunt_stays.proofs.Halves.{later_rank, formed, same_id}
use Rattle.shunt_timeline.specs.declared.events.StayEvent.{StayEvent}
use Rattle.shunt_timeline.specs.declared.events.Met.{Met}
use Rattle.shunt_timeline.specs.defs.Levels.{IsPlace, IsSmall, key_of, at, is_crossed, gets_over, lowered}
use Rattle.shunt_timeline.specs.defs.Kept.{IsKeptTrack, IsKeptAt}
use Rattle.shunt_timeline.proofs.Lists.{ascends_at}
use Rattle.shunt_timeline.proofs.Steps.{flag}
use Rattle.shunt_timeline.proofs.Ranks.{key_in}
use Rattle.shunt_timeline.proofs.Changes.{entry_at, leave_at, key_id, count_one}
use Rattle.shunt_timeline.proofs.ThreeParts.{Cut, pairs_more, overs_more, not_itself}
use Rattle.shunt_timeline.proofs.Before.{has_entry, has_leave}
use Rattle.shunt_timeline.proofs.Insertion.{IsOf, five, removed, cut}
use Rattle.shunt_timeline.proofs.Others.{length_kept, small_kept}
use Rattle.shunt_timeline.proofs.Places.{in_front, in_rest}
use Rattle.shunt_timeline.proofs.Arrivals.{places_in_order}

-- the event at a place of a key that some event has
module _ (stays : List Stay) (x : Stay) (es : List StayEvent) (a : AreStays (x ∷ stays)) (k : IsKeptTrack (x ∷ stays) x.track.0 es) where
  pub well : (e : StayEvent) → In e es → IsWellFormed e.stay
  well e h = formed (x ∷ stays) e.stay a (k.each e h).stay

  -- which event has a key
  found : (key : EventKey) (n : ℕ) (p : IsPlace es key n) (e : StayEvent) → In e es → at e ≡ rank key → (n < length es) × ((d : StayEvent) → at (get_or es n d) ≡ rank key)
  found key n p e h is = ⊎_elim
      (λ l. let lt = p.before e l in absurd (omega arith))
      (λ r. let j = in_drop n es e r in
      let within : n < length es = let u = j.1 in let v = j.2 in omega arith in (
        within,
        λ d.
            let low : rank key ≤ at (get_or es n d) = p.after (get_or es n d) (head n es d within) in
            let up : at (get_or es n d) ≤ at (get_or es j.0 d) = ascends_at at es n j.0 d k.ascends j.1 j.2 in
            let same : get_or es j.0 d ≡ e = default es j.0 d e j.2 ∙ j.3 in
            let high : at (get_or es j.0 d) ≡ at e = ap at same in
            omega arith,
      ))
      (in_cases (take n es) (drop n es) e (subst (λ (l : List StayEvent). In e l) (sym (take-append-drop n es)) h))
    where
      head : {X : Type 0} (n : ℕ) (xs : List X) (d : X) → n < length xs → In (get_or xs n d) (drop n xs)
      head zero xs d lt = in_place xs 0 d lt
      head (suc n) [] d lt = absurd (omega arith)
      head (suc n) (y ∷ xs) d lt = head n xs d (omega arith)

      default : {X : Type 0} (xs : List X) (n : ℕ) (d e : X) → n < length xs → get_or xs n d ≡ get_or xs n e
      default [] n d e lt = absurd (omega arith)
      default (y ∷ xs) zero d e lt = refl
      default (y ∷ xs) (suc n) d e lt = default xs n d e (omega arith)

  of_key : (e : StayEvent) → In e es → (key : EventKey) → IsKey key → key.id ≡ x.id → at e ≡ rank key → (e.stay ≡ x) × (key_of e ≡ key)
  of_key e h key q own is =
      let same : key_of e ≡ key = rank_tells (key_of e) key (key_in e (well e h)) q is in
      (same_id (x ∷ stays) e.stay x a (k.each e h).stay (inl refl) (sym (key_id e (well e h)) ∙ ap (λ (z : EventKey). z.id) same ∙ own), same)

  pub entry_found : (n : ℕ) → IsPlace es x.enter n → (n < length es) × ((d : StayEvent) → IsOf x true (get_or es n d))
  entry_found n p =
      let r = has_entry (x ∷ stays) x.track.0 es a k x (inl refl) refl in
      let f = found x.enter n p r.0 r.1 r.3 in (
        f.0,
        λ d.
            let o = of_key (get_or es n d) (in_place es n d f.0) x.enter a.0.enter_in a.0.enter_id (f.1 d) in record {
              stay = o.0;
              kind = ⊎_elim (λ t. t) (λ t. absurd (true≢false (sym a.0.enters ∙ ap (λ (z : EventKey). z.enters)
                  (sym o.1 ∙ leave_at (get_or es n d) t ∙ ap (λ (s : Stay). s.leave) o.0) ∙ a.0.leaves))) (cases_Bool (get_or es n d).enters);
            },
      )

  pub leave_found : (n : ℕ) → IsPlace es x.leave n → (n < length es) × ((d : StayEvent) → IsOf x false (get_or es n d))
  leave_found n p =
      let r = has_leave (x ∷ stays) x.track.0 es a k x (inl refl) refl in
      let f = found x.leave n p r.0 r.1 r.3 in (
        f.0,
        λ d.
            let o = of_key (get_or es n d) (in_place es n d f.0) x.leave a.0.leave_in a.0.leave_id (f.1 d) in record {
              stay = o.0;
              kind = ⊎_elim (λ t. absurd (true≢false (sym a.0.enters ∙ ap (λ (z : EventKey). z.enters) (sym (sym o.1 ∙ entry_at (get_or es n d) t ∙ ap (λ (s : Stay). s.enter) o.0))
                  ∙ a.0.leaves))) (λ t. t) (cases_Bool (get_or es n d).enters);
            },
      )

  pub places_apart : (from to : ℕ) → IsPlace es x.enter from → IsPlace es x.leave to → from < to
  places_apart from to p q =
      let d : StayEvent = (has_entry (x ∷ stays) x.track.0 es a k x (inl refl) refl).0 in
      let le = places_in_order es x.enter x.leave from to p q (later_rank x a.0) in
      ⊎_elim (λ e. absurd (true≢false (sym ((entry_found from p).1 d).kind ∙ ap (λ n. (get_or es n d).enters) e ∙ ((leave_found to q).1 d).kind))) (λ ne. omega arith)
      (cases_eq from to)

pub five_of : {X : Type 0} (from to : ℕ) (xs : List X) (d : X) → from < to → to < length xs
    → xs ≡ take from xs ++ (get_or xs from d ∷ (take (to - (from + 1)) (drop (from + 1) xs) ++ (get_or xs to d ∷ drop (to + 1) xs)))
five_of from to [] d lt within = absurd (omega arith)
five_of from zero (z ∷ xs) d lt within = absurd (omega arith)
five_of {X} zero (suc to) (z ∷ xs) d lt within =
    let e : suc to - (0 + 1) ≡ to = omega arith in
    let f : suc to + 1 ≡ suc (to + 1) = omega arith in
    ap (λ (l : List X). z ∷ l) (cut_at to xs d (omega arith)) ∙ sym (ap (λ n. z ∷ (take n xs ++ (get_or xs to d ∷ drop (suc to + 1) (z ∷ xs)))) e
    ∙ ap (λ n. z ∷ (take to xs ++ (get_or xs to d ∷ drop n (z ∷ xs)))) f)
  where
    cut_at : {Y : Type 0} (n : ℕ) (ys : List Y) (d : Y) → n < length ys → ys ≡ take n ys ++ (get_or ys n d ∷ drop (n + 1) ys)
    cut_at n [] d lt = absurd (omega arith)
    cut_at zero (y ∷ ys) d lt = refl
    cut_at {Y} (suc n) (y ∷ ys) d lt = let e : suc n + 1 ≡ suc (n + 1) = omega arith in ap (λ (l : List Y). y ∷ l) (cut_at n ys d (omega arith))
        ∙ sym (ap (λ m. y ∷ (take n ys ++ (get_or ys n d ∷ drop m (y ∷ ys)))) e)
five_of {X} (suc from) (suc to) (z ∷ xs) d lt within =
    let e : suc to - (suc from + 1) ≡ to - (from + 1) = omega arith in
    let f : suc to + 1 ≡ suc (to + 1) = omega arith in
    let g : suc from + 1 ≡ suc (from + 1) = omega arith in
    ap (λ (l : List X). z ∷ l) (five_of from to xs d (omega arith) (omega arith))
    ∙ sym (ap (λ n. z ∷ (take from xs ++ (get_or xs from d ∷ (take n (drop (suc from + 1) (z ∷ xs)) ++ (get_or xs to d ∷ drop (suc to + 1) (z ∷ xs)))))) e
    ∙ ap (λ n. z ∷ (take from xs ++ (get_or xs from d ∷ (take (to - (from + 1)) (drop n (z ∷ xs)) ++ (get_or xs to d ∷ drop (suc to + 1) (z ∷ xs)))))) g
    ∙ ap (λ n. z ∷ (take from xs ++ (get_or xs from d ∷ (take (to - (from + 1)) (drop (from + 1) xs) ++ (get_or xs to d ∷ drop n (z ∷ xs)))))) f)

-- what was taken out and lowered
pub record Went (x : Stay) (es gone after : List StayEvent) (from to : ℕ) (entry : StayEvent) (met : Met) (room : ℕ) : Type 0 where
  pub first : IsPlace es x.enter from
  pub last : IsPlace es x.leave to
  pub taken : (d : StayEvent) → entry ≡ get_or es from d
  pub left : gone ≡ take from es ++ (take (to - (from + 1)) (drop (from + 1) es) ++ drop (to + 1) es)
  pub made : after ≡ take from gone ++ (map (lowered x) (take (to - 1 - from) (drop from gone)) ++ drop (to - 1) gone)
  pub crossed : met.crossed ≡ count_by (is_crossed x) (map (lowered x) (take (to - 1 - from) (drop from gone)))
  pub over : met.over ≡ count_by (gets_over x room) (map (lowered x) (take (to - 1 - from) (drop from gone)))

module _ (x : Stay) (es gone after : List StayEvent) (from to : ℕ) (entry : StayEvent) (met : Met) (room : ℕ) (h : Went x es gone after from to entry met room) (stays : List Stay)
    (a : AreStays (x ∷ stays)) (k : IsKeptTrack (x ∷ stays) x.track.0 es) where
  abbrev A : List StayEvent
  A = take from es

  abbrev B : List StayEvent
  B = take (to - (from + 1)) (drop (from + 1) es)

  abbrev C : List StayEvent
  C = drop (to + 1) es

  abbrev le : StayEvent
  le = get_or es to entry

  apart : from < to
  apart = places_apart stays x es a k from to h.first h.last

  within : to < length es
  within = (leave_found stays x es a k to h.last).0

  all : es ≡ five A entry B le C
  all = five_of from to es entry apart within ∙ ap (λ (e : StayEvent). five A e B le C) (sym (h.taken entry))

  i : IsOf x true entry
  i = subst (λ (e : StayEvent). IsOf x true e) (sym (h.taken entry)) ((entry_found stays x es a k from h.first).1 entry)

  o : IsOf x false le
  o = (leave_found stays x es a k to h.last).1 entry

  k' : IsKeptTrack (x ∷ stays) x.track.0 (five A entry B le C)
  k' = subst (λ (l : List StayEvent). IsKeptTrack (x ∷ stays) x.track.0 l) all k

  la : length A ≡ from
  la = length-take-le from es h.first.bound

  lb : length B ≡ to - 1 - from
  lb = let w = within in let p = apart in length-take-le (to - (from + 1)) (drop (from + 1) es) (omega (arith, length-drop (from + 1) es)) ∙ omega arith

  front : take from gone ≡ A
  front = ap (take from) h.left ∙ take_at A (B ++ C) from la

  rest : drop from gone ≡ B ++ C
  rest = ap (drop from) h.left ∙ drop_at A (B ++ C) from la

  mid : take (to - 1 - from) (drop from gone) ≡ B
  mid = ap (take (to - 1 - from)) rest ∙ take_at B C (to - 1 - from) lb

  joined : gone ≡ (A ++ B) ++ C
  joined = h.left ∙ sym (append_assoc A B C)

  end : drop (to - 1) gone ≡ C
  end = ap (drop (to - 1)) joined ∙ drop_at (A ++ B) C (to - 1) (let p = apart in omega (arith, length-append A B, la, lb))

  is : after ≡ A ++ (map (lowered x) B ++ C)
  is = h.made ∙ ap (λ l. l ++ (map (lowered x) (take (to - 1 - from) (drop from gone)) ++ drop (to - 1) gone)) front ∙ ap (λ l. A ++ (map (lowered x) l ++ drop (to - 1) gone)) mid
      ∙ ap (λ l. A ++ (map (lowered x) B ++ l)) end

  c : Cut stays x A (map (lowered x) B) C
  c = cut stays x A B C entry le a k' i o

  pub kept_left : IsKeptTrack stays x.track.0 after
  kept_left = subst (λ (l : List StayEvent). IsKeptTrack stays x.track.0 l) (sym is) (removed stays x A B C entry le a k' i o)

  entry_here : IsKeptAt (x ∷ stays) x.track.0 entry
  entry_here = k'.each entry (in_right A (entry ∷ (B ++ (le ∷ C))) entry (inl refl))

  own : entry.crossings ≡ count_by (λ b. crosses b x) stays
  own =
      let none : flag (crosses x x) ≡ 0 = ap flag (not_itself x a.0) in
      entry_here.crossings i.kind ∙ ap (λ (z : Stay). count_by (λ b. crosses b z) (x ∷ stays)) i.stay ∙ count_one (λ b. crosses b x) x stays ∙ omega arith

  load_is : load_after (x ∷ stays) x ≡ entry.load
  load_is = sym (entry_here.load ∙ ap (λ z. load_at (x ∷ stays) x.track.0 z) (entry_at entry i.kind ∙ ap (λ (s : Stay). s.enter) i.stay))

  pub pairs_left : pairs_in (x ∷ stays) ≡ pairs_in stays + (met.crossed + entry.crossings)
  pairs_left =
      let f : met.crossed ≡ count_by (is_crossed x) (map (lowered x) B) = h.crossed ∙ ap (λ l. count_by (is_crossed x) (map (lowered x) l)) mid in
      pairs_more stays x A (map (lowered x) B) C c ∙ ap (λ n. pairs_in stays + n) (let g = own in omega arith)

  pub overs_left : (lengths : List ℕ) → get_or lengths x.track.0 0 ≡ room → overs_in lengths (x ∷ stays) ≡ overs_in lengths stays + (flag (ltb room entry.load) + met.over)
  overs_left lengths at_room =
      let f : met.over ≡ count_by (gets_over x room) (map (lowered x) B) = h.over ∙ ap (λ l. count_by (gets_over x room) (map (lowered x) l)) mid in
      let g : flag (ltb room (load_after (x ∷ stays) x)) ≡ flag (ltb room entry.load) = ap (λ n. flag (ltb room n)) load_is in
      overs_more stays x A (map (lowered x) B) C c lengths room at_room ∙ ap (λ n. overs_in lengths stays + n) (omega arith)

  pub entry_in : In entry es
  entry_in = subst (λ (l : List StayEvent). In entry l) (sym all) (in_right A (entry ∷ (B ++ (le ∷ C))) entry (inl refl))

-- the other events are among all
pub gone_in : {X : Type 0} (from to : ℕ) (es gone : List X) (x : X) → gone ≡ take from es ++ (take (to - (from + 1)) (drop (from + 1) es) ++ drop (to + 1) es) → In x gone → In x es
gone_in from to es gone x left h = ⊎_elim (λ l. in_front from es x l)
    (λ r. ⊎_elim (λ l. in_rest (from + 1) es x (in_front (to - (from + 1)) (drop (from + 1) es) x l)) (λ l. in_rest (to + 1) es x l)
    (in_cases (take (to - (from + 1)) (drop (from + 1) es)) (drop (to + 1) es) x r))
    (in_cases (take from es) (take (to - (from + 1)) (drop (from + 1) es) ++ drop (to + 1) es) x (subst (λ l. In x l) left h))

pub gone_length : {X : Type 0} (from to : ℕ) (es gone : List X) → from < to → to < length es
    → gone ≡ take from es ++ (take (to - (from + 1)) (drop (from + 1) es) ++ drop (to + 1) es) → length gone + 2 ≡ length es
gone_length from to es gone lt within left =
    omega (
      arith,
      ap length left,
      length-append (take from es) (take (to - (from + 1)) (drop (from + 1) es) ++ drop (to + 1) es),
      length-append (take (to - (from + 1)) (drop (from + 1) es)) (drop (to + 1) es),
      length-take-le from es (omega arith),
      length-drop (to + 1) es,
      length-take-le (to - (from + 1)) (drop (from + 1) es) (omega (arith, length-drop (from + 1) es)),
    )

pub small_before : (stays : List Stay) (x : Stay) (es : List StayEvent) → AreStays (x ∷ stays) → length stays < 65536 → IsKeptTrack (x ∷ stays) x.track.0 es → (e : StayEvent)
    → In e es
    → IsSmall e
small_before stays x es a few k = small_kept (x ∷ stays) x.track.0 es a (let n : length (x ∷ stays) ≡ length stays + 1 = omega arith in omega arith) k

pub few_before : (stays : List Stay) (x : Stay) (es : List StayEvent) → AreStays (x ∷ stays) → length stays < 65536 → IsKeptTrack (x ∷ stays) x.track.0 es → length es ≤ 131072
few_before stays x es a few k = let n : length (x ∷ stays) ≡ length stays + 1 = omega arith in let m = length_kept (x ∷ stays) x.track.0 es a (omega arith) k in omega arith

pub lowered_within : {X : Type 0} (p : X → Bool) (f : X → X) (from n m : ℕ) (xs : List X) → length xs ≤ 131072 → m ≡ count_by p (map f (take n (drop from xs))) → m ≤ 131072
lowered_within p f from n m xs few is = let w = take_within n (drop from xs) in omega
    (arith, count_by-le-length p (map f (take n (drop from xs))), length-map (take n (drop from xs)) f, length-drop from xs)
  where
    take_within : {Y : Type 0} (n : ℕ) (ys : List Y) → length (take n ys) ≤ length ys
    take_within zero ys = omega arith
    take_within (suc n) [] = omega arith
    take_within (suc n) (y ∷ ys) = let r = take_within n ys in omega arith
