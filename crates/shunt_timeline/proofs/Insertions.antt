-- The insertion of a stay on its track, step by step.
use Rattle.std.proofs.Common.{◌≡◌, ℕ, ◌+◌, ◌-◌, ◌<◌, ◌≤◌, ltb, cond, List, ◌∷◌, ◌++◌, length, get_or, take, drop, map, sym, subst, ap, ◌∙◌, arith}
use Rattle.std.specs.List.{count_by}
use Rattle.std.proofs.lemmas.List.{length-take-le, length-drop, length-map}
use Rattle.std.proofs.lemmas.List.Sums.{count_by-le-length}
use Rattle.shunt_base.specs.defs.Sides.{same_side}
use Rattle.shunt_lists.specs.defs.Members.{In}
use Rattle.shunt_base.specs.declared.keys.Stay.{Stay}
use Rattle.shunt_base.specs.defs.Keys.{AreStays}
use Rattle.shunt_stays.specs.defs.Crossings.{crosses, load_at, load_after, pairs_in, overs_in}
use Rattle.shunt_timeline.specs.declared.events.StayEvent.{StayEvent}
use Rattle.shunt_timeline.specs.declared.events.Met.{Met}
use Rattle.shunt_timeline.specs.declared.track.Arrival.{Arrival}
use Rattle.shunt_timeline.specs.defs.Levels.{IsPlace, IsSmall, is_crossed, gets_over, has_left, has_blocked, raised}
use Rattle.shunt_timeline.specs.defs.Kept.{IsKeptTrack, IsKeptAt, IsLevel}
use Rattle.shunt_timeline.proofs.Steps.{flag}
use Rattle.shunt_timeline.proofs.Changes.{entry_at}
use Rattle.shunt_timeline.proofs.ThreeParts.{Cut, pairs_more, overs_more}
use Rattle.shunt_timeline.proofs.Own.{own_is, left_within}
use Rattle.shunt_timeline.proofs.Insertion.{five, inserted}
use Rattle.shunt_timeline.proofs.Others.{length_kept, small_kept}
use Rattle.shunt_timeline.proofs.Arrivals.{arriving, put_back, IsEntry, IsLeave, entry_kept, leave_kept}

-- what was found before anything was put in
pub record Came (x : Stay) (es now : List StayEvent) (arrival : Arrival) (met : Met) (room : ℕ) : Type 0 where
  pub same : now ≡ es
  pub from : IsPlace now x.enter arrival.from
  pub to : IsPlace now x.leave arrival.to
  pub order : arrival.from ≤ arrival.to
  pub before : (stays : List Stay) → AreStays (x ∷ stays) → IsKeptTrack stays x.track.0 now → IsLevel stays x.track.0 x.enter arrival.before
  pub others : (stays : List Stay) → AreStays (x ∷ stays) → IsKeptTrack stays x.track.0 now → IsLevel stays x.track.0 x.leave arrival.others
  pub crossed : met.crossed ≡ count_by (is_crossed x) (take (arrival.to - arrival.from) (drop arrival.from es))
  pub over : met.over ≡ count_by (gets_over x room) (take (arrival.to - arrival.from) (drop arrival.from es))
  pub left : met.left ≡ count_by (has_left x) (take (arrival.to - arrival.from) (drop arrival.from es))
  pub blocked : met.blocked ≡ count_by (has_blocked x) (take (arrival.to - arrival.from) (drop arrival.from es))

pub few_events : (stays : List Stay) (x : Stay) (es : List StayEvent) → AreStays (x ∷ stays) → length stays < 65536 → IsKeptTrack stays x.track.0 es → length es + 2 ≤ 131072
few_events stays x es a few k = let n = length_kept stays x.track.0 es a.2 (omega arith) k in omega arith

pub small_events : (stays : List Stay) (x : Stay) (es : List StayEvent) → AreStays (x ∷ stays) → length stays < 65536 → IsKeptTrack stays x.track.0 es → (e : StayEvent) → In e es
    → IsSmall e
small_events stays x es a few k = small_kept stays x.track.0 es a.2 (omega arith) k

module _ (x : Stay) (es now : List StayEvent) (arrival : Arrival) (met : Met) (room : ℕ) (h : Came x es now arrival met room) (stays : List Stay) (a : AreStays (x ∷ stays))
    (k : IsKeptTrack stays x.track.0 es) where
  p : IsPlace es x.enter arrival.from
  p = subst (λ (l : List StayEvent). IsPlace l x.enter arrival.from) h.same h.from

  q : IsPlace es x.leave arrival.to
  q = subst (λ (l : List StayEvent). IsPlace l x.leave arrival.to) h.same h.to

  kept_now : IsKeptTrack stays x.track.0 now
  kept_now = subst (λ (l : List StayEvent). IsKeptTrack stays x.track.0 l) (sym h.same) k

  abbrev mid : List StayEvent
  mid = take (arrival.to - arrival.from) (drop arrival.from es)

  cut : Cut stays x (take arrival.from es) mid (drop arrival.to es)
  cut = arriving stays x es a k arrival.from arrival.to p q

  before : IsLevel stays x.track.0 x.enter arrival.before
  before = h.before stays a kept_now

  others : IsLevel stays x.track.0 x.leave arrival.others
  others = h.others stays a kept_now

  pub left_fits : met.left ≤ arrival.before.standing
  left_fits = let n = left_within stays x (take arrival.from es) mid (drop arrival.to es) cut arrival.before.standing before.standing in omega (arith, h.left)

  module _ (en le : StayEvent) (i : IsEntry x arrival.before.standing arrival.before.load
      (met.blocked + cond (same_side x.side_out x.side_in) 0 (arrival.before.standing - met.left)) en)
      (o : IsLeave x arrival.others.standing arrival.others.load le) where
    own : met.blocked + cond (same_side x.side_out x.side_in) 0 (arrival.before.standing - met.left) ≡ count_by (λ b. crosses b x) stays
    own = own_is stays x (take arrival.from es) mid (drop arrival.to es) cut arrival.before.standing _ before.standing
        (ap (λ n. n + cond (same_side x.side_out x.side_in) 0 (arrival.before.standing - met.left)) h.blocked
        ∙ ap (λ n. count_by (has_blocked x) mid + cond (same_side x.side_out x.side_in) 0 (arrival.before.standing - n)) h.left)

    en_kept : IsKeptAt (x ∷ stays) x.track.0 en
    en_kept = entry_kept stays x a arrival.before.standing arrival.before.load _ en i before.standing before.load own

    le_kept : IsKeptAt (x ∷ stays) x.track.0 le
    le_kept = leave_kept stays x a arrival.others.standing arrival.others.load le o others.standing others.load

    pub kept_new : (after new : List StayEvent) → after ≡ take arrival.from es ++ (map (raised x) mid ++ drop arrival.to es)
        → new ≡ take arrival.from after ++ (en ∷ (take (arrival.to - arrival.from) (drop arrival.from after) ++ (le ∷ drop arrival.to after)))
        → IsKeptTrack (x ∷ stays) x.track.0 new
    kept_new after new raised_is made =
        let b = q.bound in
        let lm : length (map (raised x) mid) ≡ arrival.to - arrival.from = length-map mid (raised x)
        ∙ length-take-le (arrival.to - arrival.from) (drop arrival.from es) (omega (arith, length-drop arrival.from es)) in
        let is : new ≡ five (take arrival.from es) en (map (raised x) mid) le (drop arrival.to es) =
        put_back arrival.from arrival.to (take arrival.from es) (map (raised x) mid) (drop arrival.to es) after new en le h.order
        (length-take-le arrival.from es p.bound) lm raised_is made in
        subst (λ (l : List StayEvent). IsKeptTrack (x ∷ stays) x.track.0 l) (sym is)
        (inserted stays x (take arrival.from es) mid (drop arrival.to es) cut en le i.is o.is en_kept le_kept)

    pub pairs_new : pairs_in (x ∷ stays) ≡ pairs_in stays + (en.crossings + met.crossed)
    pairs_new = pairs_more stays x (take arrival.from es) mid (drop arrival.to es) cut
        ∙ ap (λ n. pairs_in stays + n) (let e = i.crossings in let f = h.crossed in let g = own in omega arith)

    load_new : load_after (x ∷ stays) x ≡ en.load
    load_new = sym (en_kept.load ∙ ap (λ z. load_at (x ∷ stays) x.track.0 z) (entry_at en i.is.kind ∙ ap (λ (z : Stay). z.enter) i.is.stay))

    pub overs_new : (lengths : List ℕ) → get_or lengths x.track.0 0 ≡ room → overs_in lengths (x ∷ stays) ≡ overs_in lengths stays + (met.over + flag (ltb room en.load))
    overs_new lengths is = overs_more stays x (take arrival.from es) mid (drop arrival.to es) cut lengths room is
        ∙ ap (λ n. overs_in lengths stays + n) (let f : flag (ltb room (load_after (x ∷ stays) x))
        ≡ flag (ltb room en.load) = ap (λ n. flag (ltb room n)) load_new in omega (arith, h.over))

    pub entry_small : length stays < 65536 → en.crossings ≤ 65536
    entry_small few = let n : count_by (λ b. crosses b en.stay) (x ∷ stays) ≤ length (x ∷ stays) = count_by-le-length (λ b. crosses b en.stay)
        (x ∷ stays) in let e = en_kept.crossings i.is.kind in let s : length (x ∷ stays) ≡ length stays + 1 = omega arith in omega arith
