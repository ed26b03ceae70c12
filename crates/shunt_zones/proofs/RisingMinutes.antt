-- The minutes of moves in key order rise.
use Rattle.std.proofs.Common.{◌≡◌, ⊎_elim, ℕ, ◌<◌, ◌≤◌, Bool, true, false, List, [], ◌∷◌, get_or, map, sym, subst, ap, arith, Ordering}
use Rattle.std.specs.Prelude.{All, AllPairs, not, if◌then◌else◌}
use Rattle.std.specs.List.{AllByRecursion}
use Rattle.std.specs.Cmp.{nat_cmp_is}
use Rattle.std.specs.Ordering.{is_lt, nat_cmp, ordering_then}
use Rattle.std.specs.declared.cmp.Ordering.TheVariants.{Greater}
use Rattle.std.proofs.lemmas.Bool.{cases_Bool, cases_lt, cond-true, cond-false}
use Rattle.std.proofs.lemmas.List.Kept.{AllPairs-cons, AllPairs-filter}
use Rattle.std.proofs.lemmas.Map.Keys.{ge_from_not_lt}
use Rattle.shunt_lists.proofs.Lists.{no_pairs}
use Rattle.shunt_lists.proofs.Members.{all_in, in_place, of_map}
use Rattle.shunt_base.specs.declared.keys.EventKey.{EventKey}
use Rattle.shunt_base.specs.declared.keys.Stay.{Stay}
use Rattle.shunt_stays.specs.defs.Events.{Move, entry_of, leave_of, key_before, insert_by_key, in_order}
use Rattle.shunt_instance.specs.defs.Instance.{Night}
use Rattle.shunt_blocks.specs.declared.records.Block.{Block}
use Rattle.shunt_blocks.specs.defs.Lists.{stays_of}
use Rattle.shunt_tracks.specs.declared.run.Event.{Event}
use Rattle.shunt_tracks.specs.defs.Answer.{event_of}
use Rattle.shunt_zones.specs.defs.Moves.{has_been, events_of, moves_of}
use Rattle.shunt_lists.proofs.Tests.{never_both}
use Rattle.shunt_lists.proofs.Orders.{first_less}

-- ---- keys and their minutes

greater : (o rest : Ordering) → o ≡ Greater → is_lt (ordering_then o rest) ≡ false
greater o rest e = ap (λ p. is_lt (ordering_then p rest)) e

above : (a b : ℕ) (rest : Ordering) → b < a → is_lt (ordering_then (nat_cmp a b) rest) ≡ false
above a b rest lt = greater (nat_cmp a b) rest (sym (nat_cmp_is a b Greater lt))

not_later : (k l : EventKey) → key_before k l ≡ true → k.minute ≤ l.minute
not_later k l t = ⊎_elim (λ lt. absurd (never_both (key_before k l) t (above k.minute l.minute _ lt))) (λ le. le) (cases_lt l.minute k.minute)

not_earlier : (k l : EventKey) → key_before k l ≡ false → l.minute ≤ k.minute
not_earlier k l f = ge_from_not_lt k.minute l.minute (first_less (nat_cmp k.minute l.minute) _ f)

-- ---- moves that are put in

abbrev Low : ℕ → List Move → Type 0
Low t all = AllByRecursion (λ (n : Move). t ≤ n.key.minute) all

abbrev Rise : List Move → Type 0
Rise [] = Unit {0}
Rise (m ∷ all) = Low m.key.minute all × Rise all

low_if : (b : Bool) (t : ℕ) (xs ys : List Move) → Low t xs → Low t ys → Low t (if b then xs else ys)
low_if true t xs ys low other = low
low_if false t xs ys low other = other

low_insert : (t : ℕ) (m : Move) (all : List Move) → t ≤ m.key.minute → Low t all → Low t (insert_by_key m all)
low_insert t m [] le low = (le, tt)
low_insert t m (n ∷ all) le low = low_if (key_before m.key n.key) t (m ∷ n ∷ all) (n ∷ insert_by_key m all) (le, low) (low.0, low_insert t m all le low.1)

lower : (s t : ℕ) (all : List Move) → s ≤ t → Low t all → Low s all
lower s t [] le low = tt
lower s t (n ∷ all) le low = (let first = low.0 in omega (arith, first, le), lower s t all le low.1)

rise_insert : (m : Move) (all : List Move) → Rise all → Rise (insert_by_key m all)
rise_insert m [] r = (tt, tt)
rise_insert m (n ∷ all) r = ⊎_elim first (later (rise_insert m all r.1)) (cases_Bool (key_before m.key n.key))
  where
    first : key_before m.key n.key ≡ true → Rise (insert_by_key m (n ∷ all))
    first t =
        let le = not_later m.key n.key t in
        subst Rise (sym (cond-true (key_before m.key n.key) (m ∷ n ∷ all) (n ∷ insert_by_key m all) t)) ((le, lower m.key.minute n.key.minute all le r.0), r)

    later : Rise (insert_by_key m all) → key_before m.key n.key ≡ false → Rise (insert_by_key m (n ∷ all))
    later rest f =
        subst Rise (sym (cond-false (key_before m.key n.key) (m ∷ n ∷ all) (n ∷ insert_by_key m all) f))
        (low_insert n.key.minute m all (not_earlier m.key n.key f) r.0, rest)

order_rises : (stays : List Stay) → Rise (in_order stays)
order_rises [] = tt
order_rises (s ∷ stays) = rise_insert (entry_of s) (insert_by_key (leave_of s) (in_order stays)) (rise_insert (leave_of s) (in_order stays) (order_rises stays))

-- ---- the events

abbrev NotLater : Event → Event → Type 0
NotLater e f = e.key.minute ≤ f.key.minute

all_low : (e : Event) (all : List Move) → Low e.key.minute all → All (NotLater e) (map event_of all)
all_low e all low = λ k d lt.
    let r = of_map event_of all (get_or (map event_of all) k d) (in_place (map event_of all) k d lt) in
    subst (NotLater e) (sym r.2) (all_in (λ (n : Move). e.key.minute ≤ n.key.minute) all r.0 low r.1)

events_rise : (all : List Move) → Rise all → AllPairs NotLater (map event_of all)
events_rise [] r = no_pairs NotLater
events_rise (m ∷ all) r = AllPairs-cons NotLater (event_of m) (map event_of all) (all_low (event_of m) all r.0) (events_rise all r.1)

pub moves_rise : (night : Night) (blocks : List Block) → AllPairs NotLater (moves_of night blocks)
unfolding moves_of events_of
moves_rise night blocks = AllPairs-filter NotLater (λ e. not (has_been night blocks e.key)) (map event_of (in_order (stays_of night blocks)))
    (events_rise (in_order (stays_of night blocks)) (order_rises (stays_of night blocks)))
