-- What is due in the order of the keys, and on which tracks.
use Rattle.std.proofs.Common.{◌≡◌, inl, inr, ⊎_elim, ℕ, ◌+◌, ◌<◌, false, List, [], ◌∷◌, length, get_or, map, refl, sym, subst, ap, ◌∙◌, arith, Ordering, IsPermutation}
use Rattle.std.specs.List.{All, flat_map}
use Rattle.std.specs.List.Sorted.{IsSorted}
use Rattle.std.specs.Ordering.{is_lt}
use Rattle.std.proofs.lemmas.List.{get_or-map, length-map}
use Rattle.std.proofs.lemmas.List.Concat.{flat_map-cons}
use Rattle.std.proofs.lemmas.List.Sorted.{IsPermutation-map}
use Rattle.shunt_lists.proofs.Members.{in_place, in_map}
use Rattle.shunt_lists.specs.defs.Members.{In}
use Rattle.shunt_base.specs.declared.ids.TrackId.{TrackId}
use Rattle.shunt_base.specs.declared.keys.Stay.{Stay}
use Rattle.shunt_base.specs.defs.Keys.{AreStays, key_cmp}
use Rattle.shunt_stays.specs.defs.Events.{Move, entry_of, leave_of, moves_of, insert_by_key, in_order}
use Rattle.shunt_stays.specs.defs.Run.{AreOnTracks}
use Rattle.shunt_stays.proofs.Fewer.{on_tracks}
use Rattle.shunt_stays.proofs.SortedEvents.{sorted_is, inserted}
use Rattle.shunt_tracks.specs.declared.dues.Due.{Due}
use Rattle.shunt_tracks.specs.defs.Dues.{move_of, dues_of}

abbrev by_key : Move → Move → Ordering
by_key m n = key_cmp m.key n.key

moves_are : (stays : List Stay) → map move_of (flat_map dues_of stays) ≡ moves_of stays
moves_are [] = refl
moves_are (s ∷ stays) =
    ap (map move_of) (flat_map-cons dues_of s stays)
    ∙ ap (λ (l : List Move). entry_of s ∷ leave_of s ∷ l) (moves_are stays)
    ∙ sym (flat_map-cons (λ (z : Stay). entry_of z ∷ leave_of z ∷ []) s stays)

sorted_map : (cmp : Due → Due → Ordering) (dues : List Due) → ((d e : Due) → is_lt (cmp d e) ≡ false → is_lt (key_cmp d.key e.key) ≡ false) → IsSorted cmp dues
    → IsSorted by_key (map move_of dues)
sorted_map cmp dues finer s = λ k m low high.
    let z : Due = record { key = m.key; track = m.track; side = m.side; length = m.length } in
    let lt : k + 1 < length dues = omega (arith, length-map dues move_of) in
    let here : get_or (map move_of dues) k m ≡ move_of (get_or dues k z) = get_or-map move_of dues k z m (omega arith) in
    let next : get_or (map move_of dues) (k + 1) m ≡ move_of (get_or dues (k + 1) z) = get_or-map move_of dues (k + 1) z m lt in
    ap (λ (n : Move). is_lt (by_key n (get_or (map move_of dues) k m))) next
    ∙ ap (λ (n : Move). is_lt (by_key (move_of (get_or dues (k + 1) z)) n)) here
    ∙ finer (get_or dues (k + 1) z) (get_or dues k z) (s k z low lt)

pub sorted_moves : (cmp : Due → Due → Ordering) (stays : List Stay) (dues sorted : List Due) → AreStays stays
    → ((d e : Due) → is_lt (cmp d e) ≡ false → is_lt (key_cmp d.key e.key) ≡ false) → dues ≡ flat_map dues_of stays → IsPermutation dues sorted → IsSorted cmp sorted
    → map move_of sorted ≡ in_order stays
sorted_moves cmp stays dues sorted a finer e p s =
    sorted_is stays (map move_of sorted) a (subst (λ (l : List Move). IsPermutation l (map move_of sorted)) (ap (map move_of) e ∙ moves_are stays)
    (IsPermutation-map move_of dues sorted p)) (sorted_map cmp sorted finer s)

-- each event is on its stay's track
on_track : (stays : List Stay) (m : Move) → In m (in_order stays) → (s : Stay) × In s stays × (m.track ≡ s.track)
on_track [] m h = absurd h
on_track (s ∷ stays) m h =
    ⊎_elim (λ e. (s, inl refl, ap (λ (x : Move). x.track) e))
    (λ i. ⊎_elim (λ e. (s, inl refl, ap (λ (x : Move). x.track) e)) (λ j. let r = on_track stays m j in (r.0, inr r.1, r.2)) (inserted (leave_of s) m (in_order stays) i))
    (inserted (entry_of s) m (insert_by_key (leave_of s) (in_order stays)) h)

pub dues_on : (lengths : List ℕ) (stays : List Stay) (dues : List Due) → AreOnTracks lengths stays → map move_of dues ≡ in_order stays → All (λ d. d.track.0 < length lengths) dues
dues_on lengths stays dues on e = λ k d lt.
    let r = on_track stays (move_of (get_or dues k d)) (subst (In (move_of (get_or dues k d))) e (in_map move_of dues (get_or dues k d) (in_place dues k d lt))) in
    let below = on_tracks lengths stays r.0 on r.1 in
    omega (arith, ap (λ (t : TrackId). t.0) r.2)
