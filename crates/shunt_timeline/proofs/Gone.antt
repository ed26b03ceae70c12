-- Timelines as a whole, once a stay went.
use Rattle.std.proofs.Common.{◌≡◌, ◌≢◌, ℕ, ◌+◌, ◌-◌, ◌*◌, ◌<◌, ◌≤◌, List, ◌∷◌, length, get_or, set, vec_capacity, sym, subst, ap, ◌∙◌, arith, IsPermutation}
use Rattle.std.specs.List.{All, remove}
use Rattle.std.proofs.lemmas.List.Edits.{length-remove}
use Rattle.std.proofs.lemmas.List.Elements.{All-tail}
use Rattle.std.proofs.lemmas.List.Sorted.{All-permutation, IsPermutation-remove}
use Rattle.shunt_lists.proofs.Members.{all_in, in_place}
use Rattle.shunt_base.specs.declared.keys.Stay.{Stay}
use Rattle.shunt_base.specs.defs.Keys.{AreStays}
use Rattle.shunt_stays.specs.defs.Run.{AreOnTracks}
use Rattle.shunt_stays.specs.defs.Crossings.{pairs_in, overs_in}
use Rattle.shunt_stays.proofs.SortedEvents.{stays_permuted}
use Rattle.shunt_stays.proofs.Crossings.{pairs_permuted, overs_permuted}
use Rattle.shunt_timeline.specs.declared.track.TrackTimeline.{TrackTimeline}
use Rattle.shunt_timeline.specs.defs.Kept.{IsKeptTrack}
use Rattle.shunt_timeline.specs.defs.Sound.{lengths_of, IsSoundTrack}
use Rattle.shunt_timeline.proofs.Others.{without, reordered}
use Rattle.shunt_timeline.proofs.Ids.{ids_taken}
use Rattle.shunt_timeline.proofs.Tracks.{at_set, lengths_set, length_lengths, length_at}

-- a stay goes
module _ (stays : List Stay) (tracks : List TrackTimeline) (spare room pairs over : ℕ) (s : IsSoundTrack stays tracks spare room pairs over) (n : ℕ) (lt : n < length stays)
    (x : Stay)
    (x_is : x ≡ get_or stays n x) where
  perm : IsPermutation stays (x ∷ remove stays n)
  perm = IsPermutation-remove stays n x lt x_is

  pub with_gone : AreStays (x ∷ remove stays n)
  with_gone = stays_permuted stays (x ∷ remove stays n) s.sound.formed perm

  -- no stay that is left has its id
  pub id_gone : All (λ u. u.id ≢ x.id) (remove stays n)
  id_gone k d within e = all_in (λ u. x.id ≢ u.id) (remove stays n) (get_or (remove stays n) k d) with_gone.1 (in_place (remove stays n) k d within) (sym e)

  placed_all : AreOnTracks (lengths_of tracks) (x ∷ remove stays n)
  placed_all = All-permutation (λ u. u.track.0 < length (lengths_of tracks)) stays (x ∷ remove stays n) perm s.sound.placed

  pub on_track : x.track.0 < length tracks
  on_track = let h : x.track.0 < length (lengths_of tracks) = placed_all 0 x (omega arith) in omega (arith, length_lengths tracks)

  pub fewer : length (remove stays n) < 65536
  fewer = let f = s.sound.few in omega (arith, length-remove stays n lt)

  module _ (old : TrackTimeline) (is : old ≡ get_or tracks x.track.0 old) where
    pub kept_all : IsKeptTrack (x ∷ remove stays n) x.track.0 old.events.items
    kept_all = reordered stays (x ∷ remove stays n) x.track.0 old.events.items perm
        (subst (λ (t : TrackTimeline). IsKeptTrack stays x.track.0 t.events.items) (sym is) (s.sound.kept x.track.0 old on_track))

    pub length_was : get_or (lengths_of tracks) x.track.0 0 ≡ old.length
    length_was = length_at tracks x.track.0 old on_track ∙ ap (λ (t : TrackTimeline). t.length) (sym is)

    module _ (p o : ℕ) (more_pairs : pairs_in (x ∷ remove stays n) ≡ pairs_in (remove stays n) + p)
        (more_over : overs_in (lengths_of tracks) (x ∷ remove stays n) ≡ overs_in (lengths_of tracks) (remove stays n) + o) where
      pairs_were : pairs ≡ pairs_in (remove stays n) + p
      pairs_were = s.pairs_are ∙ sym (pairs_permuted stays (x ∷ remove stays n) perm) ∙ more_pairs

      over_were : over ≡ overs_in (lengths_of tracks) (remove stays n) + o
      over_were = s.over_are ∙ sym (overs_permuted (lengths_of tracks) stays (x ∷ remove stays n) perm) ∙ more_over

      pub pairs_less : p ≤ pairs
      pairs_less = let e = pairs_were in omega arith

      pub over_less : o ≤ over
      over_less = let e = over_were in omega arith

      module _ (after : TrackTimeline) (same : after.length ≡ old.length) (room_same : vec_capacity after.events ≡ vec_capacity old.events)
          (kept : IsKeptTrack (remove stays n) x.track.0 after.events.items) where
        pub lengths_left : lengths_of (set tracks x.track.0 after) ≡ lengths_of tracks
        lengths_left = lengths_set tracks x.track.0 after old on_track (same ∙ ap (λ (t : TrackTimeline). t.length) is)

        count : length (remove stays n) + 1 ≡ length stays
        count = length-remove stays n lt

        all_kept : (t : ℕ) (d : TrackTimeline) → t < length (set tracks x.track.0 after) → IsKeptTrack (remove stays n) t (get_or (set tracks x.track.0 after) t d).events.items
        all_kept = at_set (λ t z. IsKeptTrack (remove stays n) t z.events.items) tracks x.track.0 after on_track kept
            (λ t d l ne. without (remove stays n) x t (get_or tracks t d).events.items (λ e. ne (sym e))
            (reordered stays (x ∷ remove stays n) t (get_or tracks t d).events.items perm (s.sound.kept t d l)))

        all_room : (t : ℕ) (d : TrackTimeline) → t < length (set tracks x.track.0 after) → 2 * (length (remove stays n) + (spare + 1)) ≤ vec_capacity
            (get_or (set tracks x.track.0 after) t d).events
        all_room = at_set (λ t z. 2 * (length (remove stays n) + (spare + 1)) ≤ vec_capacity z.events) tracks x.track.0 after on_track
            (let r : 2 * (length stays + spare) ≤ vec_capacity old.events = subst (λ (t : TrackTimeline). 2 * (length stays + spare) ≤ vec_capacity t.events) (sym is)
            (s.sound.room x.track.0 old on_track) in let c = count in omega arith)
            (λ t d l ne. let r = s.sound.room t d l in let c = count in omega arith)

        pub went : (room' : ℕ) → room' ≡ room → IsSoundTrack (remove stays n) (set tracks x.track.0 after) (spare + 1) room' (pairs - p) (over - o)
        went room' same_room = record {
          sound = record {
            formed = with_gone.2;
            placed = subst (λ (l : List ℕ). AreOnTracks l (remove stays n)) (sym lengths_left)
                (All-tail (λ u. u.track.0 < length (lengths_of tracks)) x (remove stays n) placed_all);
            sorted = ids_taken stays n s.sound.sorted;
            few = let f = s.sound.few in let c = count in omega arith;
            kept = all_kept;
            room = all_room;
          };
          fits = let f = s.fits in let c = count in omega arith;
          small = let f = s.small in let c = count in omega arith;
          pairs_are = let e = pairs_were in omega arith;
          over_are = let e = over_were in let r : overs_in (lengths_of (set tracks x.track.0 after)) (remove stays n)
              ≡ overs_in (lengths_of tracks) (remove stays n) = ap (λ l. overs_in l (remove stays n)) lengths_left in omega arith;
        }
