-- Timelines as a whole.
use Rattle.std.proofs.Common.{◌≡◌, ◌≢◌, ℕ, ◌+◌, ◌-◌, ◌*◌, ◌^◌, ◌<◌, ◌≤◌, ltb, Bool, false, not, cond, Result, List, [], ◌∷◌, length, get_or, set, take, drop, vec_len, vec_capacity, sym, subst, ap, ◌∙◌, arith, IsPermutation}
use Rattle.std.specs.List.{count_by, All, insert}
use Rattle.std.specs.Result.{is_ok}
use Rattle.std.proofs.lemmas.List.Edits.{length-insert}
use Rattle.std.proofs.lemmas.List.Elements.{All-cons}
use Rattle.std.proofs.lemmas.List.Sorted.{All-permutation, IsPermutation-insert}
use Rattle.std.proofs.lemmas.List.Sums.{count_by-le-length}
use Rattle.shunt_lists.proofs.Members.{all_from, in_to}
use Rattle.shunt_lists.specs.defs.Members.{In}
use Rattle.shunt_base.specs.declared.keys.Stay.{Stay}
use Rattle.shunt_base.specs.defs.Keys.{AreStays, IsWellFormed}
use Rattle.shunt_stays.specs.defs.Run.{AreOnTracks}
use Rattle.shunt_stays.specs.defs.Crossings.{crosses, load_after, pairs_in, overs_in}
use Rattle.shunt_stays.proofs.Halves.{formed}
use Rattle.shunt_stays.proofs.SortedEvents.{stays_permuted}
use Rattle.shunt_stays.proofs.Crossings.{pairs_permuted, overs_permuted}
use Rattle.shunt_cross.specs.declared.clash.Clash.{Clash}
use Rattle.shunt_cross.specs.defs.Clashes.{clash_of}
use Rattle.shunt_timeline.specs.declared.events.StayEvent.{StayEvent}
use Rattle.shunt_timeline.specs.declared.track.TrackTimeline.{TrackTimeline}
use Rattle.shunt_timeline.specs.defs.Kept.{IsKeptTrack}
use Rattle.shunt_timeline.specs.defs.Sound.{lengths_of, AreSame, IsSoundTrack}
use Rattle.shunt_timeline.proofs.Places.{in_rest}
use Rattle.shunt_timeline.proofs.ThreeParts.{not_itself}
use Rattle.shunt_timeline.proofs.Others.{beside, reordered, length_kept}
use Rattle.shunt_timeline.proofs.Ids.{ids_put}
use Rattle.shunt_timeline.proofs.Tracks.{at_set, lengths_set, length_lengths, length_at}
use Rattle.shunt_lists.proofs.Sums.{count_below, sum_at_most as sum_most}

times : (n k : ℕ) → n ≤ 65536 → k ≤ n * 65535 → k < 4294967296
times n k le h = omega arith

pub pairs_fit : (stays : List Stay) → AreStays stays → length stays ≤ 65536 → pairs_in stays < 4294967296
pairs_fit stays a few = times (length stays) (pairs_in stays) few (sum_most (λ b. count_by (crosses b) stays) 65535 stays (λ b h.
    let lt = count_below (crosses b) stays b h (not_itself b (formed stays b a h)) in omega arith))

pub overs_fit : (lengths : List ℕ) (stays : List Stay) → length stays ≤ 65536 → overs_in lengths stays < 4294967296
overs_fit lengths stays few = omega (arith, count_by-le-length (λ b. ltb (get_or lengths b.track.0 0) (load_after stays b)) stays)

all_members : {X : Type 0} (P : X → Type 0) (xs : List X) → All P xs → (x : X) → In x xs → P x
all_members P xs all x h = let c = in_to xs x h in subst P c.2 (all c.0 x c.1)

-- a stay comes
module _ (stays : List Stay) (tracks : List TrackTimeline) (spare room pairs over : ℕ) (s : IsSoundTrack stays tracks spare room pairs over) (x : Stay) (w : IsWellFormed x)
    (on : x.track.0 < length (lengths_of tracks)) (new : All (λ u. u.id ≢ x.id) stays) (few : length stays < 65536) where
  pub with_new : AreStays (x ∷ stays)
  with_new = (w, all_from (λ u. x.id ≢ u.id) stays (λ u h e. all_members (λ v. v.id ≢ x.id) stays new u h (sym e)), s.sound.formed)

  within : x.track.0 < length tracks
  within = omega (arith, length_lengths tracks)

  few_more : length (x ∷ stays) ≤ 65536
  few_more = omega arith

  module _ (old : TrackTimeline) (is : old ≡ get_or tracks x.track.0 old) where
    pub kept_at : IsKeptTrack stays x.track.0 old.events.items
    kept_at = subst (λ (t : TrackTimeline). IsKeptTrack stays x.track.0 t.events.items) (sym is) (s.sound.kept x.track.0 old within)

    pub room_at : 0 < spare → vec_len old.events + 2 ≤ vec_capacity old.events
    room_at lt =
        let r : 2 * (length stays + spare) ≤ vec_capacity old.events = subst (λ (t : TrackTimeline). 2 * (length stays + spare) ≤ vec_capacity t.events) (sym is)
        (s.sound.room x.track.0 old within) in
        let n = length_kept stays x.track.0 old.events.items s.sound.formed (omega arith) kept_at in
        omega (arith, old.events.ok.0)

    pub length_is : get_or (lengths_of tracks) x.track.0 0 ≡ old.length
    length_is = length_at tracks x.track.0 old within ∙ ap (λ (t : TrackTimeline). t.length) (sym is)

    module _ (p o : ℕ) (more_pairs : pairs_in (x ∷ stays) ≡ pairs_in stays + p) (more_over : overs_in (lengths_of tracks) (x ∷ stays)
        ≡ overs_in (lengths_of tracks) stays + o) where
      pub pairs_add : pairs + p < 4294967296
      pairs_add = let e = s.pairs_are in let f = pairs_fit (x ∷ stays) with_new few_more in omega arith

      pub over_add : over + o < 4294967296
      over_add = let e = s.over_are in let f = overs_fit (lengths_of tracks) (x ∷ stays) few_more in omega arith

      pub clash_more : ◌≡◌ {A = Clash} (record { pairs = pairs + p; over = over + o }) (clash_of (lengths_of tracks) (x ∷ stays))
      clash_more = ap (λ n. record { pairs = n + p; over = over + o }) s.pairs_are ∙ ap (λ n. record { pairs = n; over = over + o }) (sym more_pairs)
          ∙ ap (λ n. record { pairs = pairs_in (x ∷ stays); over = n + o }) s.over_are ∙ ap (λ n. record { pairs = pairs_in (x ∷ stays); over = n }) (sym more_over)

      module _ (after : TrackTimeline) (same : after.length ≡ old.length) (more : vec_capacity old.events ≤ vec_capacity after.events)
          (kept : IsKeptTrack (x ∷ stays) x.track.0 after.events.items) where
        pub lengths_after : lengths_of (set tracks x.track.0 after) ≡ lengths_of tracks
        lengths_after = lengths_set tracks x.track.0 after old within (same ∙ ap (λ (t : TrackTimeline). t.length) is)

        module _ (n : ℕ) (bound : n ≤ length stays) (before : (u : Stay) → In u (take n stays) → u.id < x.id) (later : (u : Stay) → In u (drop n stays) → x.id ≤ u.id)
            (lt : 0 < spare) (room' : ℕ) (le : room ≤ room') where
          perm : IsPermutation (x ∷ stays) (insert stays n x)
          perm = IsPermutation-insert stays n x

          count : length (insert stays n x) ≡ length stays + 1
          count = length-insert stays n x bound

          apart : (u : Stay) → In u (drop n stays) → x.id < u.id
          apart u h = let l = later u h in let ne = all_members (λ v. v.id ≢ x.id) stays new u (in_rest n stays u h) in omega arith

          all_kept : (t : ℕ) (d : TrackTimeline) → t < length (set tracks x.track.0 after) → IsKeptTrack (insert stays n x) t (get_or (set tracks x.track.0 after) t d).events.items
          all_kept = at_set (λ t z. IsKeptTrack (insert stays n x) t z.events.items) tracks x.track.0 after within
              (reordered (x ∷ stays) (insert stays n x) x.track.0 after.events.items perm kept)
              (λ t d l ne. reordered (x ∷ stays) (insert stays n x) t (get_or tracks t d).events.items perm
              (beside stays x t (get_or tracks t d).events.items (λ e. ne (sym e)) (s.sound.kept t d l)))

          all_room : (t : ℕ) (d : TrackTimeline) → t < length (set tracks x.track.0 after)
              → 2 * (length (insert stays n x) + (spare - 1)) ≤ vec_capacity (get_or (set tracks x.track.0 after) t d).events
          all_room = at_set (λ t z. 2 * (length (insert stays n x) + (spare - 1)) ≤ vec_capacity z.events) tracks x.track.0 after within
              (let r : 2 * (length stays + spare) ≤ vec_capacity old.events = subst (λ (t : TrackTimeline). 2 * (length stays + spare) ≤ vec_capacity t.events) (sym is)
              (s.sound.room x.track.0 old within) in let c = count in omega arith)
              (λ t d l ne. let r = s.sound.room t d l in let c = count in omega arith)

          pub came : IsSoundTrack (insert stays n x) (set tracks x.track.0 after) (spare - 1) room' (pairs + p) (over + o)
          came = record {
            sound = record {
              formed = stays_permuted (x ∷ stays) (insert stays n x) with_new perm;
              placed = subst (λ (l : List ℕ). AreOnTracks l (insert stays n x)) (sym lengths_after)
                  (All-permutation (λ u. u.track.0 < length (lengths_of tracks)) (x ∷ stays) (insert stays n x) perm
                  (All-cons (λ u. u.track.0 < length (lengths_of tracks)) x stays on s.sound.placed));
              sorted = ids_put stays x n s.sound.sorted before apart;
              few = let c = count in omega arith;
              kept = all_kept;
              room = all_room;
            };
            fits = let f = s.fits in let c = count in omega arith;
            small = let f = s.small in let c = count in omega arith;
            pairs_are = let e = s.pairs_are in let q : pairs_in (insert stays n x) ≡ pairs_in (x ∷ stays) = pairs_permuted (x ∷ stays) (insert stays n x) perm in omega arith;
            over_are = let e = s.over_are in let q : overs_in (lengths_of tracks) (insert stays n x)
                ≡ overs_in (lengths_of tracks) (x ∷ stays) = overs_permuted (lengths_of tracks) (x ∷ stays) (insert stays n x) perm in
                let r : overs_in (lengths_of (set tracks x.track.0 after)) (insert stays n x)
                ≡ overs_in (lengths_of tracks) (insert stays n x) = ap (λ l. overs_in l (insert stays n x)) lengths_after in omega arith;
          }

-- the same with more room
pub roomier : (stays stays' : List Stay) (tracks tracks' : List TrackTimeline) (spare spare' room room' pairs over : ℕ) → IsSoundTrack stays tracks spare room pairs over
    → stays' ≡ stays
    → AreSame tracks tracks'
    → length stays + spare' ≤ room' → length stays + spare' < 2 ^ 62 → ((t : ℕ) (d : TrackTimeline) → t < length tracks'
    → 2 * (length stays + spare') ≤ vec_capacity (get_or tracks' t d).events) → IsSoundTrack stays' tracks' spare' room' pairs over
roomier stays stays' tracks tracks' spare spare' room room' pairs over s is same fits small rooms = subst (λ (l : List Stay). IsSoundTrack l tracks' spare' room' pairs over)
    (sym is)
    (record {
      sound = record {
        formed = s.sound.formed;
        placed = subst (λ (l : List ℕ). AreOnTracks l stays) (sym same.lengths) s.sound.placed;
        sorted = s.sound.sorted;
        few = s.sound.few;
        kept = λ t d lt. let l : t < length tracks = omega (arith, same.count) in subst (λ (es : List StayEvent). IsKeptTrack stays t es) (sym (same.events t d l))
            (s.sound.kept t d l);
        room = rooms;
      };
      fits = fits;
      small = small;
      pairs_are = s.pairs_are;
      over_are = s.over_are ∙ ap (λ l. overs_in l stays) (sym same.lengths);
    })

pub still_room : (stays : List Stay) (tracks tracks' : List TrackTimeline) (spare room pairs over : ℕ) → IsSoundTrack stays tracks spare room pairs over → AreSame tracks tracks'
    → (t : ℕ) (d : TrackTimeline) → t < length tracks' → 2 * (length stays + spare) ≤ vec_capacity (get_or tracks' t d).events
still_room stays tracks tracks' spare room pairs over s same t d lt = let l : t < length tracks = omega
    (arith, same.count) in let r = same.room t d l in let q = s.sound.room t d l in omega arith

-- what was put in where there was room
pub put_items : {R : Type 0} {E : Type 0} (r : Result R E) (failed : Bool) (now new old : List Stay) → now ≡ cond (is_ok r) new old → is_ok r ≡ not failed → failed ≡ false
    → now ≡ new
put_items r failed now new old e is fine = e ∙ ap (λ b. cond b new old) (is ∙ ap not fine)
