-- Lanes that are made of seats.
use Rattle.std.proofs.Common.{◌≡◌, ◌==◌, ℕ, Bool, ◌+◌, ◌-◌, ◌<◌, ◌≤◌, min, max, List, [], ◌∷◌, map, length, get_or, take, refl, sym, subst, ap, ◌∙◌, IsPermutation, arith}
use Rattle.std.specs.Prelude.{All, AllPairs, slice_get, Some}
use Rattle.std.specs.List.Sorted.{IsSortedByKey}
use Rattle.std.proofs.lemmas.List.{length-map, map_more}
use Rattle.std.proofs.lemmas.List.Sums.{fold_push}
use Rattle.std.proofs.lemmas.List.Elements.{All-map, All-more, All-weaker}
use Rattle.shunt_base.specs.declared.ids.TrackId.{TrackId}
use Rattle.shunt_base.specs.declared.keys.Stay.{Stay}
use Rattle.shunt_base.specs.defs.Keys.{key_cmp}
use Rattle.shunt_instance.specs.declared.records.Track.{Track}
use Rattle.shunt_instance.specs.defs.Instance.{Night}
use Rattle.shunt_blocks.specs.declared.records.Block.{Block}
use Rattle.shunt_audit.specs.declared.types.Finding.{Finding}
use Rattle.shunt_picture.specs.declared.track_stays.Standing.{Standing}
use Rattle.shunt_picture.specs.declared.rows.StaySeat.{StaySeat}
use Rattle.shunt_picture.specs.declared.records.Bar.{Bar}
use Rattle.shunt_picture.specs.declared.records.LoadLevel.{LoadLevel}
use Rattle.shunt_picture.specs.defs.Told.{told_of}
use Rattle.shunt_picture.specs.defs.Levels.{levels_of}
use Rattle.shunt_picture.specs.defs.Rows.{standings_on, AreRowsApart, HaveRoom, ShowsOrder, IsRowAmong}
use Rattle.shunt_picture.specs.defs.Lanes.{bar_of, standing_of, AreBarsApart, AreMarksApart, ShowOrder, first_of, last_of, rows_of, IsLaneOf}
use Rattle.shunt_picture.proofs.Seated.{pairs_mapped, sorted_mapped, sorted_back}
use Rattle.shunt_picture.proofs.Marked.{marks_of}

-- the uppermost and the lowest row with one more seat
pub first_noted : (seats : List StaySeat) (i : ℕ) (d : StaySeat) (first more : ℕ) → i < length seats → first ≡ first_of (map (λ s. s.row) (take i seats))
    → more ≡ min first (get_or seats i d).row → more ≡ first_of (map (λ s. s.row) (take (i + 1) seats))
first_noted seats i d first more lt done is =
    is ∙ ap (λ n. min n (get_or seats i d).row) done
    ∙ sym (ap first_of (map_more (λ (s : StaySeat). s.row) seats i d lt) ∙ fold_push min 900 (map (λ (s : StaySeat). s.row) (take i seats)) (get_or seats i d).row)

pub last_noted : (seats : List StaySeat) (i : ℕ) (d : StaySeat) (last more : ℕ) → i < length seats → last ≡ last_of (map (λ s. s.row) (take i seats))
    → more ≡ max last (get_or seats i d).row → more ≡ last_of (map (λ s. s.row) (take (i + 1) seats))
last_noted seats i d last more lt done is =
    is ∙ ap (λ n. max n (get_or seats i d).row) done
    ∙ sym (ap last_of (map_more (λ (s : StaySeat). s.row) seats i d lt) ∙ fold_push max 0 (map (λ (s : StaySeat). s.row) (take i seats)) (get_or seats i d).row)

pub least_noted : (seats : List StaySeat) (i : ℕ) (d : StaySeat) (first more : ℕ) → i < length seats → All (λ s. first ≤ s.row) (take i seats)
    → more ≡ min first (get_or seats i d).row
    → All (λ s. more ≤ s.row) (take (i + 1) seats)
least_noted seats i d first more lt all is =
    All-more (λ (s : StaySeat). more ≤ s.row) seats i d lt (All-weaker (λ (s : StaySeat). first ≤ s.row) (λ (s : StaySeat). more ≤ s.row) (λ s le. omega (arith, le, is))
    (take i seats) all)
    (omega (arith, is))

pub greatest_noted : (seats : List StaySeat) (i : ℕ) (d : StaySeat) (last more : ℕ) → i < length seats → All (λ s. s.row ≤ last) (take i seats)
    → more ≡ max last (get_or seats i d).row
    → All (λ s. s.row ≤ more) (take (i + 1) seats)
greatest_noted seats i d last more lt all is =
    All-more (λ (s : StaySeat). s.row ≤ more) seats i d lt (All-weaker (λ (s : StaySeat). s.row ≤ last) (λ (s : StaySeat). s.row ≤ more) (λ s le. omega (arith, le, is))
    (take i seats) all)
    (omega (arith, is))

pub last_small : (seats : List StaySeat) (i : ℕ) (d : StaySeat) (last more : ℕ) → i < length seats → All (λ s. IsRowAmong (length seats) s.row) seats → last < 400 + length seats
    → more ≡ max last (get_or seats i d).row → more < 400 + length seats
last_small seats i d last more lt among small is = let to = (among i d lt).to in omega (arith, small, is, to)

module _ (night : Night) (findings : List Finding) where
  -- the stays behind the bars
  standings_back : (seats : List StaySeat) → map standing_of (map (bar_of night findings) seats) ≡ map (λ s. s.standing) seats
  standings_back [] = refl
  standings_back (s ∷ seats) = ap (λ (l : List Standing). s.standing ∷ l) (standings_back seats)

  stays_back : (seats : List StaySeat) → map (λ b. b.stay) (map (bar_of night findings) seats) ≡ map (λ s. s.stay) (map (λ s. s.standing) seats)
  stays_back [] = refl
  stays_back (s ∷ seats) = ap (λ (l : List Stay). s.standing.stay ∷ l) (stays_back seats)

  rows_back : (seats : List StaySeat) → rows_of (map (bar_of night findings) seats) ≡ map (λ s. s.row) seats
  rows_back [] = refl
  rows_back (s ∷ seats) = ap (λ (l : List ℕ). s.row ∷ l) (rows_back seats)

  pub lane_is : (blocks : List Block) (from to first last top : ℕ) (is_ordered : Bool) (track : TrackId) (head : Track) (standings : List Standing) (seats : List StaySeat)
      (stays : List Stay) (bars : List Bar) (levels : List LoadLevel)
      → slice_get night.station.tracks track.0 ≡ Some head
      → IsPermutation (standings_on night track blocks) standings
      → IsSortedByKey (λ s. s.stay.enter) key_cmp standings
      → map (λ s. s.standing) seats ≡ standings
      → AllPairs AreRowsApart seats
      → is_ordered ≡ (length findings == 0)
      → AllPairs (HaveRoom from is_ordered) seats
      → (findings ≡ [] → AllPairs ShowsOrder seats)
      → All (λ s. first ≤ s.row) seats
      → All (λ s. s.row ≤ last) seats
      → All (λ s. IsRowAmong (length seats) s.row) seats
      → first ≡ first_of (map (λ s. s.row) seats)
      → last ≡ last_of (map (λ s. s.row) seats)
      → stays ≡ map (λ s. s.stay) standings
      → bars ≡ map (bar_of night findings) seats
      → levels ≡ levels_of stays from (to - from)
      → IsLaneOf night findings blocks from to (record { track = track; head = head; first = first; last = last; bars = bars; levels = levels; top = top })
  lane_is blocks from to first last top is_ordered track head standings seats stays bars levels is_head permuted sorted same apart empty room order least greatest among is_first
      is_last are made loads =
      let f = bar_of night findings in
      let of_seats : IsSortedByKey (λ (s : StaySeat). s.standing.stay.enter) key_cmp seats = sorted_back (λ (s : Standing). s.stay.enter) key_cmp
      (λ (s : StaySeat). s.standing) seats
      (subst (IsSortedByKey (λ (s : Standing). s.stay.enter) key_cmp) (sym same) sorted) in
      subst (λ (bs : List Bar). IsLaneOf night findings blocks from to (record { track = track; head = head; first = first; last = last; bars = bs; levels = levels; top = top }))
      (sym made) (record {
        head = is_head;
        bars = subst (IsPermutation (standings_on night track blocks)) (sym (standings_back seats ∙ same)) permuted;
        by_entry = sorted_mapped (λ (b : Bar). b.stay.enter) key_cmp f seats of_seats;
        told = All-map (λ (b : Bar). b.told ≡ told_of night findings b.block) f seats (λ k d lt. refl);
        apart = pairs_mapped AreBarsApart f seats apart;
        marks = pairs_mapped (AreMarksApart from) f seats (λ i j d lt within. marks_of night from findings (get_or seats i d) (get_or seats j d) is_ordered empty
            (room i j d lt within));
        order = λ none. pairs_mapped ShowOrder f seats (order none);
        rows = All-map (λ (b : Bar). (first ≤ b.row) × (b.row ≤ last)) f seats (λ k d lt. (least k d lt, greatest k d lt));
        among = subst (λ n. All (λ (b : Bar). IsRowAmong n b.row) (map f seats)) (sym (length-map seats f)) (All-map (λ (b : Bar). IsRowAmong (length seats) b.row) f seats among);
        first = is_first ∙ ap first_of (sym (rows_back seats));
        last = is_last ∙ ap last_of (sym (rows_back seats));
        levels = loads ∙ ap (λ (l : List Stay). levels_of l from (to - from)) (are ∙ sym (stays_back seats ∙ ap (map (λ (s : Standing). s.stay)) same));
      })
