-- When a run goes through with one stay more.
use Rattle.std.proofs.Common.{◌≡◌, ◌≢◌, ⊎_elim, ◌↔◌, ℕ, ◌<◌, Bool, true, false, List, ◌∷◌, length, sym, subst, ◌∙◌}
use Rattle.std.specs.Prelude.{All, IsTrue, Option, Some, None, if◌then◌else◌}
use Rattle.std.specs.List.{cons_option}
use Rattle.std.proofs.lemmas.List.{length-map}
use Rattle.std.proofs.lemmas.Option.{none-some}
use Rattle.shunt_lists.proofs.Members.{all_from, each_one as of_all, to_all}
use Rattle.shunt_lists.specs.defs.Members.{In}
use Rattle.shunt_base.specs.declared.keys.Stay.{Stay}
use Rattle.shunt_base.specs.defs.Keys.{IsWellFormed, AreStays}
use Rattle.shunt_stays.specs.defs.Run.{GoesThrough, AreOnTracks}
use Rattle.shunt_stays.specs.defs.Crossings.{pairs_in, overs_in}
use Rattle.shunt_instance.specs.defs.Instance.{Night}
use Rattle.shunt_blocks.specs.declared.records.Block.{Block}
use Rattle.shunt_blocks.specs.declared.records.Park.{Park}
use Rattle.shunt_blocks.specs.defs.Shapes.{shape_of, IsOnTrack}
use Rattle.shunt_blocks.specs.defs.Stays.{is_too_soon, parked_stay, stay_with, stay_of}
use Rattle.shunt_blocks.specs.defs.Lists.{track_lengths}
use Rattle.shunt_cross.specs.declared.clash.Clash.{Clash}
use Rattle.shunt_cross.specs.defs.Clashes.{clash_of}

-- what the law of clashes says
abbrev pub Counts : Type 0
Counts = (lengths : List ℕ) (stays : List Stay) → AreStays stays → AreOnTracks lengths stays → GoesThrough lengths stays ↔ (pairs_in stays ≡ 0) × (overs_in lengths stays ≡ 0)

track_where : (soon : Bool) (t s : Stay) (n : ℕ) → (if soon then None else Some t) ≡ Some s → t.track.0 < n → s.track.0 < n
track_where true t s n e lt = absurd (none-some _ e)
track_where false t s n e lt = let same : t ≡ s = cc in subst (λ (u : Stay). u.track.0 < n) same lt

track_with : (night : Night) (b : Block) (option : Option Park) (s : Stay) → stay_with night b option ≡ Some s → IsOnTrack night.station option
    → s.track.0 < length night.station.tracks
track_with night b None s e on = absurd (none-some _ e)
track_with night b (Some k) s e on = track_where (is_too_soon night (shape_of b)) (parked_stay night b k) s (length night.station.tracks) e on

-- the stay of a block is on one of the tracks
pub on_a_track : (night : Night) (b : Block) (s : Stay) (lengths : List ℕ) → lengths ≡ track_lengths night.station → IsOnTrack night.station b.park → stay_of night b ≡ Some s
    → s.track.0 < length lengths
on_a_track night b s lengths e on is = subst (λ (l : List ℕ). s.track.0 < length l) (sym e)
    (subst (λ n. s.track.0 < n) (sym (length-map night.station.tracks (λ t. t.length))) (track_with night b b.park s is on))

module _ (law : Counts) (lengths : List ℕ) (stays : List Stay) (s : Stay) (formed : IsWellFormed s) (track : s.track.0 < length lengths) (new : (x : Stay) → In x stays
    → x.id ≢ s.id) (are : AreStays stays) (on : AreOnTracks lengths stays) where
  are_more : AreStays (s ∷ stays)
  are_more = (formed, all_from (λ x. s.id ≢ x.id) stays (λ x i e. new x i (sym e)), are)

  on_more : AreOnTracks lengths (s ∷ stays)
  on_more = to_all (λ x. x.track.0 < length lengths) (s ∷ stays) (λ x i. ⊎_elim (λ e. subst (λ (y : Stay). y.track.0 < length lengths) (sym e) track)
      (λ j. of_all (λ y. y.track.0 < length lengths) stays x on j) i)

  pub joined : (o : Option Stay) (t : Bool) → o ≡ Some s → (IsTrue t ↔ (pairs_in (s ∷ stays) ≡ 0) × (overs_in lengths (s ∷ stays) ≡ 0))
      → IsTrue t ↔ GoesThrough lengths (cons_option o stays)
  joined o t e q =
      let g = law lengths (s ∷ stays) are_more on_more in
      subst (λ (x : Option Stay). IsTrue t ↔ GoesThrough lengths (cons_option x stays)) (sym e) (λ is. g.1 (q.0 is), λ r. q.1 (g.0 r))

-- no stay has the id of a new one
pub is_new : (stays : List Stay) (id : ℕ) (s : Stay) → All (λ x. x.id ≢ id) stays → s.id ≡ id → (x : Stay) → In x stays → x.id ≢ s.id
is_new stays id s new e x i same = of_all (λ y. y.id ≢ id) stays x new i (same ∙ e)

pub counted : (t : Bool) (clash : Clash) (lengths : List ℕ) (stays : List Stay) → clash ≡ clash_of lengths stays → (IsTrue t ↔ (clash.pairs ≡ 0) × (clash.over ≡ 0))
    → IsTrue t ↔ (pairs_in stays ≡ 0) × (overs_in lengths stays ≡ 0)
counted t clash lengths stays e p = subst (λ (c : Clash). IsTrue t ↔ (c.pairs ≡ 0) × (c.over ≡ 0)) e p
