-- The ways of a made station: each leads to an open side of one of its tracks, and no two are alike.
use Rattle.std.proofs.Common.{◌≡◌, ℕ, suc, ◌+◌, ◌*◌, ◌<◌, ◌≤◌, Bool, true, false, cond, List, [], ◌∷◌, ◌++◌, length, map, refl, ap, ◌∙◌, subst, arith}
use Rattle.std.specs.Prelude.{All, Option, Some, option_map, unwrap_or, slice_get}
use Rattle.std.proofs.lemmas.List.Elements.{All-nil, All-cons, All-append, All-map, All-weaker}
use Rattle.std.proofs.lemmas.List.Kept.{AllPairs-cons}
use Rattle.shunt_lists.specs.defs.Members.{AreDistinct}
use Rattle.shunt_lists.proofs.Lists.{no_pairs}
use Rattle.shunt_base.specs.declared.ids.Side.{Side}
use Rattle.shunt_base.specs.declared.ids.Side.TheVariants.{A, B}
use Rattle.shunt_base.specs.declared.ids.PlatformId.{PlatformId}
use Rattle.shunt_base.specs.declared.ids.TrackId.{TrackId}
use Rattle.shunt_instance.specs.declared.records.Track.{Track}
use Rattle.shunt_instance.specs.defs.Words.{is_open, open_in}
use Rattle.shunt_make.specs.declared.stations.OpenWay.{OpenWay}
use Rattle.shunt_make.specs.defs.Made.{open_ways, ways_from, ways_of}

-- ---- each leads to an open side

-- a way from one of two platforms to an open side of one of these tracks
pub record IsWayOf (tracks : List Track) (w : OpenWay) : Type 0 where
  pub platform : w.platform.0 < 2
  pub track : w.track.0 < length tracks
  pub open_at : open_in tracks w.track.0 w.side ≡ true

-- these stand in the list from k on
abbrev StandFrom : List Track → ℕ → List Track → Type 0
StandFrom all k tracks = (i : ℕ) → slice_get all (k + i) ≡ slice_get tracks i

one_way : (P : OpenWay → Type 0) (b : Bool) (w : OpenWay) → (b ≡ true → P w) → All P (cond b (w ∷ []) [])
one_way P true w h = All-cons P w [] (h refl) (All-nil P)
one_way P false w h = All-nil P

module _ (all : List Track) (p : PlatformId) (first : p.0 < 2) where
  opens : (k : ℕ) (t : Track) (side : Side) → k < length all → slice_get all k ≡ Some t → is_open t side ≡ true
      → IsWayOf all (record { platform = p; track = record { 0 = k }; side = side })
  opens k t side lt there open_at = record {
    platform = first;
    track = lt;
    open_at = ap (λ (o : Option Track). unwrap_or (option_map (λ t. is_open t side) o) false) there ∙ open_at;
  }

  at_track : (k : ℕ) (t : Track) → k < length all → slice_get all k ≡ Some t → All (IsWayOf all) (open_ways p (record { 0 = k }) t)
  at_track k t lt there =
      All-append (IsWayOf all) _ _
      (one_way (IsWayOf all) t.side_a (record { platform = p; track = record { 0 = k }; side = A }) (opens k t A lt there))
      (one_way (IsWayOf all) t.side_b (record { platform = p; track = record { 0 = k }; side = B }) (opens k t B lt there))

  from_track : (k : ℕ) (tracks : List Track) → k + length tracks ≡ length all → StandFrom all k tracks → All (IsWayOf all) (ways_from p k tracks)
  from_track k [] long stand = All-nil (IsWayOf all)
  from_track k (t ∷ tracks) long stand =
      let here : k ≡ k + 0 = omega arith in
      All-append (IsWayOf all) (open_ways p (record { 0 = k }) t) (ways_from p (k + 1) tracks)
      (at_track k t (omega arith) (ap (slice_get all) here ∙ stand 0))
      (from_track (k + 1) tracks (omega arith) (λ i. let next : k + 1 + i ≡ k + suc i = omega arith in ap (slice_get all) next ∙ stand (suc i)))

  from_platform : All (IsWayOf all) (ways_from p 0 all)
  from_platform = from_track 0 all (omega arith) (λ i. let same : 0 + i ≡ i = omega arith in ap (slice_get all) same)

pub ways_open : (tracks : List Track) → All (IsWayOf tracks) (ways_of tracks)
ways_open tracks = All-append (IsWayOf tracks) (ways_from (record { 0 = 0 }) 0 tracks) (ways_from (record { 0 = 1 }) 0 tracks)
    (from_platform tracks (record { 0 = 0 }) (omega arith)) (from_platform tracks (record { 0 = 1 }) (omega arith))

-- ---- no two are alike

-- what a way joins
abbrev pub joined : OpenWay → PlatformId × (TrackId × Side)
joined w = (w.platform, (w.track, w.side))

abbrev mark : Side → ℕ
mark A = 0
mark B = 1

abbrev rank_of : PlatformId × (TrackId × Side) → ℕ
rank_of j = 1000 * j.0.0 + (2 * j.1.0.0 + mark j.1.1)

abbrev rank : OpenWay → ℕ
rank w = rank_of (joined w)

-- the ranks rise, from m on and below n
abbrev Rise : ℕ → List OpenWay → ℕ → Type 0
Rise m [] n = m ≤ n
Rise m (w ∷ ways) n = (m ≤ rank w) × Rise (rank w + 1) ways n

rise_lower : (l m n : ℕ) (ways : List OpenWay) → l ≤ m → Rise m ways n → Rise l ways n
rise_lower l m n [] le h = omega arith
rise_lower l m n (w ∷ ways) le h = (omega (arith, h.0), h.1)

rise_more : (m n o : ℕ) (ways : List OpenWay) → n ≤ o → Rise m ways n → Rise m ways o
rise_more m n o [] le h = omega arith
rise_more m n o (w ∷ ways) le h = (h.0, rise_more (rank w + 1) n o ways le h.1)

rise_append : (m n o : ℕ) (xs ys : List OpenWay) → Rise m xs n → Rise n ys o → Rise m (xs ++ ys) o
rise_append m n o [] ys h g = rise_lower m n o ys h g
rise_append m n o (w ∷ xs) ys h g = (h.0, rise_append (rank w + 1) n o xs ys h.1 g)

rise_one : (m n : ℕ) (b : Bool) (w : OpenWay) → m ≤ rank w → rank w < n → Rise m (cond b (w ∷ []) []) n
rise_one m n true w le lt = (le, omega arith)
rise_one m n false w le lt = omega arith

rise_from : (p : PlatformId) (k : ℕ) (tracks : List Track) → Rise (1000 * p.0 + 2 * k) (ways_from p k tracks) (1000 * p.0 + 2 * (k + length tracks))
rise_from p k [] = omega arith
rise_from p k (t ∷ tracks) =
    let last : 1000 * p.0 + 2 * (k + 1 + length tracks) ≡ 1000 * p.0 + 2 * (k + suc (length tracks)) = omega arith in
    rise_append _ _ _ (open_ways p (record { 0 = k }) t) (ways_from p (k + 1) tracks)
    (rise_append _ (1000 * p.0 + 2 * k + 1) _ _ _
    (rise_one (1000 * p.0 + 2 * k) (1000 * p.0 + 2 * k + 1) t.side_a (record { platform = p; track = record { 0 = k }; side = A }) (omega arith) (omega arith))
    (rise_one (1000 * p.0 + 2 * k + 1) (1000 * p.0 + 2 * (k + 1)) t.side_b (record { platform = p; track = record { 0 = k }; side = B }) (omega arith) (omega arith)))
    (subst (λ (n : ℕ). Rise (1000 * p.0 + 2 * (k + 1)) (ways_from p (k + 1) tracks) n) last (rise_from p (k + 1) tracks))

rise_all : (m n : ℕ) (ways : List OpenWay) → Rise m ways n → All (λ w. m ≤ rank w) ways
rise_all m n [] h = All-nil (λ w. m ≤ rank w)
rise_all m n (w ∷ ways) h = All-cons (λ v. m ≤ rank v) w ways h.0 (All-weaker (λ v. rank w + 1 ≤ rank v) (λ v. m ≤ rank v) (λ v le. omega (arith, h.0, le)) ways
    (rise_all (rank w + 1) n ways h.1))

rise_distinct : (m n : ℕ) (ways : List OpenWay) → Rise m ways n → AreDistinct (map joined ways)
rise_distinct m n [] h = no_pairs (λ x y. x ≡ y → ⊥)
rise_distinct m n (w ∷ ways) h =
    AllPairs-cons (λ x y. x ≡ y → ⊥) (joined w) (map joined ways)
    (All-map (λ y. joined w ≡ y → ⊥) joined ways (All-weaker (λ v. rank w + 1 ≤ rank v) (λ v. joined w ≡ joined v → ⊥) (λ v le e. omega (arith, le, ap rank_of e)) ways
    (rise_all (rank w + 1) n ways h.1)))
    (rise_distinct (rank w + 1) n ways h.1)

pub ways_distinct : (tracks : List Track) → length tracks ≤ 60 → AreDistinct (map joined (ways_of tracks))
ways_distinct tracks few =
    rise_distinct 0 (1000 * 1 + 2 * (0 + length tracks)) (ways_of tracks)
    (rise_append 0 (1000 * 1 + 2 * 0) _ (ways_from (record { 0 = 0 }) 0 tracks) (ways_from (record { 0 = 1 }) 0 tracks)
    (rise_more 0 (1000 * 0 + 2 * (0 + length tracks)) (1000 * 1 + 2 * 0) (ways_from (record { 0 = 0 }) 0 tracks) (omega arith) (rise_from (record { 0 = 0 }) 0 tracks))
    (rise_from (record { 0 = 1 }) 0 tracks))
