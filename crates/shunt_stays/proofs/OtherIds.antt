-- The run doesn't depend on ids, where keys differ before them.
use Rattle.std.proofs.Common.{◌≡◌, ◌≢◌, inl, inr, ⊎_elim, ◌↔◌, ℕ, ◌+◌, ◌*◌, ◌^◌, ◌<◌, ◌≤◌, ltb, eqb, Bool, true, false, cond, List, [], ◌∷◌, ◌++◌, get_or, refl, sym, subst, ap, ◌∙◌, arith}
use Rattle.std.specs.List.{filter, AllByRecursion, AllZip}
use Rattle.std.proofs.lemmas.Bool.{true≢false, false≢true, cases_Bool, cases_order, lt-ltb, le-ltb}
use Rattle.std.proofs.lemmas.List.Sums.{sum_by-cons}
use Rattle.shunt_lists.proofs.Members.{all_in, all_from, filter_from, filter_to, filter_yes, filter_no}
use Rattle.shunt_lists.specs.defs.Members.{In}
use Rattle.shunt_base.specs.declared.ids.Side.{Side}
use Rattle.shunt_base.specs.declared.ids.Side.TheVariants.{A, B}
use Rattle.shunt_base.specs.declared.keys.EventKey.{EventKey}
use Rattle.shunt_base.specs.declared.keys.Stay.{Stay}
use Rattle.shunt_base.specs.defs.Keys.{rank, IsKey, IsWellFormed, AreStays}
use Rattle.shunt_base.proofs.Ranks.{rank_tells}
use Rattle.shunt_stays.specs.defs.Events.{with_id, SameButId, DifferBeforeId, AllDifferBeforeId}
use Rattle.shunt_stays.specs.defs.Run.{put, GoesThrough, AreOnTracks}
use Rattle.shunt_stays.proofs.Members.{put_here, put_there, put_cases}
use Rattle.shunt_stays.proofs.Halves.{Half, key_of, at, insert_half, insert_by, in_insert, halves_of, formed, same_id, of_stay}
use Rattle.shunt_stays.proofs.Track.{length_of, total, GoesOn}
use Rattle.shunt_stays.proofs.Tracks.{on_track}
use Rattle.shunt_stays.proofs.Fewer.{by_track, part_goes, stays_filter, on_tracks}
use Rattle.shunt_stays.proofs.SortedEvents.{tracks_from}

-- two stays that only ids tell apart
pub record Alike (s t : Stay) : Type 0 where
  pub track : s.track.0 ≡ t.track.0
  pub side_in : s.side_in ≡ t.side_in
  pub side_out : s.side_out ≡ t.side_out
  pub length : s.length ≡ t.length
  pub enter : with_id 0 s.enter ≡ with_id 0 t.enter
  pub leave : with_id 0 s.leave ≡ with_id 0 t.leave

pub alike_from : (s t : Stay) → SameButId s t → Alike s t
alike_from s t e = record {
  track = sym (ap (λ (z : Stay). z.track.0) e);
  side_in = sym (ap (λ (z : Stay). z.side_in) e);
  side_out = sym (ap (λ (z : Stay). z.side_out) e);
  length = sym (ap (λ (z : Stay). z.length) e);
  enter = sym (ap (λ (z : Stay). with_id 0 z.enter) e);
  leave = sym (ap (λ (z : Stay). with_id 0 z.leave) e);
}

-- of stays whose keys differ before the id, two that are alike are one
pub alike_one : (stays : List Stay) (s t : Stay) → AllDifferBeforeId stays → In s stays → In t stays → with_id 0 s.enter ≡ with_id 0 t.enter → s ≡ t
alike_one [] s t d h i e = absurd h
alike_one (x ∷ stays) s t d (inl f) (inl g) e = f ∙ sym g
alike_one (x ∷ stays) s t d (inl f) (inr i) e = absurd ((all_in (DifferBeforeId x) stays t d.0 i).enter (ap (λ (z : Stay). with_id 0 z.enter) (sym f) ∙ e))
alike_one (x ∷ stays) s t d (inr h) (inl g) e = absurd ((all_in (DifferBeforeId x) stays s d.0 h).enter (ap (λ (z : Stay). with_id 0 z.enter) (sym g) ∙ sym e))
alike_one (x ∷ stays) s t d (inr h) (inr i) e = alike_one stays s t d.1 h i e

-- keys that differ before the id are in the order of what comes before it
rank_shape : (k : EventKey) → rank k ≡ rank (with_id 0 k) + k.id
unfolding rank
rank_shape k = omega arith

rank_steps : (k : EventKey) → (n : ℕ) × (rank (with_id 0 k) ≡ n * 2 ^ 32)
unfolding rank
rank_steps k = (((k.minute * 2 + cond k.enters 1 0) * 256 + k.train) * 256 + k.place, omega arith)

zero_key : (k : EventKey) → IsKey k → IsKey (with_id 0 k)
zero_key k q = record { minute = q.minute; train = q.train; place = q.place; id = omega arith }

less_by_steps : (m n i j a b : ℕ) → i < 2 ^ 32 → j < 2 ^ 32 → a ≡ m * 2 ^ 32 → b ≡ n * 2 ^ 32 → a < b → a + i < b + j
less_by_steps m n i j a b p q e f lt = omega arith

by_slot : (k l : EventKey) → IsKey k → IsKey l → with_id 0 k ≢ with_id 0 l → ltb (rank k) (rank l) ≡ ltb (rank (with_id 0 k)) (rank (with_id 0 l))
by_slot k l p q ne = ⊎_elim (λ e. absurd (ne (rank_tells (with_id 0 k) (with_id 0 l) (zero_key k p) (zero_key l q) e))) (λ o. ⊎_elim low high o)
    (cases_order (rank (with_id 0 k)) (rank (with_id 0 l)))
  where
    low : rank (with_id 0 k) < rank (with_id 0 l) → ltb (rank k) (rank l) ≡ ltb (rank (with_id 0 k)) (rank (with_id 0 l))
    low lt =
        let m = rank_steps k in
        let n = rank_steps l in
        let r = less_by_steps m.0 n.0 k.id l.id (rank (with_id 0 k)) (rank (with_id 0 l)) p.id q.id m.1 n.1 lt in
        let whole : rank k < rank l = omega (arith, rank_shape k, rank_shape l) in
        lt-ltb (rank k) (rank l) whole ∙ sym (lt-ltb (rank (with_id 0 k)) (rank (with_id 0 l)) lt)

    high : rank (with_id 0 l) < rank (with_id 0 k) → ltb (rank k) (rank l) ≡ ltb (rank (with_id 0 k)) (rank (with_id 0 l))
    high lt =
        let m = rank_steps k in
        let n = rank_steps l in
        let r = less_by_steps n.0 m.0 l.id k.id (rank (with_id 0 l)) (rank (with_id 0 k)) q.id p.id n.1 m.1 lt in
        let whole : rank l ≤ rank k = omega (arith, rank_shape k, rank_shape l) in
        let part : rank (with_id 0 l) ≤ rank (with_id 0 k) = omega arith in
        le-ltb (rank k) (rank l) whole ∙ sym (le-ltb (rank (with_id 0 k)) (rank (with_id 0 l)) part)

abbrev slot : Half → EventKey
slot m = with_id 0 (key_of m)

slot_alike : (s t : Stay) (b : Bool) → Alike s t → slot (s, b) ≡ slot (t, b)
slot_alike s t true a = a.enter
slot_alike s t false a = a.leave

half_key : (m : Half) → IsWellFormed m.0 → IsKey (key_of m) × ((key_of m).enters ≡ m.1) × (at m ≡ rank (key_of m))
half_key (s, true) w = (w.enter_in, w.enters, refl)
half_key (s, false) w = (w.leave_in, w.leaves, refl)

-- the slots of the halves of a stay and of others
slots_differ : (s : Stay) (stays : List Stay) (b : Bool) (n : Half) → IsWellFormed s → IsWellFormed n.0 → AllByRecursion (DifferBeforeId s) stays → In n.0 stays
    → slot (s, b) ≢ slot n
slots_differ s stays true (t, true) w v d h e = (all_in (DifferBeforeId s) stays t d h).enter e
slots_differ s stays false (t, false) w v d h e = (all_in (DifferBeforeId s) stays t d h).leave e
slots_differ s stays true (t, false) w v d h e = true≢false (sym w.enters ∙ ap (λ (k : EventKey). k.enters) e ∙ v.leaves)
slots_differ s stays false (t, true) w v d h e = false≢true (sym w.leaves ∙ ap (λ (k : EventKey). k.enters) e ∙ v.enters)

ends_differ : (s : Stay) → IsWellFormed s → slot (s, true) ≢ slot (s, false)
ends_differ s w e = true≢false (sym w.enters ∙ ap (λ (k : EventKey). k.enters) e ∙ w.leaves)

record Likes (m n : Half) : Type 0 where
  stays : Alike m.0 n.0
  same : m.1 ≡ n.1

slot_likes : (m n : Half) → Likes m n → slot m ≡ slot n
slot_likes (s, b) (t, c) l = slot_alike s t b l.stays ∙ ap (λ (z : Bool). slot (t, z)) l.same

-- halves with other ids compare alike
tests_alike : (m x n y : Half) → IsWellFormed m.0 → IsWellFormed x.0 → IsWellFormed n.0 → IsWellFormed y.0 → Likes m n → Likes x y → slot m ≢ slot x
    → ltb (at m) (at x) ≡ ltb (at n) (at y)
tests_alike m x n y wm wx wn wy l k ne =
    let e = slot_likes m n l in
    let f = slot_likes x y k in
    let km = half_key m wm in
    let kx = half_key x wx in
    let kn = half_key n wn in
    let ky = half_key y wy in
    ap (λ i. ltb i (at x)) km.2 ∙ ap (ltb (rank (key_of m))) kx.2
    ∙ by_slot (key_of m) (key_of x) km.0 kx.0 ne
    ∙ ap (λ (z : EventKey). ltb (rank z) (rank (slot x))) e ∙ ap (λ (z : EventKey). ltb (rank (slot n)) (rank z)) f
    ∙ sym (by_slot (key_of n) (key_of y) kn.0 ky.0 (λ g. ne (e ∙ g ∙ sym f)))
    ∙ ap (λ i. ltb i (rank (key_of y))) (sym kn.2) ∙ ap (ltb (at n)) (sym ky.2)

abbrev Tests : Half → Half → List Half → List Half → Type 0
Tests m n hs ks = (x y : Half) → In x hs → In y ks → Likes x y → ltb (at m) (at x) ≡ ltb (at n) (at y)

zip_insert : (m n : Half) (hs ks : List Half) → Likes m n → AllZip Likes hs ks → Tests m n hs ks → AllZip Likes (insert_half m hs) (insert_half n ks)
zip_insert m n [] [] l z t = (l, tt)
zip_insert m n [] (y ∷ ks) l z t = absurd z
zip_insert m n (x ∷ hs) [] l z t = absurd z
zip_insert m n (x ∷ hs) (y ∷ ks) l z t =
    let e = t x y (inl refl) (inl refl) z.0 in
    let rest = zip_insert m n hs ks l z.1 (λ u v i j. t u v (inr i) (inr j)) in
    ⊎_elim (λ b. subst (λ (a : List Half). AllZip Likes a (insert_half n (y ∷ ks))) (sym (insert_by m x hs true b))
    (subst (λ (a : List Half). AllZip Likes (m ∷ x ∷ hs) a) (sym (insert_by n y ks true (sym e ∙ b))) (l, z)))
    (λ b. subst (λ (a : List Half). AllZip Likes a (insert_half n (y ∷ ks))) (sym (insert_by m x hs false b))
    (subst (λ (a : List Half). AllZip Likes (x ∷ insert_half m hs) a) (sym (insert_by n y ks false (sym e ∙ b))) (z.0, rest))) (cases_Bool (ltb (at m) (at x)))

-- the halves of two lists that are alike are alike
zip_halves : (stays others : List Stay) → AreStays stays → AreStays others → AllDifferBeforeId stays → AllZip Alike stays others → AllZip Likes (halves_of stays) (halves_of others)
zip_halves [] [] a b d z = tt
zip_halves [] (t ∷ others) a b d z = absurd z
zip_halves (s ∷ stays) [] a b d z = absurd z
zip_halves (s ∷ stays) (t ∷ others) a b d z =
    let rest = zip_halves stays others a.2 b.2 d.1 z.1 in
    let l : (e : Bool) → Likes (s, e) (t, e) = λ e. record { stays = z.0; same = refl } in
    let known : (x : Half) → In x (halves_of stays) → IsWellFormed x.0 = λ x i. formed stays x.0 a.2 (of_stay stays x i) in
    let found : (y : Half) → In y (halves_of others) → IsWellFormed y.0 = λ y i. formed others y.0 b.2 (of_stay others y i) in
    let differs : (e : Bool) (x : Half) → In x (halves_of stays) → slot (s, e) ≢ slot x = λ e x i. slots_differ s stays e x a.0 (known x i) d.0 (of_stay stays x i) in
    zip_insert (s, true) (t, true) (insert_half (s, false) (halves_of stays)) (insert_half (t, false) (halves_of others)) (l true)
    (zip_insert (s, false) (t, false) (halves_of stays) (halves_of others) (l false) rest
    (λ x y i j k. tests_alike (s, false) x (t, false) y a.0 (known x i) b.0 (found y j) (l false) k (differs false x i)))
    (λ x y i j k. tests_alike (s, true) x (t, true) y a.0
    (⊎_elim (λ e. subst (λ (u : Half). IsWellFormed u.0) (sym e) a.0) (λ h. known x h) (in_insert (s, false) (halves_of stays) x i)) b.0
    (⊎_elim (λ e. subst (λ (u : Half). IsWellFormed u.0) (sym e) b.0) (λ h. found y h) (in_insert (t, false) (halves_of others) y j)) (l true) k
    (⊎_elim (λ e. subst (λ (u : Half). slot (s, true) ≢ slot u) (sym e) (ends_differ s a.0)) (λ h. differs true x h) (in_insert (s, false) (halves_of stays) x i)))

-- what stands is alike
zip_put : (side : Side) (s t : Stay) (st su : List Stay) → Alike s t → AllZip Alike st su → AllZip Alike (put side s st) (put side t su)
zip_put A s t st su l z = (l, z)
zip_put B s t [] [] l z = (l, tt)
zip_put B s t [] (y ∷ su) l z = absurd z
zip_put B s t (x ∷ st) [] l z = absurd z
zip_put B s t (x ∷ st) (y ∷ su) l z = (z.0, zip_put B s t st su l z.1)

zip_total : (st su : List Stay) → AllZip Alike st su → total st ≡ total su
zip_total [] [] z = refl
zip_total [] (y ∷ su) z = absurd z
zip_total (x ∷ st) [] z = absurd z
zip_total (x ∷ st) (y ∷ su) z = let e = z.0.length in let r = zip_total st su z.1 in omega (arith, sum_by-cons length_of x st, sum_by-cons length_of y su)

abbrev Parted : Side → Stay → List Stay → List Stay → Type 0
Parted side t st rest = (s : Stay) × (left : List Stay) × (st ≡ put side s left) × Alike s t × AllZip Alike left rest

parted_last : (t : Stay) (st rest : List Stay) → AllZip Alike st (rest ++ t ∷ []) → Parted B t st rest
parted_last t [] [] z = absurd z
parted_last t [] (y ∷ rest) z = absurd z
parted_last t (x ∷ []) [] z = (x, [], refl, z.0, tt)
parted_last t (x ∷ w ∷ st) [] z = absurd z.1
parted_last t (x ∷ st) (y ∷ rest) z = let r = parted_last t st rest z.1 in (r.0, x ∷ r.1, ap (λ (l : List Stay). x ∷ l) r.2, r.3, (z.0, r.4))

parted_first : (t : Stay) (st rest : List Stay) → AllZip Alike st (t ∷ rest) → Parted A t st rest
parted_first t [] rest z = absurd z
parted_first t (x ∷ st) rest z = (x, st, refl, z.0, z.1)

parted : (side : Side) (t : Stay) (st rest : List Stay) → AllZip Alike st (put side t rest) → Parted side t st rest
parted A t st rest z = parted_first t st rest z
parted B t st rest z = parted_last t st rest z

-- what goes on for one goes on for the other
goes_alike : (room : ℕ) (stays : List Stay) → AllDifferBeforeId stays → (hs ks : List Half) (st su : List Stay) → AllZip Likes hs ks → AllZip Alike st su
    → ((m : Half) → In m hs → In m.0 stays) → ((s : Stay) → In s st → In s stays) → GoesOn room ks su → GoesOn room hs st
goes_alike room stays d [] ks st su l z ins known go = tt
goes_alike room stays d (m ∷ hs) [] st su l z ins known go = absurd l
goes_alike room stays d ((s, true) ∷ hs) ((t, false) ∷ ks) st su l z ins known go = absurd (true≢false l.0.same)
goes_alike room stays d ((s, false) ∷ hs) ((t, true) ∷ ks) st su l z ins known go = absurd (false≢true l.0.same)
goes_alike room stays d ((s, true) ∷ hs) ((t, true) ∷ ks) st su l z ins known go =
    let a = l.0.stays in
    let w : AllZip Alike (put s.side_in s st) (put t.side_in t su) = subst (λ (v : Side). AllZip Alike (put s.side_in s st) (put v t su)) a.side_in
    (zip_put s.side_in s t st su a z) in (
      let le = go.0 in omega (arith, zip_total (put s.side_in s st) (put t.side_in t su) w),
      goes_alike room stays d hs ks (put s.side_in s st) (put t.side_in t su) l.1 w (λ m i. ins m (inr i))
          (λ x i. ⊎_elim (λ e. subst (λ (u : Stay). In u stays) (sym e) (ins (s, true) (inl refl))) (λ j. known x j) (put_cases s.side_in s x st i)) go.1,
    )
goes_alike room stays d ((s, false) ∷ hs) ((t, false) ∷ ks) st su l z ins known go =
    let a = l.0.stays in
    let r = parted t.side_out t st go.0 (subst (AllZip Alike st) go.1 z) in
    let same : r.0 ≡ s = alike_one stays r.0 s d (known r.0 (subst (λ (u : List Stay). In r.0 u) (sym r.2) (put_here t.side_out r.0 r.1))) (ins (s, false) (inl refl))
    (r.3.enter ∙ sym a.enter) in (
      r.1,
      r.2 ∙ ap (λ (u : Stay). put t.side_out u r.1) same ∙ ap (λ (v : Side). put v s r.1) (sym a.side_out),
      goes_alike room stays d hs ks r.1 go.0 l.1 r.4 (λ m i. ins m (inr i)) (λ x i. known x (subst (λ (u : List Stay). In x u) (sym r.2) (put_there t.side_out r.0 x r.1 i))) go.2,
    )

-- of one track
pub alike_goes : (room : ℕ) (stays others : List Stay) → AreStays stays → AreStays others → AllDifferBeforeId stays → AllZip Alike stays others → GoesOn room (halves_of others) []
    → GoesOn room (halves_of stays) []
alike_goes room stays others a b d z go = goes_alike room stays d (halves_of stays) (halves_of others) [] [] (zip_halves stays others a b d z) tt (λ m i. of_stay stays m i)
    (λ s i. absurd i) go

-- each of these is one of those, but for the id
abbrev pub Finds : List Stay → List Stay → Type 0
Finds part stays = (s : Stay) → In s part → (t : Stay) × In t stays × Alike s t

abbrev images : (part stays : List Stay) → Finds part stays → List Stay
images [] stays h = []
images (s ∷ part) stays h = (h s (inl refl)).0 ∷ images part stays (λ x i. h x (inr i))

zip_images : (part stays : List Stay) (h : Finds part stays) → AllZip Alike part (images part stays h)
zip_images [] stays h = tt
zip_images (s ∷ part) stays h = ((h s (inl refl)).2, zip_images part stays (λ x i. h x (inr i)))

-- whose image it is
of_image : (part stays : List Stay) (h : Finds part stays) (x : Stay) → In x (images part stays h) → In x stays × ((s : Stay) × In s part × Alike s x)
of_image [] stays h x i = absurd i
of_image (s ∷ part) stays h x (inl e) =
    let f = h s (inl refl) in (subst (λ (z : Stay). In z stays) (sym e) f.1, (s, inl refl, subst (Alike s) (sym e) f.2))
of_image (s ∷ part) stays h x (inr i) = let r = of_image part stays (λ y j. h y (inr j)) x i in (r.0, (r.1.0, inr r.1.1, r.1.2))

are_images : (part stays : List Stay) (h : Finds part stays) → AreStays stays → AllDifferBeforeId part → AreStays (images part stays h)
are_images [] stays h a d = tt
are_images (s ∷ part) stays h a d =
    let f = h s (inl refl) in
    let later : Finds part stays = λ y j. h y (inr j) in (
      formed stays f.0 a f.1,
      all_from (λ u. f.0.id ≢ u.id) (images part stays later) (λ u i e.
          let r = of_image part stays later u i in
          let one : f.0 ≡ u = same_id stays f.0 u a f.1 r.0 e in
          (all_in (DifferBeforeId s) part r.1.0 d.0 r.1.1).enter (f.2.enter ∙ ap (λ (z : Stay). with_id 0 z.enter) one ∙ sym r.1.2.enter)),
      are_images part stays later a d.1,
    )

-- of one track
found_goes : (room : ℕ) (stays part : List Stay) → AreStays stays → AreStays part → AllDifferBeforeId part → Finds part stays → GoesOn room (halves_of stays) []
    → GoesOn room (halves_of part) []
found_goes room stays part a b d h go =
    let w = are_images part stays h a d in
    alike_goes room part (images part stays h) b w d (zip_images part stays h) (part_goes room stays (images part stays h) a w (λ s i. (of_image part stays h s i).0) go)

differ_filter : (p : Stay → Bool) (stays : List Stay) → AllDifferBeforeId stays → AllDifferBeforeId (filter p stays)
differ_filter p [] d = tt
differ_filter p (s ∷ stays) d =
    ⊎_elim (λ t. subst AllDifferBeforeId (sym (filter_yes p s stays t)) (
      all_from (DifferBeforeId s) (filter p stays)
          (λ u h. all_in (DifferBeforeId s) stays u d.0 (filter_from p stays u h).0),
      differ_filter p stays d.1,
    ))
    (λ t. subst AllDifferBeforeId (sym (filter_no p s stays t)) (differ_filter p stays d.1)) (cases_Bool (p s))

finds_filter : (t : ℕ) (part stays : List Stay) → Finds part stays → Finds (filter (on_track t) part) (filter (on_track t) stays)
finds_filter t part stays h s i =
    let f = filter_from (on_track t) part s i in
    let g = h s f.0 in
    (g.0, filter_to (on_track t) stays g.0 g.1 (ap (λ n. eqb n t) (sym g.2.track) ∙ f.1), g.2)

pub finds_from : (part stays : List Stay) → ((s : Stay) → In s part → (t : Stay) × In t stays × SameButId s t) → Finds part stays
finds_from part stays h s i = let f = h s i in (f.0, f.1, alike_from s f.0 f.2)

-- of all tracks
pub found_through : (lengths : List ℕ) (stays part : List Stay) → AreStays stays → AreOnTracks lengths stays → AreStays part → AreOnTracks lengths part → AllDifferBeforeId part
    → Finds part stays → GoesThrough lengths stays → GoesThrough lengths part
found_through lengths stays part a on b under d h go =
    (by_track lengths part b under).1 (λ t. found_goes (get_or lengths t 0) (filter (on_track t) stays) (filter (on_track t) part) (stays_filter (on_track t) stays a)
    (stays_filter (on_track t) part b) (differ_filter (on_track t) part d) (finds_filter t part stays h) ((by_track lengths stays a on).0 go t))

-- a pair of a zip
zip_right : (stays others : List Stay) → AllZip SameButId stays others → (t : Stay) → In t others → (s : Stay) × In s stays × SameButId s t
zip_right [] [] z t h = absurd h
zip_right [] (u ∷ others) z t h = absurd z
zip_right (s ∷ stays) [] z t h = absurd z
zip_right (s ∷ stays) (u ∷ others) z t (inl e) = (s, inl refl, subst (SameButId s) (sym e) z.0)
zip_right (s ∷ stays) (u ∷ others) z t (inr h) = let r = zip_right stays others z.1 t h in (r.0, inr r.1, r.2)

zip_left : (stays others : List Stay) → AllZip SameButId stays others → (s : Stay) → In s stays → (t : Stay) × In t others × SameButId s t
zip_left [] [] z s h = absurd h
zip_left [] (u ∷ others) z s h = absurd z
zip_left (x ∷ stays) [] z s h = absurd z
zip_left (x ∷ stays) (u ∷ others) z s (inl e) = (u, inl refl, subst (λ (w : Stay). SameButId w u) (sym e) z.0)
zip_left (x ∷ stays) (u ∷ others) z s (inr h) = let r = zip_left stays others z.1 s h in (r.0, inr r.1, r.2)

turned : (s t : Stay) → Alike s t → Alike t s
turned s t a = record { track = sym a.track; side_in = sym a.side_in; side_out = sym a.side_out; length = sym a.length; enter = sym a.enter; leave = sym a.leave }

pub found_back : (stays others : List Stay) → AllZip SameButId stays others → Finds others stays
found_back stays others z t h = let r = zip_right stays others z t h in (r.0, r.1, turned r.0 t (alike_from r.0 t r.2))

-- what differs before the id goes on to differ with other ids
differ_zip : (stays others : List Stay) → AllZip SameButId stays others → AllDifferBeforeId stays → AllDifferBeforeId others
differ_zip [] [] z d = tt
differ_zip [] (u ∷ others) z d = absurd z
differ_zip (s ∷ stays) [] z d = absurd z
differ_zip (s ∷ stays) (u ∷ others) z d =
    let a = alike_from s u z.0 in (
      all_from (DifferBeforeId u) others (λ t h.
          let r = zip_right stays others z.1 t h in
          let c = alike_from r.0 t r.2 in
          let f = all_in (DifferBeforeId s) stays r.0 d.0 r.1 in
          record { enter = λ e. f.enter (a.enter ∙ e ∙ sym c.enter); leave = λ e. f.leave (a.leave ∙ e ∙ sym c.leave) }),
      differ_zip stays others z.1 d.1,
    )

pub zip_through : (lengths : List ℕ) (stays others : List Stay) → AreStays stays → AreOnTracks lengths stays → AreStays others → AreOnTracks lengths others
    → AllDifferBeforeId stays → AllZip SameButId stays others → GoesThrough lengths stays ↔ GoesThrough lengths others
zip_through lengths stays others a on b under d z = (
  λ go. found_through lengths stays others a on b under (differ_zip stays others z d) (found_back stays others z) go,
  λ go. found_through lengths others stays b under a on d (finds_from stays others (zip_left stays others z)) go,
)

pub tracks_found : (lengths : List ℕ) (stays part : List Stay) → AreOnTracks lengths stays → Finds part stays → AreOnTracks lengths part
tracks_found lengths stays part on h = tracks_from lengths part (λ s i. let f = h s i in let lt = on_tracks lengths stays f.0 on f.1 in let e = f.2.track in omega arith)
