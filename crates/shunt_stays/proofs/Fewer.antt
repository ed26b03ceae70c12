-- Of stays that run through, those that pass a test run through.
use Rattle.std.proofs.Common.{◌≡◌, ◌≢◌, inl, inr, ⊎_elim, ◌↔◌, ℕ, suc, ◌<◌, eqb, Bool, true, false, List, [], ◌∷◌, ◌++◌, length, get_or, map, refl, sym, subst, ap, ◌∙◌, arith}
use Rattle.std.specs.List.{filter, list_any}
use Rattle.std.specs.Result.{IsOk}
use Rattle.std.proofs.lemmas.Bool.{false≢true, cases_Bool, eqb-true, eq-eqb, or_cases, or_left, or_right}
use Rattle.std.proofs.lemmas.List.Elements.{filter-append}
use Rattle.std.proofs.Math.ListN.{get_or-map}
use Rattle.shunt_lists.proofs.Sums.{filter_least}
use Rattle.shunt_lists.proofs.Members.{all_in, all_from, in_to, filter_yes, filter_no, filter_from, filter_to}
use Rattle.shunt_lists.specs.defs.Members.{In}
use Rattle.shunt_base.specs.declared.ids.Side.{Side}
use Rattle.shunt_base.specs.declared.ids.Side.TheVariants.{A, B}
use Rattle.shunt_base.specs.declared.keys.Stay.{Stay}
use Rattle.shunt_base.specs.defs.Keys.{AreStays}
use Rattle.shunt_stays.specs.defs.Events.{in_order, Move}
use Rattle.shunt_stays.specs.defs.Run.{put, run, GoesThrough, AreOnTracks, empty_tracks, Standing}
use Rattle.shunt_stays.proofs.AscendingLists.{ascends_filter, unique}
use Rattle.shunt_stays.proofs.Halves.{Half, at, move_of, halves_of, ordered, same_id, of_stay, half_in, in_order_is}
use Rattle.shunt_stays.proofs.Track.{length_of, total, GoesOn}
use Rattle.shunt_stays.proofs.Blocks.{Known, tracks_of, blocks_all, all_blocks}
use Rattle.shunt_stays.proofs.Tracks.{on_track, keeps, Sees, split, join}

put_yes : (p : Stay → Bool) (side : Side) (s : Stay) (st : List Stay) → p s ≡ true → filter p (put side s st) ≡ put side s (filter p st)
put_yes p A s st t = filter_yes p s st t
put_yes p B s st t = filter-append p st (s ∷ []) ∙ ap (λ (l : List Stay). filter p st ++ l) (filter_yes p s [] t)

append_none : (xs : List Stay) → xs ++ [] ≡ xs
append_none [] = refl
append_none (x ∷ xs) = ap (λ (l : List Stay). x ∷ l) (append_none xs)

put_no : (p : Stay → Bool) (side : Side) (s : Stay) (st : List Stay) → p s ≡ false → filter p (put side s st) ≡ filter p st
put_no p A s st t = filter_no p s st t
put_no p B s st t = filter-append p st (s ∷ []) ∙ ap (λ (l : List Stay). filter p st ++ l) (filter_no p s [] t) ∙ append_none (filter p st)

-- the run of one track, where those that don't pass are left out of it
pub fewer : (room : ℕ) (p : Stay → Bool) (halves : List Half) (st : List Stay) → GoesOn room halves st → GoesOn room (filter (keeps p) halves) (filter p st)
fewer room p [] st go = tt
fewer room p ((s, true) ∷ halves) st go =
    let rest = fewer room p halves (put s.side_in s st) go.1 in
    ⊎_elim (λ t. let e = put_yes p s.side_in s st t in subst (λ (l : List Half). GoesOn room l (filter p st)) (sym (filter_yes (keeps p) (s, true) halves t)) (
      (let le = go.0 in omega (arith, ap total e, filter_least length_of p (put s.side_in s st))),
      subst (λ (l : List Stay). GoesOn room (filter (keeps p) halves) l) e rest,
    ))
    (λ t. subst (λ (l : List Half). GoesOn room l (filter p st)) (sym (filter_no (keeps p) (s, true) halves t))
    (subst (λ (l : List Stay). GoesOn room (filter (keeps p) halves) l) (put_no p s.side_in s st t) rest)) (cases_Bool (p s))
fewer room p ((s, false) ∷ halves) st go =
    let rest = fewer room p halves go.0 go.2 in
    ⊎_elim (λ t. subst (λ (l : List Half). GoesOn room l (filter p st)) (sym (filter_yes (keeps p) (s, false) halves t))
    (filter p go.0, ap (filter p) go.1 ∙ put_yes p s.side_out s go.0 t, rest))
    (λ t. subst (λ (l : List Half). GoesOn room l (filter p st)) (sym (filter_no (keeps p) (s, false) halves t))
    (subst (λ (l : List Stay). GoesOn room (filter (keeps p) halves) l) (sym (ap (filter p) go.1 ∙ put_no p s.side_out s go.0 t)) rest)) (cases_Bool (p s))

pub stays_filter : (p : Stay → Bool) (stays : List Stay) → AreStays stays → AreStays (filter p stays)
stays_filter p [] a = tt
stays_filter p (s ∷ stays) a =
    ⊎_elim (λ t. subst AreStays (sym (filter_yes p s stays t)) (
      a.0,
      all_from (λ u. s.id ≢ u.id) (filter p stays)
          (λ u h. all_in (λ v. s.id ≢ v.id) stays u a.1 (filter_from p stays u h).0),
      stays_filter p stays a.2,
    ))
    (λ t. subst AreStays (sym (filter_no p s stays t)) (stays_filter p stays a.2)) (cases_Bool (p s))

-- the halves of those that pass are the halves that pass
pub halves_filter : (p : Stay → Bool) (stays part : List Stay) → AreStays stays → AreStays part → ((s : Stay) → In s part ↔ In s stays × (p s ≡ true))
    → filter (keeps p) (halves_of stays) ≡ halves_of part
halves_filter p stays part a b same =
    unique at (filter (keeps p) (halves_of stays)) (halves_of part) (ascends_filter at (keeps p) (halves_of stays) (ordered stays a).ascends) (ordered part b).ascends (λ m. (
      λ h. let f = filter_from (keeps p) (halves_of stays) m h in half_in part m ((same m.0).1 (of_stay stays m f.0, f.1)),
      λ h. let f = (same m.0).0 (of_stay part m h) in filter_to (keeps p) (halves_of stays) m (half_in stays m f.0) f.1,
    ))

pub halves_same : (stays others : List Stay) → AreStays stays → AreStays others → ((s : Stay) → In s stays ↔ In s others) → halves_of stays ≡ halves_of others
halves_same stays others a b same =
    unique at (halves_of stays) (halves_of others) (ordered stays a).ascends (ordered others b).ascends (λ m. (
      λ h. half_in others m ((same m.0).0 (of_stay stays m h)),
      λ h. half_in stays m ((same m.0).1 (of_stay others m h)),
    ))

-- the events in key order are a function of the set of stays
pub order_same : (stays others : List Stay) → AreStays stays → AreStays others → ((s : Stay) → In s stays ↔ In s others) → in_order stays ≡ in_order others
order_same stays others a b same = in_order_is stays a ∙ ap (map move_of) (halves_same stays others a b same) ∙ sym (in_order_is others b)

pub on_tracks : (lengths : List ℕ) (stays : List Stay) (s : Stay) → AreOnTracks lengths stays → In s stays → s.track.0 < length lengths
on_tracks lengths stays s on h = let c = in_to stays s h in subst (λ (z : Stay). z.track.0 < length lengths) c.2 (on c.0 s c.1)

abbrev nothing : List ℕ → List (List Stay)
nothing lengths = map (λ n. []) lengths

nothing_is : (lengths : List ℕ) → tracks_of (nothing lengths) ≡ empty_tracks lengths
nothing_is [] = refl
nothing_is (n ∷ lengths) = ap (λ (l : List (List Standing)). [] ∷ l) (nothing_is lengths)

nothing_at : (lengths : List ℕ) (t : ℕ) → get_or (nothing lengths) t [] ≡ []
nothing_at lengths t = get_or-map (λ (n : ℕ). []) lengths t 0

sized_by : (lengths : List ℕ) → length (nothing lengths) ≡ length lengths
sized_by [] = refl
sized_by (n ∷ lengths) = ap suc (sized_by lengths)

module _ (lengths : List ℕ) (stays : List Stay) (a : AreStays stays) (on : AreOnTracks lengths stays) where
  none_known : Known stays (nothing lengths)
  none_known t s h = absurd (subst (λ (l : List Stay). In s l) (nothing_at lengths t) h)

  sized : length (nothing lengths) ≡ length lengths
  sized = sized_by lengths

  track_halves : (t : ℕ) → filter (keeps (on_track t)) (halves_of stays) ≡ halves_of (filter (on_track t) stays)
  track_halves t = halves_filter (on_track t) stays (filter (on_track t) stays) a (stays_filter (on_track t) stays a)
      (λ s. (λ h. filter_from (on_track t) stays s h, λ h. filter_to (on_track t) stays s h.0 h.1))

  -- the run of a track alone
  abbrev pub Alone : ℕ → Type 0
  Alone t = GoesOn (get_or lengths t 0) (halves_of (filter (on_track t) stays)) []

  alone : (t : ℕ) → Sees lengths (halves_of stays) (nothing lengths) t ↔ Alone t
  alone t = (
    λ g. subst (λ (l : List Stay). GoesOn (get_or lengths t 0) (halves_of (filter (on_track t) stays)) l) (nothing_at lengths t)
        (subst (λ (l : List Half). GoesOn (get_or lengths t 0) l (get_or (nothing lengths) t [])) (track_halves t) g),
    λ g. subst (λ (l : List Half). GoesOn (get_or lengths t 0) l (get_or (nothing lengths) t [])) (sym (track_halves t))
        (subst (λ (l : List Stay). GoesOn (get_or lengths t 0) (halves_of (filter (on_track t) stays)) l) (sym (nothing_at lengths t)) g),
  )

  same_run : run lengths (in_order stays) (empty_tracks lengths) ≡ run lengths (map move_of (halves_of stays)) (tracks_of (nothing lengths))
  same_run = ap (λ (l : List Move). run lengths l (empty_tracks lengths)) (in_order_is stays a) ∙ ap (run lengths (map move_of (halves_of stays))) (sym (nothing_is lengths))

  in_range : (m : Half) → In m (halves_of stays) → m.0.track.0 < length lengths
  in_range m h = on_tracks lengths stays m.0 on (of_stay stays m h)

  -- the run over all tracks goes through exactly when that of each track does
  pub by_track : GoesThrough lengths stays ↔ ((t : ℕ) → Alone t)
  by_track = (
    λ go t. (alone t).0 (split lengths (halves_of stays) (nothing lengths) (λ m h. let lt = in_range m h in omega (arith, sized))
        (blocks_all lengths stays a (halves_of stays) (nothing lengths) sized (λ m h. (of_stay stays m h, in_range m h)) none_known (subst IsOk same_run go)) t),
    λ each. subst IsOk (sym same_run) (all_blocks lengths stays a (halves_of stays) (nothing lengths) (λ m h. of_stay stays m h)
        (join lengths (halves_of stays) (nothing lengths) (λ m h. let lt = in_range m h in omega (arith, sized)) (λ t. (alone t).1 (each t)))),
  )

-- those whose id some stay of a list has
abbrev pub has_id : List Stay → Stay → Bool
has_id part s = list_any (λ u. eqb u.id s.id) part

has_own : (part : List Stay) (s : Stay) → In s part → has_id part s ≡ true
has_own [] s h = absurd h
has_own (u ∷ part) s (inl e) = or_left (eqb u.id s.id) (has_id part s) (eq-eqb u.id s.id (ap (λ (z : Stay). z.id) (sym e)))
has_own (u ∷ part) s (inr h) = or_right (eqb u.id s.id) (has_id part s) (has_own part s h)

whose : (part : List Stay) (s : Stay) → has_id part s ≡ true → (u : Stay) × In u part × (u.id ≡ s.id)
whose [] s t = absurd (false≢true t)
whose (u ∷ part) s t = ⊎_elim (λ e. (u, inl refl, eqb-true u.id s.id e)) (λ e. let r = whose part s e in (r.0, inr r.1, r.2)) (or_cases (eqb u.id s.id) (has_id part s) t)

-- of one track
pub part_goes : (room : ℕ) (stays part : List Stay) → AreStays stays → AreStays part → ((s : Stay) → In s part → In s stays) → GoesOn room (halves_of stays) []
    → GoesOn room (halves_of part) []
part_goes room stays part a b within go =
    subst (λ (l : List Half). GoesOn room l []) (halves_filter (has_id part) stays part a b (λ s. (
      λ h. (within s h, has_own part s h),
      λ h. let w = whose part s h.1 in subst (λ (z : Stay). In z part) (same_id stays w.0 s a (within w.0 w.1) h.0 w.2) w.1,
    ))) (fewer room (has_id part) (halves_of stays) [] go)

pub filter_within : (p : Stay → Bool) (part stays : List Stay) → ((s : Stay) → In s part → In s stays) → (s : Stay) → In s (filter p part) → In s (filter p stays)
filter_within p part stays within s h = let f = filter_from p part s h in filter_to p stays s (within s f.0) f.1

-- of all tracks
pub part_through : (lengths : List ℕ) (stays part : List Stay) → AreStays stays → AreOnTracks lengths stays → AreStays part → AreOnTracks lengths part
    → ((s : Stay) → In s part → In s stays) → GoesThrough lengths stays → GoesThrough lengths part
part_through lengths stays part a on b under within go =
    (by_track lengths part b under).1 (λ t. part_goes (get_or lengths t 0) (filter (on_track t) stays) (filter (on_track t) part) (stays_filter (on_track t) stays a)
    (stays_filter (on_track t) part b) (filter_within (on_track t) part stays within) ((by_track lengths stays a on).0 go t))
