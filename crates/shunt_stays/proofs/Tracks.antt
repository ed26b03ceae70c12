-- The run over all tracks goes through exactly when the run of each track does.
use Rattle.std.proofs.Common.{◌≡◌, inl, inr, ⊎_elim, ◌↔◌, ℕ, ◌<◌, eqb, Bool, true, false, List, [], ◌∷◌, length, get_or, set, refl, sym, subst, arith, zero, suc, take, map, ap, ◌+◌, ◌++◌, ◌∙◌}
use Rattle.std.specs.List.{filter}
use Rattle.std.proofs.lemmas.Bool.{cases_Bool, eqb-true, eqb-false, eq-eqb}
use Rattle.std.proofs.lemmas.List.{length-set, get_or-set_same, get_or-set_other, map-append, take_more}
use Rattle.shunt_lists.proofs.Members.{filter_yes, filter_no}
use Rattle.shunt_lists.specs.defs.Members.{In}
use Rattle.shunt_base.specs.declared.keys.Stay.{Stay}
use Rattle.shunt_stays.specs.defs.Run.{put, empty_tracks, Standing}
use Rattle.shunt_stays.proofs.Halves.{Half}
use Rattle.shunt_stays.proofs.Track.{GoesOn}
use Rattle.shunt_stays.proofs.Blocks.{GoesAll}

abbrev pub on_track : ℕ → Stay → Bool
on_track t s = eqb s.track.0 t

-- the halves of the stays that pass
abbrev pub keeps : (Stay → Bool) → Half → Bool
keeps p m = p m.0

module _ (lengths : List ℕ) where
  -- what a track sees of the run
  abbrev pub Sees : List Half → List (List Stay) → ℕ → Type 0
  Sees halves states t = GoesOn (get_or lengths t 0) (filter (keeps (on_track t)) halves) (get_or states t [])

  sees_yes : (m : Half) (halves : List Half) (st : List Stay) → GoesOn (get_or lengths m.0.track.0 0) (m ∷ filter (keeps (on_track m.0.track.0)) halves) st ↔ GoesOn
      (get_or lengths m.0.track.0 0) (filter (keeps (on_track m.0.track.0)) (m ∷ halves)) st
  sees_yes m halves st =
      let e : filter (keeps (on_track m.0.track.0)) (m ∷ halves) ≡ m ∷ filter (keeps (on_track m.0.track.0)) halves = filter_yes (keeps (on_track m.0.track.0)) m halves
      (eq-eqb m.0.track.0 m.0.track.0 refl) in
      (λ g. subst (λ (l : List Half). GoesOn (get_or lengths m.0.track.0 0) l st) (sym e) g, λ g. subst (λ (l : List Half). GoesOn (get_or lengths m.0.track.0 0) l st) e g)

  -- another track doesn't see the move
  sees_no : (m : Half) (halves : List Half) (states : List (List Stay)) (st : List Stay) (t : ℕ) → eqb m.0.track.0 t ≡ false
      → Sees halves (set states m.0.track.0 st) t ↔ Sees (m ∷ halves) states t
  sees_no m halves states st t other =
      let e : filter (keeps (on_track t)) (m ∷ halves) ≡ filter (keeps (on_track t)) halves = filter_no (keeps (on_track t)) m halves other in
      let f : get_or (set states m.0.track.0 st) t [] ≡ get_or states t [] = get_or-set_other states m.0.track.0 t st [] (λ q. eqb-false m.0.track.0 t other (sym q)) in (
        λ g. subst (λ (l : List Half). GoesOn (get_or lengths t 0) l (get_or states t [])) (sym e)
            (subst (λ (l : List Stay). GoesOn (get_or lengths t 0) (filter (keeps (on_track t)) halves) l) f g),
        λ g. subst (λ (l : List Stay). GoesOn (get_or lengths t 0) (filter (keeps (on_track t)) halves) l) (sym f)
            (subst (λ (l : List Half). GoesOn (get_or lengths t 0) l (get_or states t [])) e g),
      )

  -- its own track sees it
  sees_set : (m : Half) (halves : List Half) (states : List (List Stay)) (st : List Stay) → m.0.track.0 < length states
      → Sees halves (set states m.0.track.0 st) m.0.track.0 ↔ GoesOn (get_or lengths m.0.track.0 0) (filter (keeps (on_track m.0.track.0)) halves) st
  sees_set m halves states st lt =
      let f : get_or (set states m.0.track.0 st) m.0.track.0 [] ≡ st = get_or-set_same states m.0.track.0 st [] lt in (
        λ g. subst (λ (l : List Stay). GoesOn (get_or lengths m.0.track.0 0) (filter (keeps (on_track m.0.track.0)) halves) l) f g,
        λ g. subst (λ (l : List Stay). GoesOn (get_or lengths m.0.track.0 0) (filter (keeps (on_track m.0.track.0)) halves) l) (sym f) g,
      )

  -- each track by its own: the one of the move, and the others
  each : (m : Half) (P : ℕ → Type 0) → P m.0.track.0 → ((t : ℕ) → eqb m.0.track.0 t ≡ false → P t) → (t : ℕ) → P t
  each m P own others t = ⊎_elim (λ e. subst P (eqb-true m.0.track.0 t e) own) (λ e. others t e) (cases_Bool (eqb m.0.track.0 t))

  pub split : (halves : List Half) (states : List (List Stay)) → ((m : Half) → In m halves → m.0.track.0 < length states) → GoesAll lengths halves states → (t : ℕ)
      → Sees halves states t
  split [] states ins go t = tt
  split ((s, true) ∷ halves) states ins go t =
      let u = s.track.0 in
      let st = put s.side_in s (get_or states u []) in
      let rest = split halves (set states u st) (λ m j. let lt = ins m (inr j) in omega (arith, length-set states u st)) go.1 in
      each (s, true) (Sees ((s, true) ∷ halves) states) ((sees_yes (s, true) halves (get_or states u [])).0
      (go.0, (sees_set (s, true) halves states st (ins (s, true) (inl refl))).0 (rest u))) (λ v e. (sees_no (s, true) halves states st v e).0 (rest v)) t
  split ((s, false) ∷ halves) states ins go t =
      let u = s.track.0 in
      let rest = split halves (set states u go.0) (λ m j. let lt = ins m (inr j) in omega (arith, length-set states u go.0)) go.2 in
      each (s, false) (Sees ((s, false) ∷ halves) states) ((sees_yes (s, false) halves (get_or states u [])).0
      (go.0, go.1, (sees_set (s, false) halves states go.0 (ins (s, false) (inl refl))).0 (rest u))) (λ v e. (sees_no (s, false) halves states go.0 v e).0 (rest v)) t

  pub join : (halves : List Half) (states : List (List Stay)) → ((m : Half) → In m halves → m.0.track.0 < length states) → ((t : ℕ) → Sees halves states t)
      → GoesAll lengths halves states
  join [] states ins sees = tt
  join ((s, true) ∷ halves) states ins sees =
      let u = s.track.0 in
      let st = put s.side_in s (get_or states u []) in
      let g = (sees_yes (s, true) halves (get_or states u [])).1 (sees u) in (
        g.0,
        join halves (set states u st) (λ m j. let lt = ins m (inr j) in omega (arith, length-set states u st))
            (each (s, true) (Sees halves (set states u st)) ((sees_set (s, true) halves states st (ins (s, true) (inl refl))).1 g.1)
            (λ v e. (sees_no (s, true) halves states st v e).1 (sees v))),
      )
  join ((s, false) ∷ halves) states ins sees =
      let u = s.track.0 in
      let g = (sees_yes (s, false) halves (get_or states u [])).1 (sees u) in (
        g.0,
        g.1,
        join halves (set states u g.0) (λ m j. let lt = ins m (inr j) in omega (arith, length-set states u g.0))
            (each (s, false) (Sees halves (set states u g.0)) ((sees_set (s, false) halves states g.0 (ins (s, false) (inl refl))).1 g.2)
            (λ v e. (sees_no (s, false) halves states g.0 v e).1 (sees v))),
      )

-- empty tracks
pub none_at : (lengths : List ℕ) (k : ℕ) → get_or (empty_tracks lengths) k [] ≡ []
none_at [] k = refl
none_at (n ∷ lengths) zero = refl
none_at (n ∷ lengths) (suc k) = none_at lengths k

pub empty_more : {X : Type 0} (view : X → List Standing) (lengths : List ℕ) (i : ℕ) (tracks more : List X) (v : X) → i < length lengths → view v ≡ [] → more ≡ tracks ++ v ∷ []
    → map view tracks ≡ empty_tracks (take i lengths) → map view more ≡ empty_tracks (take (i + 1) lengths)
empty_more view lengths i tracks more v lt none grown so =
    ap (map view) grown ∙ map-append view tracks (v ∷ [])
    ∙ ap (λ (l : List Standing). map view tracks ++ l ∷ []) none
    ∙ ap (λ (l : List (List Standing)). l ++ [] ∷ []) so
    ∙ sym (map-append (λ (n : ℕ). []) (take i lengths) (get_or lengths i 0 ∷ []))
    ∙ ap empty_tracks (sym (take_more lengths i 0 lt))
