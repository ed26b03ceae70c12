-- One event of the run, as the loop does it.
use Rattle.std.proofs.Common.{◌≡◌, ⊎_elim, ℕ, ◌+◌, ◌<◌, ◌≤◌, List, [], ◌∷◌, ◌++◌, length, get_or, set, drop, map, Result, Ok, Err, refl, sym, subst, ap, ◌∙◌, arith}
use Rattle.std.specs.List.{All}
use Rattle.std.proofs.lemmas.Bool.{cases_eq}
use Rattle.std.proofs.lemmas.List.{drop_more, length-set, map-set, get_or-map, get_or-set_same, get_or-set_other}
use Rattle.std.proofs.lemmas.List.{append_assoc}
use Rattle.shunt_stays.specs.defs.Events.{Move}
use Rattle.shunt_stays.specs.defs.Run.{Standing, Stop, Through, run, moved, load, ◌>>=◌, empty_tracks}
use Rattle.shunt_stays.specs.defs.Run.Stop.{Blocked, Over}
use Rattle.shunt_stays.proofs.Steps.{load_kept}
use Rattle.shunt_tracks.specs.declared.dues.Due.{Due}
use Rattle.shunt_tracks.specs.declared.blocks.Did.{Did}
use Rattle.shunt_tracks.specs.declared.blocks.Did.TheVariants as did
use Rattle.shunt_tracks.specs.declared.run.Event.{Event}
use Rattle.shunt_tracks.specs.declared.run.Step.{Step}
use Rattle.shunt_tracks.specs.declared.run.Ran.{Ran}
use Rattle.shunt_tracks.specs.declared.run.Ran.TheVariants as ran
use Rattle.shunt_tracks.specs.defs.Dues.{move_of}
use Rattle.shunt_tracks.specs.defs.Blocks.{Does, Fit}
use Rattle.shunt_tracks.specs.defs.Answer.{event_of, step_of, answer}
use Rattle.shunt_stays.proofs.Tracks.{none_at}
use Rattle.shunt_stays.proofs.Blocks.{one_more, go_on}

-- what is answered after these steps
abbrev pub after : List Step → Ran → Ran
after steps (ran.Through more) = ran.Through (steps ++ more)
after steps (ran.Blocked e) = ran.Blocked e
after steps (ran.Over e n) = ran.Over e n

one_done : (steps : List Step) (m : Move) (blocks : List Standing) (r : Result Through Stop)
    → after steps (answer (r >>= (λ t. Ok (one_more m blocks t)))) ≡ after (steps ++ step_of (m, load blocks) ∷ []) (answer r)
one_done steps m blocks (Ok t) = ap ran.Through (sym (append_assoc steps (step_of (m, load blocks) ∷ []) (map step_of t.steps)))
one_done steps m blocks (Err (Blocked e)) = refl
one_done steps m blocks (Err (Over e n)) = refl

did_moved : (x : Did) (n : ℕ) (m : Move) (room : ℕ) (old new : List Standing) → x ≡ did.Moved n → Does x m room old new → (moved room m old ≡ Ok new) × (load new ≡ n)
did_moved x n m room old new e h = subst (λ (y : Did). Does y m room old new) e h

module _ {X : Type 0} (view : X → List Standing) (lengths : List ℕ) (dues : List Due) (i : ℕ) (tracks : List X) (u : ℕ) (z : Due) (v : X) (lt : i < length dues)
    (at : u ≡ (get_or dues i z).track.0) (on : u < length tracks) (was : v ≡ get_or tracks u v) where
  abbrev here : Move
  here = move_of (get_or dues i z)

  abbrev left : List Move
  left = map move_of (drop (i + 1) dues)

  -- the event that is due comes first
  first_is : run lengths (map move_of (drop i dues)) (map view tracks) ≡ (moved (get_or lengths u 0) here (view v) >>= (λ bs. go_on lengths here left (map view tracks) bs))
  first_is =
      ap (λ (l : List Move). run lengths l (map view tracks)) (ap (map move_of) (drop_more dues i z lt))
      ∙ ap (λ (k : ℕ). moved (get_or lengths k 0) here (get_or (map view tracks) k []) >>= (λ bs. go_on lengths here left (map view tracks) bs)) (sym at)
      ∙ ap (λ (l : List Standing). moved (get_or lengths u 0) here l >>= (λ bs. go_on lengths here left (map view tracks) bs))
      (get_or-map view tracks u v [] on ∙ ap view (sym was))

  pub turned : (steps more : List Step) (x : Did) (n : ℕ) (w : X) (event : Event) (all : Ran) → x ≡ did.Moved n → Does x here (get_or lengths u 0) (view v) (view w)
      → event ≡ event_of here
      → more ≡ steps ++ record { event = event; load = n } ∷ []
      → after steps (answer (run lengths (map move_of (drop i dues)) (map view tracks))) ≡ all → after more (answer (run lengths left (map view (set tracks u w)))) ≡ all
  turned steps more x n w event all e does is grown so =
      let m = did_moved x n here (get_or lengths u 0) (view v) (view w) e does in
      let step : record { event = event; load = n } ≡ step_of (here, load (view w)) = ap (λ (y : Event). record { event = y; load = n }) is
      ∙ ap (λ (k : ℕ). record { event = event_of here; load = k }) (sym m.1) in
      let after_it : map view (set tracks u w) ≡ set (map view tracks) here.track.0 (view w) = map-set view tracks u w ∙ ap (λ (k : ℕ). set (map view tracks) k (view w)) at in
      ap (λ (l : List Step). after l (answer (run lengths left (map view (set tracks u w))))) (grown ∙ ap (λ (s : Step). steps ++ s ∷ []) step)
      ∙ ap (λ (l : List (List Standing)). after (steps ++ step_of (here, load (view w)) ∷ []) (answer (run lengths left l))) after_it
      ∙ sym (one_done steps here (view w) (run lengths left (set (map view tracks) here.track.0 (view w))))
      ∙ sym (ap (λ (r : Result Through Stop). after steps (answer r)) (first_is ∙ ap
      (λ (r : Result (List Standing) Stop). r >>= (λ bs. go_on lengths here left (map view tracks) bs)) m.0))
      ∙ so

  pub fits : (x : Did) (n : ℕ) (w : X) → x ≡ did.Moved n → Does x here (get_or lengths u 0) (view v) (view w) → Fit view lengths tracks → Fit view lengths (set tracks u w)
  fits x n w e does fit = λ k d below.
      let m = did_moved x n here (get_or lengths u 0) (view v) (view w) e does in
      let bound : load (view v) ≤ get_or lengths u 0 = subst (λ (y : X). load (view y) ≤ get_or lengths u 0) (sym was) (fit u v on) in
      let size = length-set tracks u w in
      ⊎_elim (λ s. subst (λ (j : ℕ). load (view (get_or (set tracks u w) j d)) ≤ get_or lengths j 0) (sym s)
      (subst (λ (y : X). load (view y) ≤ get_or lengths u 0) (sym (get_or-set_same tracks u w d on)) (load_kept (get_or lengths u 0) here (view v) (view w) m.0 bound)))
      (λ ne. subst (λ (y : X). load (view y) ≤ get_or lengths k 0) (sym (get_or-set_other tracks u k w d ne)) (fit k d (omega arith))) (cases_eq k u)

pub within : (lengths : List ℕ) (dues : List Due) (i u n : ℕ) (z : Due) → All (λ d. d.track.0 < length lengths) dues → i < length dues → u ≡ (get_or dues i z).track.0
    → n ≡ length lengths → u < n
within lengths dues i u n z on lt at e = let below = on i z lt in omega arith

pub fit_empty : {X : Type 0} (view : X → List Standing) (lengths : List ℕ) (tracks : List X) → map view tracks ≡ empty_tracks lengths → Fit view lengths tracks
fit_empty view lengths tracks e = λ k d lt.
    let none : view (get_or tracks k d) ≡ [] = sym (get_or-map view tracks k d [] lt) ∙ ap (λ (l : List (List Standing)). get_or l k []) e ∙ none_at lengths k in
    omega (arith, ap load none)
