-- The events of a run as JSON: their minutes and tracks, and that no number is a float.
use Rattle.std.proofs.Common.{◌≡◌, ℕ, ◌+◌, ◌<◌, false, List, [], ◌∷◌, ◌++◌, length, get_or, map, take, refl, sym, subst, ap, ◌∙◌, arith}
use Rattle.std.specs.Prelude.{All, ◌||◌, Result, Ok, Err}
use Rattle.std.proofs.lemmas.List.{length-map, map-append, take_more}
use Rattle.serde_json.specs.View.{view, items_of}
use Rattle.serde_json.specs.declared.value.Value.{Value}
use Rattle.serde_json.specs.Written.{has_float, items_have_float}
use Rattle.shunt_lists.specs.defs.Members.{In}
use Rattle.shunt_lists.proofs.Members.{in_place, in_map, of_map, each_one}
use Rattle.shunt_stays.specs.defs.Events.{Move, in_order}
use Rattle.shunt_stays.specs.defs.Run.{Standing, Through, Stop, run_of, empty_tracks}
use Rattle.shunt_stays.proofs.Steps.{run_leaves}
use Rattle.shunt_instance.specs.defs.Instance.{Night, IsInstance}
use Rattle.shunt_blocks.specs.declared.records.Block.{Block}
use Rattle.shunt_blocks.specs.defs.Lists.{AreInRange, track_lengths, stays_of}
use Rattle.shunt_tracks.specs.declared.run.Step.{Step}
use Rattle.shunt_tracks.specs.declared.run.Ran.{Ran}
use Rattle.shunt_tracks.specs.defs.Answer.{event_of, step_of, answer}
use Rattle.shunt_zones.specs.defs.Moves.{events_of, IsMoveOf}
use Rattle.shunt_zones.proofs.Ordered.{StayLaws, events_of_night}
use Rattle.shunt_report.specs.defs.JsonTexts.{IsStepOf, event_value, steps_of, steps_in, value_with}

-- ---- steps

step_is : (night : Night) (p : Move × ℕ) → IsMoveOf night (event_of p.0) → IsStepOf night (step_of p)
step_is night (m, n) h = record { minute = h.minute; track = h.track }

module _ (night : Night) (moves : List Move) (each : All (IsMoveOf night) (map event_of moves)) where
  move_is : (m : Move) → In m moves → IsMoveOf night (event_of m)
  move_is m i = each_one (IsMoveOf night) (map event_of moves) (event_of m) each (in_map event_of moves m i)

  through_is : (t : Through) → map (λ (p : Move × ℕ). p.0) t.steps ≡ moves → All (IsStepOf night) (map step_of t.steps)
  through_is t e = λ k d lt.
      let r = of_map step_of t.steps (get_or (map step_of t.steps) k d) (in_place (map step_of t.steps) k d lt) in
      subst (IsStepOf night) (sym r.2) (step_is night r.0 (move_is r.0.0 (subst (In r.0.0) e (in_map (λ (p : Move × ℕ). p.0) t.steps r.0 r.1))))

  ran_is : (r : Result Through Stop) → ((t : Through) → r ≡ Ok t → map (λ (p : Move × ℕ). p.0) t.steps ≡ moves) → All (IsStepOf night) (steps_of (answer r))
  ran_is (Ok t) h = through_is t (h t refl)
  ran_is (Err (Stop.Blocked m)) h = λ k d lt. absurd (omega (arith, lt))
  ran_is (Err (Stop.Over m n)) h = λ k d lt. absurd (omega (arith, lt))

pub steps_are : (laws : StayLaws) (night : Night) (blocks : List Block) → IsInstance night → AreInRange night blocks → All (IsStepOf night) (steps_in night blocks)
unfolding events_of
steps_are laws night blocks is range =
    let moves = in_order (stays_of night blocks) in
    let lengths = track_lengths night.station in
    let each : All (IsMoveOf night) (map event_of moves) = events_of_night laws night blocks is range in
    ran_is night moves each (run_of lengths (stays_of night blocks)) (λ t e. (run_leaves lengths moves (empty_tracks lengths) t (λ m i.
    let on = (move_is night moves each m i).track in
    omega (arith, on, length-map {B = List Standing} lengths (λ n. []), length-map night.station.tracks (λ t. t.length))) e).steps)

-- those of what came of a run
pub ran_steps : (laws : StayLaws) (night : Night) (blocks seen : List Block) (r : Ran) → IsInstance night → AreInRange night blocks → seen ≡ blocks
    → r ≡ answer (run_of (track_lengths night.station) (stays_of night seen)) → All (IsStepOf night) (steps_of r)
ran_steps laws night blocks seen r is range same came = subst (All (IsStepOf night))
    (sym (ap steps_of (came ∙ ap (λ l. answer (run_of (track_lengths night.station) (stays_of night l))) same))) (steps_are laws night blocks is range)

-- ---- their values

-- the value of one more event
pub one_value : (night : Night) (steps : List Step) (i : ℕ) (d : Step) (values more : List Value) (v : Value) → i < length steps → view v ≡ event_value night (get_or steps i d)
    → more ≡ values ++ v ∷ []
    → map view values ≡ map (event_value night) (take i steps) → map view more ≡ map (event_value night) (take (i + 1) steps)
one_value night steps i d values more v lt is push done =
    ap (map view) push ∙ map-append view values (v ∷ []) ∙ ap (λ l. l ++ view v ∷ []) done ∙ ap (λ x. map (event_value night) (take i steps) ++ x ∷ []) is
    ∙ sym (ap (map (event_value night)) (take_more steps i d lt) ∙ map-append (event_value night) (take i steps) (get_or steps i d ∷ []))

-- ---- no floats

events_plain : (night : Night) (steps : List Step) → items_have_float (items_of (map (event_value night) steps)) ≡ false
events_plain night [] = refl
events_plain night (s ∷ steps) = events_plain night steps

pub value_plain : (night : Night) (blocks : List Block) (steps : List Step) → has_float (value_with night blocks steps) ≡ false
value_plain night blocks steps = ap (λ b. b || false) (events_plain night steps)
