-- From what the files of a night hold to the night, and to pins in it.
use Rattle.std.proofs.Common.{◌≡◌, ◌∙◌, ℕ, List, [], ◌∷◌, get_or, take, Result, Ok, Err, refl, sym, ap, subst}
use Rattle.shunt_instance.specs.declared.records.Station.{Station}
use Rattle.shunt_instance.specs.declared.records.Timetable.{Timetable}
use Rattle.shunt_instance.specs.defs.Instance.{Night, night_of}
use Rattle.shunt_instance.specs.defs.Wellformed.{IsStation, IsTimetable}
use Rattle.shunt_blocks.specs.declared.records.Block.{Block}
use Rattle.shunt_inputs.specs.declared.file_loader.Halt.{Halt}
use Rattle.shunt_inputs.specs.declared.nights.WholeNight.{WholeNight}
use Rattle.shunt_inputs.specs.declared.pins.Pinned.{Pinned}
use Rattle.shunt_inputs.specs.defs.Halts.{Loads}
use Rattle.shunt_inputs.specs.defs.Inputs.{then_stated, stated_night, stated_pinned, stated_pins, stated_station, stated_timetable, stated_whole, whole_of}
use Rattle.shunt_inputs.specs.defs.ReadFiles.{stated_over}
use Rattle.shunt_inputs.proofs.Held.{regrouped}
use Rattle.shunt_inputs.proofs.SeenFiles.{FailsWith, first_refused, loads_failed}
use Rattle.shunt_inputs.proofs.Stated.{pinned_of}

-- ---- the night

-- the first text, of which only the first is taken
first_text : (texts : List (List ℕ)) → get_or (take 1 texts) 0 [] ≡ get_or texts 0 []
first_text [] = refl
first_text (b ∷ texts) = refl

abbrev pub parts_in : List (List ℕ) → Result (Station × Timetable) (List ℕ)
parts_in texts = stated_over 1 (λ ts. stated_station (get_or ts 0 [])) (λ s t. stated_timetable s t) texts

night_parts : (texts : List (List ℕ)) → then_stated (parts_in texts) (λ (v : Station × Timetable). Ok (night_of v.0 v.1)) ≡ stated_night (get_or texts 0 []) (get_or texts 1 [])
night_parts texts =
    ap (λ (b : List ℕ). then_stated (then_stated (stated_station b) (λ s. then_stated (stated_timetable s (get_or texts 1 [])) (λ t. Ok (s, t))))
    (λ (v : Station × Timetable). Ok (night_of v.0 v.1))) (first_text texts)
    ∙ regrouped (stated_station (get_or texts 0 [])) (λ s. stated_timetable s (get_or texts 1 [])) night_of

pub night_refused : (r : Result Night Halt) (e : Halt) → FailsWith r e → (texts : List (List ℕ)) → Loads {X = Station × Timetable} (Err e) (parts_in texts)
    → Loads r (stated_night (get_or texts 0 []) (get_or texts 1 []))
night_refused r e is texts l = loads_failed r e _ is (subst (λ (s : Result Night (List ℕ)). Loads {X = Night} (Err e) s) (night_parts texts)
    (first_refused {X = Station × Timetable} {Y = Night} e (parts_in texts) _ l))

pub night_stated_in : (parts : Station × Timetable) (night : Night) → night ≡ night_of parts.0 parts.1 → (texts : List (List ℕ)) → parts_in texts ≡ Ok parts
    → stated_night (get_or texts 0 []) (get_or texts 1 []) ≡ Ok night
night_stated_in parts night is texts a =
    sym (night_parts texts) ∙ ap (λ (s : Result (Station × Timetable) (List ℕ)). then_stated s (λ (v : Station × Timetable). Ok (night_of v.0 v.1))) a
    ∙ ap (λ (n : Night). Ok n) (sym is)

-- ---- the night with its timetable

whole_parts : (texts : List (List ℕ)) → then_stated (parts_in texts) (λ (v : Station × Timetable). Ok (whole_of v.0 v.1)) ≡ stated_whole (get_or texts 0 []) (get_or texts 1 [])
whole_parts texts =
    ap (λ (b : List ℕ). then_stated (then_stated (stated_station b) (λ s. then_stated (stated_timetable s (get_or texts 1 [])) (λ t. Ok (s, t))))
    (λ (v : Station × Timetable). Ok (whole_of v.0 v.1))) (first_text texts)
    ∙ regrouped (stated_station (get_or texts 0 [])) (λ s. stated_timetable s (get_or texts 1 [])) whole_of

pub whole_refused : (r : Result WholeNight Halt) (e : Halt) → FailsWith r e → (texts : List (List ℕ)) → Loads {X = Station × Timetable} (Err e) (parts_in texts)
    → Loads r (stated_whole (get_or texts 0 []) (get_or texts 1 []))
whole_refused r e is texts l = loads_failed r e _ is (subst (λ (s : Result WholeNight (List ℕ)). Loads {X = WholeNight} (Err e) s) (whole_parts texts)
    (first_refused {X = Station × Timetable} {Y = WholeNight} e (parts_in texts) _ l))

pub whole_stated_in : (parts : Station × Timetable) (night : WholeNight) → night ≡ whole_of parts.0 parts.1 → (texts : List (List ℕ)) → parts_in texts ≡ Ok parts
    → stated_whole (get_or texts 0 []) (get_or texts 1 []) ≡ Ok night
whole_stated_in parts night is texts a =
    sym (whole_parts texts) ∙ ap (λ (s : Result (Station × Timetable) (List ℕ)). then_stated s (λ (v : Station × Timetable). Ok (whole_of v.0 v.1))) a
    ∙ ap (λ (n : WholeNight). Ok n) (sym is)

-- what is read of it is well formed
abbrev pub IsWhole : WholeNight → Type 0
IsWhole x = IsStation x.instance.station × IsTimetable x.instance.station x.timetable × (x.instance ≡ night_of x.instance.station x.timetable)

pub whole_formed : (s : Station) (t : Timetable) (night : WholeNight) → IsStation s → IsTimetable s t → night ≡ whole_of s t → IsWhole night
whole_formed s t night f g is = subst IsWhole (sym is) (f, g, refl)

-- ---- pins in it

first_of_two : (texts : List (List ℕ)) → get_or (take 2 texts) 0 [] ≡ get_or texts 0 []
first_of_two [] = refl
first_of_two (a ∷ texts) = refl

second_of_two : (texts : List (List ℕ)) → get_or (take 2 texts) 1 [] ≡ get_or texts 1 []
second_of_two [] = refl
second_of_two (a ∷ []) = refl
second_of_two (a ∷ b ∷ texts) = refl

abbrev pub pin_parts : List (List ℕ) → Result (Night × List Block) (List ℕ)
pin_parts texts = stated_over 2 (λ ts. stated_night (get_or ts 0 []) (get_or ts 1 [])) (λ n b. stated_pins n b) texts

abbrev made_pinned : List ℕ → List ℕ → List ℕ → Result Pinned (List ℕ)
made_pinned a b i = then_stated (then_stated (stated_night a b) (λ n. then_stated (stated_pins n i) (λ p. Ok (n, p)))) (λ (v : Night × List Block). Ok (pinned_of v.0 v.1))

pinned_parts : (texts : List (List ℕ)) → then_stated (pin_parts texts) (λ (v : Night × List Block). Ok (pinned_of v.0 v.1))
    ≡ stated_pinned (get_or texts 0 []) (get_or texts 1 []) (get_or texts 2 [])
pinned_parts texts =
    ap (λ (a : List ℕ). made_pinned a (get_or (take 2 texts) 1 []) (get_or texts 2 [])) (first_of_two texts)
    ∙ ap (λ (b : List ℕ). made_pinned (get_or texts 0 []) b (get_or texts 2 [])) (second_of_two texts)
    ∙ regrouped (stated_night (get_or texts 0 []) (get_or texts 1 [])) (λ n. stated_pins n (get_or texts 2 [])) pinned_of

pub pinned_refused : (r : Result Pinned Halt) (e : Halt) → FailsWith r e → (texts : List (List ℕ)) → Loads {X = Night × List Block} (Err e) (pin_parts texts)
    → Loads r (stated_pinned (get_or texts 0 []) (get_or texts 1 []) (get_or texts 2 []))
pinned_refused r e is texts l = loads_failed r e _ is (subst (λ (s : Result Pinned (List ℕ)). Loads {X = Pinned} (Err e) s) (pinned_parts texts)
    (first_refused {X = Night × List Block} {Y = Pinned} e (pin_parts texts) _ l))

pub pinned_stated_in : (parts : Night × List Block) (texts : List (List ℕ)) → pin_parts texts ≡ Ok parts
    → stated_pinned (get_or texts 0 []) (get_or texts 1 []) (get_or texts 2 []) ≡ Ok (pinned_of parts.0 parts.1)
pinned_stated_in parts texts a = sym (pinned_parts texts) ∙ ap (λ (s : Result (Night × List Block) (List ℕ)). then_stated s (λ (v : Night × List Block). Ok (pinned_of v.0 v.1))) a
