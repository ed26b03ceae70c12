-- What is stated is well formed, and one step's answer after another's.
use Rattle.std.proofs.Common.{◌≡◌, ◌≤◌, ℕ, List, length, Some, subst, ap, ◌∙◌, Ok, Err, arith, inl, inr, refl, ⊎_elim, Bool, true, false, Result}
use Rattle.std.proofs.lemmas.Bool.{le-leb}
use Rattle.std.specs.Prelude.{None, if◌then◌else◌, nat_le}
use Rattle.shunt_rows.specs.defs.Formats.{Format, reading}
use Rattle.shunt_rows.specs.defs.Records.{records_of}
use Rattle.shunt_rows.specs.declared.words.FileWord.{FileWord}
use Rattle.shunt_rows.specs.declared.words.FileWord.TheVariants as word
use Rattle.shunt_inputs.specs.defs.Inputs.{most_bytes_of, value_or, stated, then_stated, stated_station, stated_timetable, stated_night, stated_plan, stated_plans, stated_pins, stated_pinned}
use Rattle.shunt_rows.specs.declared.fault.RowFault.{RowFault}
use Rattle.shunt_rows.specs.defs.InputTexts.{input_of}
use Rattle.shunt_instance.specs.defs.Instance.{Night, night_of, IsInstance}
use Rattle.shunt_instance.proofs.Orders.{night_is, closed}
use Rattle.shunt_blocks.specs.declared.records.Block.{Block}
use Rattle.shunt_blocks.specs.defs.Lists.{AreInRange}
use Rattle.shunt_plan.specs.declared.records.Plan.{Plan}
use Rattle.shunt_plan.specs.defs.PlanFormat.{plan_format}
use Rattle.shunt_plan.specs.defs.Plans.{IsPlanInRange}
use Rattle.shunt_plan.specs.defs.PinsFormat.{pins_format}
use Rattle.shunt_plan.proofs.Formed.{plan_formed, pins_formed}
use Rattle.shunt_station.specs.defs.StatedStations.{station_format}
use Rattle.shunt_station.proofs.Formed.{station_formed}
use Rattle.shunt_timetable.specs.defs.TimetableFormat.{timetable_format}
use Rattle.shunt_timetable.proofs.Formed.{timetable_formed}
use Rattle.shunt_inputs.specs.declared.file_loader.Halt.{Halt}
use Rattle.shunt_inputs.specs.declared.pins.Pinned.{Pinned}
use Rattle.shunt_store.specs.defs.Causes.{HasCause}
use Rattle.shunt_inputs.specs.declared.file_loader.Halt.TheVariants as halt

ok_value : {X : Type 0} (file : FileWord) (x : Result X RowFault) (v : X) → value_or file x ≡ Ok v → x ≡ Ok v
ok_value file (Ok y) v e = cc
ok_value file (Err fault) v e = absurd (let h : Err (input_of file (Some fault)) ≡ Ok v = e in cc)

pub stated_value : {S X : Type 0} (file : FileWord) (format : Format S X) (bytes : List ℕ) (v : X) → stated file format bytes ≡ Ok v → reading format (records_of bytes) ≡ Ok v
stated_value file format bytes v e = at (nat_le (length bytes) (most_bytes_of file)) e
  where
    at : (short : Bool) → (if short then value_or file (reading format (records_of bytes)) else Err (input_of file None)) ≡ Ok v → reading format (records_of bytes) ≡ Ok v
    at true h = ok_value file (reading format (records_of bytes)) v h
    at false h = absurd (let no : Err (input_of file None) ≡ Ok v = h in cc)

-- a value of both comes of a value of the first
pub parted : {X Y : Type 0} (first : Result X (List ℕ)) (rest : X → Result Y (List ℕ)) (v : Y) → then_stated first rest ≡ Ok v → (x : X) × (first ≡ Ok x) × (rest x ≡ Ok v)
parted (Ok x) rest v e = (x, refl, e)
parted (Err text) rest v e = absurd (let h : Err text ≡ Ok v = e in cc)

pub night_stated : (s t : List ℕ) (night : Night) → stated_night s t ≡ Ok night → IsInstance night
night_stated s t night e =
    let first = parted (stated_station s) _ night e in
    let second = parted (stated_timetable first.0 t) _ night first.2 in
    let station = station_formed (records_of s) first.0 (stated_value word.Station station_format s first.0 first.1) in
    let timetable = timetable_formed first.0 (records_of t) second.0 (stated_value word.Timetable (timetable_format first.0) t second.0 second.1) in
    let made : night_of first.0 second.0 ≡ night = cc (second.2) in
    subst IsInstance made (closed (night_of first.0 second.0) (night_is first.0 second.0 station timetable))

pub plan_stated : (s t p : List ℕ) (y : Night × Plan) → stated_plans s t p ≡ Ok y → IsInstance y.0 × IsPlanInRange y.0 y.1
plan_stated s t p y e =
    let first = parted (stated_night s t) _ y e in
    let second = parted (stated_plan first.0 p) _ y first.2 in
    let made : (first.0, second.0) ≡ y = cc (second.2) in
    subst (λ (z : Night × Plan). IsInstance z.0 × IsPlanInRange z.0 z.1) made (
      night_stated s t first.0 first.1,
      plan_formed first.0 (records_of p) second.0 (stated_value word.Plan (plan_format first.0) p second.0 second.1),
    )

pub plans_are : (s t p : List ℕ) (night : Night) (plan : Plan) → stated_night s t ≡ Ok night → stated_plan night p ≡ Ok plan → stated_plans s t p ≡ Ok (night, plan)
plans_are s t p night plan a b =
    ap (λ r. then_stated r (λ n. then_stated (stated_plan n p) (λ q. Ok (n, q)))) a ∙ ap (λ r. then_stated r (λ q. Ok (night, q))) b

abbrev pub pinned_of : Night → List Block → Pinned
pinned_of night pins = record { instance = night; pins = pins }

pub pins_stated : (s t p : List ℕ) (x : Pinned) → stated_pinned s t p ≡ Ok x → IsInstance x.instance × AreInRange x.instance x.pins
pins_stated s t p x e =
    let first = parted (stated_night s t) _ x e in
    let second = parted (stated_pins first.0 p) _ x first.2 in
    let made : pinned_of first.0 second.0 ≡ x = cc (second.2) in
    subst (λ (z : Pinned). IsInstance z.instance × AreInRange z.instance z.pins) made
    (night_stated s t first.0 first.1, pins_formed first.0 (records_of p) second.0 (stated_value word.Pins (pins_format first.0) p second.0 second.1))

-- a later step's cause is one of the whole
pub cause_later : {A : Type 0} (before mid now : ℕ) (r : Result A Halt) → before ≤ mid → HasCause halt.Fault mid now r → HasCause halt.Fault before now r
cause_later before mid now r le cause = record {
  later = let more = cause.later in omega (arith, le, more);
  failed = λ is. ⊎_elim (λ lt. inl (omega (arith, le, lt))) (λ last. inr last) (cause.failed is);
}

-- a text that is short enough states what its records state
pub stated_again : {S X : Type 0} (file : FileWord) (format : Format S X) (bytes : List ℕ) (v : X) → length bytes ≤ most_bytes_of file → reading format (records_of bytes) ≡ Ok v
    → stated file format bytes ≡ Ok v
stated_again file format bytes v le e =
    ap (λ (b : Bool). if b then value_or file (reading format (records_of bytes)) else Err (input_of file None)) (le-leb (length bytes) (most_bytes_of file) le)
    ∙ ap (value_or file) e
