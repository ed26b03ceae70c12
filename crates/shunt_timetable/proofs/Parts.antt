-- A record of a train, by what the train's fields say.
use Rattle.std.proofs.Common.{◌≡◌, ℕ, suc, ◌+◌, Bool, true, List, [], ◌∷◌, ◌++◌, length, sym, ap, ◌∙◌, subst}
use Rattle.std.specs.Prelude.{◌==◌, ◌||◌, Option, Some, None, option_map, Result, Ok, Err}
use Rattle.shunt_rows.specs.declared.fault.RowFault.{RowFault}
use Rattle.shunt_rows.specs.declared.fault.ReadError.{ReadError}
use Rattle.shunt_rows.specs.declared.fault.RowKind.TheVariants as kinds
use Rattle.shunt_rows.specs.defs.Checks as judging
use Rattle.shunt_rows.specs.defs.Checks.{Judged, answer, must, says, found}
use Rattle.shunt_rows.specs.defs.Fields.{named_in}
use Rattle.shunt_rows.specs.defs.Given.{Fails}
use Rattle.shunt_base.specs.declared.ids.TypeId.{TypeId}
use Rattle.shunt_base.specs.declared.ids.TrackId.{TrackId}
use Rattle.shunt_instance.specs.declared.records.Station.{Station}
use Rattle.shunt_instance.specs.declared.records.Train.{Train}
use Rattle.shunt_instance.specs.declared.records.TrackEnd.{TrackEnd}
use Rattle.shunt_instance.specs.declared.records.PlacedRun.{PlacedRun}
use Rattle.shunt_instance.specs.declared.records.Origin.{Origin}
use Rattle.shunt_instance.specs.declared.records.UnitType.{UnitType}
use Rattle.shunt_instance.specs.defs.Words.{train_at}
use Rattle.shunt_rows.proofs.Joins.{part_ok, part_err, part_fails}
use Rattle.shunt_timetable.specs.defs.TimetableFormat.{Listed, kind_of, unit_of, units_from, empty_train, standing_of, moving_of, stand_of, arrive_of, depart_of, units_in, end_in, with_placed, placed_of}

pub stand_ok : (n : ℕ) (station : Station) (s inside : Listed) (row : List (List ℕ)) (t : Train) (trains items : List Train) → s ≡ inside → trains ≡ inside.arrive
    → items ≡ inside.arrive ++ t ∷ [] → answer n (standing_of station trains row) ≡ Ok t
    → answer n (stand_of station s row) ≡ Ok (record inside { arrive = items })
unfolding stand_of
stand_ok n station s inside row t trains items same of more is =
    ap (λ x. answer n (stand_of station x row)) same
    ∙ part_ok n (standing_of station inside.arrive row) (λ t. says (record inside { arrive = inside.arrive ++ t ∷ [] })) t
    (subst (λ x. answer n (standing_of station x row) ≡ Ok t) of is)
    ∙ ap (λ x. Ok (record inside { arrive = x })) (sym more)

pub stand_fails : (n : ℕ) (station : Station) (s inside : Listed) (row : List (List ℕ)) (e : ReadError) (trains : List Train) → s ≡ inside → trains ≡ inside.arrive
    → Fails e (answer n (standing_of station trains row)) → Fails e (answer n (stand_of station s row))
unfolding stand_of
stand_fails n station s inside row e trains same of is = subst (λ x. Fails e (answer n (stand_of station x row))) (sym same)
    (part_fails n (standing_of station inside.arrive row) (λ t. says (record inside { arrive = inside.arrive ++ t ∷ [] })) e
    (subst (λ x. Fails e (answer n (standing_of station x row))) of is))

pub arrive_ok : (n : ℕ) (station : Station) (s inside : Listed) (row : List (List ℕ)) (t : Train) (trains items : List Train) → s ≡ inside → trains ≡ inside.arrive
    → items ≡ inside.arrive ++ t ∷ [] → answer n (moving_of station trains row) ≡ Ok t
    → answer n (arrive_of station s row) ≡ Ok (record inside { arrive = items; moving = true })
unfolding arrive_of
arrive_ok n station s inside row t trains items same of more is =
    ap (λ x. answer n (arrive_of station x row)) same
    ∙ part_ok n (moving_of station inside.arrive row) (λ t. says (record inside { arrive = inside.arrive ++ t ∷ []; moving = true })) t
    (subst (λ x. answer n (moving_of station x row) ≡ Ok t) of is)
    ∙ ap (λ x. Ok (record inside { arrive = x; moving = true })) (sym more)

pub arrive_fails : (n : ℕ) (station : Station) (s inside : Listed) (row : List (List ℕ)) (e : ReadError) (trains : List Train) → s ≡ inside → trains ≡ inside.arrive
    → Fails e (answer n (moving_of station trains row)) → Fails e (answer n (arrive_of station s row))
unfolding arrive_of
arrive_fails n station s inside row e trains same of is = subst (λ x. Fails e (answer n (arrive_of station x row))) (sym same)
    (part_fails n (moving_of station inside.arrive row) (λ t. says (record inside { arrive = inside.arrive ++ t ∷ []; moving = true })) e
    (subst (λ x. Fails e (answer n (moving_of station x row))) of is))

pub depart_ok : (n : ℕ) (station : Station) (s inside : Listed) (row : List (List ℕ)) (t : Train) (trains items : List Train) → s ≡ inside → trains ≡ inside.depart
    → items ≡ inside.depart ++ t ∷ [] → answer n (moving_of station trains row) ≡ Ok t
    → answer n (depart_of station s row) ≡ Ok (record inside { depart = items; moving = true })
unfolding depart_of
depart_ok n station s inside row t trains items same of more is =
    ap (λ x. answer n (depart_of station x row)) same
    ∙ part_ok n (moving_of station inside.depart row) (λ t. says (record inside { depart = inside.depart ++ t ∷ []; moving = true })) t
    (subst (λ x. answer n (moving_of station x row) ≡ Ok t) of is)
    ∙ ap (λ x. Ok (record inside { depart = x; moving = true })) (sym more)

pub depart_fails : (n : ℕ) (station : Station) (s inside : Listed) (row : List (List ℕ)) (e : ReadError) (trains : List Train) → s ≡ inside → trains ≡ inside.depart
    → Fails e (answer n (moving_of station trains row)) → Fails e (answer n (depart_of station s row))
unfolding depart_of
depart_fails n station s inside row e trains same of is = subst (λ x. Fails e (answer n (depart_of station x row))) (sym same)
    (part_fails n (moving_of station inside.depart row) (λ t. says (record inside { depart = inside.depart ++ t ∷ []; moving = true })) e
    (subst (λ x. Fails e (answer n (moving_of station x row))) of is))

-- one more unit is read
pub one_more : (n : ℕ) (station : Station) (before : ℕ) (t : Train) (row : List (List ℕ)) (k left more : ℕ) (kind : TypeId) (units : List TypeId) (types : List UnitType)
    (count : ℕ) → left ≡ suc more → units ≡ t.units ++ kind ∷ []
    → types ≡ station.types → count ≡ before + length t.units → Ok kind ≡ answer n (kind_of types count row k)
    → answer n (units_from station before t row k left) ≡ answer n (units_from station before (record t { units = units }) row (k + 1) more)
unfolding units_from unit_of
one_more n station before t row k left more kind units types count at push of many is =
    ap (λ x. answer n (units_from station before t row k x)) at
    ∙ part_ok n (unit_of station before t row k) (λ u. units_from station before u row (k + 1) more) (record t { units = t.units ++ kind ∷ [] })
    (part_ok n (kind_of station.types (before + length t.units) row k) (λ kind. says (record t { units = t.units ++ kind ∷ [] })) kind
    (ap (λ x. answer n (kind_of x (before + length t.units) row k)) (sym of) ∙ ap (λ x. answer n (kind_of types x row k)) (sym many) ∙ sym is))
    ∙ ap (λ x. answer n (units_from station before (record t { units = x }) row (k + 1) more)) (sym push)

-- or its type has a fault
pub unit_fails : (n : ℕ) (station : Station) (before : ℕ) (t : Train) (row : List (List ℕ)) (k left more : ℕ) (e : RowFault) (types : List UnitType) (count : ℕ) → left ≡ suc more
    → types ≡ station.types → count ≡ before + length t.units → Err e ≡ answer n (kind_of types count row k)
    → answer n (units_from station before t row k left) ≡ Err e
unfolding units_from unit_of
unit_fails n station before t row k left more e types count at of many is =
    ap (λ x. answer n (units_from station before t row k x)) at
    ∙ part_err n (unit_of station before t row k) (λ u. units_from station before u row (k + 1) more) e
    (part_err n (kind_of station.types (before + length t.units) row k) (λ kind. says (record t { units = t.units ++ kind ∷ [] })) e
    (ap (λ x. answer n (kind_of x (before + length t.units) row k)) (sym of) ∙ ap (λ x. answer n (kind_of types x row k)) (sym many) ∙ sym is))

-- the same of a name that is known by another word for it
pub same_name : (n : ℕ) (station : Station) (before minute : ℕ) (o : Origin) (row : List (List ℕ)) (k more : ℕ) (name other : List ℕ) (r : Result Train RowFault) → name ≡ other
    → answer n (units_from station before (empty_train name minute o) row k more) ≡ r → answer n (units_from station before (empty_train other minute o) row k more) ≡ r
same_name n station before minute o row k more name other r same is = subst (λ x. answer n (units_from station before (empty_train x minute o) row k more) ≡ r) same is

-- a number that was found is a track
abbrev track_of : ℕ → TrackId
track_of k = record { 0 = k }

pub track_found : (n : ℕ) (o : Option ℕ) (k : ℕ) → Ok k ≡ answer n (found 0 o 6 kinds.Unknown) → Ok (track_of k) ≡ answer n (found (track_of 0) (option_map track_of o) 6 kinds.Unknown)
track_found n None k e = absurd cc
track_found n (Some j) k e = let same : k ≡ j = cc in ap (λ (i : ℕ). Ok (track_of i)) same

pub track_unknown : (n : ℕ) (o : Option ℕ) (f : RowFault) → Err f ≡ answer n (found 0 o 6 kinds.Unknown) → Err f ≡ answer n (found (track_of 0) (option_map track_of o) 6 kinds.Unknown)
track_unknown n None f e = let same : f ≡ record { row = n; field = 6; kind = kinds.Unknown } = cc in ap (λ (g : RowFault). Err g) same
track_unknown n (Some j) f e = absurd cc

-- ---- a `placed` record, part by part

abbrev has_fields : List (List ℕ) → Bool
has_fields row = length row == 5 || length row == 7

abbrev has_name : Train → List ℕ
has_name t = t.name

abbrev put : Listed → ℕ → PlacedRun → Option TrackEnd → Judged Listed
put s k r e = says (record s { arrive = with_placed k (record r { came_by = e }) s.arrive })

abbrev with_end : Station → Listed → List (List ℕ) → ℕ → PlacedRun → Judged Listed
with_end station s row k r = judging.◌>>=◌ (end_in station (train_at s.arrive k) row) (put s k r)

abbrev with_units : Station → Listed → List (List ℕ) → ℕ → Judged Listed
with_units station s row k = judging.◌>>=◌ (units_in (train_at s.arrive k) row) (with_end station s row k)

abbrev with_number : Station → Listed → List (List ℕ) → Judged Listed
with_number station s row = judging.◌>>=◌ (named_in has_name s.arrive row 2) (with_units station s row)

-- behind the train's name
named : (n : ℕ) (station : Station) (s inside : Listed) (row : List (List ℕ)) (k : ℕ) → s ≡ inside → has_fields row ≡ true → Ok k ≡ answer n (named_in has_name inside.arrive row 2)
    → answer n (placed_of station s row) ≡ answer n (with_units station inside row k)
unfolding placed_of
named n station s inside row k same fields number =
    ap (λ x. answer n (placed_of station x row)) same
    ∙ part_ok n (must (has_fields row) 1 kinds.Fields) (λ _. with_number station inside row) tt (ap (λ b. answer n (must b 1 kinds.Fields)) fields)
    ∙ part_ok n (named_in has_name inside.arrive row 2) (with_units station inside row) k (sym number)

-- and behind its units
joined : (n : ℕ) (station : Station) (inside : Listed) (row : List (List ℕ)) (k : ℕ) (t : Train) (r : PlacedRun) → t ≡ train_at inside.arrive k → Ok r ≡ answer n (units_in t row)
    → answer n (with_units station inside row k) ≡ answer n (with_end station inside row k r)
joined n station inside row k t r is units =
    part_ok n (units_in (train_at inside.arrive k) row) (with_end station inside row k) r (subst (λ (x : Train). answer n (units_in x row) ≡ Ok r) is (sym units))

pub units_fail : (n : ℕ) (station : Station) (s inside : Listed) (row : List (List ℕ)) (k : ℕ) (t : Train) (f : RowFault) → s ≡ inside → has_fields row ≡ true
    → Ok k ≡ answer n (named_in has_name inside.arrive row 2) → t ≡ train_at inside.arrive k → Err f ≡ answer n (units_in t row) → answer n (placed_of station s row) ≡ Err f
units_fail n station s inside row k t f same fields number is fails =
    named n station s inside row k same fields number
    ∙ part_err n (units_in (train_at inside.arrive k) row) (with_end station inside row k) f (subst (λ (x : Train). answer n (units_in x row) ≡ Err f) is (sym fails))

pub end_fails : (n : ℕ) (station : Station) (s inside : Listed) (row : List (List ℕ)) (k : ℕ) (t : Train) (r : PlacedRun) (f : RowFault) → s ≡ inside → has_fields row ≡ true
    → Ok k ≡ answer n (named_in has_name inside.arrive row 2) → t ≡ train_at inside.arrive k → Ok r ≡ answer n (units_in t row) → Err f ≡ answer n (end_in station t row)
    → answer n (placed_of station s row) ≡ Err f
end_fails n station s inside row k t r f same fields number is units fails =
    named n station s inside row k same fields number
    ∙ joined n station inside row k t r is units
    ∙ part_err n (end_in station (train_at inside.arrive k) row) (put inside k r) f (subst (λ (x : Train). answer n (end_in station x row) ≡ Err f) is (sym fails))

pub placed_ok : (n : ℕ) (station : Station) (s inside : Listed) (row : List (List ℕ)) (k : ℕ) (t : Train) (r : PlacedRun) (end : Option TrackEnd) (items : List Train) → s ≡ inside
    → has_fields row ≡ true → Ok k ≡ answer n (named_in has_name inside.arrive row 2) → t ≡ train_at inside.arrive k → Ok r ≡ answer n (units_in t row)
    → Ok end ≡ answer n (end_in station t row) → items ≡ with_placed k (record r { came_by = end }) inside.arrive → answer n (placed_of station s row) ≡ Ok (record inside { arrive = items })
placed_ok n station s inside row k t r end items same fields number is units came more =
    named n station s inside row k same fields number
    ∙ joined n station inside row k t r is units
    ∙ part_ok n (end_in station (train_at inside.arrive k) row) (put inside k r) end (subst (λ (x : Train). answer n (end_in station x row) ≡ Ok end) is (sym came))
    ∙ ap (λ (x : List Train). Ok (record inside { arrive = x })) (sym more)
