-- The record of a zone over a way, by what its parts say.
use Rattle.std.proofs.Common.{◌≡◌, ℕ, true, List, [], ◌∷◌, ◌++◌, length, sym, ap, ◌∙◌}
use Rattle.std.specs.Prelude.{Ok, Err}
use Rattle.shunt_rows.specs.declared.fault.RowFault.{RowFault}
use Rattle.shunt_rows.specs.defs.Checks.{Judged, answer, says}
use Rattle.shunt_rows.specs.defs.Checks as judging
use Rattle.shunt_rows.specs.defs.Fields.{is_within, fields_in}
use Rattle.shunt_rows.proofs.Answered.{passes_on}
use Rattle.shunt_rows.proofs.Joins.{part_ok, part_err}
use Rattle.shunt_instance.specs.declared.records.Station.{Station}
use Rattle.shunt_zones.specs.declared.records.Over.{Over}
use Rattle.shunt_zones.specs.declared.records.Zones.{Zones}
use Rattle.shunt_zones.specs.declared.ways.Way.{Way}
use Rattle.shunt_zones.specs.defs.ZonesFormat.{way_in, over_in, over_of}

abbrev with_over : Zones → Over → Judged Zones
with_over z o = says (record z { over = z.over ++ o ∷ [] })

abbrev with_way : Zones → List (List ℕ) → Way → Judged Zones
with_way z row way = judging.◌>>=◌ (over_in z.names z.over way row) (with_over z)

pub fields_fail : (n : ℕ) (s : Station) (z : Zones) (row : List (List ℕ)) (e : RowFault) → Err e ≡ answer n (fields_in row 5 5) → answer n (over_of s z row) ≡ Err e
unfolding over_of
fields_fail n s z row e fails = part_err n (fields_in row 5 5) (λ _. judging.◌>>=◌ (way_in s row) (with_way z row)) e (sym fails)

-- behind its fields and its way
after_way : (n : ℕ) (s : Station) (z : Zones) (row : List (List ℕ)) (way : Way) → is_within 5 5 (length row) ≡ true → Ok way ≡ answer n (way_in s row)
    → answer n (over_of s z row) ≡ answer n (with_way z row way)
unfolding over_of
after_way n s z row way five is = passes_on _ _ _ _ five (part_ok n (way_in s row) (with_way z row) way (sym is))

pub way_fails : (n : ℕ) (s : Station) (z : Zones) (row : List (List ℕ)) (e : RowFault) → is_within 5 5 (length row) ≡ true → Err e ≡ answer n (way_in s row)
    → answer n (over_of s z row) ≡ Err e
unfolding over_of
way_fails n s z row e five fails = passes_on _ _ _ _ five (part_err n (way_in s row) (with_way z row) e (sym fails))

pub over_fails : (n : ℕ) (s : Station) (z inside : Zones) (row : List (List ℕ)) (way : Way) (names : List (List ℕ)) (over : List Over) (e : RowFault) → z ≡ inside
    → is_within 5 5 (length row) ≡ true → Ok way ≡ answer n (way_in s row)
    → names ≡ inside.names → over ≡ inside.over → Err e ≡ answer n (over_in names over way row) → answer n (over_of s z row) ≡ Err e
over_fails n s z inside row way names over e same five is of has fails =
    ap (λ x. answer n (over_of s x row)) same ∙ after_way n s inside row way five is
    ∙ part_err n (over_in inside.names inside.over way row) (with_over inside) e
    (ap (λ l. answer n (over_in l inside.over way row)) (sym of) ∙ ap (λ l. answer n (over_in names l way row)) (sym has) ∙ sym fails)

pub over_ok : (n : ℕ) (s : Station) (z inside : Zones) (row : List (List ℕ)) (way : Way) (names : List (List ℕ)) (over items : List Over) (o : Over) → z ≡ inside
    → is_within 5 5 (length row) ≡ true → Ok way ≡ answer n (way_in s row)
    → names ≡ inside.names → over ≡ inside.over → Ok o ≡ answer n (over_in names over way row) → items ≡ inside.over ++ o ∷ []
    → answer n (over_of s z row) ≡ Ok (record inside { over = items })
over_ok n s z inside row way names over items o same five is of has reads more =
    ap (λ x. answer n (over_of s x row)) same ∙ after_way n s inside row way five is
    ∙ part_ok n (over_in inside.names inside.over way row) (with_over inside) o
    (ap (λ l. answer n (over_in l inside.over way row)) (sym of) ∙ ap (λ l. answer n (over_in names l way row)) (sym has) ∙ sym reads)
    ∙ ap (λ l. Ok (record inside { over = l })) (sym more)
