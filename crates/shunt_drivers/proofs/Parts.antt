-- Records of minutes and of duties, by what their parts say.
use Rattle.std.proofs.Common.{◌≡◌, ℕ, true, List, [], ◌∷◌, ◌++◌, length, sym, ap, subst, ◌∙◌}
use Rattle.std.specs.Prelude.{Ok, Err, Result}
use Rattle.shunt_rows.specs.declared.fault.RowFault.{RowFault}
use Rattle.shunt_rows.specs.defs.Checks.{Judged, answer, says}
use Rattle.shunt_rows.specs.defs.Checks as judging
use Rattle.shunt_rows.specs.defs.Fields.{is_within, fields_in}
use Rattle.shunt_rows.proofs.Answered.{passes_on}
use Rattle.shunt_rows.proofs.Joins.{part_ok, part_err}
use Rattle.shunt_instance.specs.declared.records.Station.{Station}
use Rattle.shunt_tracks.specs.declared.run.Event.{Event}
use Rattle.shunt_zones.specs.declared.ways.Way.{Way}
use Rattle.shunt_zones.specs.defs.ZonesFormat.{way_in}
use Rattle.shunt_drivers.specs.declared.records.Takes.{Takes}
use Rattle.shunt_drivers.specs.declared.records.Duty.{Duty}
use Rattle.shunt_drivers.specs.defs.CrewFormat.{CrewDraft, takes_in, takes_of}
use Rattle.shunt_drivers.specs.defs.RosterFormat.{driver_in, move_in, duty_by, duty_of, duties_of}

-- ---- minutes of a way

abbrev with_takes : CrewDraft → Takes → Judged CrewDraft
with_takes d t = says (record d { takes = d.takes ++ t ∷ [] })

abbrev with_way : CrewDraft → List (List ℕ) → Way → Judged CrewDraft
with_way d row way = judging.◌>>=◌ (takes_in d.takes way row) (with_takes d)

pub fields_fail : (n : ℕ) (s : Station) (d : CrewDraft) (row : List (List ℕ)) (e : RowFault) → Err e ≡ answer n (fields_in row 5 5) → answer n (takes_of s d row) ≡ Err e
unfolding takes_of
fields_fail n s d row e fails = part_err n (fields_in row 5 5) (λ _. judging.◌>>=◌ (way_in s row) (with_way d row)) e (sym fails)

-- behind its fields and its way
after_way : (n : ℕ) (s : Station) (d : CrewDraft) (row : List (List ℕ)) (way : Way) → is_within 5 5 (length row) ≡ true → Ok way ≡ answer n (way_in s row)
    → answer n (takes_of s d row) ≡ answer n (with_way d row way)
unfolding takes_of
after_way n s d row way five is = passes_on _ _ _ _ five (part_ok n (way_in s row) (with_way d row) way (sym is))

pub way_fails : (n : ℕ) (s : Station) (d : CrewDraft) (row : List (List ℕ)) (e : RowFault) → is_within 5 5 (length row) ≡ true → Err e ≡ answer n (way_in s row)
    → answer n (takes_of s d row) ≡ Err e
unfolding takes_of
way_fails n s d row e five fails = passes_on _ _ _ _ five (part_err n (way_in s row) (with_way d row) e (sym fails))

pub takes_fail : (n : ℕ) (s : Station) (d inside : CrewDraft) (row : List (List ℕ)) (way : Way) (takes : List Takes) (e : RowFault) → d ≡ inside → is_within 5 5 (length row) ≡ true
    → Ok way ≡ answer n (way_in s row)
    → takes ≡ inside.takes → Err e ≡ answer n (takes_in takes way row) → answer n (takes_of s d row) ≡ Err e
takes_fail n s d inside row way takes e same five is has fails =
    ap (λ x. answer n (takes_of s x row)) same ∙ after_way n s inside row way five is
    ∙ part_err n (takes_in inside.takes way row) (with_takes inside) e
    (ap (λ l. answer n (takes_in l way row)) (sym has) ∙ sym fails)

pub takes_ok : (n : ℕ) (s : Station) (d inside : CrewDraft) (row : List (List ℕ)) (way : Way) (takes items : List Takes) (t : Takes) → d ≡ inside
    → is_within 5 5 (length row) ≡ true
    → Ok way ≡ answer n (way_in s row)
    → takes ≡ inside.takes → Ok t ≡ answer n (takes_in takes way row) → items ≡ inside.takes ++ t ∷ [] → answer n (takes_of s d row) ≡ Ok (record inside { takes = items })
takes_ok n s d inside row way takes items t same five is has reads more =
    ap (λ x. answer n (takes_of s x row)) same ∙ after_way n s inside row way five is
    ∙ part_ok n (takes_in inside.takes way row) (with_takes inside) t
    (ap (λ l. answer n (takes_in l way row)) (sym has) ∙ sym reads)
    ∙ ap (λ l. Ok (record inside { takes = l })) (sym more)

-- ---- one more duty

abbrev with_driver : List Event → List Duty → List (List ℕ) → ℕ → Judged Duty
with_driver moves duties row driver = judging.◌>>=◌ (move_in moves duties row) (λ e. says (duty_by driver e))

pub driver_fails : (n : ℕ) (moves : List Event) (duties : List Duty) (row : List (List ℕ)) (e : RowFault) → answer n (driver_in duties row) ≡ Err e
    → answer n (duty_of moves duties row) ≡ Err e
unfolding duty_of
driver_fails n moves duties row e is = part_err n (driver_in duties row) (with_driver moves duties row) e is

pub move_fails : (n : ℕ) (moves : List Event) (duties : List Duty) (row : List (List ℕ)) (driver : ℕ) (e : RowFault) → answer n (driver_in duties row) ≡ Ok driver
    → answer n (move_in moves duties row) ≡ Err e → answer n (duty_of moves duties row) ≡ Err e
unfolding duty_of
move_fails n moves duties row driver e is fails = part_ok n (driver_in duties row) (with_driver moves duties row) driver is
    ∙ part_err n (move_in moves duties row) (λ m. says (duty_by driver m)) e fails

pub duty_is : (n : ℕ) (moves : List Event) (duties : List Duty) (row : List (List ℕ)) (driver : ℕ) (m : Event) → answer n (driver_in duties row) ≡ Ok driver
    → answer n (move_in moves duties row) ≡ Ok m → answer n (duty_of moves duties row) ≡ Ok (duty_by driver m)
unfolding duty_of
duty_is n moves duties row driver m is moved = part_ok n (driver_in duties row) (with_driver moves duties row) driver is
    ∙ part_ok n (move_in moves duties row) (λ m. says (duty_by driver m)) m moved

-- the same duties, by another word for them
pub seen_as : (n : ℕ) (moves : List Event) (row : List (List ℕ)) (seen duties : List Duty) (r : Result Duty RowFault) → seen ≡ duties → r ≡ answer n (duty_of moves seen row)
    → answer n (duty_of moves duties row) ≡ r
seen_as n moves row seen duties r same is = subst (λ x. answer n (duty_of moves x row) ≡ r) same (sym is)

pub one_more : (n : ℕ) (moves : List Event) (duties more : List Duty) (row : List (List ℕ)) (d : Duty) → answer n (duty_of moves duties row) ≡ Ok d → more ≡ duties ++ d ∷ []
    → answer n (duties_of moves duties row) ≡ Ok more
unfolding duties_of
one_more n moves duties more row d is push = part_ok n (duty_of moves duties row) (λ d. says (duties ++ d ∷ [])) d is ∙ ap (λ l. Ok l) (sym push)

pub none_more : (n : ℕ) (moves : List Event) (duties : List Duty) (row : List (List ℕ)) (e : RowFault) → answer n (duty_of moves duties row) ≡ Err e
    → answer n (duties_of moves duties row) ≡ Err e
unfolding duties_of
none_more n moves duties row e is = part_err n (duty_of moves duties row) (λ d. says (duties ++ d ∷ [])) e is
