-- Texts that are put together piece by piece, and drivers that are counted one by one.
use Rattle.std.proofs.Common.{◌≡◌, ℕ, ◌+◌, ◌-◌, ◌<◌, List, ◌∷◌, ◌++◌, length, get_or, take, drop, codes, decimal, sym, ap, ◌∙◌, arith}
use Rattle.std.specs.Prelude.{Option, Some}
use Rattle.std.proofs.lemmas.List.{append_assoc, drop_more, take_all, length-drop}
use Rattle.shunt_base.specs.defs.Spelling.{minute_text}
use Rattle.shunt_zones.specs.declared.records.ZoneLoad.{ZoneLoad}
use Rattle.shunt_drivers.specs.declared.records.Duty.{Duty}
use Rattle.shunt_report.specs.defs.ZonesTexts.{busiest_words, zone_line, zone_lines}
use Rattle.shunt_report.specs.defs.DriversTexts.{busy_words, newly, different_drivers}

-- the line of one more zone
pub one_zone : (names : List (List ℕ)) (loads : List ZoneLoad) (i : ℕ) (name d : List ℕ) (load l : ZoneLoad) (text more : List ℕ) → i < length names → i < length loads
    → name ≡ get_or names i d → load ≡ get_or loads i l
    → more ≡ text ++ zone_line name load → more ++ zone_lines (drop (i + 1) names) (drop (i + 1) loads) ≡ text ++ zone_lines (drop i names) (drop i loads)
one_zone names loads i name d load l text more lt within at on push =
    let rest = zone_lines (drop (i + 1) names) (drop (i + 1) loads) in
    ap (λ t. t ++ rest) (push ∙ ap (λ x. text ++ zone_line x load) at ∙ ap (λ x. text ++ zone_line (get_or names i d) x) on)
    ∙ append_assoc text (zone_line (get_or names i d) (get_or loads i l)) rest
    ∙ ap (λ t. text ++ t) (sym (ap (λ x. zone_lines x (drop i loads)) (drop_more names i d lt)
    ∙ ap (λ x. zone_lines (get_or names i d ∷ drop (i + 1) names) x) (drop_more loads i l within)))

-- the words where there is a minute
pub busy_written : (text first more : List ℕ) (busy : Option ℕ) (minute : ℕ) → busy ≡ Some minute → first ≡ text ++ codes " busy " → more ≡ first ++ minute_text minute
    → more ≡ text ++ busy_words busy
busy_written text first more busy minute is one two =
    two ∙ ap (λ t. t ++ minute_text minute) one ∙ append_assoc text (codes " busy ") (minute_text minute) ∙ ap (λ o. text ++ busy_words o) (sym is)

pub busiest_written : (text first second third more : List ℕ) (busiest : Option ℕ) (minute most : ℕ) → busiest ≡ Some minute → first ≡ text ++ codes " busiest "
    → second ≡ first ++ minute_text minute → third ≡ second ++ codes " "
    → more ≡ third ++ decimal most → more ≡ text ++ busiest_words busiest most
busiest_written text first second third more busiest minute most is one two three four =
    four
    ∙ ap (λ t. t ++ decimal most) (three ∙ ap (λ t. t ++ codes " ") (two ∙ ap (λ t. t ++ minute_text minute) one))
    ∙ append_assoc ((text ++ codes " busiest ") ++ minute_text minute) (codes " ") (decimal most)
    ∙ append_assoc (text ++ codes " busiest ") (minute_text minute) (codes " " ++ decimal most)
    ∙ append_assoc text (codes " busiest ") (minute_text minute ++ codes " " ++ decimal most)
    ∙ ap (λ o. text ++ busiest_words o most) (sym is)

-- the duties behind one
pub later_is : (duties : List Duty) (k : ℕ) → take (length duties - k) (drop k duties) ≡ drop k duties
later_is duties k = take_all (length duties - k) (drop k duties) (omega (arith, length-drop k duties))

-- one more duty is counted, where it is its driver's last
pub one_duty : (duties later : List Duty) (i : ℕ) (e : Duty) (different one whole : ℕ) → i < length duties → later ≡ drop (i + 1) duties
    → one ≡ newly later (get_or duties i e).driver
    → different + different_drivers (drop i duties) ≡ whole → different + one + different_drivers (drop (i + 1) duties) ≡ whole
one_duty duties later i e different one whole lt is new counted =
    let now : one ≡ newly (drop (i + 1) duties) (get_or duties i e).driver = new ∙ ap (λ l. newly l (get_or duties i e).driver) is in
    omega (arith, now, counted, ap different_drivers (drop_more duties i e lt))
