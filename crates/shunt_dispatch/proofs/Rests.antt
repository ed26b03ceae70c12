-- The rest of a night that is made of its station and a timetable: its timetable, the two files and what is printed.
use Rattle.std.specs.Prelude.{map}
use Rattle.std.proofs.Common.{◌≡◌, ℕ, List, [], ◌∷◌, length, sym, ap, subst, ◌∙◌}
use Rattle.shunt_instance.specs.declared.records.Station.{Station}
use Rattle.shunt_instance.specs.declared.records.Timetable.{Timetable}
use Rattle.shunt_instance.specs.defs.Instance.{Night, night_of}
use Rattle.shunt_instance.specs.defs.Wellformed.{IsStation, IsTimetable}
use Rattle.shunt_blocks.specs.declared.records.Block.{Block}
use Rattle.shunt_blocks.specs.defs.Lists.{IsFeasible}
use Rattle.shunt_resume.specs.defs.Resumed.{resumed, tally_of}
use Rattle.shunt_report.specs.defs.ResumedTexts.{resumed_of}
use Rattle.shunt_inputs.specs.declared.answers.FileText.{FileText}
use Rattle.shunt_inputs.specs.defs.Replies.{pair_of}

-- what has come of a feasible plan makes a well-formed timetable
abbrev StaysFormed : Type 0
StaysFormed = (s : Station) (t : Timetable) (m : ℕ) (blocks : List Block) → IsStation s → IsTimetable s t → IsFeasible (night_of s t) blocks
    → IsTimetable s (resumed (night_of s t) m blocks t)

module _ (night : Night) (table next : Timetable) (m : ℕ) (blocks slice : List Block) (same : slice ≡ blocks) (is : next ≡ resumed night m slice table) where
  pub next_is : next ≡ resumed night m blocks table
  next_is = is ∙ ap (λ (bs : List Block). resumed night m bs table) same

  pub next_formed : StaysFormed → night ≡ night_of night.station table → IsStation night.station → IsTimetable night.station table → IsFeasible night blocks
      → IsTimetable night.station next
  next_formed stays of station timetable feasible =
      let there = stays night.station table m blocks station timetable (subst (λ (n : Night). IsFeasible n blocks) of feasible) in
      subst (IsTimetable night.station) (sym (next_is ∙ ap (λ (n : Night). resumed n m blocks table) of)) there

-- two files, of which each holds a text
pub rest_writes : (writes : List FileText) (first second : FileText) (n i a b x y : List ℕ) → map pair_of writes ≡ pair_of first ∷ pair_of second ∷ []
    → pair_of first ≡ (n, a) → pair_of second ≡ (i, b) → a ≡ x → b ≡ y → map pair_of writes ≡ (n, x) ∷ (i, y) ∷ []
rest_writes writes first second n i a b x y are one two p q =
    are ∙ ap (λ (w : List ℕ × List ℕ). w ∷ pair_of second ∷ []) (one ∙ ap (λ (t : List ℕ). (n, t)) p)
    ∙ ap (λ (w : List ℕ × List ℕ). (n, x) ∷ w ∷ []) (two ∙ ap (λ (t : List ℕ). (i, t)) q)

-- the line of what has come and gone
pub rest_line : (m : ℕ) (next table : Timetable) (pins gone : List Block) (text : List ℕ) → text ≡ resumed_of m (tally_of next).parked (tally_of next).cleared (length pins)
    → next ≡ table → pins ≡ gone → text ≡ resumed_of m (tally_of table).parked (tally_of table).cleared (length gone)
rest_line m next table pins gone text is same are =
    is ∙ ap (λ (t : Timetable). resumed_of m (tally_of t).parked (tally_of t).cleared (length pins)) same
    ∙ ap (λ (bs : List Block). resumed_of m (tally_of table).parked (tally_of table).cleared (length bs)) are
