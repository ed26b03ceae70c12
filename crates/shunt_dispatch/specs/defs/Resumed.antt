-- What the files of `resume` state, and its answer.
use Rattle.std.specs.Prelude.{◌≡◌, ◌⊎◌, ◌↔◌, ℕ, IsTrue, List, [], ◌∷◌, length, Some, Result, Ok}
use Rattle.shunt_lists.specs.defs.Members.{In}
use Rattle.shunt_store.specs.defs.Files.{Files, content}
use Rattle.shunt_rows.specs.defs.Records.{text_of_rows}
use Rattle.shunt_instance.specs.declared.records.Timetable.{Timetable}
use Rattle.shunt_instance.specs.defs.Instance.{Night}
use Rattle.shunt_timetable.specs.defs.WrittenRows as timetable_rows
use Rattle.shunt_blocks.specs.declared.records.Block.{Block}
use Rattle.shunt_blocks.specs.declared.records.Park.{Park}
use Rattle.shunt_blocks.specs.defs.Shapes.{shape_of}
use Rattle.shunt_blocks.specs.defs.Ways.{has_placed}
use Rattle.shunt_blocks.specs.defs.Lists.{IsFeasible, total_cost}
use Rattle.shunt_blocks.specs.defs.Pins.{AreUsable, Keeps}
use Rattle.shunt_plan.specs.declared.records.Plan.{Plan}
use Rattle.shunt_plan.specs.defs.PinsRows.{rows_of_pins}
use Rattle.shunt_audit.specs.defs.Plans.{ArePlanFindings}
use Rattle.shunt_resume.specs.defs.Resumed.{resumed, has_gone_by, gone, tally_of, IsPlacedAsItIs, LeaveAsItCame}
use Rattle.shunt_report.specs.defs.ResumedTexts.{resumed_of}
use Rattle.shunt_inputs.specs.declared.answers.Outcome.TheVariants as outcome
use Rattle.shunt_inputs.specs.declared.pins.Pinned.{Pinned}
use Rattle.shunt_inputs.specs.defs.Inputs.{then_stated, stated_plan, stated_whole}
use Rattle.shunt_inputs.specs.defs.Replies.{Reply}
use Rattle.shunt_judging.specs.defs.Audited.{IsClean, IsFaulty}

-- a night with its timetable in the order of its file, and a plan in it
pub record Resumable : Type 0 where
  pub timetable : Timetable
  pub night : Night
  pub plan : Plan

-- those that a station file, a timetable file and a plan file state, or the line for the first of them that isn't accepted
unfoldable pub stated_resumption : List ℕ → List ℕ → List ℕ → Result Resumable (List ℕ)
stated_resumption s t p = then_stated (stated_whole s t) (λ x. then_stated (stated_plan x.instance p) (λ plan.
    Ok (record { timetable = x.timetable; night = x.instance; plan = plan })))

-- the same of what the files of these names hold
abbrev pub resumption_in : List ℕ → List ℕ → List ℕ → Files → Result Resumable (List ℕ)
resumption_in s t p files = stated_resumption (content files s) (content files t) (content files p)

-- the timetable from a minute on, and the pins
abbrev pub next_timetable : ℕ → Resumable → Timetable
next_timetable m x = resumed x.night m x.plan.blocks x.timetable

abbrev pub next_pins : ℕ → Resumable → List Block
next_pins m x = gone x.night m x.plan.blocks

-- the answer of `resume` on a plan without findings, by the names of the new files: both are written, and how much has come and gone is printed
pub record HasRest (m : ℕ) (n i : List ℕ) (x : Resumable) (r : Reply) : Type 0 where
  pub none : ArePlanFindings x.night x.plan []
  pub outcome : r.outcome ≡ outcome.Done
  pub writes : r.writes ≡ (n, text_of_rows (timetable_rows.rows_of x.night.station (next_timetable m x)))
      ∷ (i, text_of_rows (rows_of_pins x.night (next_pins m x))) ∷ []
  pub text : r.text ≡ resumed_of m (tally_of (next_timetable m x)).parked (tally_of (next_timetable m x)).cleared (length (next_pins m x))

-- The night of a timetable that was written, and of pins, is the rest of the night of a plan from a minute on. The plan is feasible in it, states its cost
-- and keeps the pins, which are usable, and are exactly its blocks that have gone. Each feasible plan of the rest is one of the whole night, at the
-- same cost, so that a bound of the whole night is one of the rest. It leaves what has come as the plan has it, and all that do so are plans of the
-- rest; in it each parked block with a unit that has come is what came, on its track by its side.
pub record GoesOn (m : ℕ) (x : Night × Plan) (y : Pinned) : Type 0 where
  pub clean : IsClean (y.instance, x.1)
  pub usable : AreUsable y.instance y.pins
  pub keeps : Keeps x.1.blocks y.pins
  pub pins : (b : Block) → In b y.pins ↔ (In b x.1.blocks × IsTrue (has_gone_by x.0 m b))
  pub feasible : (blocks : List Block) → IsFeasible y.instance blocks → IsFeasible x.0 blocks
  pub cost : (blocks : List Block) → IsFeasible y.instance blocks → total_cost x.0 blocks ≡ total_cost y.instance blocks
  pub leave : (blocks : List Block) → IsFeasible y.instance blocks → LeaveAsItCame x.0 m x.1.blocks blocks
  pub all : (blocks : List Block) → IsFeasible x.0 blocks → LeaveAsItCame x.0 m x.1.blocks blocks → IsFeasible y.instance blocks
  pub stays : (blocks : List Block) (b : Block) (k : Park) → IsFeasible y.instance blocks → In b blocks → b.park ≡ Some k
      → IsTrue (has_placed y.instance (shape_of b)) → IsPlacedAsItIs y.instance b k

-- the answer of `resume` on a plan
abbrev pub IsResumed : ℕ → List ℕ → List ℕ → Resumable → Reply → Type 0
IsResumed m n i x r = IsFaulty (x.night, x.plan) r ⊎ HasRest m n i x r
