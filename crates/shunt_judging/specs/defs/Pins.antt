-- What is told of pins that aren't usable.
use Rattle.std.specs.Prelude.{◌≡◌, ◌≢◌, List, [], Option, Some, None}
use Rattle.shunt_instance.specs.defs.Instance.{Night}
use Rattle.shunt_blocks.specs.declared.records.Block.{Block}
use Rattle.shunt_blocks.specs.defs.Lists.{total_cost}
use Rattle.shunt_blocks.specs.defs.Pins.{AreUsable}
use Rattle.shunt_audit.specs.defs.Pins.{pin_findings}
use Rattle.shunt_report.specs.defs.FindingTexts.{findings_of}
use Rattle.shunt_inputs.specs.declared.answers.Answer.{Answer}
use Rattle.shunt_inputs.specs.declared.answers.Outcome.TheVariants as outcome
use Rattle.shunt_inputs.specs.defs.Replies.{Reply, reply_of, says}

-- the answer on pins that aren't usable: their findings but those of bare units and positions, and what the pins cost, are printed
pub record IsUnusable (night : Night) (pins : List Block) (r : Reply) : Type 0 where
  pub some : pin_findings night pins ≢ []
  pub reply : r ≡ says outcome.Findings (findings_of night (pin_findings night pins) (total_cost night pins))

-- that answer on pins that aren't usable, and none on pins that are
abbrev pub PinFaults : Night → List Block → Option Answer → Type 0
PinFaults night pins (Some a) = IsUnusable night pins (reply_of a)
PinFaults night pins None = AreUsable night pins
