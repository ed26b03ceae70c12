-- What the files of `follow` state, and its answer.
use Rattle.std.specs.Prelude.{◌≡◌, ℕ, List, Result, Ok}
use Rattle.shunt_store.specs.defs.Files.{Files, content}
use Rattle.shunt_instance.specs.declared.records.Station.{Station}
use Rattle.shunt_sheet.specs.declared.records.Order.{Order}
use Rattle.shunt_sheet.specs.declared.records.Followed.{Followed}
use Rattle.shunt_sheet.specs.declared.records.Followed.TheVariants as answers
use Rattle.shunt_sheet.specs.defs.FollowedOrders.{followed}
use Rattle.shunt_report.specs.defs.SheetTexts.{followed_of}
use Rattle.shunt_inputs.specs.declared.answers.Outcome.{Outcome}
use Rattle.shunt_inputs.specs.declared.answers.Outcome.TheVariants as outcome
use Rattle.shunt_inputs.specs.defs.Inputs.{stated_sheet, stated_station, then_stated}
use Rattle.shunt_inputs.specs.defs.Replies.{Reply, says}

-- a station, and the orders that are to be followed on its tracks
pub record Followable : Type 0 where
  pub station : Station
  pub orders : List Order

-- those that a station file and a sheet file state, or the line for the first of them that isn't accepted
abbrev pub stated_following : List ℕ → List ℕ → Result Followable (List ℕ)
stated_following s o = then_stated (stated_station s) (λ station. then_stated (stated_sheet station o) (λ orders. Ok (record { station = station; orders = orders })))

-- the same of what the files of these names hold
abbrev pub following_in : List ℕ → List ℕ → Files → Result Followable (List ℕ)
following_in s o files = stated_following (content files s) (content files o)

-- orders end well that can all be followed
abbrev pub followed_outcome : Followed → Outcome
followed_outcome (answers.Through left) = outcome.Done
followed_outcome (answers.Blocked number) = outcome.Findings
followed_outcome (answers.Over number load) = outcome.Findings

-- the answer of `follow` on orders: what following them comes to is printed
abbrev pub IsFollowed : Followable → Reply → Type 0
IsFollowed x r = r ≡ says (followed_outcome (followed x.station x.orders)) (followed_of x.orders (followed x.station x.orders))

-- all orders can be followed, one after the other, with some blocks left
abbrev pub GoesThrough : Followable → Type 0
GoesThrough x = (left : ℕ) × (followed x.station x.orders ≡ answers.Through left)
