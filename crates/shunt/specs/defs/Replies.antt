-- The defined answer of a command, over the contents of its files.
use Rattle.std.specs.Prelude.{ℕ, List, Option, Result}
use Rattle.std.specs.Result.{result_err}
use Rattle.shunt_store.specs.defs.Files.{Files}
use Rattle.shunt_inputs.specs.defs.Inputs.{Agrees}
use Rattle.shunt_inputs.specs.defs.Replies.{Reply, Decided}
use Rattle.shunt.specs.defs.Calls.{Call}
use Rattle.shunt.specs.defs.Commands.{row_of}

-- what the input files of a command state together
abbrev pub Value : Call → Type 0
Value c = (row_of c).Value

-- the value that they state, judged in the order of the words, or the line for the first of them that isn't accepted
abbrev pub stated_in : (c : Call) → Files → Result (Value c) (List ℕ)
stated_in c = (row_of c).stated

-- the line for the first input file that isn't accepted
abbrev pub refused : Call → Files → Option (List ℕ)
refused c files = result_err (stated_in c files)

-- the answer of a command on what its input files state
abbrev pub IsAnswer : (c : Call) → Value c → Reply → Type 0
IsAnswer c = (row_of c).IsAnswer

-- the defined answer of a command: the first input file that isn't accepted decides, else the command's own answer
abbrev pub IsReply : Call → Files → Reply → Type 0
IsReply c files r = Decided (stated_in c files) (IsAnswer c) r

-- the reply is the defined answer over what the files hold, where that is told, or else over some contents of all files
abbrev pub IsReplyOver : Call → Option Files → Reply → Type 0
IsReplyOver c told r = (files : Files) × Agrees told files × IsReply c files r
