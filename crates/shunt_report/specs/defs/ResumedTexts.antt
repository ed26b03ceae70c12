-- The printed text of a night that goes on.
use Rattle.std.specs.Prelude.{ℕ, List, ◌++◌, codes, decimal}
use Rattle.shunt_base.specs.defs.Spelling.{minute_text}

-- `resumed HH:MM placed A cleared B gone C`
unfoldable pub resumed_of : ℕ → ℕ → ℕ → ℕ → List ℕ
resumed_of minute a b n = codes "resumed " ++ minute_text minute ++ codes " placed " ++ decimal a ++ codes " cleared " ++ decimal b ++ codes " gone " ++ decimal n ++ codes "\n"
