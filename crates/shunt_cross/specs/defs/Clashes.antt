-- Clashes of stays.
use Rattle.std.specs.Prelude.{ℕ, List}
use Rattle.shunt_base.specs.declared.keys.Stay.{Stay}
use Rattle.shunt_stays.specs.defs.Crossings.{pairs_in, overs_in}
use Rattle.shunt_tracks.specs.declared.run.Ran.{Ran}
use Rattle.shunt_tracks.specs.declared.run.Ran.TheVariants.{Through, Blocked, Over}
use Rattle.shunt_cross.specs.declared.clash.Clash.{Clash}

-- how many pairs of these stays cross, and how many entries leave more than their track's length
abbrev pub clash_of : List ℕ → List Stay → Clash
clash_of lengths stays = record { pairs = pairs_in stays; over = overs_in lengths stays }

-- no pair, and no entry
abbrev pub no_clash : Clash
no_clash = record { pairs = 0; over = 0 }

-- each event was done
abbrev pub IsThrough : Ran → Type 0
IsThrough (Through steps) = Unit {0}
IsThrough (Blocked event) = ⊥
IsThrough (Over event load) = ⊥
