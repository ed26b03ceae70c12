use Rattle.shunt_ruin.proofs.search.RuinSearch.ruin_track.Given as goal

abbrev pub decreases-left : goal.decreases-left
decreases-left l = l.left
