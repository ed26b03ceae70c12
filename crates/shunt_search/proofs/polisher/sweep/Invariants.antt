use Rattle.shunt_search.proofs.Swept.{IsSwept}
use Rattle.shunt_search.proofs.polisher.sweep.Given as goal

abbrev pub invariant-loop-place : goal.invariant-loop-place
invariant-loop-place l = IsSwept l.instance l.pins l.place l.initial.blocks l.blocks l.timelines l.changed
