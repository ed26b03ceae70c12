use Rattle.std.proofs.Common.{List}
use Rattle.shunt_base.specs.declared.duals.Case.{Case}
use Rattle.shunt_fillings.specs.declared.candidates.Candidate.{Candidate}
use Rattle.shunt_fillings.specs.defs.Pieces.{seen, AreCandidates}
use Rattle.shunt_fillings.specs.defs.Besides.{IsTableAt, AreBesides}
use Rattle.shunt_fillings.proofs.besides.besides.Given as goal

abbrev pub invariant-shapes : goal.invariant-shapes
invariant-shapes l = record {
  table : (ks : List Candidate) → IsTableAt l.scene (seen l.stack) ks l.fn.table → IsTableAt l.scene (seen l.stack) ks l.table;
  each : (c : Case) (ks : List Candidate) → AreCandidates l.scene.instance.now l.scene.path.now.blocks c (seen l.stack) ks → IsTableAt l.scene (seen l.stack) ks l.fn.table
      → AreBesides l.scene.instance.now l.scene.path.now.blocks c (seen l.stack) l.besides.items;
}
