use Rattle.std.proofs.Common.{◌≡◌, ◌↔◌, ◌≤◌, take}
use Rattle.shunt_store.specs.defs.Files.{BothTold}
use Rattle.shunt_instance.specs.defs.Instance.{Night}
use Rattle.shunt_proof.specs.defs.Certificates.{case_total}
use Rattle.shunt_proof.specs.defs.Recorders.{Open}
use Rattle.shunt_search.proofs.replay.note_all.Given as goal

abbrev pub invariant-loop-node : goal.invariant-loop-node
invariant-loop-node g l =
    let R = g.R.Recorder in
    record {
      told : BothTold (R.told l.fn.recorder) (R.told l.recorder) (λ x y. y ≡ take l.node-index l.nodes);
      number : R.number l.recorder ≡ l.node-index;
      cases : R.cases l.recorder ≡ case_total (take l.node-index l.nodes);
      opened : R.stage l.recorder ≡ Open;
      own : (night : Night) → R.owns l.recorder night ↔ R.owns l.fn.recorder night;
      later : R.faults l.fn.recorder ≤ R.faults l.recorder;
      keeps : R.keeps l.fn.recorder l.recorder;
    }
