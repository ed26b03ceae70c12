use Rattle.std.proofs.Common.{◌≡◌, ◌↔◌, ◌≤◌, ◌-◌}
use Rattle.shunt_instance.specs.defs.Instance.{Night}
use Rattle.shunt_proof.specs.defs.Recorders.{Open}
use Rattle.shunt_search.specs.defs.Judges.{version_of}
use Rattle.shunt_search.specs.defs.SearchStates.{IsSearch, TellsOn}
use Rattle.shunt_search.proofs.search.walk_on.Given as goal

abbrev pub invariant-walk : goal.invariant-walk
invariant-walk g l =
    let R = g.R.Recorder in
    record {
      search : IsSearch (version_of l.guide.judge) l.instance l.pins l.guide.tree.stock.items (R.told l.recorder) (R.number l.recorder)
          (R.cases l.recorder) l.search.waiting.items l.search;
      plain : l.search.plain ≡ l.fn.search.plain;
      floor : l.search.floor ≡ l.fn.search.floor;
      cheaper : l.search.known.cost ≤ l.fn.search.known.cost;
      tells : TellsOn (R.told l.fn.recorder) (R.told l.recorder);
      number : l.count ≡ R.number l.recorder;
      few : l.count ≤ l.nodes;
      opened : R.stage l.recorder ≡ Open;
      own : (night : Night) → R.owns l.recorder night ↔ R.owns l.fn.recorder night;
      later : R.faults l.fn.recorder ≤ R.faults l.recorder;
      keeps : R.keeps l.fn.recorder l.recorder;
    }

abbrev pub decreases-walk : goal.decreases-walk
decreases-walk g l = l.nodes - l.count
