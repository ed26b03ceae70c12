use Rattle.shunt_blocks.specs.declared.records.Shape.{Shape}
use Rattle.shunt_fillings.proofs.Looked.{shapes_within}
use Rattle.shunt_fillings.proofs.besides.besides.Goals as goal

pub add_beside-requires-clause-shape : goal.add_beside-requires-clause-shape
add_beside-requires-clause-shape c =
    let d : Shape = record { arr = record { 0 = 0 }; p = 0; n = 0; dep = record { 0 = 0 }; q = 0 } in
    shapes_within c.args.scene.now c.requires.scene c.shapes.shape-index d c.shapes-test.true

pub shapes-preserved : goal.shapes-preserved
shapes-preserved c = record {
  table = λ ks is. c.in_ok-add_beside.ensures.table ks (c.shapes.invariant.table ks is);
  each = λ case ks are is. c.in_ok-add_beside.ensures.besides case ks are (c.shapes.invariant.table ks is) (c.shapes.invariant.each case ks are is);
}
