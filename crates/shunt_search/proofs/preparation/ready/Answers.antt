use Rattle.std.proofs.Common.{w64, to_z, of_z, ℤ, List, sym, subst, arith, ◌∙◌}
use Rattle.std.proofs.lemmas.Int.{to_z-of_z, to_z_pos}
use Rattle.std.proofs.lemmas.List.Sorted.{length_permutation}
use Rattle.shunt_base.specs.declared.duals.Case.{Case}
use Rattle.shunt_proof.specs.defs.Nodes.{AreStatable}
use Rattle.shunt_proof.specs.defs.Versions.{HoldIn}
use Rattle.shunt_search.specs.defs.Judges.{version_of}
use Rattle.shunt_search.specs.defs.Roots.{IsAbove, IsFloor}
use Rattle.shunt_search.proofs.preparation.ready.Goals as goal

pub take_proposed-requires-clause-even : goal.take_proposed-requires-clause-even
take_proposed-requires-clause-even g c = c.requires.even

pub returns-clause-fresh : goal.returns-clause-fresh
returns-clause-fresh g c =
    let night = c.args.instance.now in
    let path = c.args.yard.path in
    let root = c.requires.root in
    let floor = c.floor-floor.result in
    let root_is = sym c.in_ok-tree.ensures.root in
    let small = c.requires.small in
    let opening = c.requires.opening in
    let last = c.in_ok-take_proposed.ensures.cheaper in
    record {
      usable = c.requires.usable;
      even = c.requires.even;
      begins = c.requires.start;
      stocked = c.in_ok-tree.ensures.stock;
      rooted = record {
        statable = subst (λ (l : List Case). AreStatable night l) root_is root.rooted.statable;
        hold = subst (λ (l : List Case). HoldIn (version_of c.args.judge) night path.blocks l) root_is root.rooted.hold;
        floor = root.rooted.floor;
        assignment = root.rooted.assignment;
        above = subst (λ (l : List Case). IsAbove (version_of c.args.judge) night path.blocks l root.rooted.floor) root_is root.rooted.above;
      };
      lowest = subst (λ (l : List Case). IsFloor (version_of c.args.judge) night path.blocks l root.rooted.floor (to_z w64 (of_z w64 floor))) root_is
          (subst (λ (z : ℤ). IsFloor (version_of c.args.judge) night path.blocks c.args.root.cases root.rooted.floor z)
          (sym (to_z-of_z w64 floor (record { sfits = c.floor-floor.type_inv }) ∙ c.floor-floor.ensures)) root.low);
      yard = c.requires.yard;
      long = let many = c.requires.pins in let same = length_permutation c.args.pins.now path.blocks c.requires.start.same in omega (arith, many, same);
      best = c.in_ok-take_proposed.ensures.best;
      opening = omega (arith, last, opening);
      small = omega (arith, last, small);
      low = to_z_pos w64 c.take_proposed.new.known.cost (omega (arith, last, small));
      empty = c.new.ensures.items;
    }

pub returns-clause-floor : goal.returns-clause-floor
returns-clause-floor g c = to_z-of_z w64 c.floor-floor.result (record { sfits = c.floor-floor.type_inv }) ∙ c.floor-floor.ensures
