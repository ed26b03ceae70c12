use Rattle.std.proofs.Common.{◌≤◌, length}
use Rattle.shunt_choices.proofs.Given.{PlaceLaws}
use Rattle.shunt_search.proofs.Improved.{Laws}
use Rattle.shunt_search.proofs.YardChanges.{few_path, may, is_new, few_stays, runs_with}
use Rattle.shunt_search.proofs.yard.Yard.goes_through.Goals as goal

abbrev few : (c : goal.After-clash) → length c.args.self.now.path.blocks ≤ 160
few c = few_path c.few_blocks.ensures.most c.args.instance.now c.args.self.now.path c.units.result c.requires.yard.path c.units.ensures.exact c.units.ensures.few

abbrev places : goal.After-clash → PlaceLaws
places c = record { unit_in = c.places.ensures.unit_in; position_in = c.places.ensures.position_in }

pub goes_through-requires-clause-within : goal.goes_through-requires-clause-within
goes_through-requires-clause-within c = (may c.args.instance.now (places c) c.args.self.now c.requires.yard (few c) c.args.block.now c.requires.next).in_range.within

pub goes_through-requires-clause-lengths : goal.goes_through-requires-clause-lengths
goes_through-requires-clause-lengths c = c.requires.yard.stand.lengths

pub goes_through-requires-clause-new : goal.goes_through-requires-clause-new
goes_through-requires-clause-new c = is_new c.args.instance.now (places c) c.args.self.now c.requires.yard (few c) c.args.block.now c.requires.next

pub goes_through-requires-clause-few : goal.goes_through-requires-clause-few
goes_through-requires-clause-few c = few_stays c.args.instance.now (places c) c.args.self.now c.requires.yard (few c) c.args.block.now c.requires.next

pub returns : goal.returns
returns c =
    let night = c.args.instance.now in
    let L : Laws night = record {
      stays = λ blocks can. c.stays_of_blocks.ensures.stays night blocks c.units.ensures.formed can;
      tracks = λ blocks can.
          c.stays_of_blocks.ensures.tracks night blocks can;
      part = c.part_of_a_run.ensures.part;
    } in
    let n = c.args.self.now.path in
    let laws : PlaceLaws = record { unit_in = c.places.ensures.unit_in; position_in = c.places.ensures.position_in } in
    let few = few_path c.few_blocks.ensures.most night n c.units.result c.requires.yard.path c.units.ensures.exact c.units.ensures.few in
    let m = may night laws c.args.self.now c.requires.yard few c.args.block.now c.requires.next in
    let r = runs_with night laws c.args.self.now c.requires.yard few c.args.block.now c.requires.next L
    (c.stays_of_blocks.ensures.placed night _ c.units.ensures.formed m.within m.apart) c.clash.ensures.formed in
    (λ t. r.0 (c.goes_through.ensures.0 t), λ h. c.goes_through.ensures.1 (r.1 h))
