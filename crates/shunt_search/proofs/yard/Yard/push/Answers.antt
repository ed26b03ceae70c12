use Rattle.shunt_choices.proofs.Given.{PlaceLaws}
use Rattle.shunt_search.proofs.YardChanges.{few_path, may, is_new, few_stays, has_room, with_next}
use Rattle.shunt_search.proofs.yard.Yard.push.Goals as goal

pub settle-requires-clause-within : goal.settle-requires-clause-within
settle-requires-clause-within c =
    let laws : PlaceLaws = record { unit_in = c.places.ensures.unit_in; position_in = c.places.ensures.position_in } in
    let few = few_path c.few_blocks.ensures.most c.args.instance.now c.args.self.now.path c.units.result c.requires.yard.path c.units.ensures.exact c.units.ensures.few in
    (may c.args.instance.now laws c.args.self.now c.requires.yard few c.args.block c.requires.next).in_range.within

pub settle-requires-clause-lengths : goal.settle-requires-clause-lengths
settle-requires-clause-lengths c = c.requires.yard.stand.lengths

pub settle-requires-clause-new : goal.settle-requires-clause-new
settle-requires-clause-new c =
    let laws : PlaceLaws = record { unit_in = c.places.ensures.unit_in; position_in = c.places.ensures.position_in } in
    let few = few_path c.few_blocks.ensures.most c.args.instance.now c.args.self.now.path c.units.result c.requires.yard.path c.units.ensures.exact c.units.ensures.few in
    is_new c.args.instance.now laws c.args.self.now c.requires.yard few c.args.block c.requires.next

pub settle-requires-clause-few : goal.settle-requires-clause-few
settle-requires-clause-few c =
    let laws : PlaceLaws = record { unit_in = c.places.ensures.unit_in; position_in = c.places.ensures.position_in } in
    let few = few_path c.few_blocks.ensures.most c.args.instance.now c.args.self.now.path c.units.result c.requires.yard.path c.units.ensures.exact c.units.ensures.few in
    few_stays c.args.instance.now laws c.args.self.now c.requires.yard few c.args.block c.requires.next

pub settle-requires-clause-room : goal.settle-requires-clause-room
settle-requires-clause-room c =
    let laws : PlaceLaws = record { unit_in = c.places.ensures.unit_in; position_in = c.places.ensures.position_in } in
    let few = few_path c.few_blocks.ensures.most c.args.instance.now c.args.self.now.path c.units.result c.requires.yard.path c.units.ensures.exact c.units.ensures.few in
    has_room c.args.instance.now laws c.args.self.now c.requires.yard few c.args.block c.requires.next c.few_blocks.ensures.fewer

pub push-requires-clause-in_range : goal.push-requires-clause-in_range
push-requires-clause-in_range c =
    let laws : PlaceLaws = record { unit_in = c.places.ensures.unit_in; position_in = c.places.ensures.position_in } in
    let few = few_path c.few_blocks.ensures.most c.args.instance.now c.args.self.now.path c.units.result c.requires.yard.path c.units.ensures.exact c.units.ensures.few in
    (may c.args.instance.now laws c.args.self.now c.requires.yard few c.args.block c.requires.next).in_range

pub push-requires-clause-next : goal.push-requires-clause-next
push-requires-clause-next c =
    let laws : PlaceLaws = record { unit_in = c.places.ensures.unit_in; position_in = c.places.ensures.position_in } in
    let few = few_path c.few_blocks.ensures.most c.args.instance.now c.args.self.now.path c.units.result c.requires.yard.path c.units.ensures.exact c.units.ensures.few in
    (may c.args.instance.now laws c.args.self.now c.requires.yard few c.args.block c.requires.next).next

pub push-requires-clause-units : goal.push-requires-clause-units
push-requires-clause-units c =
    let laws : PlaceLaws = record { unit_in = c.places.ensures.unit_in; position_in = c.places.ensures.position_in } in
    let few = few_path c.few_blocks.ensures.most c.args.instance.now c.args.self.now.path c.units.result c.requires.yard.path c.units.ensures.exact c.units.ensures.few in
    (may c.args.instance.now laws c.args.self.now c.requires.yard few c.args.block c.requires.next).units

pub push-requires-clause-positions : goal.push-requires-clause-positions
push-requires-clause-positions c =
    let laws : PlaceLaws = record { unit_in = c.places.ensures.unit_in; position_in = c.places.ensures.position_in } in
    let few = few_path c.few_blocks.ensures.most c.args.instance.now c.args.self.now.path c.units.result c.requires.yard.path c.units.ensures.exact c.units.ensures.few in
    (may c.args.instance.now laws c.args.self.now c.requires.yard few c.args.block c.requires.next).positions

pub returns-clause-yard : goal.returns-clause-yard
returns-clause-yard c =
    let laws : PlaceLaws = record { unit_in = c.places.ensures.unit_in; position_in = c.places.ensures.position_in } in
    let few = few_path c.few_blocks.ensures.most c.args.instance.now c.args.self.now.path c.units.result c.requires.yard.path c.units.ensures.exact c.units.ensures.few in
    with_next c.args.instance.now laws c.args.self.now c.requires.yard few c.args.block c.requires.next c.push.new.self c.settle.new.timelines c.push.ensures.new c.push.ensures.of
    c.settle.ensures.lengths c.settle.ensures.stays c.settle.ensures.count c.settle.ensures.room c.requires.through
