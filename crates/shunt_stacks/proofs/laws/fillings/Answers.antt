use Rattle.std.specs.Prelude.{filter}
use Rattle.shunt_choices.proofs.Given.{PlaceLaws}
use Rattle.shunt_stacks.proofs.Parts.{part_filter}
use Rattle.shunt_stacks.proofs.Clashes.{ClashLaws, clashes}
use Rattle.shunt_stacks.proofs.Filled.{behind, empty, part_fills}
use Rattle.shunt_stacks.proofs.Rises.{with_block, without_block, shorter}
use Rattle.shunt_stacks.proofs.laws.fillings.Goals as goal

pub returns : goal.returns
returns c =
    let places : PlaceLaws = record { unit_in = c.places.ensures.unit_in; position_in = c.places.ensures.position_in } in
    let law = c.ids_do_not_matter.ensures.placed_part in
    let laws : ClashLaws = record {
      places = places;
      stays = c.stays_of_blocks.ensures.stays;
      tracks = c.stays_of_blocks.ensures.tracks;
      stand = c.stays_of_blocks.ensures.placed;
      clash = c.clash_law.ensures.law;
    } in
    record {
      clash = λ night path filling stack i within apart free few. clashes laws night path filling stack i within apart free few;
      none = λ night path stack i within apart go. empty law night i path within apart stack go;
      behind = λ night path rest stack i within fits apart go. behind places law night i path rest within fits apart go stack;
      shorter = λ night path filling b stack i within apart free fill. shorter places law night i path b within apart free stack filling fill;
      with_block = λ night path filling b stack i within apart free of. (
        λ fill. with_block places law night i path b within apart free stack filling of fill,
        λ fill. without_block places law night i path b within apart free stack filling of fill,
      );
      some = λ night path filling stack test i within apart fill. part_fills places law night i path within apart stack filling fill (filter test filling)
          (part_filter night test filling);
    }
