use mir.Syntax.{w64}
use mir.Val.{to_z, of_z}
use Rattle.std.specs.Prelude.{All}
use Rattle.std.proofs.Common.{◌≡◌, List, subst, sym, arith}
use Rattle.std.proofs.lemmas.Int.{ints}
use Rattle.shunt_blocks.specs.declared.records.Block.{Block}
use Rattle.shunt_blocks.specs.defs.Blocks.{IsBlockButId}
use Rattle.shunt_blocks.specs.defs.Lists.{ShareNothing, RunsThrough, placed}
use Rattle.shunt_prices.specs.defs.Sums.{IsWithin}
use Rattle.shunt_stacks.specs.defs.Fillings.{IsStackGain}
use Rattle.shunt_fillings.specs.defs.Pieces.{seen}
use Rattle.shunt_fillings.proofs.Looked.{few_tracks, offers_small, looked, candidates_at}
use Rattle.shunt_fillings.proofs.Joined.{table_moved}
use Rattle.shunt_fillings.proofs.prospects.prospect_of.Goals as goal

pub candidates-requires-clause-offers : goal.candidates-requires-clause-offers
candidates-requires-clause-offers c = offers_small c.args.scene.now c.requires.scene c.requires.offers.0 c.args.offers.now c.requires.offers.2

pub stack_gain-requires-clause-each : goal.stack_gain-requires-clause-each
stack_gain-requires-clause-each c = subst (All (IsBlockButId c.args.scene.now.instance.now)) (sym c.blocks-path.ensures) c.requires.scene.each

pub stack_gain-requires-clause-apart : goal.stack_gain-requires-clause-apart
stack_gain-requires-clause-apart c = subst (ShareNothing c.args.scene.now.instance.now) (sym c.blocks-path.ensures) c.requires.scene.path.apart

pub stack_gain-requires-clause-through : goal.stack_gain-requires-clause-through
stack_gain-requires-clause-through c = subst (λ (p : List Block). RunsThrough c.args.scene.now.instance.now (placed p)) (sym c.blocks-path.ensures) c.requires.scene.through

pub stack_gain-requires-clause-candidates : goal.stack_gain-requires-clause-candidates
stack_gain-requires-clause-candidates c =
    let s = c.args.scene.now in
    let first = c.requires.offers in
    let few = few_tracks c.station.result.now s.instance.now.station c.args.stack.track.0 c.station.ensures.exact c.station.ensures.station c.requires.track in
    let is = looked s c.requires.scene first.0 c.args.offers.now first.2 (seen c.args.stack) few c.in_ok-candidates.candidates.items c.in_ok-candidates.ensures in (
      first.0,
      first.1,
      candidates_at s.instance.now first.0 (seen c.args.stack) s.path.now.blocks c.blocks-path.result.now c.in_ok-candidates.candidates.items c.deref.result.now
          c.blocks-path.ensures c.deref.ensures.value is,
    )

pub besides-requires-clause-table : goal.besides-requires-clause-table
besides-requires-clause-table c = (
  c.in_ok-candidates.candidates.items,
  table_moved c.args.scene.now (seen c.args.stack) c.blocks-path.result.now c.deref.result.now c.in_ok-candidates.candidates.items c.in_ok-found.found.table
      c.blocks-path.ensures c.deref.ensures.value c.in_ok-found.ensures.table,
)

pub returns : goal.returns
returns c =
    let s = c.args.scene.now in
    let night = s.instance.now in
    let stack = seen c.args.stack in
    let few = few_tracks c.station.result.now night.station c.args.stack.track.0 c.station.ensures.exact c.station.ensures.station c.requires.track in
    let gain = c.in_ok-found.found.gain in
    let small = c.in_ok-found.ensures.small in
    let own : to_z w64 (of_z w64 gain) ≡ gain = omega (arith, ints, small.low, small.high) in
    λ case is are.
    let there = looked s c.requires.scene case c.args.offers.now are stack few c.in_ok-candidates.candidates.items c.in_ok-candidates.ensures in
    let here = candidates_at night case stack s.path.now.blocks c.blocks-path.result.now c.in_ok-candidates.candidates.items c.deref.result.now c.blocks-path.ensures
    c.deref.ensures.value there in
    record {
      candidates = there;
      gain = subst (IsStackGain night s.path.now.blocks case stack) (sym own) (subst (λ (p : List Block). IsStackGain night p case stack gain) c.blocks-path.ensures
          (c.in_ok-found.ensures.exact case here));
      small = subst (IsWithin 319999999999680) (sym own) small;
      besides = c.in_ok-besides.ensures case c.in_ok-candidates.candidates.items there
          (table_moved s stack c.blocks-path.result.now c.deref.result.now c.in_ok-candidates.candidates.items c.in_ok-found.found.table c.blocks-path.ensures
          c.deref.ensures.value c.in_ok-found.ensures.table);
    }
