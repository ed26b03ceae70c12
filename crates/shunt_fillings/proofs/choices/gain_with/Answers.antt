use mir.Syntax.{w64}
use mir.Val.{to_z, of_z}
use Rattle.std.specs.Prelude.{All}
use Rattle.std.proofs.Common.{◌≡◌, ◌∙◌, List, [], ◌∷◌, ◌++◌, ap, subst, sym, arith}
use Rattle.shunt_blocks.specs.declared.records.Block.{Block}
use Rattle.shunt_blocks.specs.defs.Shapes.{IsWithinTrains}
use Rattle.shunt_blocks.specs.defs.Blocks.{IsBlockButId}
use Rattle.shunt_blocks.specs.defs.Lists.{ShareNothing, RunsThrough, placed}
use Rattle.shunt_stacks.specs.defs.Fillings.{IsStackGain}
use Rattle.shunt_fillings.specs.declared.candidates.Candidate.{Candidate}
use Rattle.shunt_fillings.specs.defs.Pieces.{seen, blocks_in}
use Rattle.shunt_fillings.proofs.Tabled.{all_within}
use Rattle.shunt_fillings.proofs.Looked.{candidates_at}
use Rattle.shunt_fillings.proofs.Apart.{left, left_are, longer_each, longer_apart}
use Rattle.std.proofs.lemmas.Int.{ints}
use Rattle.shunt_lists.specs.defs.Members.{In}
use Rattle.shunt_prices.specs.defs.Sums.{IsWithin}
use Rattle.shunt_fillings.specs.declared.besides.Beside.{Beside}
use Rattle.shunt_fillings.proofs.Joined.{all_little}
use Rattle.shunt_fillings.proofs.choices.gain_with.Goals as goal
use Rattle.shunt_blocks.proofs.Shapes.{all_within as blocks_within}

pub gain_at-requires : goal.gain_at-requires
gain_at-requires c =
    let s = c.args.scene.now in
    let first = c.requires.prospect in
    record {
      small = subst (All (λ (k : Beside). IsWithin 1280000000000000000 k.gain)) (sym c.deref.ensures.value)
          (all_little s.instance.now s.path.now.blocks first.0 (seen c.args.stack) c.args.prospect.now.besides.items first.2.besides);
    }

pub apart_of-requires-clause-each : goal.apart_of-requires-clause-each
apart_of-requires-clause-each c =
    let s = c.args.scene.now in
    subst (All (λ (k : Candidate). IsWithinTrains s.instance.now k.block)) (sym c.deref-2.ensures.value)
    (all_within s.instance.now s.events.now c.requires.prospect.0 s.path.now.blocks (seen c.args.stack) c.args.prospect.now.candidates.items c.requires.prospect.2.candidates)

pub stack_gain-requires-clause-each : goal.stack_gain-requires-clause-each
stack_gain-requires-clause-each c =
    let s = c.args.scene.now in
    let b = c.args.block.now in
    let longer : c.deref-3.result.now ≡ s.path.now.blocks ++ b ∷ [] = c.deref-3.ensures.value
    ∙ (c.in_ok-path.ensures ∙ ap (λ (bs : List Block). bs ++ b ∷ []) c.blocks-2.ensures) in
    subst (All (IsBlockButId s.instance.now)) (sym longer) (longer_each s.instance.now s.path.now.blocks b c.requires.scene.each c.requires.block)

pub stack_gain-requires-clause-apart : goal.stack_gain-requires-clause-apart
stack_gain-requires-clause-apart c =
    let s = c.args.scene.now in
    let b = c.args.block.now in
    let longer : c.deref-3.result.now ≡ s.path.now.blocks ++ b ∷ [] = c.deref-3.ensures.value
    ∙ (c.in_ok-path.ensures ∙ ap (λ (bs : List Block). bs ++ b ∷ []) c.blocks-2.ensures) in
    subst (ShareNothing s.instance.now) (sym longer)
    (longer_apart (record { unit_in = c.places.ensures.unit_in; position_in = c.places.ensures.position_in }) s.instance.now s.path.now c.requires.scene.path b c.requires.block)

pub stack_gain-requires-clause-through : goal.stack_gain-requires-clause-through
stack_gain-requires-clause-through c =
    let s = c.args.scene.now in
    let b = c.args.block.now in
    let longer : c.deref-3.result.now ≡ s.path.now.blocks ++ b ∷ [] = c.deref-3.ensures.value
    ∙ (c.in_ok-path.ensures ∙ ap (λ (bs : List Block). bs ++ b ∷ []) c.blocks-2.ensures) in
    subst (λ (p : List Block). RunsThrough s.instance.now (placed p)) (sym longer) c.requires.block.through

pub stack_gain-requires-clause-candidates : goal.stack_gain-requires-clause-candidates
stack_gain-requires-clause-candidates c =
    let s = c.args.scene.now in
    let night = s.instance.now in
    let path = s.path.now.blocks in
    let b = c.args.block.now in
    let stack = seen c.args.stack in
    let ks = c.args.prospect.now.candidates.items in
    let first = c.requires.prospect in
    let longer : c.deref-3.result.now ≡ path ++ b ∷ [] = c.deref-3.ensures.value ∙ (c.in_ok-path.ensures ∙ ap (λ (bs : List Block). bs ++ b ∷ []) c.blocks-2.ensures) in
    let rest : c.deref-4.result.now ≡ left night b ks = c.deref-4.ensures.value ∙ (c.in_ok-apart.ensures ∙ ap (left night b) c.deref-2.ensures.value) in
    let are = left_are night path b first.0 stack ks first.2.candidates (λ free. c.choices_by_events.ensures.blocks night path
    (blocks_in ks) b first.0 stack c.units.ensures.formed c.requires.block.free free) in
    (first.0, first.1, candidates_at night first.0 stack (path ++ b ∷ []) c.deref-3.result.now (left night b ks) c.deref-4.result.now longer rest are)

pub returns-clause-exact : goal.returns-clause-exact
returns-clause-exact c =
    let s = c.args.scene.now in
    let night = s.instance.now in
    let path = s.path.now.blocks in
    let b = c.args.block.now in
    let stack = seen c.args.stack in
    let ks = c.args.prospect.now.candidates.items in
    let longer : c.deref-3.result.now ≡ path ++ b ∷ [] = c.deref-3.ensures.value ∙ (c.in_ok-path.ensures ∙ ap (λ (bs : List Block). bs ++ b ∷ []) c.blocks-2.ensures) in
    let rest : c.deref-4.result.now ≡ left night b ks = c.deref-4.ensures.value ∙ (c.in_ok-apart.ensures ∙ ap (left night b) c.deref-2.ensures.value) in
    λ case given.
    let are = left_are night path b case stack ks given.candidates (λ free. c.choices_by_events.ensures.blocks night path
    (blocks_in ks) b case stack c.units.ensures.formed c.requires.block.free free) in
    let small = c.in_ok-found.ensures.small in
    let own : to_z w64 (of_z w64 c.in_ok-found.found.gain) ≡ c.in_ok-found.found.gain = omega (arith, ints, small.low, small.high) in
    subst (IsStackGain night (path ++ b ∷ []) case stack) (sym own)
    (subst (λ (p : List Block). IsStackGain night p case stack c.in_ok-found.found.gain) longer
    (c.in_ok-found.ensures.exact case (candidates_at night case stack (path ++ b ∷ []) c.deref-3.result.now (left night b ks) c.deref-4.result.now longer rest are)))

pub returns-in-Some-clause-exact : goal.returns-in-Some-clause-exact
returns-in-Some-clause-exact c =
    let s = c.args.scene.now in
    let b = c.args.block.now in
    let k = c.in-Some.ensures in
    let there = subst (λ (ks : List Beside). In k.0 ks) c.deref.ensures.value k.1 in
    let little = subst (IsWithin 1280000000000000000) k.3 ((c.requires.prospect.2.besides k.0 there).1) in
    let own : to_z w64 (of_z w64 c.in-Some.gain) ≡ c.in-Some.gain = omega (arith, ints, little.low, little.high) in
    λ case given. subst (IsStackGain s.instance.now (s.path.now.blocks ++ b ∷ []) case (seen c.args.stack)) (k.3 ∙ sym own)
    ((given.besides k.0 there).0 b (sym (k.2 ∙ c.shape_of.ensures)) c.requires.own c.requires.block)

pub returns-in-Some-clause-small : goal.returns-in-Some-clause-small
returns-in-Some-clause-small c =
    let s = c.args.scene.now in
    let night = s.instance.now in
    let path = s.path.now.blocks in
    let b = c.args.block.now in
    let k = c.in-Some.ensures in
    let there = subst (λ (ks : List Beside). In k.0 ks) c.deref.ensures.value k.1 in
    let little = subst (IsWithin 1280000000000000000) k.3 ((c.requires.prospect.2.besides k.0 there).1) in
    let own : to_z w64 (of_z w64 c.in-Some.gain) ≡ c.in-Some.gain = omega (arith, ints, little.low, little.high) in
    let first = c.requires.prospect in
    let is = subst (IsStackGain night (path ++ b ∷ []) first.0 (seen c.args.stack)) k.3
    ((first.2.besides k.0 there).0 b (sym (k.2 ∙ c.shape_of.ensures)) c.requires.own c.requires.block) in
    subst (IsWithin 319999999999680) (sym own) (c.sums_fit.ensures.gain night (path ++ b ∷ []) first.0 (seen c.args.stack) c.in-Some.gain c.units.ensures.formed
    (blocks_within night (path ++ b ∷ []) (longer_each night path b c.requires.scene.each c.requires.block))
    (longer_apart (record { unit_in = c.places.ensures.unit_in; position_in = c.places.ensures.position_in }) night s.path.now c.requires.scene.path b c.requires.block)
    c.requires.block.through first.1 is)
