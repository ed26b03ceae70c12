use Rattle.std.proofs.Common.{◌≡◌, List, [], ◌∷◌, ◌++◌, ap, sym, ◌∙◌, arith}
use Rattle.std.proofs.lemmas.Result.{IfOk-weaker}
use Rattle.shunt_blocks.specs.declared.records.Block.{Block}
use Rattle.shunt_choices.specs.defs.Paths.{Trail}
use Rattle.shunt_stacks.specs.defs.Bounds.{IsChoiceBound}
use Rattle.shunt_proof.specs.declared.records.Version.TheVariants.{Stacks}
use Rattle.shunt_proof.specs.defs.Versions.{IsStepBoundIn}
use Rattle.shunt_checker.proofs.Steps.{front_runs, front_each, last_in, last_free, last_next, bound_of_last}
use Rattle.shunt_checker.proofs.versions.last_bound.Goals as goal

pub unreachable-requires : goal.unreachable-requires
unreachable-requires c =
    let some = c.requires.some in
    let none = c.in_default.ensures.none.0 in
    omega (arith, some, none)

pub choice_bound-bound-requires-clause-through : goal.choice_bound-bound-requires-clause-through
choice_bound-bound-requires-clause-through c =
    let night = c.args.instance.now in
    front_runs night c.args.path.now c.pop.new.self c.in-Some.block c.in-Some.ensures.some.1 c.requires.path c.pop.ensures.of c.requires.more
    (λ blocks others w a wo ao part runs. c.ids_do_not_matter.ensures.placed_part night blocks others c.units.ensures.formed w a wo ao part runs)

pub choice_bound-bound-requires-clause-each : goal.choice_bound-bound-requires-clause-each
choice_bound-bound-requires-clause-each c = front_each c.args.instance.now c.args.path.now c.pop.new.self c.in-Some.block c.in-Some.ensures.some.1 c.requires.path c.pop.ensures.of
    c.requires.more

pub choice_bound-bound-requires-clause-free : goal.choice_bound-bound-requires-clause-free
choice_bound-bound-requires-clause-free c = last_free c.args.instance.now c.args.path.now c.pop.new.self c.in-Some.block c.in-Some.ensures.some.1 c.requires.path c.pop.ensures.of
    c.requires.more

pub push-requires-clause-in_range : goal.push-requires-clause-in_range
push-requires-clause-in_range c = last_in c.args.instance.now c.args.path.now c.pop.new.self c.in-Some.block c.in-Some.ensures.some.1 c.requires.path c.pop.ensures.of
    c.requires.more

pub push-requires-clause-next : goal.push-requires-clause-next
push-requires-clause-next c = last_next c.args.instance.now c.args.path.now c.pop.new.self c.in-Some.block c.in-Some.ensures.some.1 c.requires.path c.pop.ensures.of c.requires.more

pub push-requires-clause-units : goal.push-requires-clause-units
push-requires-clause-units c =
    let free = last_free c.args.instance.now c.args.path.now c.pop.new.self c.in-Some.block c.in-Some.ensures.some.1 c.requires.path c.pop.ensures.of c.requires.more in
    free.shape.units

pub push-requires-clause-positions : goal.push-requires-clause-positions
push-requires-clause-positions c =
    let free = last_free c.args.instance.now c.args.path.now c.pop.new.self c.in-Some.block c.in-Some.ensures.some.1 c.requires.path c.pop.ensures.of c.requires.more in
    free.shape.positions

pub returns-clause-bound : goal.returns-clause-bound
returns-clause-bound c =
    let night = c.args.instance.now in
    IfOk-weaker c.choice_bound-bound.result (IsChoiceBound night c.pop.new.self.blocks c.in-Some.block c.args.cases.now)
    (λ z. (front : List Block) (b : Block) → c.args.path.now.blocks ≡ front ++ b ∷ [] → IsStepBoundIn Stacks night front c.args.path.now.blocks c.args.cases.now z)
    (λ z is. bound_of_last night c.args.path.now c.pop.new.self c.in-Some.block c.in-Some.ensures.some.1 c.requires.path c.pop.ensures.of c.requires.more c.args.cases.now z is)
    c.choice_bound-bound.ensures.is

pub returns-clause-kept : goal.returns-clause-kept
returns-clause-kept c = ap (λ (t : Trail). t.blocks) c.push.ensures.new ∙ sym c.in-Some.ensures.some.1
