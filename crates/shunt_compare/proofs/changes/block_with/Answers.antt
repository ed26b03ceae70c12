use Rattle.std.proofs.Common.{sym, ◌∙◌, subst, ◌≡◌, false, arith}
use Rattle.std.proofs.lemmas.Bool.{true≢false}
use Rattle.shunt_lists.proofs.Members.{in_place, in_to}
use Rattle.shunt_blocks.specs.declared.records.Block.{Block}
use Rattle.shunt_blocks.specs.defs.Shapes.{shape_of}
use Rattle.shunt_blocks.specs.defs.Lists.{has_unit}
use Rattle.shunt_blocks.proofs.Held.{holder}
use Rattle.shunt_compare.proofs.changes.block_with.Goals as goal

pub returns-then-has_unit-clause-there : goal.returns-then-has_unit-clause-there
returns-then-has_unit-clause-there c = in_place c.args.blocks.now c.blocks-2.block-index _ c.blocks-2-test.true

pub unreachable-requires : goal.unreachable-requires
unreachable-requires c =
    let held = holder (λ b. has_unit c.args.instance.now (shape_of b) c.args.unit) c.args.blocks.now (omega (arith, c.requires.one)) in
    let at = in_to c.args.blocks.now held.0 held.1 in
    let none = c.blocks-2.invariant at.0 held.0 (omega (arith, at.1, c.blocks-2-test.false)) in
    absurd (true≢false (sym held.2 ∙ subst (λ (b : Block). has_unit c.args.instance.now (shape_of b) c.args.unit ≡ false) at.2 none))
