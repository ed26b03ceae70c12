use Rattle.std.proofs.Common.{rules, arith, refl, ap, length}
use Rattle.std.proofs.lemmas.Grind.{common_steps}
use Rattle.shunt_store.proofs.TableLaws.{on_err}
use Rattle.shunt_store.proofs.Texts.{told_more, told_front}
use Rattle.shunt_store.proofs.writer.print.Goals as goal

pub returns-in_err-at-clause-err : goal.returns-in_err-at-clause-err
returns-in_err-at-clause-err g c = let i = c.parts.invariant in on_err c.from_residual.result _
    (told_front c.args.bytes.now c.parts.at _ _ _ i.within i.told c.in_err-at.ensures.err)

pub parts-preserved : goal.parts-preserved
parts-preserved g c =
    let i = c.parts.invariant in record {
      within = grind (arith, common_steps);
      told = told_more c.args.bytes.now c.parts.at c.in_ok-at.field-0 _ _ _ i.told c.in_ok-at.ensures.bytes;
      later = search rules;
      still = grind (arith, common_steps);
    }

pub returns-clause-nothing : goal.returns-clause-nothing
returns-clause-nothing g c = λ e. (refl, c.parts.invariant.still (omega (arith, c.parts.invariant.within, ap length e)))
