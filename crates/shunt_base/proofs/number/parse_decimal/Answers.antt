use Rattle.std.proofs.Common.{Some, ap, arith, ◌∙◌, sym, subst}
use Rattle.std.specs.Fmt.{decimal}
use Rattle.std.specs.Str.Parse.{digits_value}
use Rattle.std.proofs.lemmas.Bool.{both_ways}
use Rattle.shunt_base.specs.defs.Spelling.{IsDecimal}
use Rattle.shunt_base.proofs.Decimal.{printed, spelled, small, value_again}
use Rattle.shunt_base.proofs.number.parse_decimal.Goals as goal

pub returns-then-is_decimal-clause-some : goal.returns-then-is_decimal-clause-some
returns-then-is_decimal-clause-some c =
    let d = c.is_decimal.ensures.fact.0 c.if-is_decimal.true in
    (omega (arith, small c.args.bytes.now d, c.value_of.ensures), printed c.args.bytes.now d ∙ ap decimal (sym c.value_of.ensures))

pub returns-then-is_decimal-clause-only : goal.returns-then-is_decimal-clause-only
returns-then-is_decimal-clause-only c = λ n lt is. ap Some (c.value_of.ensures ∙ ap (digits_value 10) is ∙ value_again n lt)

pub returns-else-is_decimal-clause-only : goal.returns-else-is_decimal-clause-only
returns-else-is_decimal-clause-only c = λ n lt is.
    absurd (both_ways _ c.if-is_decimal.false (c.is_decimal.ensures.fact.1 (subst IsDecimal (sym is) (spelled n lt))))
