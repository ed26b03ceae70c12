use Rattle.std.specs.Option.{option_copied}
use Rattle.std.proofs.Common.{ap, sym, ◌∙◌, slice_index_or, List, Option, ℤ, subst, arith}
use Rattle.shunt_gains.specs.defs.Tables.{IsGain}
use Rattle.shunt_gains.proofs.Known.{at_key, in_row, copied_some}
use Rattle.shunt_gains.proofs.rows.found.Goals as goal

pub returns : goal.returns
returns c =
    let items = c.deref.ensures.value in
    let back = c.from.ensures in
    let le = c.requires in
    λ fixed free known. let row = at_key fixed free c.args.rows.now c.args.key c.in_ok-row.row.now (sym c.get.ensures.value ∙ ap option_copied c.in_ok-row.was) known in
    let long = row.long in
    copied_some (IsGain fixed free c.args.x c.args.key.end c.args.key.room) (λ d. slice_index_or c.deref.result.now c.from.result d) c.get-2.result c.copied.result c.copied.ensures
    c.get-2.ensures.lookup.1
    (λ d. subst (λ (gains : List (Option ℤ)). IsGain fixed free c.args.x c.args.key.end c.args.key.room (slice_index_or gains c.from.result d)) (sym items)
    (in_row fixed free c.args.x c.args.key.end c.args.key.room c.in_ok-row.row.now.items c.from.result row.each (omega (arith, back, le)) (omega (arith, le))
    (omega (arith, back, le, long)) d))
