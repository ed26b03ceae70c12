use Rattle.std.proofs.Common.{◌≡◌, length, ap, ◌∙◌}
use Rattle.shunt_instance.specs.defs.Matching.{unit_entries, position_entries}
use Rattle.shunt_matching.specs.defs.Counts.{count_by_minute}
use Rattle.shunt_instance.proofs.Facts.{positions_rise}
use Rattle.shunt_matching.proofs.Decided.{night_balanced, night_late}
use Rattle.shunt_matching.proofs.night.judged.Goals as goal
use Rattle.shunt_instance.proofs.Orders.{opened}

pub first_late-requires : goal.first_late-requires
first_late-requires c = positions_rise c.args.instance.now (opened c.args.instance.now c.station.ensures.formed)

pub returns-in_default-first_late-clause-none : goal.returns-in_default-first_late-clause-none
returns-in_default-first_late-clause-none c =
    let kinds : c.len-kinds.result ≡ length c.args.instance.now.station.types = cc in
    night_balanced c.args.instance.now c.args.um.now c.args.vm.now c.len-kinds.result c.station.ensures.formed kinds
    c.in_default.ensures.none c.in_default-first_late.ensures.none

pub returns-clause-some : goal.returns-clause-some
returns-clause-some c =
    let kinds : c.len-kinds.result ≡ length c.args.instance.now.station.types = cc in
    night_late c.args.instance.now c.args.um.now c.args.vm.now c.len-kinds.result _ c.in-Some-first_late.late.position _ _ _ c.station.ensures.formed kinds
    c.in_default.ensures.none c.in-Some-first_late.ensures.some c.in-Some-first_late.ensures.before
    c.leaves-minute.ensures.exact
    (c.count_by.ensures ∙ ap (count_by_minute (position_entries c.args.instance.now) c.args.vm.now c.in-Some-first_late.late.kind) c.number.ensures.value)
    (c.count_by-2.ensures ∙ ap (count_by_minute (unit_entries c.args.instance.now) c.args.um.now c.in-Some-first_late.late.kind) c.number-2.ensures.value)
