use Rattle.std.proofs.Common.{[], length}
use Rattle.shunt_instance.specs.defs.Matching.{unit_entries, position_entries}
use Rattle.shunt_blocks.specs.defs.Lists.{units_taken, positions_taken}
use Rattle.shunt_search.proofs.Free.{free_units, free_positions, free_units_back, free_positions_back}
use Rattle.shunt_inputs.proofs.FirstFiles.{leads_with}
use Rattle.shunt_inputs.specs.defs.Writes.{known}
use Rattle.shunt_planning.specs.defs.Planned.{IsSought, IsSoughtBeside}
use Rattle.shunt_planning.proofs.Sought.{MaskLaws, lacks_alike, sought_alike, usable_none}
use Rattle.shunt_planning.proofs.plans.night_answer.Goals as goal

pub sought_answer-requires-clause-usable : goal.sought_answer-requires-clause-usable
sought_answer-requires-clause-usable g c = usable_none c.args.instance.now

pub sought_answer-requires-clause-lacks : goal.sought_answer-requires-clause-lacks
sought_answer-requires-clause-lacks g c =
    let night = c.args.instance.now in
    let n = length (unit_entries night) in
    let m = length (position_entries night) in
    let laws : MaskLaws = record { matchings = c.masks_alike.ensures.matchings; shortages = c.masks_alike.ensures.shortages } in
    lacks_alike laws night [] [] (units_taken night []) (positions_taken night []) (free_units_back night n, free_positions_back night m)
    (free_units night n, free_positions night m) c.lacking-short.result c.lacking-short.ensures

pub returns-clause-leads : goal.returns-clause-leads
returns-clause-leads g c =
    let S = g.S.Store in
    let night = c.args.instance.now in
    let n = length (unit_entries night) in
    let m = length (position_entries night) in
    let plan = c.args.plan.now in
    let certificate = c.args.certificate.now in
    let laws : MaskLaws = record { matchings = c.masks_alike.ensures.matchings; shortages = c.masks_alike.ensures.shortages } in
    leads_with (IsSoughtBeside [] c.args.nodes plan certificate night) (IsSought c.args.nodes plan certificate night) (known (S.told c.args.store.now) (S.stored c.args.store.now))
    (known (S.told c.sought_answer.new.store) (S.stored c.sought_answer.new.store)) c.sought_answer.result
    (λ r is. sought_alike laws night (units_taken night []) (positions_taken night []) [] [] (free_units night n, free_positions night m)
    (free_units_back night n, free_positions_back night m) [] c.args.nodes plan certificate r is)
    c.sought_answer.ensures.leads
