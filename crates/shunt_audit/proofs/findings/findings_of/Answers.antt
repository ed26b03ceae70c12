use Rattle.std.proofs.Common.{◌≡◌, sym, subst, ap, ◌∙◌, arith, List, ◌++◌, length, ◌≤◌}
use Rattle.std.specs.Prelude.{All}
use Rattle.shunt_base.specs.declared.keys.Stay.{Stay}
use Rattle.shunt_base.specs.defs.Keys.{AreStays}
use Rattle.shunt_stays.specs.defs.Run.{AreOnTracks}
use Rattle.shunt_blocks.specs.declared.records.Block.{Block}
use Rattle.shunt_blocks.specs.defs.Shapes.{IsInRange, IsWithinTrains}
use Rattle.shunt_blocks.specs.defs.Lists.{track_lengths, stays_of}
use Rattle.shunt_audit.specs.defs.Findings.{IsOfNight, AreFindings}
use Rattle.shunt_audit.specs.defs.Listed.{by_id, block_findings, clash_findings, findings_in}
use Rattle.shunt_audit.proofs.ById.{sorted_range}
use Rattle.shunt_audit.proofs.BlockStays.{BlockLaws, few_stays}
use Rattle.shunt_audit.proofs.Exactly.{together}
use Rattle.shunt_audit.proofs.Feasible.{none_where_feasible}
use Rattle.shunt_audit.proofs.Stated.{blocks_numbered, blocks_found}
use Rattle.shunt_audit.proofs.findings.findings_of.Goals as goal

pub add_faults-requires : goal.add_faults-requires
add_faults-requires c = subst (λ (bs : List Block). All (IsInRange c.args.instance.now) bs) (sym (c.deref.ensures.value ∙ c.in_ok-sorted.ensures))
    (sorted_range c.args.instance.now c.args.blocks.now c.requires).each

pub stays_of-requires : goal.stays_of-requires
stays_of-requires c = subst (λ (bs : List Block). All (IsWithinTrains c.args.instance.now) bs) (sym (c.deref-2.ensures.value ∙ c.in_ok-sorted.ensures))
    (λ k d lt. ((sorted_range c.args.instance.now c.args.blocks.now c.requires).each k d lt).within)

pub add_clashes-requires-clause-stays : goal.add_clashes-requires-clause-stays
add_clashes-requires-clause-stays c =
    subst AreStays (sym (c.deref-3.ensures.value ∙ c.in_ok-stays.ensures.exact ∙ ap (stays_of c.args.instance.now) (c.deref-2.ensures.value ∙ c.in_ok-sorted.ensures)))
    (c.stays_of_blocks.ensures.stays c.args.instance.now (by_id c.args.blocks.now) c.station.ensures.formed
    (c.stays_of_blocks.ensures.in_range c.args.instance.now (by_id c.args.blocks.now) (sorted_range c.args.instance.now c.args.blocks.now c.requires)))

pub add_clashes-requires-clause-tracks : goal.add_clashes-requires-clause-tracks
add_clashes-requires-clause-tracks c =
    subst (AreOnTracks (track_lengths c.args.instance.now.station)) (sym (c.deref-3.ensures.value ∙ c.in_ok-stays.ensures.exact
    ∙ ap (stays_of c.args.instance.now) (c.deref-2.ensures.value ∙ c.in_ok-sorted.ensures)))
    (c.stays_of_blocks.ensures.tracks c.args.instance.now (by_id c.args.blocks.now)
    (c.stays_of_blocks.ensures.in_range c.args.instance.now (by_id c.args.blocks.now) (sorted_range c.args.instance.now c.args.blocks.now c.requires)))

pub add_clashes-requires-clause-few : goal.add_clashes-requires-clause-few
add_clashes-requires-clause-few c =
    subst (λ (ss : List Stay). length ss ≤ 65536) (sym (c.deref-3.ensures.value ∙ c.in_ok-stays.ensures.exact
    ∙ ap (stays_of c.args.instance.now) (c.deref-2.ensures.value ∙ c.in_ok-sorted.ensures)))
    (omega (arith, few_stays c.args.instance.now (by_id c.args.blocks.now) (sorted_range c.args.instance.now c.args.blocks.now c.requires)))

pub returns-clause-exact : goal.returns-clause-exact
returns-clause-exact c =
    together c.args.instance.now c.args.blocks.now c.in_ok-sorted.sorted.items c.in_ok-stays.stays.items c.new-findings.result.items c.add_covers.new.findings.items
    c.add_faults.new.findings.items c.add_clashes.new.findings.items
    c.in_ok-sorted.ensures (c.in_ok-stays.ensures.exact ∙ ap (stays_of c.args.instance.now) c.deref-2.ensures.value) c.new-findings.ensures.items
    c.in_ok-add_covers.ensures
    (c.in_ok-add_faults.ensures ∙ ap (λ (bs : List Block). c.add_covers.new.findings.items ++ block_findings c.args.instance.now bs) c.deref.ensures.value)
    (c.in_ok-add_clashes.ensures ∙ ap (λ (ss : List Stay). c.add_faults.new.findings.items
    ++ clash_findings (track_lengths c.args.instance.now.station) ss) c.deref-3.ensures.value)

pub returns-clause-none : goal.returns-clause-none
returns-clause-none c =
    let laws : BlockLaws = record {
      sound = c.blocks-2.ensures;
      stays = λ night blocks n h. c.stays_of_blocks.ensures.stays night blocks n (c.stays_of_blocks.ensures.in_range night blocks h);
      tracks = λ night blocks h. c.stays_of_blocks.ensures.tracks night blocks (c.stays_of_blocks.ensures.in_range night blocks h);
    } in
    let law = none_where_feasible laws c.args.instance.now c.args.blocks.now c.station.ensures.formed c.requires in
    let is : c.add_clashes.new.findings.items ≡ findings_in c.args.instance.now c.args.blocks.now = returns-clause-exact c in
    (λ e. law.0 (sym is ∙ e), λ p. is ∙ law.1 p)

pub returns-clause-of_night : goal.returns-clause-of_night
returns-clause-of_night c =
    let is : c.add_clashes.new.findings.items ≡ findings_in c.args.instance.now c.args.blocks.now = returns-clause-exact c in
    subst (All (IsOfNight c.args.instance.now)) (sym is) (blocks_numbered c.args.instance.now c.args.blocks.now)

pub returns-clause-told : goal.returns-clause-told
returns-clause-told c =
    let is : c.add_clashes.new.findings.items ≡ findings_in c.args.instance.now c.args.blocks.now = returns-clause-exact c in
    subst (AreFindings c.args.instance.now c.args.blocks.now) (sym is) (blocks_found c.args.instance.now c.args.blocks.now c.requires)
