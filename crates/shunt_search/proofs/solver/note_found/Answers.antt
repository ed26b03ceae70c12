use Rattle.std.proofs.Common.{◌≡◌, length, sym, subst, ap, ◌∙◌, arith, pos, ℕ, List}
use Rattle.std.proofs.lemmas.Result.{IfOk-weaker}
use Rattle.shunt_proof.specs.declared.records.Node.{Node}
use Rattle.shunt_proof.specs.defs.Nodes.{AreNodes}
use Rattle.shunt_proof.specs.defs.Certificates.{IsCertificate, case_total}
use Rattle.shunt_search.specs.defs.Conditions.{MeetConditions}
use Rattle.shunt_search.specs.defs.Endings.{IsLeft, IsDone, certificate_in}
use Rattle.shunt_search.proofs.ToldNodes.{tells_both, told_to_end}
use Rattle.shunt_search.proofs.Kept.{formed_nodes, in_list}
use Rattle.shunt_search.proofs.FirstBounds.{left_once}
use Rattle.shunt_search.proofs.HandedOn.{handed_on}
use Rattle.shunt_search.proofs.solver.note_found.Goals as goal

pub note_all-requires-clause-nodes : goal.note_all-requires-clause-nodes
note_all-requires-clause-nodes g c =
    let w = c.args.found.walk in
    let kept = c.requires.found.kept in
    subst (λ (l : List Node). AreNodes c.args.instance.now l) (sym c.as_slice.ensures)
    (formed_nodes w.version c.args.instance.now c.args.pins.now kept.stock w.nodes (length w.nodes) (case_total w.nodes) w.search kept.search)

pub note_all-requires-clause-few : goal.note_all-requires-clause-few
note_all-requires-clause-few g c =
    let same = ap (λ (l : List Node). length l) c.as_slice.ensures in
    let few = c.requires.found.kept.few in
    let most = c.requires.few in
    omega (arith, same, few, most)

pub note_all-requires-clause-few_cases : goal.note_all-requires-clause-few_cases
note_all-requires-clause-few_cases g c =
    let same = ap (λ (l : List Node). case_total l) c.as_slice.ensures in
    let room = c.requires.found.kept.search.room in
    omega (arith, same, room)

pub conclude-requires-clause-search : goal.conclude-requires-clause-search
conclude-requires-clause-search g c =
    let w = c.args.found.walk in
    let kept = c.requires.found.kept in (
      kept.stock,
      c.searches_kept.ensures w.version c.args.instance.now c.args.pins.now kept.stock (g.R.Recorder.told c.args.recorder.now)
          (g.R.Recorder.told c.note_all.new.recorder) c.as_slice.result.now (g.R.Recorder.number c.note_all.new.recorder) (g.R.Recorder.cases c.note_all.new.recorder) w.search
          (in_list w.version c.args.instance.now c.args.pins.now kept.stock c.as_slice.result.now w.nodes w.search c.as_slice.ensures kept.search)
          c.in_ok-note_all.ensures.told c.in_ok-note_all.ensures.number c.in_ok-note_all.ensures.cases,
    )

pub conclude-requires-clause-most : goal.conclude-requires-clause-most
conclude-requires-clause-most g c =
    let same = ap (λ (l : List Node). length l) c.as_slice.ensures in
    let number = c.in_ok-note_all.ensures.number in
    let few = c.requires.found.kept.few in
    omega (arith, same, number, few)

pub conclude-requires-clause-done : goal.conclude-requires-clause-done
conclude-requires-clause-done g c =
    let s = c.args.found.walk.search in
    subst (λ (n : ℕ). IsDone n c.args.nodes s.waiting.items s.known.cost s.low)
    (sym (c.in_ok-note_all.ensures.number ∙ ap (λ (l : List Node). length l) c.as_slice.ensures)) c.requires.found.kept.done

pub returns-clause-same_bound : goal.returns-clause-same_bound
returns-clause-same_bound g c =
    let w = c.args.found.walk in
    IfOk-weaker c.conclude.result
    (λ s. IsLeft w.search.waiting.items w.search.low (pos s.bound))
    (λ s. s.bound ≡ w.bound)
    (λ s left. left_once w.search.waiting.items w.search.low s.bound w.bound left c.requires.found.kept.left)
    c.conclude.ensures.left

pub returns-clause-certificate : goal.returns-clause-certificate
returns-clause-certificate g c =
    let night = c.args.instance.now in
    let v = c.args.found.walk.version in
    told_to_end c.conclude.result (g.R.Recorder.told c.args.recorder.now) (g.R.Recorder.told c.note_all.new.recorder) (g.R.Recorder.told c.conclude.new.recorder)
    (λ s told. IsCertificate night (certificate_in v s.plan s.bound told) × MeetConditions night c.args.pins.now c.args.nodes s.plan
    (certificate_in v s.plan s.bound told))
    (tells_both _ _ (λ x y. y ≡ c.as_slice.result.now) c.in_ok-note_all.ensures.told) c.conclude.ensures.told c.conclude.ensures.certificate

pub returns-clause-keeps : goal.returns-clause-keeps
returns-clause-keeps g c = g.R.Recorder.keeps_on _ _ _ c.note_all.ensures.keeps c.conclude.ensures.keeps

pub returns-in_err-note_all-clause-no_matching : goal.returns-in_err-note_all-clause-no_matching
returns-in_err-note_all-clause-no_matching g c = λ s e. c.note_all.ensures.no_matching s
    (handed_on c.note_all.result c.from_residual.result c.in_err-note_all.field-0.0 _ c.in_err-note_all.was c.from_residual.ensures.1 e)

pub returns-clause-own : goal.returns-clause-own
returns-clause-own g c = λ night. (let a = c.note_all.ensures.own night in let b = c.conclude.ensures.own night in (λ h. a.0 (b.0 h), λ h. b.1 (a.1 h)))
