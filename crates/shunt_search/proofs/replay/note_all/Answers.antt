use Rattle.std.proofs.Common.{◌∙◌, arith}
use Rattle.std.proofs.lemmas.Grind.{common_steps}
use Rattle.shunt_search.proofs.Kept.{its_fit, its_place, its_cases, its_room, told_next, told_first, told_here, told_all, cases_all}
use Rattle.shunt_search.proofs.replay.note_all.Goals as goal

pub loop-node-init : goal.loop-node-init
loop-node-init g c = record {
  told = told_first c.args.nodes.now _ c.requires.told;
  number = c.requires.none;
  cases = c.requires.no_cases;
  opened = c.requires.stage;
  own = λ night. (λ h. h, λ h. h);
  later = omega arith;
  keeps = g.R.Recorder.keeps_same _;
}

pub note-requires-clause-own : goal.note-requires-clause-own
note-requires-clause-own g c = (c.loop-node.invariant.own c.args.instance.now).1 c.requires.own

pub note-requires-clause-room : goal.note-requires-clause-room
note-requires-clause-room g c = let many = c.loop-node.invariant.number in let few = c.requires.few in omega (arith, many, few, c.loop-node-test.true)

pub note-requires-clause-case_room : goal.note-requires-clause-case_room
note-requires-clause-case_room g c =
    let room = its_room (record { exactly = c.one_more.ensures.exactly; front = c.fronts.ensures.nodes }) c.args.instance.now c.args.nodes.now c.requires.nodes
    c.loop-node.node-index c.node-item.result c.loop-node-test.true c.node-item.is c.requires.few_cases in
    let own = c.loop-node.invariant.cases in
    omega (arith, room, own)

pub note-requires-clause-node : goal.note-requires-clause-node
note-requires-clause-node g c = its_fit (record { exactly = c.one_more.ensures.exactly; front = c.fronts.ensures.nodes }) c.args.instance.now c.args.nodes.now c.requires.nodes
    c.loop-node.node-index c.node-item.result c.loop-node-test.true c.node-item.is

pub note-requires-clause-place : goal.note-requires-clause-place
note-requires-clause-place g c =
    its_place (record { exactly = c.one_more.ensures.exactly; front = c.fronts.ensures.nodes }) c.args.instance.now c.args.nodes.now c.requires.nodes c.loop-node.node-index
    c.node-item.result c.loop-node-test.true c.node-item.is _
    (told_here c.args.nodes.now c.loop-node.node-index _ _ c.loop-node.invariant.told)

pub loop-node-preserved : goal.loop-node-preserved
loop-node-preserved g c =
    let before = c.loop-node.invariant in
    let number = before.number in
    let cases = before.cases in
    let later = before.later in
    let one = c.in_ok-note.ensures.number in
    let own_cases = c.in_ok-note.ensures.cases in
    let after = c.note.ensures.cause.later in
    let all = its_cases (record { exactly = c.one_more.ensures.exactly; front = c.fronts.ensures.nodes }) c.args.instance.now c.args.nodes.now c.requires.nodes
    c.loop-node.node-index c.node-item.result c.loop-node-test.true c.node-item.is in
    record {
      told = told_next (record { exactly = c.one_more.ensures.exactly; front = c.fronts.ensures.nodes }) c.args.instance.now c.args.nodes.now c.requires.nodes
          c.loop-node.node-index c.node-item.result c.loop-node-test.true c.node-item.is _ _ _ before.told c.in_ok-note.ensures.told;
      number = omega (arith, number, one);
      cases = omega (arith, cases, own_cases, all);
      opened = c.in_ok-note.ensures.stage;
      own = λ night. (let a = before.own night in let b = c.note.ensures.own night in (λ h. a.0 (b.0 h), λ h. b.1 (a.1 h)));
      later = omega (arith, later, after);
      keeps = g.R.Recorder.keeps_on _ _ _ before.keeps c.note.ensures.keeps;
    }

pub returns-in_err-note-clause-own : goal.returns-in_err-note-clause-own
returns-in_err-note-clause-own g c = λ night. (let a = c.loop-node.invariant.own night in let b = c.note.ensures.own night in (λ h. a.0 (b.0 h), λ h. b.1 (a.1 h)))

pub returns-in_err-note-clause-cause : goal.returns-in_err-note-clause-cause
returns-in_err-note-clause-cause g c = record {
  later = let before = c.loop-node.invariant.later in let after = c.note.ensures.cause.later in omega (arith, before, after);
  failed = λ e. (let rose = c.note.ensures.cause.failed in let before = c.loop-node.invariant.later in grind (arith, common_steps));
}

pub returns-in_err-note-clause-keeps : goal.returns-in_err-note-clause-keeps
returns-in_err-note-clause-keeps g c = g.R.Recorder.keeps_on _ _ _ c.loop-node.invariant.keeps c.note.ensures.keeps

pub returns-clause-told : goal.returns-clause-told
returns-clause-told g c = told_all c.args.nodes.now c.loop-node.node-index _ _ (omega (arith, c.loop-node-test.false)) c.loop-node.invariant.told

pub returns-clause-cases : goal.returns-clause-cases
returns-clause-cases g c = c.loop-node.invariant.cases ∙ cases_all c.args.nodes.now c.loop-node.node-index (omega (arith, c.loop-node-test.false))

pub returns-clause-keeps : goal.returns-clause-keeps
returns-clause-keeps g c = c.loop-node.invariant.keeps
