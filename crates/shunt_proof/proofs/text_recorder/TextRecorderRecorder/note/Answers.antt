use Rattle.std.proofs.Common.{◌+◌, refl, ap, subst}
use Rattle.shunt_proof.specs.declared.text_recorder.TextState.TheVariants as doing
use Rattle.shunt_proof.specs.defs.Nodes.{FitsNode}
use Rattle.shunt_proof.specs.defs.TextRecorders.{seen}
use Rattle.shunt_proof.proofs.Stages.{failed_is, stalled_is}
use Rattle.shunt_proof.proofs.Calls.{is_writing, keeps_by, note_done, note_open, note_keeps}
use Rattle.shunt_proof.proofs.text_recorder.TextRecorderRecorder.note.Goals as goal

pub append_node-requires-clause-writing : goal.append_node-requires-clause-writing
append_node-requires-clause-writing g c =
    let r = c.args.self.now in
    let S = g.S.Store in
    let s = seen r.version r.instance.now r.name.now (S.stage r.store.now) r.doing r.nodes r.cases in
    is_writing s c.requires.stage

pub returns-in-Ok-clause-told : goal.returns-in-Ok-clause-told
returns-in-Ok-clause-told g c =
    let r = c.args.self.now in
    let S = g.S.Store in
    let s = seen r.version r.instance.now r.name.now (S.stage r.store.now) r.doing r.nodes r.cases in
    let t = seen r.version r.instance.now r.name.now (S.stage c.append_node.new.store) r.doing (r.nodes + 1) (r.cases + c.own_cases.result) in
    (note_done s t c.args.node.now c.requires.stage (record { version = refl; night = refl; name = refl }) c.in-Ok.ensures.ok refl c.station.ensures.formed c.requires.room
    c.requires.case_room (subst (λ night. FitsNode night c.args.node.now) c.requires.own c.requires.node) c.requires.place refl
    (ap (λ k. r.cases + k) c.own_cases.ensures)).told

pub returns-in-Ok-clause-stage : goal.returns-in-Ok-clause-stage
returns-in-Ok-clause-stage g c =
    let r = c.args.self.now in
    let S = g.S.Store in
    let s = seen r.version r.instance.now r.name.now (S.stage r.store.now) r.doing r.nodes r.cases in
    let t = seen r.version r.instance.now r.name.now (S.stage c.append_node.new.store) r.doing (r.nodes + 1) (r.cases + c.own_cases.result) in
    note_open s t c.args.node.now c.requires.stage (record { version = refl; night = refl; name = refl }) c.in-Ok.ensures.ok refl
    (note_done s t c.args.node.now c.requires.stage (record { version = refl; night = refl; name = refl }) c.in-Ok.ensures.ok refl c.station.ensures.formed c.requires.room
    c.requires.case_room (subst (λ night. FitsNode night c.args.node.now) c.requires.own c.requires.node) c.requires.place refl (ap (λ k. r.cases + k) c.own_cases.ensures))

pub returns-in-Ok-clause-keeps : goal.returns-in-Ok-clause-keeps
returns-in-Ok-clause-keeps g c =
    let r = c.args.self.now in
    let S = g.S.Store in
    let s = seen r.version r.instance.now r.name.now (S.stage r.store.now) r.doing r.nodes r.cases in
    let t = seen r.version r.instance.now r.name.now (S.stage c.append_node.new.store) r.doing (r.nodes + 1) (r.cases + c.own_cases.result) in (
      refl,
      (
        note_keeps s t c.args.node.now c.requires.stage (record { version = refl; night = refl; name = refl }) c.in-Ok.ensures.ok refl,
        (c.append_node.ensures.files, (c.append_node.ensures.heard, c.append_node.ensures.stored)),
      ),
    )

pub returns-in-Err-Memory-clause-stage : goal.returns-in-Err-Memory-clause-stage
returns-in-Err-Memory-clause-stage g c =
    let r = c.args.self.now in
    let S = g.S.Store in
    let s = seen r.version r.instance.now r.name.now (S.stage r.store.now) r.doing r.nodes r.cases in
    let t = seen r.version r.instance.now r.name.now (S.stage c.append_node.new.store) doing.Stalled r.nodes r.cases in
    stalled_is t refl

pub returns-in-Err-Memory-clause-keeps : goal.returns-in-Err-Memory-clause-keeps
returns-in-Err-Memory-clause-keeps g c =
    let r = c.args.self.now in
    let S = g.S.Store in
    let s = seen r.version r.instance.now r.name.now (S.stage r.store.now) r.doing r.nodes r.cases in
    let t = seen r.version r.instance.now r.name.now (S.stage c.append_node.new.store) doing.Stalled r.nodes r.cases in (
      refl,
      (
        keeps_by s t (record { version = refl; night = refl; name = refl }) c.in-Err-Memory.ensures.err,
        (c.append_node.ensures.files, (c.append_node.ensures.heard, c.append_node.ensures.stored)),
      ),
    )

pub returns-in-Err-Fault-clause-stage : goal.returns-in-Err-Fault-clause-stage
returns-in-Err-Fault-clause-stage g c =
    let r = c.args.self.now in
    let S = g.S.Store in
    let s = seen r.version r.instance.now r.name.now (S.stage r.store.now) r.doing r.nodes r.cases in
    let t = seen r.version r.instance.now r.name.now (S.stage c.append_node.new.store) doing.Failed r.nodes r.cases in
    failed_is t refl

pub returns-in-Err-Fault-clause-keeps : goal.returns-in-Err-Fault-clause-keeps
returns-in-Err-Fault-clause-keeps g c =
    let r = c.args.self.now in
    let S = g.S.Store in
    let s = seen r.version r.instance.now r.name.now (S.stage r.store.now) r.doing r.nodes r.cases in
    let t = seen r.version r.instance.now r.name.now (S.stage c.append_node.new.store) doing.Failed r.nodes r.cases in (
      refl,
      (
        keeps_by s t (record { version = refl; night = refl; name = refl }) c.in-Err-Fault.ensures.err,
        (c.append_node.ensures.files, (c.append_node.ensures.heard, c.append_node.ensures.stored)),
      ),
    )
