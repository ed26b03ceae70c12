use Rattle.std.proofs.Common.{refl}
use Rattle.shunt_proof.specs.declared.text_recorder.TextState.TheVariants as doing
use Rattle.shunt_proof.specs.defs.TextRecorders.{seen}
use Rattle.shunt_proof.proofs.Stages.{failed_is, stalled_is}
use Rattle.shunt_proof.proofs.Calls.{is_writing, keeps_by, finish_done, finish_ended, finish_keeps, ends_same}
use Rattle.shunt_proof.proofs.text_recorder.TextRecorderRecorder.finish.Goals as goal

pub append_last-requires : goal.append_last-requires
append_last-requires g c =
    let r = c.args.self.now in
    let S = g.S.Store in
    let s = seen r.version r.instance.now r.name.now (S.stage r.store.now) r.doing r.nodes r.cases in
    is_writing s c.requires.stage

pub returns-in-Ok-clause-told : goal.returns-in-Ok-clause-told
returns-in-Ok-clause-told g c =
    let r = c.args.self.now in
    let S = g.S.Store in
    let s = seen r.version r.instance.now r.name.now (S.stage r.store.now) r.doing r.nodes r.cases in
    let t = seen r.version r.instance.now r.name.now (S.stage c.append_last.new.store) (doing.Finished c.args.cost c.args.bound) r.nodes r.cases in
    ends_same s t (finish_done s t c.args.cost c.args.bound c.requires.stage (record { version = refl; night = refl; name = refl }) c.in-Ok.ensures.ok refl c.station.ensures.formed
    c.requires.some c.requires.cost c.requires.bound refl refl)

pub returns-in-Ok-clause-stage : goal.returns-in-Ok-clause-stage
returns-in-Ok-clause-stage g c =
    let r = c.args.self.now in
    let S = g.S.Store in
    let s = seen r.version r.instance.now r.name.now (S.stage r.store.now) r.doing r.nodes r.cases in
    let t = seen r.version r.instance.now r.name.now (S.stage c.append_last.new.store) (doing.Finished c.args.cost c.args.bound) r.nodes r.cases in
    finish_ended s t c.args.cost c.args.bound c.requires.stage (record { version = refl; night = refl; name = refl }) c.in-Ok.ensures.ok refl
    (finish_done s t c.args.cost c.args.bound c.requires.stage (record { version = refl; night = refl; name = refl }) c.in-Ok.ensures.ok refl c.station.ensures.formed
    c.requires.some c.requires.cost c.requires.bound refl refl)

pub returns-in-Ok-clause-keeps : goal.returns-in-Ok-clause-keeps
returns-in-Ok-clause-keeps g c =
    let r = c.args.self.now in
    let S = g.S.Store in
    let s = seen r.version r.instance.now r.name.now (S.stage r.store.now) r.doing r.nodes r.cases in
    let t = seen r.version r.instance.now r.name.now (S.stage c.append_last.new.store) (doing.Finished c.args.cost c.args.bound) r.nodes r.cases in (
      refl,
      (
        finish_keeps s t c.args.cost c.args.bound c.requires.stage (record { version = refl; night = refl; name = refl }) c.in-Ok.ensures.ok refl,
        (c.append_last.ensures.files, (c.append_last.ensures.heard, c.append_last.ensures.stored)),
      ),
    )

pub returns-in-Err-Memory-clause-stage : goal.returns-in-Err-Memory-clause-stage
returns-in-Err-Memory-clause-stage g c =
    let r = c.args.self.now in
    let S = g.S.Store in
    let s = seen r.version r.instance.now r.name.now (S.stage r.store.now) r.doing r.nodes r.cases in
    let t = seen r.version r.instance.now r.name.now (S.stage c.append_last.new.store) doing.Stalled r.nodes r.cases in
    stalled_is t refl

pub returns-in-Err-Memory-clause-keeps : goal.returns-in-Err-Memory-clause-keeps
returns-in-Err-Memory-clause-keeps g c =
    let r = c.args.self.now in
    let S = g.S.Store in
    let s = seen r.version r.instance.now r.name.now (S.stage r.store.now) r.doing r.nodes r.cases in
    let t = seen r.version r.instance.now r.name.now (S.stage c.append_last.new.store) doing.Stalled r.nodes r.cases in (
      refl,
      (
        keeps_by s t (record { version = refl; night = refl; name = refl }) c.in-Err-Memory.ensures.err,
        (c.append_last.ensures.files, (c.append_last.ensures.heard, c.append_last.ensures.stored)),
      ),
    )

pub returns-in-Err-Fault-clause-stage : goal.returns-in-Err-Fault-clause-stage
returns-in-Err-Fault-clause-stage g c =
    let r = c.args.self.now in
    let S = g.S.Store in
    let s = seen r.version r.instance.now r.name.now (S.stage r.store.now) r.doing r.nodes r.cases in
    let t = seen r.version r.instance.now r.name.now (S.stage c.append_last.new.store) doing.Failed r.nodes r.cases in
    failed_is t refl

pub returns-in-Err-Fault-clause-keeps : goal.returns-in-Err-Fault-clause-keeps
returns-in-Err-Fault-clause-keeps g c =
    let r = c.args.self.now in
    let S = g.S.Store in
    let s = seen r.version r.instance.now r.name.now (S.stage r.store.now) r.doing r.nodes r.cases in
    let t = seen r.version r.instance.now r.name.now (S.stage c.append_last.new.store) doing.Failed r.nodes r.cases in (
      refl,
      (
        keeps_by s t (record { version = refl; night = refl; name = refl }) c.in-Err-Fault.ensures.err,
        (c.append_last.ensures.files, (c.append_last.ensures.heard, c.append_last.ensures.stored)),
      ),
    )
