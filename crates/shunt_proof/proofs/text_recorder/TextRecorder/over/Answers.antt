use Rattle.std.proofs.Common.{refl, subst, sym}
use Rattle.shunt_store.specs.defs.Files.{IsWriting}
use Rattle.shunt_proof.specs.declared.text_recorder.TextState.TheVariants as doing
use Rattle.shunt_proof.specs.defs.TextRecorders.{seen}
use Rattle.shunt_proof.proofs.Calls.{started, starts_open}
use Rattle.shunt_proof.proofs.text_recorder.TextRecorder.over.Goals as goal

pub returns-clause-open : goal.returns-clause-open
returns-clause-open g c =
    let S = g.S.Store in
    let s = seen c.args.version c.args.instance.now c.args.name.now (S.stage c.args.store.now) doing.Open 0 0 in
    starts_open s c.station.ensures.formed c.requires.version refl refl refl c.requires.writing

pub returns-clause-told : goal.returns-clause-told
returns-clause-told g c =
    let S = g.S.Store in
    let s = seen c.args.version c.args.instance.now c.args.name.now (S.stage c.args.store.now) doing.Open 0 0 in
    (started s c.station.ensures.formed c.requires.version refl refl refl c.requires.writing).told

pub returns-clause-rests : goal.returns-clause-rests
returns-clause-rests g c = subst IsWriting (sym c.requires.writing) tt
