use Rattle.std.proofs.Common.{◌≡◌, ◌∙◌, Err, ap, subst, sym}
use Rattle.shunt_store.specs.defs.Files.{Writing}
use Rattle.shunt_rows.specs.defs.Records.{text_of_row}
use Rattle.shunt_proof.specs.defs.CertificateRows.{head_row}
use Rattle.shunt_proof.specs.defs.TextRecorders.{seen, told_of}
use Rattle.shunt_search.specs.defs.Endings.{IsShownIn}
use Rattle.shunt_planning.specs.defs.Begun.{IsFound}
use Rattle.shunt_planning.proofs.Sought.{readable, stream_found}
use Rattle.shunt_planning.proofs.plan_search.stream.Goals as goal

pub over-recorder-requires-clause-writing : goal.over-recorder-requires-clause-writing
over-recorder-requires-clause-writing g c = subst (λ v. g.S.Store.stage c.args.store.now ≡ Writing c.args.certificate.now (text_of_row (head_row v)))
    (sym c.version-version.ensures)
    c.requires.writing

pub over-recorder-requires-clause-version : goal.over-recorder-requires-clause-version
over-recorder-requires-clause-version g c = readable c.version-version.result

pub unreachable-requires : goal.unreachable-requires
unreachable-requires g c = c.in-Err-NoMatching.ensures.no_matching c.in-Err-NoMatching.field-0-0 (ap Err c.in-Err-NoMatching.field-0-is)

pub returns-in-Ok-clause-found : goal.returns-in-Ok-clause-found
returns-in-Ok-clause-found g c =
    let S = g.S.Store in
    let r = c.over-recorder.result in
    let n = c.note_into.new.recorder in
    let s = seen r.version r.instance.now r.name.now (S.stage r.store.now) r.doing r.nodes r.cases in
    let t = seen n.version n.instance.now n.name.now (S.stage n.store.now) n.doing n.nodes n.cases in
    let found = stream_found c.args.instance.now c.args.pins.now c.args.nodes c.args.certificate.now s t c.in-Ok.solved
    (c.over-recorder.ensures.version ∙ c.version-version.ensures ∙ sym c.in-Ok.ensures.version) c.over-recorder.ensures.own
    c.over-recorder.ensures.name c.note_into.ensures.keeps c.in-Ok.ensures.finished c.in-Ok.ensures.meets.cost
    (subst (λ v. IsShownIn v c.args.instance.now c.args.pins.now c.args.nodes c.in-Ok.solved.plan c.in-Ok.solved.bound c.in-Ok.solved.nodes (told_of t))
    (sym c.in-Ok.ensures.version)
    c.in-Ok.ensures.shown) (λ le. c.in-Ok.ensures.version ∙ (c.requires.found.few le).0) in
    let left = c.in-Ok.store-1-own.given.1 (sym (c.note_into.ensures.same_reference ∙ c.over-recorder.ensures.same_reference)) in
    subst (λ x. IsFound c.args.instance.now c.args.pins.now c.args.nodes c.args.certificate.now (S.stage x) c.in-Ok.solved) (sym left) found

pub returns-in-Ok-clause-files : goal.returns-in-Ok-clause-files
returns-in-Ok-clause-files g c = let left = c.in-Ok.store-1-own.given.1 (sym (c.note_into.ensures.same_reference ∙ c.over-recorder.ensures.same_reference)) in ap g.S.Store.told
    left ∙ c.note_into.ensures.files ∙ c.over-recorder.ensures.files

pub returns-in-Ok-clause-heard : goal.returns-in-Ok-clause-heard
returns-in-Ok-clause-heard g c = let left = c.in-Ok.store-1-own.given.1 (sym (c.note_into.ensures.same_reference ∙ c.over-recorder.ensures.same_reference)) in ap g.S.Store.heard
    left ∙ c.note_into.ensures.heard ∙ c.over-recorder.ensures.heard

pub returns-in-Ok-clause-stored : goal.returns-in-Ok-clause-stored
returns-in-Ok-clause-stored g c = let left = c.in-Ok.store-1-own.given.1 (sym (c.note_into.ensures.same_reference ∙ c.over-recorder.ensures.same_reference)) in ap g.S.Store.stored
    left ∙ c.note_into.ensures.stored ∙ c.over-recorder.ensures.stored

pub abandon-requires : goal.abandon-requires
abandon-requires g c = c.note_into.ensures.keeps.rests c.over-recorder.ensures.rests

pub abandon-requires-in-Err-Memory : goal.abandon-requires-in-Err-Memory
abandon-requires-in-Err-Memory g c = c.note_into.ensures.keeps.rests c.over-recorder.ensures.rests

pub returns-in-Err-Recorder-clause-files : goal.returns-in-Err-Recorder-clause-files
returns-in-Err-Recorder-clause-files g c = let left = c.store-in-Err-Recorder-1.given.1
    (sym (c.note_into.ensures.same_reference ∙ c.over-recorder.ensures.same_reference)) in ap g.S.Store.told left ∙ c.abandon.ensures.files ∙ c.note_into.ensures.files
    ∙ c.over-recorder.ensures.files

pub returns-in-Err-Recorder-clause-heard : goal.returns-in-Err-Recorder-clause-heard
returns-in-Err-Recorder-clause-heard g c = let left = c.store-in-Err-Recorder-1.given.1
    (sym (c.note_into.ensures.same_reference ∙ c.over-recorder.ensures.same_reference)) in ap g.S.Store.heard left ∙ c.abandon.ensures.heard ∙ c.note_into.ensures.heard
    ∙ c.over-recorder.ensures.heard

pub returns-in-Err-Recorder-clause-stored : goal.returns-in-Err-Recorder-clause-stored
returns-in-Err-Recorder-clause-stored g c = let left = c.store-in-Err-Recorder-1.given.1
    (sym (c.note_into.ensures.same_reference ∙ c.over-recorder.ensures.same_reference)) in ap g.S.Store.stored left ∙ c.abandon.ensures.stored ∙ c.note_into.ensures.stored
    ∙ c.over-recorder.ensures.stored

pub returns-in-Err-Memory-clause-files : goal.returns-in-Err-Memory-clause-files
returns-in-Err-Memory-clause-files g c = let left = c.store-in-Err-Memory-1.given.1
    (sym (c.note_into.ensures.same_reference ∙ c.over-recorder.ensures.same_reference)) in ap g.S.Store.told left ∙ c.abandon-in-Err-Memory.ensures.files
    ∙ c.note_into.ensures.files ∙ c.over-recorder.ensures.files

pub returns-in-Err-Memory-clause-heard : goal.returns-in-Err-Memory-clause-heard
returns-in-Err-Memory-clause-heard g c = let left = c.store-in-Err-Memory-1.given.1
    (sym (c.note_into.ensures.same_reference ∙ c.over-recorder.ensures.same_reference)) in ap g.S.Store.heard left ∙ c.abandon-in-Err-Memory.ensures.heard
    ∙ c.note_into.ensures.heard ∙ c.over-recorder.ensures.heard

pub returns-in-Err-Memory-clause-stored : goal.returns-in-Err-Memory-clause-stored
returns-in-Err-Memory-clause-stored g c = let left = c.store-in-Err-Memory-1.given.1
    (sym (c.note_into.ensures.same_reference ∙ c.over-recorder.ensures.same_reference)) in ap g.S.Store.stored left ∙ c.abandon-in-Err-Memory.ensures.stored
    ∙ c.note_into.ensures.stored ∙ c.over-recorder.ensures.stored
