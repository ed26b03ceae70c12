-- What a recorder over a store has written when a search ends.
use Rattle.std.proofs.Common.{◌≡◌, ◌∙◌, ℕ, List, Some, sym, subst, ap}
use Rattle.std.specs.Prelude.{IfSome}
use Rattle.shunt_store.specs.defs.Files.{text_of}
use Rattle.shunt_proof.specs.declared.records.Node.{Node}
use Rattle.shunt_proof.specs.defs.Recorders.{Finished}
use Rattle.shunt_proof.specs.defs.TextRecorders.{Streamed, stage_of, told_of}
use Rattle.shunt_proof.proofs.Stages.{finished, nodes_of_sound, told_finished}
use Rattle.shunt_proof.proofs.Told.{told_so, ended}
use Rattle.shunt_planning.specs.defs.Planned.{certificate_file}

-- it has written the certificate's text
pub finished_text : (s : Streamed) (cost bound : ℕ) (nodes : List Node) → stage_of s ≡ Finished cost bound → IfSome (told_of s) (λ now. now ≡ nodes)
    → text_of s.place ≡ certificate_file s.night (record { version = s.version; nodes = nodes; cost = cost; bound = bound })
finished_text s cost bound nodes stage tells =
    let end = finished s cost bound stage in
    let found = nodes_of_sound s end.sound in
    let same : found.0 ≡ nodes = subst (λ o. IfSome o (λ now. now ≡ nodes)) found.1 tells in
    let text = told_so s.version s.night (Some (cost, bound)) s.nodes s.cases (text_of s.place) found.0 (sym (told_finished s cost bound end.doing) ∙ found.1) in
    text.text ∙ sym (ended s.version s.night found.0 (cost, bound)) ∙ ap (λ (l : List Node). certificate_file s.night
    (record { version = s.version; nodes = l; cost = cost; bound = bound })) same
