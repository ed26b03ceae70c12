use Rattle.std.proofs.Common.{Some, ap, sym, ◌∙◌}
use Rattle.shunt_store.specs.declared.table.File.{File}
use Rattle.shunt_store.proofs.TableLaws.{there, name_there}
use Rattle.shunt_store.proofs.table.bytes_of.Goals as goal

pub returns : goal.returns
returns c =
    let f = c.index-files-place.result in
    let name = ap (λ (x : File). x.name.items) c.index-files-place.is ∙ name_there c.args.files.now c.args.place f c.requires.within in
    there c.args.files.now c.args.place f _ c.requires.before c.requires.within c.index-files-place.is name
    ∙ ap Some (ap (λ (x : File). x.bytes.items) c.index-files-place.is ∙ sym c.deref.ensures.value)
