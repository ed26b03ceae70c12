use Rattle.std.proofs.Common.{ap, ◌∙◌}
use Rattle.shunt_store.specs.declared.table.File.{File}
use Rattle.shunt_store.proofs.TableLaws.{changed, name_there, still_there}
use Rattle.shunt_store.proofs.table.put_at.Goals as goal

pub returns-clause-files : goal.returns-clause-files
returns-clause-files c =
    let named = ap (λ (f : File). f.name.items) c.index_mut.ensures.value ∙ name_there c.args.files.now.items c.args.place c.index_mut.result.now c.requires.within in
    changed c.args.files.now.items c.args.place _ _ c.requires.before c.requires.within (λ d. name_there c.args.files.now.items c.args.place d c.requires.within) named

pub returns-clause-place : goal.returns-clause-place
returns-clause-place c =
    let named = ap (λ (f : File). f.name.items) c.index_mut.ensures.value ∙ name_there c.args.files.now.items c.args.place c.index_mut.result.now c.requires.within in
    still_there c.args.files.now.items c.args.place _ _ c.requires named
