use Rattle.std.proofs.Common.{◌≡◌, length, ap, sym, ◌∙◌}
use Rattle.std.specs.FinMap as map
use Rattle.shunt_store.specs.defs.Table.{files_of}
use Rattle.shunt_store.proofs.TableLaws.{pushed, pushed_there}
use Rattle.shunt_store.proofs.table.put.Goals as goal

pub returns-clause-ok : goal.returns-clause-ok
returns-clause-ok c =
    let lacks = rw c.deref.ensures.value at c.in_default.ensures.lacks in
    ap files_of c.in_ok-push.ensures.items
    ∙ pushed c.args.files.now.items _ c.args.name.now lacks c.in_ok-name.ensures.items
    ∙ ap (map.insert (files_of c.args.files.now.items) c.args.name.now) c.in_ok-bytes.ensures.items

pub returns-clause-place : goal.returns-clause-place
returns-clause-place c =
    let lacks = rw c.deref.ensures.value at c.in_default.ensures.lacks in
    let last : c.len-place.result ≡ length c.args.files.now.items = c.len-place.ensures ∙ sym c.deref.ensures.len ∙ ap length c.deref.ensures.value in
    pushed_there c.args.files.now.items c.push.new.self.items _ c.args.name.now c.len-place.result lacks c.in_ok-push.ensures.items c.in_ok-name.ensures.items last
