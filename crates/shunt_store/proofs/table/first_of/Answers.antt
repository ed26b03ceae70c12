use Rattle.std.proofs.Common.{◌≢◌, ap, ◌∙◌}
use Rattle.std.proofs.lemmas.Bool.{both_ways}
use Rattle.std.proofs.lemmas.List.Elements.{All-more}
use Rattle.std.proofs.lemmas.Slice.Eq.{bytes_eq-Decides}
use Rattle.shunt_store.specs.declared.table.File.{File}
use Rattle.shunt_store.proofs.table.first_of.Goals as goal

pub loop-i-preserved : goal.loop-i-preserved
loop-i-preserved c =
    All-more (λ f. f.name.items ≢ c.args.name.now) c.args.files.now c.loop-i.i c.index-files-i.result c.loop-i-test.true c.loop-i.invariant
    (λ e. both_ways _ c.if-eq.false (c.eq.ensures ∙ (bytes_eq-Decides c.as_slice.result.now c.args.name.now).1
    (c.as_slice.ensures.value ∙ ap (λ (f : File). f.name.items) c.index-files-i.is ∙ e)))
