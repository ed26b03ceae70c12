use Rattle.std.proofs.Common.{◌∙◌, rules, refl}
use Rattle.shunt_store.proofs.TableLaws.{on_err}
use Rattle.shunt.proofs.Writes.{next_of, next_stored, some_of, stored_none, told_none}
use Rattle.shunt.proofs.delivery.write_files.Goals as goal

pub returns-in_err-write_all_to-clause-err : goal.returns-in_err-write_all_to-clause-err
returns-in_err-write_all_to-clause-err g c = let i = c.files.invariant in on_err c.from_residual.result _
    (some_of c.args.writes.now c.files.write-index _ _ _ _ _ _ i.told i.stored c.in_err-write_all_to.ensures.err c.in_err-write_all_to.ensures.none_stored)

pub files-init : goal.files-init
files-init g c = record {
  told = told_none c.args.writes.now _;
  stored = stored_none c.args.writes.now _;
  heard = refl;
  stage = search rules;
  later = search rules;
}

pub files-preserved : goal.files-preserved
files-preserved g c = let i = c.files.invariant in record {
  told = next_of c.args.writes.now c.files.write-index c.write-item.result _ _ _ _ _ _ c.files-test.true c.write-item.is c.as_str.ensures.value c.deref.ensures.value i.told
      c.in_ok-write_all_to.ensures.ok;
  stored = next_stored c.args.writes.now c.files.write-index c.write-item.result _ _ _ _ _ _ c.files-test.true c.write-item.is c.as_str.ensures.value c.deref.ensures.value i.stored
      c.in_ok-write_all_to.ensures.stored;
  heard = c.in_ok-write_all_to.ensures.heard ∙ i.heard;
  stage = search rules;
  later = search rules;
}
