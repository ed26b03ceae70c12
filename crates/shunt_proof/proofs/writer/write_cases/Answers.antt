use Rattle.shunt_proof.proofs.Writings.{cases_written}
use Rattle.shunt_proof.proofs.writer.write_cases.Goals as goal
use Rattle.shunt_lists.proofs.Options.{on_ok}

pub returns : goal.returns
returns c = on_ok c.write_case-2.result _ _ c.write_case-2.ensures (λ two. cases_written c.args.instance.now c.args.cases.now c.get-2.result.now c.get-3.result.now
    c.args.writer.now c.write_case.new.writer c.write_case-2.new.writer c.requires.cases.few c.get-2.ensures c.get-3.ensures c.in_ok-write_case.ensures two)
