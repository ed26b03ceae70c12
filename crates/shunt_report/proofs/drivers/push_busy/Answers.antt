use Rattle.shunt_report.proofs.Lines.{busy_written}
use Rattle.shunt_report.proofs.drivers.push_busy.Goals as goal
use Rattle.shunt_lists.proofs.Options.{on_ok}

pub returns-in_ok-push-in-Some : goal.returns-in_ok-push-in-Some
returns-in_ok-push-in-Some c = on_ok c.push_minute.result _ _ c.push_minute.ensures
    (λ more. busy_written c.args.text.now c.push.new.self c.push_minute.new.self c.args.busy c.in-Some.minute c.in-Some.is c.in_ok-push-in-Some.ensures more)
