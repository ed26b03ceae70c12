use Rattle.shunt_report.proofs.Lines.{busiest_written}
use Rattle.shunt_report.proofs.zones.push_busiest.Goals as goal
use Rattle.shunt_lists.proofs.Options.{on_ok}

pub returns-in_ok-push-in-Some-2 : goal.returns-in_ok-push-in-Some-2
returns-in_ok-push-in-Some-2 c = on_ok c.push_number.result _ _ c.push_number.ensures
    (λ more. busiest_written c.args.text.now c.push.new.self c.push_minute.new.self c.push-in-Some.new.self c.push_number.new.self c.args.busiest c.in-Some.minute c.args.most
    c.in-Some.is c.in_ok-push-in-Some.ensures c.in_ok-push_minute-in-Some.ensures c.in_ok-push-in-Some-2.ensures more)
