use Rattle.std.proofs.Common.{ℕ, ap, Err}
use Rattle.std.specs.Global.{Global}
use Rattle.std.specs.Prelude.{Vec}
use Rattle.shunt_inputs.proofs.Heard.{heard_with, hears_long, tells_of}
use Rattle.shunt_inputs.proofs.SeenFiles.{some_bytes, too_long}
use Rattle.shunt_inputs.proofs.HeardSteps.{long_in}
use Rattle.shunt_inputs.proofs.file_loader.load.Goals as goal

pub returns-in-Err-TooLong-clause-told : goal.returns-in-Err-TooLong-clause-told
returns-in-Err-TooLong-clause-told g c = λ view seen.
    let e = ap Err c.in-Err-TooLong.field-0-is in
    too_long view _ _ _ _ c.most_bytes.ensures.value (long_in _ _ _ view _ _ seen (c.in-Err-TooLong.ensures.longer e) (c.in-Err-TooLong.ensures.long_heard e)) c.refuse.ensures.text

pub returns-in-Err-TooLong-clause-heard : goal.returns-in-Err-TooLong-clause-heard
returns-in-Err-TooLong-clause-heard g c = heard_with {X = Vec ℕ Global} _ _ _ _ (Err c.refuse.result)
    (hears_long _ _ _ _ (c.in-Err-TooLong.ensures.long_heard (ap Err c.in-Err-TooLong.field-0-is))) (tells_of _ _ _ c.refuse.ensures.text)

pub returns-in-Err-Fault-clause-told : goal.returns-in-Err-Fault-clause-told
returns-in-Err-Fault-clause-told g c = λ view seen. some_bytes _ _ _ (λ b. tt)

pub returns-in-Err-Memory-clause-told : goal.returns-in-Err-Memory-clause-told
returns-in-Err-Memory-clause-told g c = λ view seen. some_bytes _ _ _ (λ b. tt)
