use Rattle.std.proofs.Common.{arith, subst, sym}
use Rattle.std.specs.Prelude.{IfSome}
use Rattle.shunt.specs.defs.Calls.{texts, call_of}
use Rattle.shunt.specs.defs.Words.{Spells}
use Rattle.shunt.proofs.Eight.{eight}
use Rattle.shunt.proofs.words.long_command_of.Goals as goal

pub returns-in-len8-clause-some : goal.returns-in-len8-clause-some
returns-in-len8-clause-some c = subst (λ ws. IfSome c.of_seven_words.result (λ d. Spells (texts ws) (call_of d)))
    (sym (eight c.args.words.now _ _ _ _ _ _ _ _ (omega arith) c.word-item.is c.first-item.is c.second-item.is c.third-item.is c.fourth-item.is c.fifth-item.is c.sixth-item.is
    c.seventh-item.is)) c.of_seven_words.ensures.some
