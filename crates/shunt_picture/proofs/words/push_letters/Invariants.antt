use Rattle.std.proofs.Common.{◌≡◌, ◌++◌, drop}
use Rattle.shunt_picture.specs.defs.Words.{kind_letters}
use Rattle.shunt_picture.proofs.words.push_letters.Given as goal

abbrev pub invariant-loop-kind : goal.invariant-loop-kind
invariant-loop-kind l = l.text ++ kind_letters (drop l.kind-index l.kinds) ≡ l.fn.text ++ kind_letters l.kinds
