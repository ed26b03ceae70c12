use Rattle.std.proofs.Common.{◌≡◌, map, take}
use Rattle.shunt_picture.specs.defs.Pictures.{kind_of}
use Rattle.shunt_picture.proofs.plan_picture.kinds_of.Given as goal

abbrev pub invariant-loop-kind : goal.invariant-loop-kind
invariant-loop-kind l = l.kinds.items ≡ map kind_of (take l.kind-index l.types)
