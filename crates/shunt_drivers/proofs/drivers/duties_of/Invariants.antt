use Rattle.std.proofs.Common.{◌≡◌, ◌<◌, ◌^◌, ◌++◌, All, drop}
use Rattle.shunt_drivers.specs.defs.Dealt.{dealt}
use Rattle.shunt_drivers.proofs.drivers.duties_of.Given as goal

abbrev pub invariant-loop-i : goal.invariant-loop-i
invariant-loop-i l = record {
  exact : l.duties.items ++ dealt (drop l.i l.moves) (drop l.i l.shares) ≡ dealt l.moves l.shares;
  small : All (λ d. d.id < 2 ^ 32) l.duties.items;
}
