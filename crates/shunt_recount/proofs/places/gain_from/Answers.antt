use Rattle.std.proofs.Common.{arith}
use Rattle.shunt_recount.proofs.places.gain_from.Goals as goal

pub returns-in-Some : goal.returns-in-Some
returns-in-Some c = let passed = c.requires.passed in
    c.in-Some.ensures c.args.moments.now c.args.passed c.requires.known c.requires.top (omega (arith, passed))
