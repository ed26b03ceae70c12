use mir.Syntax.{w64}
use mir.Val.{to_z, of_z}
use Rattle.std.proofs.Common.{◌≡◌, get_or, pos, sym, arith}
use Rattle.std.proofs.lemmas.Int.{ints}
use Rattle.shunt_lists.proofs.Members.{in_place}
use Rattle.shunt_fillings.specs.declared.besides.Beside.{Beside}
use Rattle.shunt_fillings.proofs.Joined.{same_shape}
use Rattle.shunt_fillings.proofs.besides.gain_at.Goals as goal

pub returns-then-eq : goal.returns-then-eq
returns-then-eq c =
    let d : Beside = record { shape = record { arr = record { 0 = 0 }; p = 0; n = 0; dep = record { 0 = 0 }; q = 0 }; gain = pos 0 } in
    let i = c.besides.beside-index in
    let k = get_or c.args.besides.now i d in
    let small = c.requires.small i d c.besides-test.true in
    let own : to_z w64 (of_z w64 k.gain) ≡ k.gain = omega (arith, ints, small.low, small.high) in
    (k, in_place c.args.besides.now i d c.besides-test.true, same_shape k.shape c.args.shape c.eq.result c.eq.ensures c.if-eq.true, sym own)
