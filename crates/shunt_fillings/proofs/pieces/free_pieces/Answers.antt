use mir.Syntax.{w64}
use mir.Val.{to_z, of_z}
use Rattle.std.proofs.Common.{◌≡◌, get_or, arith}
use Rattle.std.proofs.lemmas.Int.{ints}
use Rattle.shunt_fillings.proofs.Listed.{no_candidate, next_span}
use Rattle.shunt_fillings.proofs.pieces.free_pieces.Goals as goal

pub candidates-preserved : goal.candidates-preserved
candidates-preserved c =
    let k = get_or c.args.candidates.now c.candidates.candidate-index no_candidate in
    let small = c.requires.small c.candidates.candidate-index no_candidate c.candidates-test.true in
    let gains : to_z w64 (of_z w64 k.gain) ≡ k.gain = omega (arith, ints, small.low, small.high) in
    next_span c.args.instance.now c.args.events.now c.args.candidates.now c.candidates.candidate-index no_candidate c.candidates-test.true c.piece_of.result
    (to_z w64 (of_z w64 k.gain)) c.candidates.pieces.items c.push.new.self.items
    c.in_ok-push.ensures.items c.candidates.invariant c.piece_of.ensures gains
