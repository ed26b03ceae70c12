use mir.Syntax.{w64}
use mir.Val.{to_z, of_z}
use Rattle.std.specs.Prelude.{IfSome, Option}
use Rattle.std.proofs.Common.{◌≡◌, ℤ, sym, subst, arith}
use Rattle.std.proofs.lemmas.Int.{ints}
use Rattle.shunt_prices.specs.defs.Sums.{IsWithin}
use Rattle.shunt_fillings.specs.defs.Pieces.{seen}
use Rattle.shunt_fillings.specs.defs.Besides.{IsGainBeside}
use Rattle.shunt_fillings.proofs.Joined.{besides_more}
use Rattle.shunt_fillings.proofs.besides.add_beside.Goals as goal

pub returns-in_ok-push-clause-besides : goal.returns-in_ok-push-clause-besides
returns-in_ok-push-clause-besides c =
    let s = c.args.scene.now in
    let night = s.instance.now in
    let path = s.path.now.blocks in
    let stack = seen c.args.stack in
    let small = subst (λ (o : Option ℤ). IfSome o (IsWithin 1280000000000000000)) c.in-Some.is c.in_ok-gain.ensures.small in
    let own : to_z w64 (of_z w64 c.in-Some.gain) ≡ c.in-Some.gain = omega (arith, ints, small.low, small.high) in
    λ case ks are is before.
    let gains = subst (λ (o : Option ℤ). IfSome o (IsGainBeside night path case stack c.args.shape)) c.in-Some.is (c.in_ok-gain.ensures.beside case ks are is) in
    besides_more night s.events.now path case stack ks are c.args.besides.now.items c.push.new.self.items
    (record { shape = c.args.shape; gain = to_z w64 (of_z w64 c.in-Some.gain) }) c.in_ok-push.ensures.items before
    (subst (IsGainBeside night path case stack c.args.shape) (sym own) gains) (subst (IsWithin 1280000000000000000) (sym own) small)
