use Rattle.std.proofs.Common.{◌≡◌, ℕ, subst, sym, arith}
use Rattle.shunt_gains.specs.defs.Tables.{fixed_in, free_in, events_in}
use Rattle.shunt_gains.specs.defs.Places.{Surround}
use Rattle.shunt_gains.proofs.Beside.{starts}
use Rattle.shunt_gains.proofs.places.place_at.Goals as goal

pub places-init : goal.places-init
places-init c =
    let p = c.args.pieces.now in
    let len : c.len.result ≡ events_in p = omega (arith, c.len.ensures, p.fixed_at.ok) in
    record {
      there = record { starts = omega arith; ends = omega (arith, len, c.requires.within); within = omega (arith, len) };
      surround = subst (λ (n : ℕ). Surround (fixed_in p) (free_in p) (events_in p) c.args.room c.args.at (record { x = 0; end = n; room = c.args.room })) (sym len)
          (starts (fixed_in p) (free_in p) (events_in p) c.args.room c.args.at);
    }
