-- The test of two sides.
use Rattle.std.proofs.Common.{◌≡◌, true, refl}
use Rattle.std.specs.Prelude.{◌↔◌}
use Rattle.std.proofs.lemmas.Bool.{false≢true}
use Rattle.shunt_base.specs.declared.ids.Side.{Side}
use Rattle.shunt_base.specs.declared.ids.Side.TheVariants.{A, B}
use Rattle.shunt_base.specs.defs.Sides.{same_side}

pub same_side_tells : (x y : Side) → same_side x y ≡ true → x ≡ y
same_side_tells A A t = refl
same_side_tells A B t = absurd (false≢true t)
same_side_tells B A t = absurd (false≢true t)
same_side_tells B B t = refl

pub same_side_itself : (s : Side) → same_side s s ≡ true
same_side_itself A = refl
same_side_itself B = refl

pub same_side_is : (x y : Side) → x ≡ y → same_side x y ≡ true
same_side_is A A e = refl
same_side_is A B e = absurd cc
same_side_is B A e = absurd cc
same_side_is B B e = refl
