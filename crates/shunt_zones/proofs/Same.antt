-- A zone over a way is found by its own comparison.
use Rattle.std.proofs.Common.{◌≡◌, ◌&&◌, ◌==◌, Bool, true, false, List, [], ◌∷◌, ◌++◌, refl, sym, ap, ◌∙◌}
use Rattle.std.proofs.lemmas.Bool.{cond-false}
use Rattle.std.specs.Prelude.{◌||◌, Result, Ok, Err, IfOk, if◌then◌else◌}
use Rattle.std.specs.Result.{is_err}
use Rattle.std.specs.List.{list_any}
use Rattle.shunt_base.specs.declared.ids.Side.{Side}
use Rattle.shunt_base.specs.declared.ids.Side.TheVariants as side
use Rattle.shunt_base.specs.contracts.ids.SidePartialEq.TheImpl.{eq-value as side_eq}
use Rattle.shunt_base.specs.defs.Sides.{same_side}
use Rattle.shunt_zones.specs.declared.records.Over.{Over}
use Rattle.shunt_zones.specs.defs.ZonesFormat.{is_same, stands}
use Rattle.shunt_zones.specs.contracts.records.OverPartialEq.TheImpl.{eq-value}

side_same : (x y : Side) → side_eq.it x y ≡ same_side x y
side_same side.A side.A = refl
side_same side.A side.B = refl
side_same side.B side.A = refl
side_same side.B side.B = refl

in_turn : (a b c d : Bool) → (a && (b && (c && d))) ≡ (a && b && c && d)
in_turn false b c d = refl
in_turn true false c d = refl
in_turn true true c d = refl

same : (o p : Over) → eq-value.it o p ≡ is_same o p
same o p =
    ap (λ b. o.platform.0 == p.platform.0 && (o.track.0 == p.track.0 && (b && (o.zone == p.zone)))) (side_same o.side p.side)
    ∙ in_turn (o.platform.0 == p.platform.0) (o.track.0 == p.track.0) (same_side o.side p.side) (o.zone == p.zone)

pub found : (o : Over) (all : List Over) → list_any (eq-value.it o) all ≡ stands all o
unfolding stands
found o [] = refl
found o (p ∷ all) = ap (λ b. b || list_any (eq-value.it o) all) (same o p) ∙ ap (λ b. is_same o p || b) (found o all)

-- what holds of an answer that is no error
given : {T E : Type 0} (Q : Type 0) (r : Result T E) → false ≡ is_err r → IfOk r (λ x. Q) → Q
given Q (Ok x) good h = h
given Q (Err y) good h = absurd (let e : false ≡ true = good in cc)

-- one that wasn't there comes last
pub comes_last : {T E : Type 0} (o : Over) (all known more now : List Over) (r : Result T E) → known ≡ all → stands all o ≡ false → false ≡ is_err r
    → IfOk r (λ x. more ≡ (if list_any (eq-value.it o) known then known else known ++ o ∷ [])) → now ≡ all ++ o ∷ [] → more ≡ now
comes_last o all known more now r same new good keys pushed =
    let fresh = found o known ∙ ap (λ l. stands l o) same ∙ new in
    given _ r good keys ∙ cond-false _ _ _ fresh ∙ ap (λ l. l ++ o ∷ []) same ∙ sym pushed
