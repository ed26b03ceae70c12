-- Duals as the cases of a root, and their bound.
use Rattle.std.specs.Prelude.{◌≤ℤ◌, map}
use Rattle.std.proofs.Common.{◌≡◌, ℕ, ◌<◌, List, [], length, ℤ, pos, negsuc, refl, sym, subst, arith}
use Rattle.std.proofs.lemmas.Int.{ints}
use Rattle.std.proofs.lemmas.List.Elements.{All-cons, All-nil}
use Rattle.shunt_base.specs.declared.duals.Duals.{Duals}
use Rattle.shunt_base.specs.declared.duals.Case.{Case}
use Rattle.shunt_base.specs.declared.duals.Price.{Price}
use Rattle.shunt_instance.specs.defs.Instance.{Night}
use Rattle.shunt_blocks.specs.declared.records.Block.{Block}
use Rattle.shunt_prices.specs.defs.Limits.{AreDuals, AreApart, AreCases, place_of_price, plain}
use Rattle.shunt_prices.specs.defs.Cases.{DualsHold}
use Rattle.shunt_prices.specs.defs.Bounds.{IsBoundOf, case_sum, duals_sum}
use Rattle.shunt_dual.specs.defs.Assignments.{IsAssignmentBound}
use Rattle.shunt_proof.specs.defs.Nodes.{AreStatable}
use Rattle.shunt_proof.specs.declared.records.Version.TheVariants.{Prices}
use Rattle.shunt_search.specs.defs.Roots.{IsAbove, AreRooted}

pub record RootLaws : Type 0 where
  pub there : (sum : ℤ) → (bound : ℤ) × IsBoundOf sum bound
  pub rise : (sum more bound other : ℤ) → sum ≤ℤ more → IsBoundOf sum bound → IsBoundOf more other → bound ≤ℤ other
  pub one_case : (night : Night) (d : Duals) → AreDuals night d → AreCases night (plain d)

-- what is rounded up from a number isn't negative
whole : (total : ℕ) (z : ℤ) → IsBoundOf (pos total) z → (b : ℕ) × (z ≡ pos b)
whole total (pos b) is = (b, refl)
whole total (negsuc b) is = let enough = is.enough in absurd (omega (arith, ints, enough))

-- what is equal and rises stays above
pub in_all : (total : ℕ) (a x y z : ℤ) → a ≡ pos total → x ≡ a → x ≤ℤ y → y ≤ℤ z → pos total ≤ℤ z
in_all total a x y z is start first second = omega (arith, ints, is, start, first, second)

pub from_start : (total : ℕ) (a x y : ℤ) → a ≡ pos total → x ≡ a → x ≤ℤ y → pos total ≤ℤ y
from_start total a x y is start le = omega (arith, ints, is, start, le)

-- no prices are apart
apart_nil : AreApart []
apart_nil i j d before lt = let e : length (map place_of_price []) ≡ 0 = refl in absurd (omega (arith, lt, e))

pub none_apart : (prices : List Price) → prices ≡ [] → AreApart prices
none_apart prices e = subst (λ (l : List Price). AreApart l) (sym e) apart_nil

module _ (laws : RootLaws) (night : Night) (path : List Block) (d : Duals) where
  only : (k : ℕ) → k < length (plain d) → k ≡ 0
  only k lt = let e : length (plain d) ≡ 1 = refl in omega (arith, lt, e)

  above : (sum : ℤ) (b : ℕ) → sum ≤ℤ duals_sum night path d → IsBoundOf sum (pos b) → IsAbove Prices night path (plain d) b
  above sum b le is bound h =
      let own = subst (λ (k : ℕ). IsBoundOf (case_sum night path (plain d) k) bound) (only h.number h.opens.there) h.is in
      laws.rise sum (duals_sum night path d) (pos b) bound le is own

  pub rooted : (total : ℕ) → AreDuals night d → AreApart d.prices → DualsHold night path d → pos total ≤ℤ duals_sum night path d
      → ((b : ℕ) → IsBoundOf (pos total) (pos b) → IsAssignmentBound night b)
      → AreRooted Prices night path (plain d)
  rooted total are apart hold le assignment =
      let some = laws.there (pos total) in
      let number = whole total some.0 some.1 in
      let is = subst (λ (z : ℤ). IsBoundOf (pos total) z) number.1 some.1 in
      let statable : AreStatable night (plain d) = record {
        within = laws.one_case night d are;
        apart = All-cons (λ (c : Case). AreApart c.duals.prices)
            (record { to = 160; multiplier = pos 0; duals = d }) [] apart (All-nil (λ (c : Case). AreApart c.duals.prices));
      } in
      record { statable = statable; hold = hold; floor = number.0; assignment = assignment number.0 is; above = above (pos total) number.0 le is }
