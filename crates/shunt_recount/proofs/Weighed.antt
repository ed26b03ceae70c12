-- What a parked block gains.
use Rattle.std.specs.Prelude.{◌-ℤ◌, ◌<ℤ◌, ◌≤ℤ◌, IsSome, Option, Some, None}
use Rattle.std.proofs.Common.{◌≡◌, ℕ, ◌+◌, ◌*◌, ℤ, pos, ◌+ℤ◌, ap, sym, subst, ◌∙◌, arith}
use Rattle.std.proofs.lemmas.Int.{ints}
use Rattle.std.proofs.lemmas.Bool.{false≢true}
use Rattle.shunt_base.specs.declared.duals.Case.{Case}
use Rattle.shunt_instance.specs.defs.Instance.{Night}
use Rattle.shunt_blocks.specs.declared.records.Block.{Block}
use Rattle.shunt_blocks.specs.declared.records.Park.{Park}
use Rattle.shunt_blocks.specs.declared.records.Shape.{Shape}
use Rattle.shunt_blocks.specs.defs.Shapes.{shape_of}
use Rattle.shunt_blocks.specs.defs.Blocks.{IsOption}
use Rattle.shunt_blocks.specs.defs.Costs.{block_cost, cost_with}
use Rattle.shunt_prices.specs.defs.Prices.{price_part, price_part_with}
use Rattle.shunt_prices.specs.defs.Cases.{duals_over, surcharge, HasRoom}
use Rattle.shunt_prices.specs.defs.Sums.{IsWithin}
use Rattle.shunt_stacks.specs.defs.Stacks.{Stack}
use Rattle.shunt_stacks.specs.defs.Fillings.{gain}
use Rattle.shunt_recount.specs.defs.Offers.{block_on, Gains, IsOffer}

no_more : (g : ℤ) → g ≤ℤ pos 0 → pos 0 <ℤ g → ⊥
no_more g low more = omega (arith, ints, low, more)

nothing : (m : ℤ) (o : Option Park) → IsSome o → surcharge m o ≡ pos 0
nothing m None h = absurd (false≢true h)
nothing m (Some k) h = omega (arith, ints)

pub gain_is : (night : Night) (c : Case) (b : Block) (left : ℤ) (part : ℕ) → IsSome b.park → left ≡ duals_over night c.duals (shape_of b) -ℤ pos (1000 * block_cost night b) →
    part ≡ price_part night c.duals.prices b → left -ℤ pos part ≡ gain night c b
gain_is night c b left part parked e f =
    let none = nothing c.multiplier b.park parked in
    let p : pos part ≡ pos (price_part night c.duals.prices b) = ap (λ (n : ℕ). pos n) f in
    omega (arith, ints, e, p, none)

-- ---- blocks of a stack

little : (d : ℤ) (w : ℕ) → d ≤ℤ pos 15999999999984 → pos 0 <ℤ (d -ℤ (pos w +ℤ pos 0)) → IsWithin 16000000000000 (d -ℤ (pos w +ℤ pos 0))
little d w le lt = record { low = omega (arith, ints, le, lt); high = omega (arith, ints, le, lt) }

worthy : (d : ℤ) (w : ℕ) → pos 0 <ℤ (d -ℤ (pos w +ℤ pos 0)) → pos 0 <ℤ d
worthy d w lt = omega (arith, ints, lt)

costly : (d : ℤ) (cost part : ℕ) → (d -ℤ pos (1000 * cost)) ≤ℤ pos 0 → pos 0 <ℤ (d -ℤ (pos (1000 * cost + part) +ℤ pos 0)) → ⊥
costly d cost part le lt = omega (arith, ints, le, lt)

module _ (night : Night) (c : Case) (stack : Stack) (s : Shape) where
  pub little_gain : duals_over night c.duals s ≤ℤ pos 15999999999984 → pos 0 <ℤ gain night c (block_on stack s) → IsWithin 16000000000000 (gain night c (block_on stack s))
  little_gain = little (duals_over night c.duals s) (1000 * cost_with night s (block_on stack s).park + price_part_with night c.duals.prices s (block_on stack s).park)

  pub worth_something : pos 0 <ℤ gain night c (block_on stack s) → pos 0 <ℤ duals_over night c.duals s
  worth_something = worthy (duals_over night c.duals s) (1000 * cost_with night s (block_on stack s).park + price_part_with night c.duals.prices s (block_on stack s).park)

  pub offered : (b : Block) (g : ℤ) → b ≡ block_on stack s → g ≡ gain night c b → pos 0 <ℤ g → duals_over night c.duals s ≤ℤ pos 15999999999984 →
      IsOption night s (block_on stack s).park → HasRoom night s (block_on stack s).park → IsOffer night c stack s (record { block = b; gain = g })
  offered b g e own more low option room =
      let is : g ≡ gain night c (block_on stack s) = own ∙ ap (gain night c) e in
      let lt = subst (λ (z : ℤ). pos 0 <ℤ z) is more in
      record {
        block = e;
        gain = is;
        small = subst (IsWithin 16000000000000) (sym is) (little_gain low lt);
        gains = record { option = option; room = room; gains = lt };
      }

  pub not_offered : (b : Block) (g : ℤ) → b ≡ block_on stack s → g ≡ gain night c b → g ≤ℤ pos 0 → Gains night c stack s → ⊥
  not_offered b g e own low is = no_more g low (subst (λ (z : ℤ). pos 0 <ℤ z) (sym (own ∙ ap (gain night c) e)) is.gains)

  pub nothing_left : (b : Block) (left : ℤ) → b ≡ block_on stack s → left ≡ duals_over night c.duals s -ℤ pos (1000 * block_cost night b) → left ≤ℤ pos 0 → Gains night c stack s → ⊥
  nothing_left b left e own low is =
      let paid = own ∙ ap (λ (x : Block). duals_over night c.duals s -ℤ pos (1000 * block_cost night x)) e in
      costly (duals_over night c.duals s) (cost_with night s (block_on stack s).park) (price_part_with night c.duals.prices s (block_on stack s).park)
      (subst (λ (z : ℤ). z ≤ℤ pos 0) paid low) is.gains
