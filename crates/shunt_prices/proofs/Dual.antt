-- A plan that keeps a path costs at least the bound of the path.
use Rattle.std.specs.Prelude.{All, cond, map, sum_by}
use Rattle.std.proofs.Common.{◌≡◌, ℕ, ◌<◌, ◌≤◌, Bool, true, List, [], ◌∷◌, get_or, refl, sym, subst, ap, ◌∙◌, arith}
use Rattle.std.proofs.lemmas.List.Sums.{sum_by-cons}
use Rattle.std.proofs.lemmas.List.Elements.{All-tail}
use Rattle.shunt_lists.specs.defs.Members.{In}
use Rattle.shunt_lists.proofs.Members.{Distinct, in_map, of_map, each_one}
use Rattle.shunt_lists.proofs.Sums.{sum_within, some_of}
use Rattle.shunt_instance.specs.defs.Instance.{Night, unit_total, position_total}
use Rattle.shunt_blocks.specs.declared.records.Block.{Block}
use Rattle.shunt_blocks.specs.defs.Shapes.{shape_of, begins_at, IsShape}
use Rattle.shunt_blocks.specs.defs.Blocks.{IsBlockButId, IsOption}
use Rattle.shunt_blocks.specs.defs.Costs.{block_cost}
use Rattle.shunt_blocks.specs.defs.Lists.{has_unit, has_position, times_unit, times_position, Covers, ShareNothing, total_cost}
use Rattle.shunt_blocks.specs.defs.Pins.{IsKept, Keeps, without_id}
use Rattle.shunt_blocks.proofs.Held.{held, holder, one_holder}
use Rattle.shunt_choices.proofs.Given.{PlaceLaws}
use Rattle.shunt_blocks.proofs.Shapes.{has_from, begins_itself}
use Rattle.shunt_blocks.proofs.StaysOf.{rest_apart as apart_tail}

-- ---- a kept block is the plan's but for its id

pub kept_block : (night : Night) (plan : List Block) (b : Block) → All (IsBlockButId night) plan → IsKept plan b → IsBlockButId night b
kept_block night plan b all k =
    let w = each_one (IsBlockButId night) plan k.block all k.there in
    record {
      shape = subst (IsShape night) (ap shape_of k.same) w.shape;
      option = subst (λ (x : Block). IsOption night (shape_of x) x.park) k.same (record_option w);
    }
  where
    record_option : IsBlockButId night k.block → IsOption night (shape_of (without_id k.block)) (without_id k.block).park
    record_option w = w.option

pub kept_blocks : (night : Night) (plan path : List Block) → All (IsBlockButId night) plan → Keeps plan path → All (IsBlockButId night) path
kept_blocks night plan path all keeps k d lt = kept_block night plan (get_or path k d) all (keeps k d lt)

-- ---- a path that covers all units covers all positions too

module _ (places : PlaceLaws) (night : Night) (plan path : List Block) (all : All (IsBlockButId night) plan) (covers : Covers night plan) (keeps : Keeps plan path)
    (apart : ShareNothing night path)
    (full : (u : ℕ) → u < unit_total night → 1 ≤ times_unit night path u) where
  -- the plan's block is one of the path's
  twin : (b : Block) → In b plan → (p : Block) × In p path × (without_id b ≡ without_id p)
  twin b there =
      let is = each_one (IsBlockButId night) plan b all there in
      let has = begins_itself night b is.shape.within.n in
      let lt = places.unit_in night (shape_of b) (begins_at night b) is.shape.within (has_from night b (begins_at night b) has) in
      let p = holder (λ x. has_unit night (shape_of x) (begins_at night b)) path (full (begins_at night b) lt) in
      let k = each_one (IsKept plan) path p.0 keeps p.1 in
      let has_too : has_unit night (shape_of k.block) (begins_at night b) ≡ true = subst (λ s. has_unit night s (begins_at night b) ≡ true) (sym (ap shape_of k.same)) p.2 in
      let same = one_holder (λ x. has_unit night (shape_of x) (begins_at night b)) plan k.block b (omega (arith, covers.units (begins_at night b) lt)) k.there there has_too has in
      (p.0, p.1, ap without_id (sym same) ∙ k.same)

  pub path_covers : Covers night path
  path_covers = record {
    units = λ u lt. omega (arith, full u lt, apart.units u);
    positions = λ v lt. omega (arith, apart.positions v, some_position v lt);
  }
    where
      some_position : (v : ℕ) → v < position_total night → 1 ≤ times_position night path v
      some_position v lt =
          let b = holder (λ x. has_position night (shape_of x) v) plan (omega (arith, covers.positions v lt)) in
          let p = twin b.0 b.1 in
          held (λ x. has_position night (shape_of x) v) path p.0 p.1 (subst (λ s. has_position night s v ≡ true) (ap shape_of p.2) b.2)

-- ---- a path costs no more than a plan that keeps it

cost_without : (night : Night) (blocks : List Block) → sum_by (block_cost night) (map without_id blocks) ≡ total_cost night blocks
cost_without night [] = refl
cost_without night (b ∷ blocks) = omega (
  arith,
  sum_by-cons (block_cost night) (without_id b) (map without_id blocks),
  sum_by-cons (block_cost night) b blocks,
  cost_without night blocks,
)

abbrev flag : Bool → ℕ
flag b = cond b 1 0

distinct : (night : Night) (blocks : List Block) → All (IsBlockButId night) blocks → ShareNothing night blocks → Distinct (map without_id blocks)
distinct night [] all apart = tt
distinct night (b ∷ blocks) all apart = (
  λ h. twice (of_map without_id blocks (without_id b) h),
  distinct night blocks (All-tail (IsBlockButId night) b blocks all) (apart_tail night b blocks apart),
)
  where
    twice : ((c : Block) × In c blocks × (without_id b ≡ without_id c)) → ⊥
    twice c =
        let u = begins_at night b in
        let own = begins_itself night b (all 0 b (omega arith)).shape.within.n in
        let other : has_unit night (shape_of c.0) u ≡ true = subst (λ s. has_unit night s u ≡ true) (ap shape_of c.2) own in
        let one = ap flag own in
        absurd (omega (
          arith,
          apart.units u,
          sum_by-cons (λ x. cond (has_unit night (shape_of x) u) 1 0) b blocks,
          held (λ x. has_unit night (shape_of x) u) blocks c.0 c.1 other,
          one,
        ))

all_counted : {X : Type 0} (f : X → ℕ) (xs : List X) → sum_by (some_of f (λ x. true)) xs ≡ sum_by f xs
all_counted f [] = refl
all_counted f (x ∷ xs) = omega (arith, sum_by-cons (some_of f (λ y. true)) x xs, sum_by-cons f x xs, all_counted f xs)

pub costs_less : (night : Night) (plan path : List Block) → All (IsBlockButId night) path → ShareNothing night path → Keeps plan path
    → total_cost night path ≤ total_cost night plan
costs_less night plan path all apart keeps =
    omega (
      arith,
      cost_without night path,
      cost_without night plan,
      all_counted (block_cost night) (map without_id path),
      sum_within (block_cost night) (λ x. true) (map without_id path) (map without_id plan) (distinct night path all apart)
          (λ x there t. inside x (of_map without_id path x there)),
    )
  where
    inside : (x : Block) → ((p : Block) × In p path × (x ≡ without_id p)) → In x (map without_id plan)
    inside x p = let k = each_one (IsKept plan) path p.0 keeps p.1 in subst (λ (z : Block). In z (map without_id plan)) (k.same ∙ sym p.2) (in_map without_id plan k.block k.there)
