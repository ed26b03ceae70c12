-- Feasible lists are few blocks in range, and are feasible with any ids that fit.
use Rattle.std.specs.Prelude.{All}
use Rattle.std.proofs.Common.{◌≡◌, ⊎_elim, ℕ, ◌+◌, ◌≤◌, List, [], ◌∷◌, length, refl, sym, subst, arith}
use Rattle.std.proofs.lemmas.Bool.{cases_lt}
use Rattle.std.proofs.lemmas.List.Sums.{sum_by-cons}
use Rattle.std.proofs.lemmas.List.Elements.{All-cons, All-nil, All-tail}
use Rattle.shunt_lists.specs.defs.Members.{AreDistinct}
use Rattle.shunt_instance.specs.defs.Instance.{Night, IsInstance}
use Rattle.shunt_instance.proofs.Orders.{opened}
use Rattle.shunt_instance.proofs.Looked.{units_few}
use Rattle.shunt_blocks.specs.declared.records.Block.{Block}
use Rattle.shunt_blocks.specs.defs.Shapes.{shape_of, IsWithinTrains}
use Rattle.shunt_blocks.specs.defs.Blocks.{IsBlock, IsBlockButId}
use Rattle.shunt_blocks.specs.defs.Costs.{block_cost}
use Rattle.shunt_blocks.specs.defs.Lists.{has_unit, has_position, times_unit, times_position, Covers, ShareNothing, AreInRange, CanStand, RunsThrough, IsFeasible, total_cost, placed_from, placed}
use Rattle.shunt_blocks.proofs.Places.{unit_in, position_in}
use Rattle.shunt_blocks.proofs.Held.{holder}
use Rattle.shunt_blocks.proofs.Few.{few_blocks}
use Rattle.shunt_blocks.proofs.StaysOf.{placed_alike, placed_ids, times_alike, positions_alike, ranges_stand, apart_stand, alike_runs}
use Rattle.shunt_lists.proofs.Members.{each_one, range_distinct as rising}
use Rattle.shunt_blocks.proofs.Shapes.{all_within, has_from, has_position_from, is_within, but_ids}

-- ---- what covers the night shares nothing

pub covers_apart : (night : Night) (blocks : List Block) → All (IsWithinTrains night) blocks → Covers night blocks → ShareNothing night blocks
covers_apart night blocks within covers = record { units = units; positions = positions }
  where
    units : (u : ℕ) → times_unit night blocks u ≤ 1
    units u = ⊎_elim
        (λ few. omega (arith, few))
        (λ some.
        let of = holder (λ b. has_unit night (shape_of b) u) blocks some in
        omega (arith, covers.units u (unit_in night (shape_of of.0) u (each_one (IsWithinTrains night) blocks of.0 within of.1).runs (has_from night of.0 u of.2))))
        (cases_lt (times_unit night blocks u) 1)

    positions : (v : ℕ) → times_position night blocks v ≤ 1
    positions v = ⊎_elim
        (λ few. omega (arith, few))
        (λ some.
        let of = holder (λ b. has_position night (shape_of b) v) blocks some in
        omega (
          arith,
          covers.positions v (position_in night (shape_of of.0) v (each_one (IsWithinTrains night) blocks of.0 within of.1).runs
              (has_position_from night of.0 v of.2)),
        ))
        (cases_lt (times_position night blocks v) 1)

-- ---- they are few, and in range

pub few : (night : Night) (blocks : List Block) → IsInstance night → All (IsWithinTrains night) blocks → ShareNothing night blocks → length blocks ≤ 160
few night blocks is within apart = omega (arith, few_blocks night blocks within apart, units_few night (opened night is))

pub feasible_apart : (night : Night) (blocks : List Block) → IsFeasible night blocks → ShareNothing night blocks
feasible_apart night blocks h = covers_apart night blocks (all_within night blocks (but_ids night blocks h.each)) h.covers

pub feasible_few : (night : Night) (blocks : List Block) → IsInstance night → IsFeasible night blocks → length blocks ≤ 160
feasible_few night blocks is h = few night blocks is (all_within night blocks (but_ids night blocks h.each)) (feasible_apart night blocks h)

pub feasible_in_range : (night : Night) (blocks : List Block) → IsInstance night → IsFeasible night blocks → AreInRange night blocks
feasible_in_range night blocks is h = record {
  few = omega (arith, feasible_few night blocks is h);
  each = λ k d lt. (h.each k d lt).in_range;
  ids = h.ids;
}

-- ---- places as ids

placed_blocks : (night : Night) (k : ℕ) (blocks : List Block) → 1 ≤ k → k + length blocks ≤ 161 → All (IsBlockButId night) blocks → All (IsBlock night) (placed_from k blocks)
placed_blocks night k [] from to all = All-nil (IsBlock night)
placed_blocks night k (b ∷ blocks) from to all =
    let h = all 0 b (omega arith) in
    let w = is_within night b h in
    All-cons (IsBlock night) (record b { id = k }) (placed_from (k + 1) blocks)
    (record { in_range = record { from = from; to = omega (arith, to); within = record { runs = w.runs; track = w.track } }; shape = h.shape; option = h.option })
    (placed_blocks night (k + 1) blocks (omega arith) (omega (arith, to)) (All-tail (IsBlockButId night) b blocks all))

-- with places as ids, what covers the night and runs through so is feasible
pub placed_feasible : (night : Night) (blocks : List Block) → IsInstance night → All (IsBlockButId night) blocks → Covers night blocks → RunsThrough night (placed blocks)
    → IsFeasible night (placed blocks)
placed_feasible night blocks is each covers through =
    let within = all_within night blocks each in
    record {
      ids = subst AreDistinct (sym (placed_ids 1 blocks)) (rising 1 (length blocks));
      each = placed_blocks night 1 blocks (omega arith) (omega (arith, few night blocks is within (covers_apart night blocks within covers))) each;
      covers = record {
        units = λ u lt. omega (arith, times_alike night blocks (placed blocks) u (placed_alike 1 blocks), covers.units u lt);
        positions = λ v lt. omega (arith, positions_alike night blocks (placed blocks) v (placed_alike 1 blocks), covers.positions v lt);
      };
      through = through;
    }

-- so is what covers the night and runs through with ids of its own
pub renumbered : (night : Night) (blocks : List Block) → IsInstance night → CanStand night blocks → All (IsBlockButId night) blocks → Covers night blocks → RunsThrough night blocks
    → IsFeasible night (placed blocks)
renumbered night blocks is stand each covers through =
    let within = all_within night blocks each in
    let apart = covers_apart night blocks within covers in
    placed_feasible night blocks is each covers ((alike_runs night blocks (placed blocks) is stand (apart_stand night blocks is within apart) apart (placed_alike 1 blocks)).0
    through)

pub feasible_placed : (night : Night) (blocks : List Block) → IsInstance night → IsFeasible night blocks → IsFeasible night (placed blocks)
feasible_placed night blocks is h = renumbered night blocks is (ranges_stand night blocks (feasible_in_range night blocks is h)) (but_ids night blocks h.each) h.covers h.through

pub placed_cost : (night : Night) (k : ℕ) (blocks : List Block) → total_cost night (placed_from k blocks) ≡ total_cost night blocks
placed_cost night k [] = refl
placed_cost night k (b ∷ blocks) = let rest = placed_cost night (k + 1) blocks in omega
    (arith, rest, sum_by-cons (block_cost night) b blocks, sum_by-cons (block_cost night) (record b { id = k }) (placed_from (k + 1) blocks))
