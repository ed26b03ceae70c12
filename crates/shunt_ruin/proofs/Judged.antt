-- Lists that are judged.
use Rattle.std.specs.Prelude.{All, IfOk, IsTrue, Bool, Result, Ok, Err}
use Rattle.std.specs.List.{range_with_len}
use Rattle.std.proofs.Common.{◌≡◌, ⊎_elim, ℕ, suc, ◌+◌, ◌<◌, List, [], ◌∷◌, ◌++◌, length, map, take, get_or, refl, sym, subst, ap, ◌∙◌, arith}
use Rattle.std.proofs.lemmas.Bool.{cases_lt}
use Rattle.std.proofs.lemmas.List.{take_more, length-append, map-append}
use Rattle.std.proofs.lemmas.List.Elements.{All-push}
use Rattle.shunt_lists.specs.defs.Members.{AreDistinct}
use Rattle.shunt_lists.proofs.Members.{in_place, range_distinct as rising}
use Rattle.shunt_instance.specs.defs.Instance.{Night, unit_total, position_total}
use Rattle.shunt_blocks.specs.declared.records.Block.{Block}
use Rattle.shunt_blocks.specs.defs.Blocks.{IsBlock}
use Rattle.shunt_blocks.specs.defs.Lists.{times_unit, times_position, AreInRange, RunsThrough, IsFeasible}
use Rattle.shunt_blocks.specs.defs.Pins.{IsKept, without_id}
use Rattle.shunt_ruin.specs.defs.Candidates.{AreNumbered}
use Rattle.shunt_lists.proofs.Lists.{range_more_to as range_more}

pub numbered_apart : (blocks : List Block) → AreNumbered blocks → AreDistinct (map (λ b. b.id) blocks)
numbered_apart blocks are = subst AreDistinct (sym are.ids) (rising 1 (length blocks))

-- numbered blocks that are ones are in range
pub numbered_in_range : (night : Night) (blocks : List Block) → AreNumbered blocks → All (IsBlock night) blocks → AreInRange night blocks
numbered_in_range night blocks are each = record {
  few = omega (arith, are.few);
  each = λ k d lt. (each k d lt).in_range;
  ids = numbered_apart blocks are;
}

-- and where they cover the night and go through, they are feasible
pub numbered_feasible : (night : Night) (blocks : List Block) → AreNumbered blocks → All (IsBlock night) blocks
    → ((u : ℕ) → u < unit_total night → times_unit night blocks u ≡ 1) → ((v : ℕ) → v < position_total night → times_position night blocks v ≡ 1)
    → RunsThrough night blocks → IsFeasible night blocks
numbered_feasible night blocks are each units positions through = record {
  ids = numbered_apart blocks are;
  each = each;
  covers = record { units = units; positions = positions };
  through = through;
}

-- a block at a place that is a pin but for its id
pub is_kept : (blocks : List Block) (pin d : Block) (k : ℕ) → k < length blocks → without_id (get_or blocks k d) ≡ without_id pin → IsKept blocks pin
is_kept blocks pin d k lt same = record { block = get_or blocks k d; there = in_place blocks k d lt; same = same }

-- ---- lists that are gone through one by one

pub all_more : {X : Type 0} (P : X → Type 0) (xs : List X) (k : ℕ) (d : X) → k < length xs → All P (take k xs) → P (get_or xs k d) → All P (take (k + 1) xs)
all_more P xs k d lt before this = subst (All P) (sym (take_more xs k d lt)) (All-push P (take k xs) (get_or xs k d) before this)

-- what holds below a number and at it holds below the next
pub below_more : (P : ℕ → Type 0) (n : ℕ) → ((k : ℕ) → k < n → P k) → P n → (k : ℕ) → k < n + 1 → P k
below_more P n before this k lt = ⊎_elim (λ l. before k l) (λ ge. let e : k ≡ n = omega (arith, lt, ge) in subst P (sym e) this) (cases_lt k n)

-- ---- blocks that are numbered one by one

pub numbered_more : (blocks : List Block) (b : Block) → length blocks < 160 → b.id ≡ length blocks + 1 → AreNumbered blocks → AreNumbered (blocks ++ b ∷ [])
numbered_more blocks b room is are =
    let size : length (blocks ++ b ∷ []) ≡ length blocks + 1 = length-append blocks (b ∷ []) in
    let next : length (blocks ++ b ∷ []) ≡ suc (length blocks) = omega (arith, size) in
    record {
      few = omega (arith, size, room);
      ids =
          map-append (λ (c : Block). c.id) blocks (b ∷ []) ∙ ap (λ (l : List ℕ). l ++ b.id ∷ []) are.ids ∙ ap (λ n. range_with_len 1 (length blocks) ++ n ∷ []) is
          ∙ sym (range_more 1 (length blocks) (length blocks + 1) (omega arith)) ∙ ap (λ n. range_with_len 1 n) (sym next);
    }

pub numbered_none : AreNumbered []
numbered_none = record { few = omega arith; ids = refl }

-- what a yes says, says more
pub carried : {E P Q : Type 0} (r : Result Bool E) → (P → Q) → IfOk r (λ b. IsTrue b → P) → IfOk r (λ b. IsTrue b → Q)
carried (Ok b) more says = λ yes. more (says yes)
carried (Err e) more says = tt
