-- The stays of blocks: whose they are, that they are well formed, and that the order of the blocks is nothing to them.
use Rattle.std.proofs.Common.{◌↔◌, ◌≡◌, ℕ, ◌+◌, ◌<◌, ◌≤◌, List, [], ◌∷◌, length, refl, sym, subst, ◌∙◌, arith, sum_by, IsPermutation}
use Rattle.std.specs.Prelude.{Option, Some, None, if◌then◌else◌}
use Rattle.std.specs.List.{filter_map, cons_option}
use Rattle.std.proofs.lemmas.List.Sums.{sum_by-cons}
use Rattle.std.proofs.lemmas.List.Sorted.{sum_by-IsPermutation}
use Rattle.shunt_lists.proofs.Members.{all_in, all_from, place_of}
use Rattle.shunt_lists.specs.defs.Members.{In, Ascends}
use Rattle.shunt_base.specs.declared.keys.Stay.{Stay}
use Rattle.shunt_base.specs.defs.Keys.{AreStays}
use Rattle.shunt_stays.specs.defs.Run.{AreOnTracks}
use Rattle.shunt_stays.specs.defs.Crossings.{stands_at, load_after}
use Rattle.shunt_instance.specs.defs.Instance.{Night, IsInstance}
use Rattle.shunt_blocks.specs.declared.records.Block.{Block}
use Rattle.shunt_blocks.specs.defs.Shapes.{IsInRange}
use Rattle.shunt_blocks.specs.defs.Blocks.{IsBlock}
use Rattle.shunt_blocks.specs.defs.Stays.{stay_of, IsSoundBlock}
use Rattle.shunt_blocks.specs.defs.Lists.{AreInRange, track_lengths, stays_of}
use Rattle.shunt_audit.proofs.ById.{id_of}
use Rattle.shunt_lists.proofs.Options.{few_some, of_some}
use Rattle.shunt_blocks.proofs.StaysOf.{stay_id}

-- ---- what an option gives of each item

abbrev worth : {Y : Type 0} → (Y → ℕ) → Option Y → ℕ
worth g None = 0
worth g (Some y) = g y

option_sum : {Y : Type 0} (g : Y → ℕ) (o : Option Y) (ys : List Y) → sum_by g (cons_option o ys) ≡ worth g o + sum_by g ys
option_sum g None ys = omega arith
option_sum g (Some y) ys = sum_by-cons g y ys

sum_some : {X Y : Type 0} (g : Y → ℕ) (h : X → Option Y) (xs : List X) → sum_by g (filter_map h xs) ≡ sum_by (λ x. worth g (h x)) xs
sum_some g h [] = refl
sum_some g h (x ∷ xs) = omega (arith, option_sum g (h x) (filter_map h xs), sum_some g h xs, sum_by-cons (λ z. worth g (h z)) x xs)

-- ---- the stay of a block

abbrev pub stay_number : Stay → ℕ
stay_number s = s.id

-- ---- what the laws of blocks say

pub record BlockLaws : Type 0 where
  pub sound : (night : Night) (b : Block) → IsBlock night b ↔ IsSoundBlock night b
  pub stays : (night : Night) (blocks : List Block) → IsInstance night → AreInRange night blocks → AreStays (stays_of night blocks)
  pub tracks : (night : Night) (blocks : List Block) → AreInRange night blocks → AreOnTracks (track_lengths night.station) (stays_of night blocks)

-- ---- the stays of blocks in range

pub in_range : (night : Night) (blocks : List Block) (b : Block) → AreInRange night blocks → In b blocks → IsInRange night b
in_range night blocks b h i = let r = place_of blocks b b i in subst (IsInRange night) r.2 (h.each r.0 b r.1)

pub few_stays : (night : Night) (blocks : List Block) → AreInRange night blocks → length (stays_of night blocks) ≤ 400
few_stays night blocks h = omega (arith, few_some (stay_of night) blocks, h.few)

-- ---- the order of the blocks

pub load_permuted : (night : Night) (blocks others : List Block) (s : Stay) → IsPermutation blocks others
    → load_after (stays_of night others) s ≡ load_after (stays_of night blocks) s
load_permuted night blocks others s p =
    let g : Stay → ℕ = λ t. if stands_at s.track.0 s.enter t then t.length else 0 in
    sum_some g (stay_of night) others ∙ sum_by-IsPermutation (λ b. worth g (stay_of night b)) blocks others p ∙ sym (sum_some g (stay_of night) blocks)

-- where the ids of the blocks ascend, so do those of the stays
stays_ascend : (night : Night) (b : Block) (o : Option Stay) (stays : List Stay) → ((s : Stay) → o ≡ Some s → s.id ≡ b.id) → ((t : Stay) → In t stays → b.id < t.id)
    → Ascends stay_number stays → Ascends stay_number (cons_option o stays)
stays_ascend night b None stays same above a = a
stays_ascend night b (Some s) stays same above a = (all_from (λ t. s.id < t.id) stays (λ t i. omega (arith, above t i, same s refl)), a)

pub ascending_stays : (night : Night) (blocks : List Block) → Ascends id_of blocks → Ascends stay_number (stays_of night blocks)
ascending_stays night [] a = tt
ascending_stays night (b ∷ blocks) a =
    stays_ascend night b (stay_of night b) (stays_of night blocks) (λ s e. stay_id night b s e)
    (λ t i. let r = of_some (stay_of night) blocks t i in let lt : b.id < r.0.id = all_in (λ c. b.id < c.id) blocks r.0 a.0 r.1 in omega (arith, stay_id night r.0 t r.2))
    (ascending_stays night blocks a.1)
