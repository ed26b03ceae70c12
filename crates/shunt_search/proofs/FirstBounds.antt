-- What a search finds.
use Rattle.std.specs.Prelude.{◌≤ℤ◌}
use Rattle.std.proofs.Common.{◌≡◌, ◌⊎◌, inl, inr, ⊎_elim, ℕ, ◌<◌, ◌≤◌, List, ℤ, pos, refl, sym, ◌∙◌, arith}
use Rattle.std.proofs.lemmas.Int.{ints}
use Rattle.shunt_instance.specs.defs.Instance.{Night}
use Rattle.shunt_blocks.specs.declared.records.Block.{Block}
use Rattle.shunt_proof.specs.declared.records.Version.{Version}
use Rattle.shunt_proof.specs.declared.records.Version.TheVariants.{Prices, Stacks}
use Rattle.shunt_search.specs.declared.walk_stack.Pending.{Pending}
use Rattle.shunt_search.specs.declared.memory_search.KeptWalk.{KeptWalk}
use Rattle.shunt_search.specs.defs.Endings.{IsLeft}
use Rattle.shunt_search.specs.defs.Finding.{IsKept, IsFirst, IsFound}
use Rattle.shunt_search.proofs.Restarted.{over_at_least}

-- what is left is one number
left_below : (waiting : List Pending) (low a b : ℤ) → IsLeft waiting low a → IsLeft waiting low b → a ≤ℤ b
left_below waiting low a b first second = ⊎_elim
    (λ e. let le = first.within in omega (arith, ints, e, le))
    (λ t. let le = first.left t.0 t.1 in let e = t.2 in omega (arith, ints, e, le))
    second.least

pub left_once : (waiting : List Pending) (low : ℤ) (a b : ℕ) → IsLeft waiting low (pos a) → IsLeft waiting low (pos b) → a ≡ b
left_once waiting low a b first second =
    let le = left_below waiting low (pos a) (pos b) first second in
    let ge = left_below waiting low (pos b) (pos a) second first in
    omega (arith, ints, le, ge)

-- a walk that is over is so where more nodes are allowed
pub kept_over : (night : Night) (pins : List Block) (few most : ℕ) (w : KeptWalk) → IsKept night pins few w → few ≤ most → w.search.known.cost ≤ w.bound → IsKept night pins most w
kept_over night pins few most w kept le over = record {
  stock = kept.stock;
  search = kept.search;
  few = let within = kept.few in omega (arith, within, le);
  done = inr (over_at_least w.search.waiting.items w.search.known.cost w.search.low (pos w.bound) kept.left (omega (arith, ints, over)));
  left = kept.left;
}

pub all_of_few : (few most : ℕ) → few ≤ most → most ≤ 16 → (few ≡ most) ⊎ (few ≡ 16) → few ≡ most
all_of_few few most within le all = ⊎_elim (λ e. e) (λ e. omega (arith, within, le, e)) all

pub not_both : (v : Version) → v ≡ Prices → v ≡ Stacks → ⊥
not_both v first second = let no : Prices ≡ Stacks = sym first ∙ second in cc

-- a walk bounds no less than its floor
pub high_enough : (night : Night) (pins : List Block) (most : ℕ) (w : KeptWalk) → IsKept night pins most w → w.search.floor ≤ℤ pos w.bound
high_enough night pins most w kept =
    let S = kept.search in
    let least = S.base.least in
    ⊎_elim
    (λ e. let high = S.high in omega (arith, ints, e, least, high))
    (λ t. let above = (S.walk.pending t.0 t.1).above in let e = t.2 in omega (arith, ints, e, least, above))
    kept.left.least

pub first_of : (night : Night) (pins : List Block) (most few : ℕ) (w : KeptWalk) → few ≤ 16 → few ≤ most → (few ≡ most) ⊎ (few ≡ 16) → IsKept night pins few w
    → w.version ≡ Prices → IsFirst night pins most w
first_of night pins most few w small within all kept by_prices = record { nodes = few; few = small; within = within; all = all; kept = kept; by_prices = by_prices }

-- the first walk is found where it is done with all nodes that are allowed
pub found_at_once : (night : Night) (pins : List Block) (most : ℕ) (w : KeptWalk) → IsFirst night pins most w → IsKept night pins most w
    → (16 < most → w.search.known.cost ≤ w.bound) → IsFound night pins most (record { walk = w; first = w.bound })
found_at_once night pins most w first kept over = record {
  kept = kept;
  before = w;
  first = first;
  bound = refl;
  floor = high_enough night pins most w kept;
  few = λ le. (first.by_prices, refl);
  with_stacks = λ e. absurd (not_both w.version first.by_prices e);
  by_prices = λ many e. inl (over many);
}
