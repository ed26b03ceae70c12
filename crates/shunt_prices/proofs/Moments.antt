-- Blocks that stand at a price's moment stand together on its track.
use Rattle.std.specs.Prelude.{◌==◌, ◌&&◌, All, cond, sum_by, Option, Some, None}
use Rattle.std.specs.List.{cons_option}
use Rattle.std.specs.Ordering.{nat_cmp, bool_cmp, ordering_then, is_le, is_lt}
use Rattle.std.specs.declared.cmp.Ordering.{Ordering}
use Rattle.std.proofs.Common.{◌≡◌, ℕ, ◌+◌, ◌^◌, ◌<◌, ◌≤◌, Bool, true, false, List, [], ◌∷◌, length, refl, ap, arith}
use Rattle.std.proofs.lemmas.Bool.{false≢true, and_parts}
use Rattle.std.proofs.lemmas.Bool.Decides.{nat_tests}
use Rattle.std.proofs.lemmas.List.Sums.{sum_by-cons}
use Rattle.std.proofs.lemmas.List.Elements.{All-tail}
use Rattle.shunt_base.specs.declared.keys.EventKey.{EventKey}
use Rattle.shunt_base.specs.declared.keys.Stay.{Stay}
use Rattle.shunt_base.specs.declared.duals.Price.{Price}
use Rattle.shunt_base.specs.defs.Keys.{key_cmp, IsKey}
use Rattle.shunt_stays.specs.defs.Events.{key_before}
use Rattle.shunt_stays.specs.defs.Crossings.{stands_at as stands_then, load_at}
use Rattle.shunt_instance.specs.defs.Words.{train_at}
use Rattle.shunt_instance.specs.defs.Instance.{Night, IsOrderedNight}
use Rattle.shunt_blocks.specs.declared.records.Block.{Block}
use Rattle.shunt_blocks.specs.declared.records.Park.{Park}
use Rattle.shunt_blocks.specs.defs.Shapes.{shape_of, IsWithinTrains}
use Rattle.shunt_blocks.specs.defs.Stays.{block_length, leave_minute, is_too_soon, enter_key, leave_key, parked_stay, stay_with, stay_of}
use Rattle.shunt_blocks.specs.defs.Lists.{stays_of}
use Rattle.shunt_prices.specs.defs.Limits.{IsPrice}
use Rattle.shunt_prices.specs.defs.Prices.{is_there, stands_with, stands_at}
use Rattle.shunt_blocks.proofs.Times.{arrival}

-- ---- tests

both : {x y : Bool} → x ≡ true → y ≡ true → (x && y) ≡ true
both {x} {y} e f = cc

flag_le : (x y : Bool) (n : ℕ) → (x ≡ true → y ≡ true) → cond x n 0 ≤ cond y n 0
flag_le true y n h = let e : cond y n 0 ≡ n = ap (λ t. cond t n 0) (h refl) in omega arith
flag_le false y n h = omega arith

-- ---- the order of keys

entered : (m n a j p i : ℕ) → m ≤ n → (m ≡ n → a ≤ j) → p ≤ 255 → i ≤ 4294967295 → is_le
    (ordering_then (nat_cmp m n) (ordering_then (bool_cmp true true) (ordering_then (nat_cmp a j) (ordering_then (nat_cmp p 255) (nat_cmp i 4294967295))))) ≡ true
entered m n a j p i le early small few = grind (arith, nat_tests)

later : (n m : ℕ) (rest : Ordering) → n < m → is_lt (ordering_then (nat_cmp n m) rest) ≡ true
later n m rest lt = grind (arith, nat_tests)

-- just after a price's train has entered whole
abbrev pub moment : Night → Price → EventKey
moment night price = record { minute = (train_at night.arrive price.train.0).minute; enters = true; train = price.train.0; place = 255; id = 4294967295 }

pub moment_key : (night : Night) (price : Price) → IsOrderedNight night → IsPrice night price → IsKey (moment night price)
moment_key night price h p = let a = arrival night price.train.0 h p.train in record {
  minute = omega (arith, a.minute);
  train = omega (arith, p.train, h.timetable.arrive.few);
  place = omega arith;
  id = omega arith;
}

minutes_rise : (night : Night) (i j : ℕ) → IsOrderedNight night → i ≤ j → j < length night.arrive → (train_at night.arrive i).minute ≤ (train_at night.arrive j).minute
minutes_rise night i j h le lt = h.arrive_rises i j _ le lt

-- ---- one block

-- a block that has a stay where it is parked
pub record CanStay (night : Night) (b : Block) : Type 0 where
  pub within : IsWithinTrains night b
  pub small : b.id < 2 ^ 32
  pub in_time : is_too_soon night (shape_of b) ≡ false

module _ (night : Night) (price : Price) (h : IsOrderedNight night) (p : IsPrice night price) where
  comes : (b : Block) → CanStay night b → b.arr.0 ≤ price.train.0 → is_le (key_cmp (enter_key night b) (moment night price)) ≡ true
  comes b c early = let a = arrival night b.arr.0 h c.within.runs.arr in
      entered (train_at night.arrive b.arr.0).minute (train_at night.arrive price.train.0).minute b.arr.0 price.train.0 b.p b.id
      (minutes_rise night b.arr.0 price.train.0 h early p.train) (λ e. early)
      (omega (arith, c.within.runs.units, c.within.runs.n, a.few)) (omega (arith, c.small))

  goes : (b : Block) → (train_at night.arrive price.train.0).minute < leave_minute night (shape_of b) → key_before (moment night price) (leave_key night b) ≡ true
  goes b lt = later _ _ _ lt

  there : (b : Block) → CanStay night b → is_there night price (shape_of b) ≡ true
      → (is_le (key_cmp (enter_key night b) (moment night price)) && key_before (moment night price) (leave_key night b)) ≡ true
  there b c t = let e = is_there_says t in both (comes b c e.0) (goes b e.1)
    where
      is_there_says : is_there night price (shape_of b) ≡ true → (b.arr.0 ≤ price.train.0) × ((train_at night.arrive price.train.0).minute < leave_minute night (shape_of b))
      is_there_says t = (grind (arith, nat_tests), grind (arith, nat_tests))

  -- the length of a block that stands there
  abbrev pub standing : Block → ℕ
  standing b = cond (stands_at night price b) (block_length night b) 0

  abbrev part : Option Stay → ℕ
  part None = 0
  part (Some s) = cond (stands_then price.track.0 (moment night price) s) s.length 0

  one_with : (b : Block) (o : Option Park) → CanStay night b → cond (stands_with night price (shape_of b) o) (block_length night b) 0 ≤ part (stay_with night b o)
  one_with b None c = omega arith
  one_with b (Some k) c =
      let shown : part (cond (is_too_soon night (shape_of b)) None (Some (parked_stay night b k)))
      ≡ part (Some (parked_stay night b k)) = ap (λ soon. part (cond soon None (Some (parked_stay night b k)))) c.in_time in
      let le = flag_le (stands_with night price (shape_of b) (Some k)) (stands_then price.track.0 (moment night price) (parked_stay night b k)) (block_length night b)
      (λ t. let e = and_parts (k.track.0 == price.track.0) (is_there night price (shape_of b)) t in both e.0 (there b c e.1)) in
      omega (arith, shown, le)

  one : (b : Block) → CanStay night b → standing b ≤ part (stay_of night b)
  one b c = one_with b b.park c

  more : (o : Option Stay) (stays : List Stay) → load_at (cons_option o stays) price.track.0 (moment night price) ≡ part o + load_at stays price.track.0 (moment night price)
  more None stays = omega arith
  more (Some s) stays = sum_by-cons (λ (t : Stay). cond (stands_then price.track.0 (moment night price) t) t.length 0) s stays

  pub stand_together : (blocks : List Block) → All (CanStay night) blocks → sum_by standing blocks ≤ load_at (stays_of night blocks) price.track.0 (moment night price)
  stand_together [] all = omega arith
  stand_together (b ∷ blocks) all = omega (
    arith,
    sum_by-cons standing b blocks,
    one b (all 0 b (omega arith)),
    more (stay_of night b) (stays_of night blocks),
    stand_together blocks (All-tail (CanStay night) b blocks all),
  )
