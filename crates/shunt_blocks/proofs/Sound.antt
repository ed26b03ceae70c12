-- What makes a shape and a block, said by faults.
use Rattle.std.specs.Prelude.{◌↔◌, IsSome, IfSome, not, ◌||◌, Option, Some, None}
use Rattle.std.proofs.Common.{◌≡◌, ◌+◌, Bool, true, false, refl, sym, arith}
use Rattle.std.proofs.lemmas.Bool.{true≢false, eq-eqb, eqb-true, le-leb, not_from_true, not-false}
use Rattle.shunt_lists.proofs.TestsBelow.{all_pass, each_passes}
use Rattle.shunt_instance.specs.defs.Instance.{Night, unit_at, position_at, ready}
use Rattle.shunt_blocks.specs.declared.records.Shape.{Shape}
use Rattle.shunt_blocks.specs.declared.records.Block.{Block}
use Rattle.shunt_blocks.specs.declared.records.Park.{Park}
use Rattle.shunt_blocks.specs.defs.Shapes.{shape_of, AreRunsWithin, IsOnTrack, IsShape, unit_from, position_from}
use Rattle.shunt_blocks.specs.defs.Ways.{park_way_in, park_way_out}
use Rattle.shunt_blocks.specs.defs.Blocks.{IsOption, IsBlock, have_one_type, is_forbidden}
use Rattle.shunt_blocks.specs.defs.Stays.{leave_minute, is_too_soon, IsSoundBlock}
use Rattle.shunt_blocks.proofs.Times.{leaves_is, ready_in_time}

-- ---- shapes

pub one_type : (night : Night) (s : Shape) → IsShape night s → have_one_type night s ≡ true
one_type night s h = all_pass s.n _ (λ k lt. eq-eqb _ _ (h.pairs k lt).kind)

pub in_time : (night : Night) (s : Shape) → IsShape night s → is_too_soon night s ≡ false
in_time night s h = not_from_true _ (all_pass s.n _ (λ k lt. le-leb (ready night (unit_from night s + k)) (leave_minute night s)
    (omega (arith, (h.pairs k lt).ready, leaves_is night s k h.within lt))))

pub shape_made : (night : Night) (s : Shape) → AreRunsWithin night s → have_one_type night s ≡ true → is_too_soon night s ≡ false → IsShape night s
shape_made night s h types soon = record {
  within = h;
  pairs = λ k lt. record {
    kind = eqb-true (unit_at night (unit_from night s + k)).kind.0 (position_at night (position_from night s + k)).kind.0 (each_passes s.n _ types k lt);
    ready = omega (arith, ready_in_time night s k soon lt, leaves_is night s k h lt);
  };
}

-- ---- blocks

neither : (a b : Bool) → a ≡ true → b ≡ false → (not a || b) ≡ false
neither true b e f = f
neither false b e f = absurd (true≢false (sym e))

first_true : (a b : Bool) → (not a || b) ≡ false → a ≡ true
first_true true b e = refl
first_true false b e = sym e

second_false : (a b : Bool) → (not a || b) ≡ false → b ≡ false
second_false true b e = e
second_false false b e = absurd (true≢false e)

unforbidden : (night : Night) (s : Shape) (o : Option Park) → IsOption night s o → is_forbidden night s o ≡ false
unforbidden night s None h = refl
unforbidden night s (Some k) h = not_from_true _ h.permitted

has_way_in : (night : Night) (s : Shape) (o : Option Park) → IsOption night s o → IfSome o (λ k. IsSome (park_way_in night s k))
has_way_in night s None h = tt
has_way_in night s (Some k) h = h.way_in

has_way_out : (night : Night) (s : Shape) (o : Option Park) → IsOption night s o → IfSome o (λ k. IsSome (park_way_out night s.dep k))
has_way_out night s None h = tt
has_way_out night s (Some k) h = h.way_out

option_made : (night : Night) (s : Shape) (o : Option Park) → IsOnTrack night.station o → is_forbidden night s o ≡ false → IfSome o (λ k. IsSome (park_way_in night s k))
    → IfSome o (λ k. IsSome (park_way_out night s.dep k)) → IsOption night s o
option_made night s None t f i u = tt
option_made night s (Some k) t f i u = record { track = t; permitted = not-false _ f; way_in = i; way_out = u }

block_sound : (night : Night) (b : Block) → IsBlock night b → IsSoundBlock night b
block_sound night b h = record {
  in_range = h.in_range;
  types = neither (have_one_type night (shape_of b)) _ (one_type night (shape_of b) h.shape) (unforbidden night (shape_of b) b.park h.option);
  in_time = in_time night (shape_of b) h.shape;
  way_in = has_way_in night (shape_of b) b.park h.option;
  way_out = has_way_out night (shape_of b) b.park h.option;
}

sound_block : (night : Night) (b : Block) → IsSoundBlock night b → IsBlock night b
sound_block night b h = record {
  in_range = h.in_range;
  shape = shape_made night (shape_of b) h.in_range.within.runs (first_true (have_one_type night (shape_of b)) _ h.types) h.in_time;
  option = option_made night (shape_of b) b.park h.in_range.within.track (second_false (have_one_type night (shape_of b)) _ h.types) h.way_in h.way_out;
}

pub sound : (night : Night) (b : Block) → IsBlock night b ↔ IsSoundBlock night b
sound night b = (block_sound night b, sound_block night b)
