-- Parts of lists of blocks: they share nothing where the whole shares nothing, and their run goes through with that of the whole.
use Rattle.std.specs.Prelude.{All, cond, filter}
use Rattle.std.proofs.Common.{◌≡◌, ⊎_elim, ℕ, ◌+◌, ◌≤◌, Bool, true, List, ◌++◌, refl, arith}
use Rattle.std.proofs.lemmas.Bool.{cases_lt}
use Rattle.std.proofs.lemmas.List.Sums.{sum_by-append}
use Rattle.shunt_lists.specs.defs.Members.{In}
use Rattle.shunt_lists.proofs.Members.{filter_from, in_left, in_right, in_cases, each_one, to_all as from_members}
use Rattle.shunt_lists.proofs.Sums.{filter_least}
use Rattle.shunt_instance.specs.defs.Instance.{Night, IsInstance, unit_total, position_total}
use Rattle.shunt_blocks.specs.declared.records.Block.{Block}
use Rattle.shunt_blocks.specs.defs.Shapes.{shape_of, IsWithinTrains, HasUnit, HasPosition}
use Rattle.shunt_blocks.specs.defs.Blocks.{IsBlockButId}
use Rattle.shunt_blocks.specs.defs.Lists.{has_unit, has_position, times_unit, times_position, ShareNothing, RunsThrough, placed}
use Rattle.shunt_blocks.specs.defs.Pins.{without_id}
use Rattle.shunt_blocks.proofs.Held.{held, holder}
use Rattle.shunt_choices.specs.defs.Paths.{masks_of}
use Rattle.shunt_choices.proofs.Given.{PlaceLaws}
use Rattle.shunt_choices.proofs.Trails.{not_taken}
use Rattle.shunt_choices.proofs.Grown.{left_free}
use Rattle.shunt_prices.specs.defs.Cases.{IsFreeBlock}
use Rattle.shunt_blocks.proofs.Shapes.{has_from, has_position_from, position_to as position_test, unit_to as unit_test}

-- ---- parts

-- each block of the part is one of the whole, and no unit or position is oftener in it
pub record IsPart (night : Night) (part whole : List Block) : Type 0 where
  pub units : (u : ℕ) → times_unit night part u ≤ times_unit night whole u
  pub positions : (v : ℕ) → times_position night part v ≤ times_position night whole v
  pub members : (b : Block) → In b part → In b whole

pub part_itself : (night : Night) (blocks : List Block) → IsPart night blocks blocks
part_itself night blocks = record { units = λ u. omega arith; positions = λ v. omega arith; members = λ b there. there }

pub part_filter : (night : Night) (test : Block → Bool) (blocks : List Block) → IsPart night (filter test blocks) blocks
part_filter night test blocks = record {
  units = λ u. filter_least (λ c. cond (has_unit night (shape_of c) u) 1 0) test blocks;
  positions = λ v. filter_least (λ c. cond (has_position night (shape_of c) v) 1 0) test blocks;
  members = λ b there. (filter_from test blocks b there).0;
}

pub part_part : (night : Night) (less part whole : List Block) → IsPart night less part → IsPart night part whole → IsPart night less whole
part_part night less part whole h k = record {
  units = λ u. omega (arith, h.units u, k.units u);
  positions = λ v. omega (arith, h.positions v, k.positions v);
  members = λ b there. k.members b (h.members b there);
}

pub unit_parts : (night : Night) (front back : List Block) (u : ℕ) → times_unit night (front ++ back) u ≡ times_unit night front u + times_unit night back u
unit_parts night front back u = sum_by-append (λ c. cond (has_unit night (shape_of c) u) 1 0) front back

pub position_parts : (night : Night) (front back : List Block) (v : ℕ) → times_position night (front ++ back) v ≡ times_position night front v + times_position night back v
position_parts night front back v = sum_by-append (λ c. cond (has_position night (shape_of c) v) 1 0) front back

pub part_append : (night : Night) (a b front back : List Block) → IsPart night a front → IsPart night b back → IsPart night (a ++ b) (front ++ back)
part_append night a b front back h k = record {
  units = λ u. omega (arith, unit_parts night a b u, unit_parts night front back u, h.units u, k.units u);
  positions = λ v. omega (arith, position_parts night a b v, position_parts night front back v, h.positions v, k.positions v);
  members = λ x there. ⊎_elim (λ l. in_left front back x (h.members x l)) (λ r. in_right front back x (k.members x r)) (in_cases a b x there);
}

pub part_right : (night : Night) (front back : List Block) → IsPart night back (front ++ back)
part_right night front back = record {
  units = λ u. omega (arith, unit_parts night front back u);
  positions = λ v. omega (arith, position_parts night front back v);
  members = λ x there. in_right front back x there;
}

pub part_left : (night : Night) (front back : List Block) → IsPart night front (front ++ back)
part_left night front back = record {
  units = λ u. omega (arith, unit_parts night front back u);
  positions = λ v. omega (arith, position_parts night front back v);
  members = λ x there. in_left front back x there;
}

pub part_apart : (night : Night) (part whole : List Block) → IsPart night part whole → ShareNothing night whole → ShareNothing night part
part_apart night part whole h apart = record {
  units = λ u. omega (arith, h.units u, apart.units u);
  positions = λ v. omega (arith, h.positions v, apart.positions v);
}

pub part_within : (night : Night) (P : Block → Type 0) (part whole : List Block) → IsPart night part whole → All P whole → All P part
part_within night P part whole h all = from_members P part (λ b there. each_one P whole b all (h.members b there))

-- of blocks that share nothing the run of each part goes through, with places as ids
abbrev pub PartLaw : Type 0
PartLaw =
    (night : Night) (blocks others : List Block) → IsInstance night → All (IsWithinTrains night) blocks → ShareNothing night blocks → All (IsWithinTrains night) others
    → ShareNothing night others
    → ((c : Block) → In c others → (b : Block) × In b blocks × (without_id b ≡ without_id c)) → RunsThrough night (placed blocks) → RunsThrough night (placed others)

pub part_runs : (law : PartLaw) (night : Night) (part whole : List Block) → IsInstance night → All (IsWithinTrains night) whole → ShareNothing night whole
    → IsPart night part whole → RunsThrough night (placed whole) → RunsThrough night (placed part)
part_runs law night part whole i within apart h go =
    law night whole part i within apart (part_within night (IsWithinTrains night) part whole h within) (part_apart night part whole h apart)
    (λ b there. (b, h.members b there, refl)) go

-- ---- free blocks

abbrev pub IsFreeAt : Night → List Block → Block → Type 0
IsFreeAt night path b = IsFreeBlock night (masks_of night path) (shape_of b) b.park

few_both : (front filling path : ℕ) → front ≤ path → path ≤ 1 → filling ≤ 1 → (1 ≤ filling → path ≡ 0) → front + filling ≤ 1
few_both front filling path le one few none = ⊎_elim (λ less. omega (arith, less, le, one)) (λ some. omega (arith, none some, le, few)) (cases_lt filling 1)

module _ (places : PlaceLaws) (night : Night) where
  pub unit_bare : (path : List Block) (b : Block) → IsFreeAt night path b → (w : ℕ) → HasUnit night (shape_of b) w → times_unit night path w ≡ 0
  unit_bare path b free w has = not_taken (times_unit night path) (unit_total night) w true (places.unit_in night (shape_of b) w free.shape.shape.within has)
      (free.shape.units w has)

  pub position_bare : (path : List Block) (b : Block) → IsFreeAt night path b → (v : ℕ) → HasPosition night (shape_of b) v → times_position night path v ≡ 0
  position_bare path b free v has =
      not_taken (times_position night path) (position_total night) v true (places.position_in night (shape_of b) v free.shape.shape.within has) (free.shape.positions v has)

  -- a block of which a path has no unit and no position
  pub free_from : (path : List Block) (b : Block) → IsBlockButId night b
      → ((w : ℕ) → HasUnit night (shape_of b) w → times_unit night path w ≡ 0)
      → ((v : ℕ) → HasPosition night (shape_of b) v → times_position night path v ≡ 0)
      → IsFreeAt night path b
  free_from path b is units positions = record {
    shape = record {
      shape = is.shape;
      first = refl;
      units = λ w has. left_free (times_unit night path) (unit_total night) w true (places.unit_in night (shape_of b) w is.shape.within has) (units w has);
      positions = λ v has. left_free (times_position night path) (position_total night) v true (places.position_in night (shape_of b) v is.shape.within has) (positions v has);
    };
    option = is.option;
  }

  pub is_block : (path : List Block) (b : Block) → IsFreeAt night path b → IsBlockButId night b
  is_block path b free = record { shape = free.shape.shape; option = free.option }

  -- of blocks that share nothing each is free at those before it
  pub free_behind : (path rest : List Block) (b : Block) → ShareNothing night (path ++ rest) → In b rest → IsBlockButId night b → IsFreeAt night path b
  free_behind path rest b apart there is = free_from path b is
      (λ w has. omega (arith, apart.units w, unit_parts night path rest w, held (λ c. has_unit night (shape_of c) w) rest b there (unit_test night b w has)))
      (λ v has. omega (arith, apart.positions v, position_parts night path rest v, held (λ c. has_position night (shape_of c) v) rest b there (position_test night b v has)))

  -- what is free at a longer path is free at a part of it
  pub free_before : (path longer : List Block) (b : Block) → IsPart night path longer → IsFreeAt night longer b → IsFreeAt night path b
  free_before path longer b h free = free_from path b (is_block longer b free)
      (λ w has. omega (arith, h.units w, unit_bare longer b free w has))
      (λ v has. omega (arith, h.positions v, position_bare longer b free v has))

  -- free blocks that share nothing share nothing with a part of the path either
  pub joined_apart : (path front filling : List Block) → ShareNothing night path → All (IsFreeAt night path) filling → ShareNothing night filling
      → IsPart night front path → ShareNothing night (front ++ filling)
  joined_apart path front filling apart free few h = record {
    units = λ u. omega (arith, unit_parts night front filling u, few_both _ _ _ (h.units u) (apart.units u) (few.units u) (taken_unit u));
    positions = λ v. omega (arith, position_parts night front filling v, few_both _ _ _ (h.positions v) (apart.positions v) (few.positions v) (taken_position v));
  }
    where
      taken_unit : (u : ℕ) → 1 ≤ times_unit night filling u → times_unit night path u ≡ 0
      taken_unit u some =
          let b = holder (λ c. has_unit night (shape_of c) u) filling some in
          unit_bare path b.0 (each_one (IsFreeAt night path) filling b.0 free b.1) u (has_from night b.0 u b.2)

      taken_position : (v : ℕ) → 1 ≤ times_position night filling v → times_position night path v ≡ 0
      taken_position v some =
          let b = holder (λ c. has_position night (shape_of c) v) filling some in
          position_bare path b.0 (each_one (IsFreeAt night path) filling b.0 free b.1) v (has_position_from night b.0 v b.2)
