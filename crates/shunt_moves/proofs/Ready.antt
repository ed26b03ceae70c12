-- What the steps of a coming and a going need.
use Rattle.std.proofs.Common.{◌≡◌, ◌≢◌, ℕ, ◌+◌, ◌<◌, ◌≤◌, Bool, true, false, List, length, refl, sym, subst, ap, ◌∙◌, arith}
use Rattle.std.specs.Prelude.{All, IsTrue, IfSome, if◌then◌else◌, count_by, Option, Some, None}
use Rattle.std.proofs.lemmas.Option.{none-some}
use Rattle.std.proofs.lemmas.List.{length-map}
use Rattle.std.proofs.lemmas.Bool.Decides.{nat_tests}
use Rattle.std.proofs.lemmas.List.Sums.{count_by-le-length}
use Rattle.shunt_lists.specs.defs.Members.{In}
use Rattle.shunt_base.specs.declared.keys.Stay.{Stay}
use Rattle.shunt_instance.specs.defs.Instance.{Night, unit_total, position_total}
use Rattle.shunt_blocks.specs.declared.records.Block.{Block}
use Rattle.shunt_blocks.specs.declared.records.Park.{Park}
use Rattle.shunt_blocks.specs.defs.Shapes.{shape_of, unit_from, position_from, IsOnTrack, IsInRange}
use Rattle.shunt_blocks.specs.defs.Stays.{is_too_soon, parked_stay, stay_with, stay_of}
use Rattle.shunt_blocks.specs.defs.Lists.{AreInRange, has_unit, has_position}
use Rattle.shunt_timeline.specs.defs.Holdings.{Holding}
use Rattle.shunt_audit.specs.defs.Listed.{insert_by_id}
use Rattle.shunt_moves.specs.declared.faults.Faults.{Faults}
use Rattle.shunt_moves.specs.defs.Kept.{Times, at, is_within, IsKeptState}
use Rattle.shunt_moves.specs.defs.States.{without_block}
use Rattle.shunt_moves.proofs.ByIds.{IsNew, put_again}
use Rattle.shunt_moves.proofs.Places.{ids_distinct}
use Rattle.shunt_moves.proofs.KeptBeside.{flag, new_held, few_held, count_insert}
use Rattle.shunt_blocks.proofs.StaysOf.{stay_id}

if_some : {X : Type 0} (P : X → Type 0) (o : Option X) → ((x : X) → o ≡ Some x → P x) → IfSome o P
if_some P None h = tt
if_some P (Some x) h = h x refl

track_where : (soon : Bool) (t s : Stay) (n : ℕ) → t.track.0 < n → (if soon then None else Some t) ≡ Some s → s.track.0 < n
track_where true t s n lt e = absurd (none-some _ e)
track_where false t s n lt e = let same : t ≡ s = cc in subst (λ (u : Stay). u.track.0 < n) same lt

track_with : (night : Night) (b : Block) (o : Option Park) (s : Stay) → IsOnTrack night.station o → stay_with night b o ≡ Some s → s.track.0 < length night.station.tracks
track_with night b None s on e = absurd (none-some _ e)
track_with night b (Some k) s on e = track_where (is_too_soon night (shape_of b)) (parked_stay night b k) s (length night.station.tracks) on e

module _ (night : Night) (blocks : List Block) (held : Holding) (units places : Times) (f : Faults) (k : IsKeptState night blocks held units places f) where
  pub all_in_range : AreInRange night blocks
  all_in_range = record { few = k.few; each = k.each; ids = ids_distinct blocks k.ascend }

  pub on_track : (b : Block) → IsInRange night b → IfSome (stay_of night b) (λ s. s.track.0 < length held.lengths)
  on_track b g = if_some (λ s. s.track.0 < length held.lengths) (stay_of night b) (λ s e.
      let lt = track_with night b b.park s g.within.track e in let n = length-map night.station.tracks (λ t. t.length) in
      omega (arith, ap (λ (l : List ℕ). length l) k.lengths))

  pub is_new : (b : Block) → IsNew b.id blocks → IfSome (stay_of night b) (λ s. All (λ t. t.id ≢ s.id) held.stays)
  is_new b new = if_some (λ s. All (λ t. t.id ≢ s.id) held.stays) (stay_of night b)
      (λ s e. subst (λ (n : ℕ). All (λ t. t.id ≢ n) held.stays) (sym (stay_id night b s e)) (new_held night blocks held.stays b.id k.stays new))

  pub few_stays : length blocks < 400 → length held.stays < 400
  few_stays few = omega (arith, few_held night blocks held.stays k.stays)

  pub has_room : length blocks < 400 → 0 < held.spare
  has_room few = let r = k.room in omega (arith, few_held night blocks held.stays k.stays)

  pub few_units : (u : ℕ) → u < units.total → at units.times u ≤ 400
  few_units u lt = let e = k.each_unit u (subst (λ n. u < n) k.unit_count lt) in let few = k.few in omega (arith, count_by-le-length (λ b. has_unit night (shape_of b) u) blocks)

  pub few_places : (v : ℕ) → v < places.total → at places.times v ≤ 400
  few_places v lt = let e = k.each_place v (subst (λ n. v < n) k.place_count lt) in let few = k.few in omega
      (arith, count_by-le-length (λ b. has_position night (shape_of b) v) blocks)

  member : (b : Block) → In b blocks → blocks ≡ insert_by_id b (without_block b.id blocks)
  member b i = sym (put_again b blocks k.ascend i)

  pub some_units : (b : Block) → In b blocks → unit_from night (shape_of b) + b.n ≤ unit_total night → (u : ℕ) → IsTrue (is_within (unit_from night (shape_of b)) b.n u)
      → 1 ≤ at units.times u
  some_units b i within u t =
      let lt : u < unit_total night = below (unit_from night (shape_of b)) b.n u (unit_total night) within t in
      let e = k.each_unit u lt in
      let c : count_by (λ c. has_unit night (shape_of c) u) blocks ≡ flag (has_unit night (shape_of b) u) + count_by (λ c. has_unit night (shape_of c) u)
      (without_block b.id blocks) =
      ap (count_by (λ c. has_unit night (shape_of c) u)) (member b i) ∙ count_insert (λ c. has_unit night (shape_of c) u) b (without_block b.id blocks) in
      let one : flag (has_unit night (shape_of b) u) ≡ 1 = is_one (has_unit night (shape_of b) u) t in omega arith
    where
      below : (from n u total : ℕ) → from + n ≤ total → IsTrue (is_within from n u) → u < total
      below from n u total le t = grind (arith, nat_tests)

      is_one : (s : Bool) → IsTrue s → flag s ≡ 1
      is_one true t = refl
      is_one false t = absurd (cc)

  pub some_places : (b : Block) → In b blocks → position_from night (shape_of b) + b.n ≤ position_total night → (v : ℕ)
      → IsTrue (is_within (position_from night (shape_of b)) b.n v) → 1 ≤ at places.times v
  some_places b i within v t =
      let lt : v < position_total night = below (position_from night (shape_of b)) b.n v (position_total night) within t in
      let e = k.each_place v lt in
      let c : count_by (λ c. has_position night (shape_of c) v) blocks ≡ flag (has_position night (shape_of b) v) + count_by (λ c. has_position night (shape_of c) v)
      (without_block b.id blocks) =
      ap (count_by (λ c. has_position night (shape_of c) v)) (member b i) ∙ count_insert (λ c. has_position night (shape_of c) v) b (without_block b.id blocks) in
      let one : flag (has_position night (shape_of b) v) ≡ 1 = is_one (has_position night (shape_of b) v) t in omega arith
    where
      below : (from n u total : ℕ) → from + n ≤ total → IsTrue (is_within from n u) → u < total
      below from n u total le t = grind (arith, nat_tests)

      is_one : (s : Bool) → IsTrue s → flag s ≡ 1
      is_one true t = refl
      is_one false t = absurd (cc)
