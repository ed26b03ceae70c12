-- A block of a run that goes through is no longer than its track.
use Rattle.std.specs.Prelude.{◌&&◌, All, cond, Option, Some, None}
use Rattle.std.specs.Ordering.{nat_cmp, bool_cmp, ordering_then, is_le, is_lt}
use Rattle.std.proofs.Common.{◌≡◌, inl, inr, ℕ, ◌+◌, ◌≤◌, Bool, true, false, List, [], ◌∷◌, refl, sym, ap, ◌∙◌, arith}
use Rattle.std.proofs.lemmas.Bool.Decides.{nat_tests}
use Rattle.std.proofs.lemmas.Bool.{eq-eqb}
use Rattle.std.proofs.lemmas.List.Sums.{sum_by-cons}
use Rattle.shunt_lists.specs.defs.Members.{In}
use Rattle.shunt_base.specs.declared.keys.EventKey.{EventKey}
use Rattle.shunt_base.specs.declared.keys.Stay.{Stay}
use Rattle.shunt_base.specs.defs.Keys.{IsWellFormed}
use Rattle.shunt_stays.specs.defs.Crossings.{stands_at as stands_then, load_at}
use Rattle.shunt_instance.specs.defs.Instance.{Night, IsInstance}
use Rattle.shunt_blocks.specs.declared.records.Block.{Block}
use Rattle.shunt_blocks.specs.declared.records.Park.{Park}
use Rattle.shunt_blocks.specs.defs.Shapes.{shape_of, IsWithinTrains}
use Rattle.shunt_blocks.specs.defs.Stays.{is_too_soon, parked_stay, stay_with, stay_of, shape_length}
use Rattle.shunt_blocks.specs.defs.Lists.{CanStand, ShareNothing, RunsThrough, track_lengths, stays_of, placed, placed_from}
use Rattle.shunt_prices.specs.defs.Prices.{track_length}
use Rattle.shunt_prices.specs.defs.Cases.{HasRoom}
use Rattle.shunt_prices.proofs.Capacity.{RunLaws}
use Rattle.shunt_stays.proofs.Halves.{formed}

-- ---- a stay stands on its track when it enters

itself : (m a p i : ℕ) (e : Bool) → is_le (ordering_then (nat_cmp m m) (ordering_then (bool_cmp e e)
    (ordering_then (nat_cmp a a) (ordering_then (nat_cmp p p) (nat_cmp i i))))) ≡ true
itself m a p i true = grind (arith, nat_tests)
itself m a p i false = grind (arith, nat_tests)

stands_itself : (s : Stay) → IsWellFormed s → stands_then s.track.0 s.enter s ≡ true
stands_itself s w = all_three _ _ _ (eq-eqb s.track.0 s.track.0 refl) (itself s.enter.minute s.enter.train s.enter.place s.enter.id s.enter.enters) (ap is_lt w.later)
  where
    all_three : (x y z : Bool) → x ≡ true → y ≡ true → z ≡ true → (x && (y && z)) ≡ true
    all_three x y z e f g = cc

at_least : (stays : List Stay) (s : Stay) (t : ℕ) (k : EventKey) → In s stays → stands_then t k s ≡ true → s.length ≤ load_at stays t k
at_least [] s t k there stands = absurd there
at_least (u ∷ stays) s t k (inl e) stands =
    let first : cond (stands_then t k u) u.length 0 ≡ s.length = ap (λ (v : Stay). cond (stands_then t k v) v.length 0) (sym e) ∙ ap (λ x. cond x s.length 0) stands in
    omega (arith, sum_by-cons (λ (v : Stay). cond (stands_then t k v) v.length 0) u stays, first)
at_least (u ∷ stays) s t k (inr there) stands = omega (arith, sum_by-cons (λ (v : Stay). cond (stands_then t k v) v.length 0) u stays, at_least stays s t k there stands)

-- ---- blocks

abbrev pub StayLaw : Type 0
StayLaw = (night : Night) (blocks : List Block) (b : Block) (s : Stay) → In b blocks → stay_of night b ≡ Some s → In s (stays_of night blocks)

module _ (laws : RunLaws) (to : StayLaw) (night : Night) (i : IsInstance night) where
  parked_room : (blocks : List Block) (b : Block) (k : Park) → CanStand night blocks → RunsThrough night blocks → In b blocks → stay_of night b ≡ Some (parked_stay night b k)
      → shape_length night (shape_of b) ≤ track_length night k.track.0
  parked_room blocks b k stand go there e =
      let s = parked_stay night b k in
      let in_run = to night blocks b s there e in
      let w = formed (stays_of night blocks) s (laws.stays night blocks i stand) in_run in
      let fits = laws.together (track_lengths night.station) (stays_of night blocks) k.track.0 s.enter (laws.stays night blocks i stand)
      (laws.tracks night blocks stand) w.enter_in go in
      omega (arith, fits, at_least (stays_of night blocks) s k.track.0 s.enter in_run (stands_itself s w))

  room_with : (blocks : List Block) (b : Block) (o : Option Park) → CanStand night blocks → RunsThrough night blocks → In b blocks → is_too_soon night (shape_of b) ≡ false
      → stay_of night b ≡ stay_with night b o → HasRoom night (shape_of b) o
  room_with blocks b None stand go there soon e = tt
  room_with blocks b (Some k) stand go there soon e = parked_room blocks b k stand go there (e ∙ ap (λ t. cond t None (Some (parked_stay night b k))) soon)

  pub has_room : (blocks : List Block) (b : Block) → CanStand night blocks → RunsThrough night blocks → In b blocks → is_too_soon night (shape_of b) ≡ false
      → HasRoom night (shape_of b) b.park
  has_room blocks b stand go there soon = room_with blocks b b.park stand go there soon refl

  -- with places as ids
  placed_in : (k : ℕ) (blocks : List Block) (b : Block) → In b blocks → (id : ℕ) × In (record b { id = id }) (placed_from k blocks)
  placed_in k [] b there = absurd there
  placed_in k (c ∷ blocks) b (inl e) = (k, inl (ap (λ (d : Block). record d { id = k }) e))
  placed_in k (c ∷ blocks) b (inr there) = let h = placed_in (k + 1) blocks b there in (h.0, inr h.1)

  pub placed_room : (blocks : List Block) (b : Block) → All (IsWithinTrains night) blocks → ShareNothing night blocks → RunsThrough night (placed blocks) → In b blocks
      → is_too_soon night (shape_of b) ≡ false → HasRoom night (shape_of b) b.park
  placed_room blocks b within apart go there soon = let h = placed_in 1 blocks b there in has_room (placed blocks) (record b { id = h.0 })
      (laws.stand night blocks i within apart) go h.1 soon
