-- Capacity at a price's moment.
use Rattle.std.specs.Prelude.{All, cond, sum_by, slice_index}
use Rattle.std.proofs.Common.{◌≡◌, ℕ, ◌+◌, ◌<◌, ◌≤◌, Bool, false, List, [], ◌∷◌, length, get_or, refl, arith}
use Rattle.std.proofs.lemmas.List.{get_or-map}
use Rattle.std.proofs.lemmas.List.Sums.{sum_by-cons}
use Rattle.std.proofs.lemmas.List.Elements.{All-nil, All-cons, All-tail}
use Rattle.shunt_base.specs.declared.duals.PriceKind.{PriceKind}
use Rattle.shunt_base.specs.declared.duals.PriceKind.TheVariants as kind
use Rattle.shunt_base.specs.declared.duals.Price.{Price}
use Rattle.shunt_base.specs.declared.keys.EventKey.{EventKey}
use Rattle.shunt_base.specs.declared.keys.Stay.{Stay}
use Rattle.shunt_base.specs.defs.Keys.{AreStays, IsKey}
use Rattle.shunt_stays.specs.defs.Crossings.{load_at}
use Rattle.shunt_stays.specs.defs.Run.{GoesThrough, AreOnTracks}
use Rattle.shunt_instance.specs.declared.records.Track.{Track}
use Rattle.shunt_instance.specs.defs.Instance.{Night, IsInstance, IsOrderedNight}
use Rattle.shunt_instance.specs.defs.Wellformed.{IsTrack}
use Rattle.shunt_blocks.specs.declared.records.Shape.{Shape}
use Rattle.shunt_blocks.specs.declared.records.Block.{Block}
use Rattle.shunt_blocks.specs.defs.Shapes.{shape_of, IsWithinTrains, IsShape}
use Rattle.shunt_blocks.specs.defs.Blocks.{IsBlockButId}
use Rattle.shunt_blocks.specs.defs.Stays.{is_too_soon, block_length}
use Rattle.shunt_blocks.specs.defs.Lists.{CanStand, ShareNothing, RunsThrough, track_lengths, stays_of, placed, placed_from}
use Rattle.shunt_prices.specs.defs.Limits.{IsPrice}
use Rattle.shunt_prices.specs.defs.Prices.{track_length, count_of, most_of, most, stands_at, counted}
use Rattle.shunt_prices.proofs.Parts.{parts_fit}
use Rattle.shunt_prices.proofs.Moments.{CanStay, moment, moment_key, stand_together}
use Rattle.shunt_blocks.proofs.Shapes.{all_within}

-- what the laws of the crates below say
pub record RunLaws : Type 0 where
  pub opened : (night : Night) → IsInstance night → IsOrderedNight night
  pub together : (lengths : List ℕ) (stays : List Stay) (track : ℕ) (moment : EventKey) → AreStays stays → AreOnTracks lengths stays → IsKey moment → GoesThrough lengths stays
      → load_at stays track moment ≤ slice_index lengths track
  pub stays : (night : Night) (blocks : List Block) → IsInstance night → CanStand night blocks → AreStays (stays_of night blocks)
  pub tracks : (night : Night) (blocks : List Block) → CanStand night blocks → AreOnTracks (track_lengths night.station) (stays_of night blocks)
  pub stand : (night : Night) (blocks : List Block) → IsInstance night → All (IsWithinTrains night) blocks → ShareNothing night blocks → CanStand night (placed blocks)
  pub in_time : (night : Night) (s : Shape) → IsShape night s → is_too_soon night s ≡ false

-- ---- both kinds of price

by_kind : {X : Type 0} (k : PriceKind) (room : ℕ) (test : X → Bool) (long : X → ℕ) (xs : List X) → 1 ≤ room → sum_by (λ x. cond (test x) (long x) 0) xs ≤ room
    → sum_by (λ x. cond (test x) (count_of k room (long x)) 0) xs ≤ most_of k room
by_kind kind.Length room test long xs some fits = fits
by_kind (kind.Parts r) room test long xs some fits = parts_fit r room some test long xs fits

room_some : (night : Night) (track : ℕ) → IsOrderedNight night → track < length night.station.tracks → 1 ≤ track_length night track
room_some night track h lt = let t : IsTrack (get_or night.station.tracks track _) = h.station.tracks track no_track lt in
    omega (arith, t.some, get_or-map (λ (t : Track). t.length) night.station.tracks track no_track 0 lt)
  where
    no_track : Track
    no_track = record { name = []; length = 0; side_a = false; side_b = false }

-- ---- with ids of their own

stay_here : (laws : RunLaws) (night : Night) (blocks : List Block) → CanStand night blocks → All (λ b. is_too_soon night (shape_of b) ≡ false) blocks → All (CanStay night) blocks
stay_here laws night blocks stand soon k d lt = record { within = stand.within k d lt; small = stand.small k d lt; in_time = soon k d lt }

pub counts_fit : (laws : RunLaws) (night : Night) (blocks : List Block) (price : Price) → IsInstance night → CanStand night blocks
    → All (λ b. is_too_soon night (shape_of b) ≡ false) blocks → RunsThrough night blocks → IsPrice night price → sum_by (counted night price) blocks ≤ most night price
counts_fit laws night blocks price i stand soon go p =
    let h = laws.opened night i in
    let fits = laws.together (track_lengths night.station) (stays_of night blocks) price.track.0 (moment night price) (laws.stays night blocks i stand)
    (laws.tracks night blocks stand) (moment_key night price h p) go in
    by_kind price.kind (track_length night price.track.0) (stands_at night price) (block_length night) blocks (room_some night price.track.0 h p.track)
    (omega (arith, fits, stand_together night price h p blocks (stay_here laws night blocks stand soon)))

pub all_in_time : (laws : RunLaws) (night : Night) (blocks : List Block) → All (IsBlockButId night) blocks → All (λ b. is_too_soon night (shape_of b) ≡ false) blocks
all_in_time laws night blocks all k d lt = laws.in_time night _ (all k d lt).shape

-- ---- with their places as ids

soon_placed : (night : Night) (k : ℕ) (blocks : List Block) → All (λ b. is_too_soon night (shape_of b) ≡ false) blocks
    → All (λ b. is_too_soon night (shape_of b) ≡ false) (placed_from k blocks)
soon_placed night k [] all = All-nil (λ (b : Block). is_too_soon night (shape_of b) ≡ false)
soon_placed night k (b ∷ blocks) all =
    let P : Block → Type 0 = λ c. is_too_soon night (shape_of c) ≡ false in
    All-cons P (record b { id = k }) (placed_from (k + 1) blocks) (all 0 b (omega arith)) (soon_placed night (k + 1) blocks (All-tail P b blocks all))

counted_placed : (night : Night) (price : Price) (k : ℕ) (blocks : List Block) → sum_by (counted night price) (placed_from k blocks) ≡ sum_by (counted night price) blocks
counted_placed night price k [] = refl
counted_placed night price k (b ∷ blocks) = omega (
  arith,
  sum_by-cons (counted night price) (record b { id = k }) (placed_from (k + 1) blocks),
  sum_by-cons (counted night price) b blocks,
  counted_placed night price (k + 1) blocks,
)

pub placed_fit : (laws : RunLaws) (night : Night) (blocks : List Block) (price : Price) → IsInstance night → All (IsBlockButId night) blocks → ShareNothing night blocks
    → RunsThrough night (placed blocks) → IsPrice night price → sum_by (counted night price) blocks ≤ most night price
placed_fit laws night blocks price i all apart go p =
    let soon = soon_placed night 1 blocks (all_in_time laws night blocks all) in
    let fits = counts_fit laws night (placed blocks) price i (laws.stand night blocks i (all_within night blocks all) apart) soon go p in
    omega (arith, fits, counted_placed night price 1 blocks)
