-- The run of a stack's blocks goes through exactly where their spans are a nest that fits the track.
use Rattle.std.specs.Prelude.{◌↔◌, cond, count_by, slice_index, map, Option}
use Rattle.std.specs.List.{cons_option}
use Rattle.std.proofs.Common.{◌≡◌, ◌⊎◌, ⊎_elim, inl, inr, ℕ, ◌≤◌, Bool, true, List, [], ◌∷◌, pos, refl, sym, subst, ap, ◌∙◌, arith}
use Rattle.std.proofs.lemmas.List.Sums.{sum_by-cons}
use Rattle.shunt_lists.specs.defs.Members.{In}
use Rattle.shunt_lists.proofs.Members.{all_from, in_map, of_map}
use Rattle.shunt_base.specs.declared.keys.Stay.{Stay}
use Rattle.shunt_base.specs.defs.Keys.{AreStays}
use Rattle.shunt_stays.specs.defs.Run.{GoesThrough, AreOnTracks}
use Rattle.shunt_stays.specs.defs.Crossings.{Crosses, NoneCross, NoneOver, stands_at, load_at, load_after}
use Rattle.shunt_instance.specs.defs.Instance.{Night, IsInstance}
use Rattle.shunt_blocks.specs.declared.records.Block.{Block}
use Rattle.shunt_blocks.specs.defs.Shapes.{shape_of}
use Rattle.shunt_blocks.specs.defs.Blocks.{IsBlockButId}
use Rattle.shunt_blocks.specs.defs.Stays.{block_length, enter_key}
use Rattle.shunt_blocks.specs.defs.Lists.{has_unit, has_position, CanStand, ShareNothing, RunsThrough, stays_of, track_lengths}
use Rattle.shunt_blocks.proofs.Held.{held}
use Rattle.shunt_prices.specs.defs.Prices.{track_length}
use Rattle.shunt_stacks.specs.defs.Stacks.{Stack, is_of}
use Rattle.shunt_stacks.specs.defs.Spans.{Span, AreNested, AreAllNested, is_standing, load_with}
use Rattle.shunt_stacks.specs.defs.Numbers.{IsNumbering, span_of}
use Rattle.shunt_stacks.proofs.Nests.{two_of, load_one}
use Rattle.shunt_stacks.proofs.Pairs.{EventLaws, AreApart, has_stay, stay, nested_from, no_cross, not_itself, not_one_entry, same_standing, own_standing}
use Rattle.shunt_blocks.proofs.StaysOf.{rest_apart as apart_tail}

-- ---- blocks that share nothing

pub apart_head : (night : Night) (x : Block) (blocks : List Block) → ShareNothing night (x ∷ blocks) → (y : Block) → In y blocks → AreApart night x y
apart_head night x blocks apart y there = record {
  units = λ u p q. two (λ (b : Block). has_unit night (shape_of b) u) p q (apart.units u);
  positions = λ v p q. two (λ (b : Block). has_position night (shape_of b) v) p q (apart.positions v);
}
  where
    two : (test : Block → Bool) → test x ≡ true → test y ≡ true → count_by test (x ∷ blocks) ≤ 1 → ⊥
    two test p q few =
        let one : cond (test x) 1 0 ≡ 1 = ap {B = ℕ} (λ t. cond t 1 0) p in
        omega (arith, few, sum_by-cons (λ (b : Block). cond (test b) 1 0) x blocks, one, held test blocks y there q)

pub turned_apart : (night : Night) (x y : Block) → AreApart night x y → AreApart night y x
turned_apart night x y h = record { units = λ u p q. h.units u q p; positions = λ v p q. h.positions v q p }

pub two_blocks : (night : Night) (blocks : List Block) → ShareNothing night blocks → (x y : Block) → In x blocks → In y blocks → (x ≡ y) ⊎ AreApart night x y
two_blocks night [] apart x y i j = absurd i
two_blocks night (b ∷ blocks) apart x y (inl e) (inl f) = inl (e ∙ sym f)
two_blocks night (b ∷ blocks) apart x y (inl e) (inr j) = inr (subst (λ (z : Block). AreApart night z y) (sym e) (apart_head night b blocks apart y j))
two_blocks night (b ∷ blocks) apart x y (inr i) (inl f) = inr (turned_apart night y x (subst (λ (z : Block). AreApart night z x) (sym f) (apart_head night b blocks apart x i)))
two_blocks night (b ∷ blocks) apart x y (inr i) (inr j) = two_blocks night blocks (apart_tail night b blocks apart) x y i j

-- ---- a list of a stack's blocks

-- what more the laws of the crates below say
pub record ListLaws : Type 0 where
  pub events : EventLaws
  pub stays : (night : Night) (blocks : List Block) → IsInstance night → CanStand night blocks → AreStays (stays_of night blocks)
  pub tracks : (night : Night) (blocks : List Block) → CanStand night blocks → AreOnTracks (track_lengths night.station) (stays_of night blocks)
  pub clash : (lengths : List ℕ) (stays : List Stay) → AreStays stays → AreOnTracks lengths stays → GoesThrough lengths stays ↔ NoneCross stays × NoneOver lengths stays

module _ (laws : ListLaws) (night : Night) (i : IsInstance night) (stack : Stack) (events : ℕ) (entry leave : ℕ → ℕ) (num : IsNumbering night events entry leave)
    (blocks : List Block) (fits : (b : Block) → In b blocks → IsBlockButId night b) (own : (b : Block) → In b blocks → is_of stack b.park ≡ true)
    (apart : ShareNothing night blocks) (stand : CanStand night blocks) where
  abbrev stay_for : Block → Stay
  stay_for b = stay laws.events night i stack events entry leave num b

  abbrev span_for : Block → Span
  span_for b = span_of night entry leave (λ z. pos 0) b

  abbrev Among : List Block → Type 0
  Among some = (b : Block) → In b some → In b blocks

  stays_are : (some : List Block) → Among some → stays_of night some ≡ map stay_for some
  stays_are [] among = refl
  stays_are (b ∷ some) among =
      let there = among b (inl refl) in
      ap (λ (o : Option Stay). cons_option o (stays_of night some)) (has_stay laws.events night i stack events entry leave num b (fits b there) (own b there))
      ∙ ap (λ (ss : List Stay). stay_for b ∷ ss) (stays_are some (λ x k. among x (inr k)))

  all : Among blocks
  all b there = there

  formed : AreStays (map stay_for blocks)
  formed = subst AreStays (stays_are blocks all) (laws.stays night blocks i stand)

  on_tracks : AreOnTracks (track_lengths night.station) (map stay_for blocks)
  on_tracks = subst (AreOnTracks (track_lengths night.station)) (stays_are blocks all) (laws.tracks night blocks stand)

  clash : GoesThrough (track_lengths night.station) (map stay_for blocks) ↔ NoneCross (map stay_for blocks) × NoneOver (track_lengths night.station) (map stay_for blocks)
  clash = laws.clash (track_lengths night.station) (map stay_for blocks) formed on_tracks

  -- ---- loads

  same_test : (x y : Block) → In x blocks → In y blocks → is_standing (span_for y) (span_for x) ≡ stands_at stack.track.0 (enter_key night x) (stay_for y)
  same_test x y k j = ⊎_elim
      (λ e. subst (λ (z : Block). is_standing (span_for z) (span_for x) ≡ stands_at stack.track.0 (enter_key night x) (stay_for z)) e
      (own_standing laws.events night i stack events entry leave num x (fits x k)))
      (λ far. same_standing laws.events night i stack events entry leave num x y (fits x k) (fits y j) far)
      (two_blocks night blocks apart x y k j)

  same_load : (x : Block) → In x blocks → (some : List Block) → Among some → load_with (map span_for some) (span_for x)
      ≡ load_at (map stay_for some) stack.track.0 (enter_key night x)
  same_load x k [] among = refl
  same_load x k (y ∷ some) among =
      let one : cond (is_standing (span_for y) (span_for x)) (block_length night y) 0
      ≡ cond (stands_at stack.track.0 (enter_key night x) (stay_for y)) (block_length night y) 0 = ap (λ (t : Bool). cond t (block_length night y) 0)
      (same_test x y k (among y (inl refl))) in
      omega (
        arith,
        load_one (span_for y) (map span_for some) (span_for x),
        sum_by-cons (λ (s : Stay). cond (stands_at stack.track.0 (enter_key night x) s) s.length 0) (stay_for y) (map stay_for some),
        one,
        same_load x k some (λ z j. among z (inr j)),
      )

  -- ---- what runs through is a nest

  nested_some : (some : List Block) → Among some → ShareNothing night some → NoneCross (map stay_for blocks) → AreAllNested (map span_for some)
  nested_some [] among few none = tt
  nested_some (x ∷ some) among few none = (
    all_from (AreNested (span_for x)) (map span_for some) (λ s j. pair s (of_map span_for some s j)),
    nested_some some (λ z j. among z (inr j)) (apart_tail night x some few) none,
  )
    where
      pair : (s : Span) → ((y : Block) × In y some × (s ≡ span_for y)) → AreNested (span_for x) s
      pair s y =
          let here = among x (inl refl) in
          let there = among y.0 (inr y.1) in
          subst (AreNested (span_for x)) (sym y.2)
          (nested_from laws.events night i stack events entry leave num x y.0 (fits x here) (fits y.0 there) (apart_head night x some few y.0 y.1)
          (none (stay_for x) (stay_for y.0) (in_map stay_for blocks x here) (in_map stay_for blocks y.0 there))
          (none (stay_for y.0) (stay_for x) (in_map stay_for blocks y.0 there) (in_map stay_for blocks x here)))

  pub to_nest : RunsThrough night blocks
      → AreAllNested (map (span_of night entry leave (λ z. pos 0)) blocks) × ((s : Span) → In s (map (span_of night entry leave (λ z. pos 0)) blocks)
      → load_with (map (span_of night entry leave (λ z. pos 0)) blocks) s ≤ track_length night stack.track.0)
  to_nest go =
      let parts = clash.0 (subst (GoesThrough (track_lengths night.station)) (stays_are blocks all) go) in
      (nested_some blocks all apart parts.0, λ s j. fitting s (of_map span_for blocks s j) parts.1)
    where
      fitting : (s : Span) → ((x : Block) × In x blocks × (s ≡ span_for x)) → NoneOver (track_lengths night.station) (map stay_for blocks)
          → load_with (map span_for blocks) s ≤ track_length night stack.track.0
      fitting s x over =
          let fit = over (stay_for x.0) (in_map stay_for blocks x.0 x.1) in
          subst (λ (t : Span). load_with (map span_for blocks) t ≤ track_length night stack.track.0) (sym x.2) (omega (arith, fit, same_load x.0 x.1 blocks all))

  -- ---- a nest runs through

  pub from_nest : AreAllNested (map (span_of night entry leave (λ z. pos 0)) blocks)
      → ((s : Span) → In s (map (span_of night entry leave (λ z. pos 0)) blocks) → load_with
      (map (span_of night entry leave (λ z. pos 0)) blocks) s ≤ track_length night stack.track.0)
      → RunsThrough night blocks
  from_nest nested load = subst (GoesThrough (track_lengths night.station)) (sym (stays_are blocks all)) (clash.1 (none, over))
    where
      apart_two : (x y : Block) → In x blocks → In y blocks → Crosses (stay_for x) (stay_for y) → ⊥
      apart_two x y k j cross = ⊎_elim
          (λ e. not_itself laws.events night i stack events entry leave num x (subst (λ (z : Block). Crosses (stay_for x) (stay_for z)) (sym e) cross))
          (λ far. ⊎_elim
          (λ one. not_one_entry laws.events night i stack events entry leave num x y (fits x k) (fits y j) far (ap (λ (s : Span). s.from) one))
          (λ both. no_cross laws.events night i stack events entry leave num x y (fits x k) (fits y j) far both cross)
          (two_of (map span_for blocks) nested (span_for x) (span_for y) (in_map span_for blocks x k) (in_map span_for blocks y j)))
          (two_blocks night blocks apart x y k j)

      none : NoneCross (map stay_for blocks)
      none b c k j cross =
          let x = of_map stay_for blocks b k in
          let y = of_map stay_for blocks c j in
          apart_two x.0 y.0 x.1 y.1 (subst (λ (s : Stay). Crosses s (stay_for y.0)) x.2 (subst (λ (s : Stay). Crosses b s) y.2 cross))

      over : NoneOver (track_lengths night.station) (map stay_for blocks)
      over b k =
          let x = of_map stay_for blocks b k in
          let fit = load (span_for x.0) (in_map span_for blocks x.0 x.1) in
          subst (λ (s : Stay). load_after (map stay_for blocks) s ≤ slice_index (track_lengths night.station) s.track.0) (sym x.2)
          (omega (arith, fit, same_load x.0 x.1 blocks all))
