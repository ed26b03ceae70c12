-- The blocks of a plan by ascending id, and their delays.
use Rattle.std.specs.Prelude.{All, None, map, not, ◌==◌, if◌then◌else◌}
use Rattle.std.specs.List.{filter, range_with_len}
use Rattle.std.proofs.Common.{◌≡◌, inl, inr, ⊎_elim, ℕ, zero, suc, ◌+◌, ◌<◌, ◌≤◌, Bool, true, false, List, [], ◌∷◌, ◌++◌, length, get_or, refl, sym, subst, ap, ◌∙◌, arith}
use Rattle.std.proofs.lemmas.List.{map-append, append-nil}
use Rattle.std.proofs.lemmas.List.Elements.{filter-append}
use Rattle.shunt_lists.proofs.Members.{filter_yes, filter_no, filter_from, in_map, in_place, in_cases, of_one, each_one as of_all, to_all, place_of}
use Rattle.shunt_lists.specs.defs.Members.{In, Ascends}
use Rattle.shunt_stays.specs.defs.Run.{AreOnTracks, GoesThrough}
use Rattle.shunt_stays.proofs.Fewer.{part_through}
use Rattle.shunt_instance.specs.defs.Words.{train_at, has_come}
use Rattle.shunt_instance.specs.defs.Instance.{Night, IsInstance}
use Rattle.shunt_blocks.specs.declared.records.Block.{Block}
use Rattle.shunt_blocks.specs.defs.Blocks.{IsBlock}
use Rattle.shunt_blocks.specs.defs.Stays.{stay_of, IsSoundBlock}
use Rattle.shunt_blocks.specs.defs.Lists.{AreInRange, IsFeasible, track_lengths, stays_of}
use Rattle.shunt_audit.specs.declared.types.Finding.{Finding}
use Rattle.shunt_audit.specs.defs.Listed.{insert_by_id, by_id}
use Rattle.shunt_audit.proofs.ById.{id_of, moves, there, apart, sorted_range, ascends, put_first}
use Rattle.shunt_audit.proofs.Exactly.{any_order}
use Rattle.shunt_delay.specs.declared.records.Delay.{Delay}
use Rattle.shunt_delay.specs.defs.Late.{late}
use Rattle.shunt_delay.specs.defs.Delays.{StaysFeasible, is_of_delay, delay_findings, first, IsDelay, comers, AreDelays}
use Rattle.shunt_delay.specs.defs.Kept.{AreReadyBlocks}
use Rattle.shunt_delay.proofs.Lately.{in_range_late, never_late}
use Rattle.shunt_delay.proofs.Formed.{Laws, stays_late}
use Rattle.shunt_lists.proofs.Options.{of_some, to_some}
use Rattle.shunt_lists.proofs.Lists.{range_more_to as range_more}

-- ---- blocks that ascend already

by_id_is : (blocks : List Block) → Ascends id_of blocks → by_id blocks ≡ blocks
by_id_is [] a = refl
by_id_is (b ∷ blocks) a = ap (insert_by_id b) (by_id_is blocks a.1) ∙ put_first b blocks a.0

-- ---- the order of the blocks is nothing to them

module _ (laws : Laws) (night : Night) (n : IsInstance night) where
  moved_through : (i d : ℕ) (xs ys : List Block) → AreInRange night xs → AreInRange night ys → d ≤ 120 → ((b : Block) → In b ys → In b xs)
      → GoesThrough (track_lengths night.station) (stays_of (late i d night) xs) → GoesThrough (track_lengths night.station) (stays_of (late i d night) ys)
  moved_through i d xs ys p q few within = part_through (track_lengths night.station) (stays_of (late i d night) xs) (stays_of (late i d night) ys)
      (stays_late laws i d night xs n p few) (on i d xs p) (stays_late laws i d night ys n q few) (on i d ys q)
      (λ s j. let r = of_some (stay_of (late i d night)) ys s j in to_some (stay_of (late i d night)) xs r.0 s (within r.0 r.1) r.2)
    where
      on : (i d : ℕ) (zs : List Block) → AreInRange night zs → AreOnTracks (track_lengths night.station) (stays_of (late i d night) zs)
      on i d zs r = laws.tracks (late i d night) zs (laws.can_stand (late i d night) zs (in_range_late i d night zs r))

  moved_feasible : (i d : ℕ) (xs ys : List Block) → AreInRange night xs → AreInRange night ys → d ≤ 120 → ((b : Block) → In b ys → In b xs)
      → StaysFeasible (late i d night) xs → StaysFeasible (late i d night) ys
  moved_feasible i d xs ys p q few within f = record {
    in_time = λ b j. f.in_time b (within b j);
    through = moved_through i d xs ys p q few within f.through;
  }

  same_findings : (i d : ℕ) (blocks : List Block) → AreInRange night blocks → delay_findings (late i d night) (by_id blocks) ≡ delay_findings (late i d night) blocks
  same_findings i d blocks h = ap (filter is_of_delay) (any_order (late i d night) blocks (by_id blocks) (in_range_late i d night blocks h) (moves blocks))

  same_delay : (blocks : List Block) (delay : Delay) → AreInRange night blocks → IsDelay night (by_id blocks) delay → IsDelay night blocks delay
  same_delay blocks delay h d = record {
    bears = record {
      most = d.bears.most;
      each = λ e le. moved_feasible delay.train.0 e (by_id blocks) blocks (sorted_range night blocks h) h (let m = d.bears.most in omega arith)
          (λ b j. (there blocks b).1 j) (d.bears.each e le);
    };
    greatest = λ e b. d.greatest e (record {
      most = b.most;
      each = λ k le. moved_feasible delay.train.0 k blocks (by_id blocks) h (sorted_range night blocks h)
          (let m = b.most in omega arith) (λ c j. (there blocks c).0 j) (b.each k le);
    });
    stop = d.stop ∙ ap (λ (fs : List Finding). if delay.minutes == 120 then None else first fs) (same_findings delay.train.0 (delay.minutes + 1) blocks h);
  }

  pub same_delays : (blocks sorted : List Block) (delays : List Delay) → AreInRange night blocks → sorted ≡ by_id blocks → AreDelays night sorted delays
      → AreDelays night blocks delays
  same_delays blocks sorted delays h is a = record {
    trains = a.trains;
    each = λ k e lt. same_delay blocks (get_or delays k e) h (subst (λ (bs : List Block). IsDelay night bs (get_or delays k e)) is (a.each k e lt));
  }

  pub ready : ((b : Block) → IsBlock night b → IsSoundBlock night b) → (blocks sorted : List Block) → AreInRange night blocks → IsFeasible night blocks → sorted ≡ by_id blocks
      → AreReadyBlocks night sorted
  ready sound blocks sorted h f is = subst (AreReadyBlocks night) (sym is) (record {
    in_range = sorted_range night blocks h;
    sorted = by_id_is (by_id blocks) (ascends blocks (apart blocks h.ids));
    feasible = record {
      in_time = λ b j. let r = place_of blocks b b ((there blocks b).0 j) in (sound b (subst (IsBlock night) r.2 (f.each r.0 b r.1))).in_time;
      through = subst (λ (w : Night). GoesThrough (track_lengths night.station) (stays_of w (by_id blocks))) (never_late 0 night)
          (moved_through 0 0 blocks (by_id blocks) h (sorted_range night blocks h) (omega arith) (λ b j. (there blocks b).0 j)
          (subst (λ (w : Night). GoesThrough (track_lengths night.station) (stays_of w blocks)) (sym (never_late 0 night)) f.through));
    };
  })

-- ---- the trains in their order

pub in_numbers : (a n x : ℕ) → In x (range_with_len a n) → x < a + n
in_numbers a zero x j = absurd j
in_numbers a (suc n) x (inl e) = omega arith
in_numbers a (suc n) x (inr j) = let lt = in_numbers (a + 1) n x j in omega arith

pub trains_there : (night : Night) (blocks : List Block) (delays : List Delay) → AreDelays night blocks delays → All (λ d. d.train.0 < length night.arrive) delays
trains_there night blocks delays a k e lt =
    let x = get_or delays k e in
    let listed : In x.train.0 (comers night) = subst (λ (xs : List ℕ). In x.train.0 xs) a.trains (in_map (λ (d : Delay). d.train.0) delays x (in_place delays k e lt)) in
    omega (
      arith,
      in_numbers 0 (length night.arrive) x.train.0 (filter_from (λ i. not (has_come (train_at night.arrive i)))
          (range_with_len 0 (length night.arrive)) x.train.0 listed).0,
    )

abbrev comes : Night → ℕ → Bool
comes night i = not (has_come (train_at night.arrive i))

abbrev numbers : List Delay → List ℕ
numbers delays = map (λ d. d.train.0) delays

next_number : (night : Night) (k : ℕ) → filter (comes night) (range_with_len 0 (k + 1)) ≡ filter (comes night) (range_with_len 0 k) ++ filter (comes night) (k ∷ [])
next_number night k =
    let next : k + 1 ≡ suc k = omega arith in
    ap (λ (n : ℕ). filter (comes night) (range_with_len 0 n)) next ∙ ap (filter (comes night)) (range_more 0 k k (omega arith))
    ∙ filter-append (comes night) (range_with_len 0 k) (k ∷ [])

-- one more train, of which nothing has come
pub trains_more : (night : Night) (k : ℕ) (delays after : List Delay) (d : Delay) → d.train.0 ≡ k → has_come (train_at night.arrive k) ≡ false
    → numbers delays ≡ filter (comes night) (range_with_len 0 k) → after ≡ delays ++ d ∷ [] → numbers after ≡ filter (comes night) (range_with_len 0 (k + 1))
trains_more night k delays after d train stands before is =
    ap numbers is ∙ map-append (λ (x : Delay). x.train.0) delays (d ∷ []) ∙ ap (λ (xs : List ℕ). xs ++ d.train.0 ∷ []) before
    ∙ ap (λ (n : ℕ). filter (comes night) (range_with_len 0 k) ++ n ∷ []) train
    ∙ ap (λ (xs : List ℕ). filter (comes night) (range_with_len 0 k) ++ xs) (sym (filter_yes (comes night) k [] (ap (λ (t : Bool). not t) stands))) ∙ sym (next_number night k)

pub each_more : (night : Night) (blocks : List Block) (delays after : List Delay) (d : Delay) → All (IsDelay night blocks) delays → IsDelay night blocks d
    → after ≡ delays ++ d ∷ [] → All (IsDelay night blocks) after
each_more night blocks delays after d all one is = subst (All (IsDelay night blocks)) (sym is)
    (to_all (IsDelay night blocks) (delays ++ d ∷ []) (λ x i. ⊎_elim (λ j. of_all (IsDelay night blocks) delays x all j)
    (λ j. subst (IsDelay night blocks) (sym (of_one d x j)) one) (in_cases delays (d ∷ []) x i)))

-- one that has come
pub trains_same : (night : Night) (k : ℕ) (delays : List Delay) → has_come (train_at night.arrive k) ≡ true
    → numbers delays ≡ filter (comes night) (range_with_len 0 k) → numbers delays ≡ filter (comes night) (range_with_len 0 (k + 1))
trains_same night k delays stands before =
    before ∙ sym (next_number night k ∙ ap (λ (xs : List ℕ). filter (comes night) (range_with_len 0 k) ++ xs) (filter_no (comes night) k [] (ap (λ (t : Bool). not t) stands))
    ∙ append-nil (filter (comes night) (range_with_len 0 k)))
