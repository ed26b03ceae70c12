-- What a yard is when a block comes or goes.
use Rattle.std.specs.Prelude.{All, IfSome, IfNone, OnSome, Option, Some, None, max}
use Rattle.std.specs.List.{cons_option}
use Rattle.std.proofs.Common.{◌≡◌, ◌≢◌, ◌↔◌, ℕ, zero, suc, ◌+◌, ◌<◌, ◌≤◌, List, [], ◌∷◌, ◌++◌, length, take, drop, get_or, refl, sym, subst, ap, ◌∙◌, arith, IsPermutation}
use Rattle.std.proofs.lemmas.List.{length-append, length-take-le, take_more}
use Rattle.std.proofs.lemmas.List.Elements.{All-append, All-cons, All-nil}
use Rattle.std.proofs.lemmas.List.Sorted.{length_permutation}
use Rattle.std.proofs.Math.Nat.{le-max_right}
use Rattle.std.proofs.Math.Seq.{get_or-append_seam, take-append_seam}
use Rattle.shunt_lists.specs.defs.Members.{In}
use Rattle.shunt_base.specs.declared.keys.Stay.{Stay}
use Rattle.shunt_base.specs.defs.Keys.{AreStays}
use Rattle.shunt_lists.proofs.Members.{in_left, each_one as of_all, to_all}
use Rattle.shunt_instance.specs.defs.Instance.{Night, IsInstance, unit_total}
use Rattle.shunt_blocks.specs.declared.records.Block.{Block}
use Rattle.shunt_blocks.specs.defs.Shapes.{IsWithinTrains}
use Rattle.shunt_blocks.specs.defs.Stays.{stay_of}
use Rattle.shunt_blocks.specs.defs.Blocks.{IsBlockButId}
use Rattle.shunt_blocks.specs.defs.Lists.{CanStand, ShareNothing, RunsThrough, placed}
use Rattle.shunt_blocks.specs.defs.Pins.{without_id}
use Rattle.shunt_timeline.specs.defs.Holdings.{Holding}
use Rattle.shunt_choices.specs.defs.Paths.{Trail, IsTrailOf, masks_of}
use Rattle.shunt_choices.proofs.Given.{PlaceLaws, FewerLaw}
use Rattle.shunt_choices.proofs.Trails.{front_apart, room as trail_room}
use Rattle.shunt_search.specs.declared.yard.Yard.{Yard}
use Rattle.shunt_search.specs.defs.Polish.{others_of, Stand, RunsWith}
use Rattle.shunt_search.specs.defs.Yards.{IsYard, IsNextBlock, more_by}
use Rattle.shunt_search.proofs.Improved.{Laws, without, room}
use Rattle.shunt_search.proofs.Placed.{placed_more, none_yet, few_yet, grown, grown_runs}
use Rattle.shunt_search.proofs.Nexts.{Pushes, next_fits, pushes}
use Rattle.shunt_blocks.proofs.Shapes.{all_within}

-- blocks that share nothing are at most as many as the units
abbrev pub MostLaw : Type 0
MostLaw = (night : Night) (blocks : List Block) → All (IsWithinTrains night) blocks → ShareNothing night blocks → length blocks ≤ unit_total night

pub few_path : MostLaw → (night : Night) (t : Trail) (n : ℕ) → IsTrailOf night t → n ≡ unit_total night → n ≤ 160 → length t.blocks ≤ 160
few_path most night t n of e few = let le = most night t.blocks (λ k d lt. (of.each k d lt).within) of.apart in omega (arith, le, e, few)

pub take_less : {X : Type 0} (n m : ℕ) (xs : List X) → n ≤ m → take n (take m xs) ≡ take n xs
take_less zero m xs le = refl
take_less (suc n) zero xs le = absurd (omega (arith, le))
take_less (suc n) (suc m) [] le = refl
take_less (suc n) (suc m) (x ∷ xs) le = ap (λ l. x ∷ l) (take_less n m xs (omega (arith, le)))

-- ---- blocks that come one by one

pub within_placed : (night : Night) (b c : Block) (n : ℕ) → IsWithinTrains night b → c ≡ record b { id = n } → IsWithinTrains night c
within_placed night b c n w e = subst (IsWithinTrains night) (sym e) (record { runs = w.runs; track = w.track })

module _ (night : Night) (xs : List Block) (k : ℕ) (lt : k < length xs) (b c : Block) (is : b ≡ get_or xs k b) (e : c ≡ record b { id = k + 1 }) (held : Holding)
    (st : Stand night (placed (take k xs)) held) where
  size : length (take k xs) ≡ k
  size = length-take-le k xs (omega (arith, lt))

  numbered : c ≡ record b { id = length (take k xs) + 1 }
  numbered = e ∙ ap (λ n. record b { id = n + 1 }) (sym size)

  pub none_at : All (λ s. s.id ≢ c.id) held.stays
  none_at = subst (λ n. All (λ s. s.id ≢ n) held.stays) (sym (ap (λ (x : Block). x.id) numbered)) (none_yet night (take k xs) held st)

  pub few_at : length held.stays ≤ k
  few_at = let le = few_yet night (take k xs) held st in omega (arith, le, size)

  pub next_at : (after : Holding) → after.lengths ≡ held.lengths → ((s : Stay) → In s after.stays ↔ In s (cons_option (stay_of night c) held.stays))
      → length after.stays ≡ length (cons_option (stay_of night c) held.stays) → Stand night (placed (take (k + 1) xs)) after
  next_at after lengths came count = subst (λ (l : List Block). Stand night (placed l) after) (ap (λ (x : Block). take k xs ++ x ∷ []) is ∙ sym (take_more xs k b lt))
      (grown night (take k xs) held st b c numbered after lengths came count)

-- ---- a block comes

module _ (night : Night) (places : PlaceLaws) (y : Yard) (is : IsYard night y) (few : length y.path.blocks ≤ 160) (b : Block) (next : IsNextBlock night y.path.blocks b) where
  pub may : Pushes night y.path b
  may = pushes places night y.path b is.path few next

  pub is_new : All (λ s. s.id ≢ b.id) y.timelines.stays
  is_new = subst (λ n. All (λ s. s.id ≢ n) y.timelines.stays) (sym next.id) (none_yet night y.path.blocks y.timelines is.stand)

  pub few_stays : length y.timelines.stays < 65536
  few_stays = let le = few_yet night y.path.blocks y.timelines is.stand in omega (arith, le, few)

  pub has_room : FewerLaw → 0 < y.timelines.spare
  has_room fewer =
      let lt = trail_room fewer night y.path _ is.path may.next in
      let le = few_yet night y.path.blocks y.timelines is.stand in
      let enough = is.room in
      omega (arith, lt, le, enough)

  itself : b ≡ record b { id = length y.path.blocks + 1 }
  itself = ap (λ n. record b { id = n }) next.id

  pub with_next : (path : Trail) (held : Holding) → path ≡ record y.path { blocks = more_by y.path.blocks b; covered = masks_of night (more_by y.path.blocks b) }
      → IsTrailOf night path
      → held.lengths ≡ y.timelines.lengths → ((s : Stay) → In s held.stays ↔ In s (cons_option (stay_of night b) y.timelines.stays))
      → length held.stays ≡ length (cons_option (stay_of night b) y.timelines.stays)
      → held.spare + length held.stays ≡ y.timelines.spare + length y.timelines.stays → RunsThrough night (placed (more_by y.path.blocks b))
      → IsYard night (record { path = path; timelines = held })
  with_next path held e of lengths came count same through = record {
    path = of;
    each = subst (λ (l : List Block). All (IsBlockButId night) l) (sym (ap (λ (t : Trail). t.blocks) e))
        (All-append (IsBlockButId night) y.path.blocks (b ∷ []) is.each (All-cons (IsBlockButId night) b [] (next_fits night y.path.blocks b next) (All-nil (IsBlockButId night))));
    through = subst (λ (l : List Block). RunsThrough night (placed l)) (sym (ap (λ (t : Trail). t.blocks) e)) through;
    pins =
        let blocks : length path.blocks ≡ length y.path.blocks + 1 = ap (λ (t : Trail). length t.blocks) e ∙ length-append y.path.blocks (b ∷ []) in
        let pins : path.pins ≡ y.path.pins = ap (λ (t : Trail). t.pins) e in
        let le = is.pins in
        omega (arith, blocks, pins, le);
    stand = subst (λ (l : List Block). Stand night (placed l) held) (sym (ap (λ (t : Trail). t.blocks) e))
        (grown night y.path.blocks y.timelines is.stand b b itself held lengths came count);
    room = let enough = is.room in omega (arith, enough, same);
  }

  pub runs_with : Laws night → CanStand night (placed (more_by y.path.blocks b)) → AreStays y.timelines.stays
      → RunsWith night b b.park y.timelines ↔ RunsThrough night (placed (more_by y.path.blocks b))
  runs_with L can are = grown_runs night y.path.blocks y.timelines is.stand b b itself L can are

-- ---- a block goes

-- the path that is left, where one block was taken away
pub left : (o : Option Block) (old new : Trail) → IfSome o (λ b. (old.pins < length old.blocks) × (old.blocks ≡ new.blocks ++ b ∷ []))
    → IfNone o ((length old.blocks ≤ old.pins) × (new ≡ old)) → old.pins < length old.blocks
    → (b : Block) × (old.blocks ≡ new.blocks ++ b ∷ [])
left (Some b) old new some none more = (b, some.1)
left None old new some none more = let le = none.0 in absurd (omega (arith, more, le))

but_last : {X : Type 0} (xs : List X) (x : X) → take (length xs) (xs ++ x ∷ []) ++ drop (suc (length xs)) (xs ++ x ∷ []) ≡ xs
but_last [] x = refl
but_last (y ∷ xs) x = ap (λ l. y ∷ l) (but_last xs x)

module _ (old new : Trail) (b : Block) (e : old.blocks ≡ new.blocks ++ b ∷ []) where
  pub shorter : length old.blocks ≡ length new.blocks + 1
  shorter = ap (λ (l : List Block). length l) e ∙ length-append new.blocks (b ∷ [])

  pub front : new.blocks ≡ take (length new.blocks) old.blocks
  front = sym (ap (λ (l : List Block). take (length new.blocks) l) e ∙ take-append_seam new.blocks (b ∷ []))

module _ (night : Night) (old new : Trail) (b : Block) (e : old.blocks ≡ new.blocks ++ b ∷ []) (can : CanStand night (placed old.blocks)) (held after : Holding)
    (st : Stand night (placed old.blocks) held) (lengths : after.lengths ≡ held.lengths) (id : ℕ) (is : id ≡ length old.blocks) (gone : All (λ s. s.id ≢ id) after.stays)
    (u : Option Stay) (some : IfSome u (λ t. (t.id ≡ id) × IsPermutation (t ∷ after.stays) held.stays × (after.spare ≡ held.spare + 1)))
    (fewer : OnSome u (length after.stays + 1 ≡ length held.stays)) (none : IfNone u (after ≡ held)) where
  abbrev c : Block
  c = record b { id = length new.blocks + 1 }

  abbrev k : ℕ
  k = length (placed new.blocks)

  split : placed old.blocks ≡ placed new.blocks ++ c ∷ []
  split = ap (λ (l : List Block). placed l) e ∙ placed_more new.blocks b

  within : k < length (placed old.blocks)
  within =
      let long : length (placed old.blocks) ≡ length (placed new.blocks) + 1 = ap (λ (l : List Block). length l) split ∙ length-append (placed new.blocks) (c ∷ []) in
      omega (arith, long)

  at : get_or (placed old.blocks) k c ≡ c
  at = ap (λ (l : List Block). get_or l k c) split ∙ get_or-append_seam (placed new.blocks) c [] c

  others : others_of (placed old.blocks) k ≡ placed new.blocks
  others = ap (λ (l : List Block). others_of l k) split ∙ but_last (placed new.blocks) c

  number : id ≡ (get_or (placed old.blocks) k c).id
  number = is ∙ shorter old new b e ∙ sym (ap (λ (x : Block). x.id) at)

  gone_now : (s : Stay) → In s after.stays → s.id ≢ (get_or (placed old.blocks) k c).id
  gone_now s i = subst (λ n. s.id ≢ n) number (of_all (λ t. t.id ≢ id) after.stays s gone i)

  some_now : IfSome u (λ t. (t.id ≡ (get_or (placed old.blocks) k c).id) × IsPermutation (t ∷ after.stays) held.stays × (after.spare ≡ held.spare + 1))
  some_now = subst (λ n. IfSome u (λ t. (t.id ≡ n) × IsPermutation (t ∷ after.stays) held.stays × (after.spare ≡ held.spare + 1))) number some

  stand_left : Stand night (placed new.blocks) after
  stand_left = subst (λ (l : List Block). Stand night l after) others (without night (placed old.blocks) k c within can.ids held after st gone_now lengths u some_now fewer none)

  room_left : after.spare + length after.stays ≡ held.spare + length held.stays
  room_left = room night (placed old.blocks) k c within can.ids held after st gone_now lengths u some_now fewer none

  pub left_yard : All (IsBlockButId night) new.blocks × RunsThrough night (placed new.blocks) → IsTrailOf night new → new.pins ≡ old.pins → old.pins < length old.blocks
      → unit_total night ≤ held.spare + length held.stays → IsYard night (record { path = new; timelines = after })
  left_yard runs of pins more enough = record {
    path = of;
    each = runs.0;
    through = runs.1;
    pins = let one = shorter old new b e in omega (arith, pins, more, one);
    stand = stand_left;
    room = let same = room_left in omega (arith, same, enough);
  }

-- what is left of blocks whose run goes through
abbrev pub PartLaw : Type 0
PartLaw = (night : Night) (blocks others : List Block) → IsInstance night → All (IsWithinTrains night) blocks → ShareNothing night blocks → All (IsWithinTrains night) others
    → ShareNothing night others
    → ((c : Block) → In c others → (b : Block) × In b blocks × (without_id b ≡ without_id c)) → RunsThrough night (placed blocks) → RunsThrough night (placed others)

pub front_runs : PartLaw → (night : Night) → IsInstance night → (blocks front : List Block) (b : Block) → blocks ≡ front ++ b ∷ [] → All (IsBlockButId night) blocks
    → ShareNothing night blocks → RunsThrough night (placed blocks)
    → All (IsBlockButId night) front × RunsThrough night (placed front)
front_runs law night i blocks front b e each apart through =
    let fits = subst (λ (l : List Block). All (IsBlockButId night) l) e each in
    let all_apart = subst (λ (l : List Block). ShareNothing night l) e apart in
    let own = to_all (IsBlockButId night) front (λ x j. of_all (IsBlockButId night) (front ++ b ∷ []) x fits (in_left front (b ∷ []) x j)) in (
      own,
      law night (front ++ b ∷ []) front i (all_within night (front ++ b ∷ []) fits) all_apart (all_within night front own) (front_apart night front b all_apart)
          (λ x j. (x, in_left front (b ∷ []) x j, refl)) (subst (λ (l : List Block). RunsThrough night (placed l)) e through),
    )

-- fronts of fronts
pub front_again : (init old new : List Block) → old ≡ take (length old) init → new ≡ take (length new) old → length old ≡ length new + 1 → new ≡ take (length new) init
front_again init old new e f one = f ∙ ap (λ (l : List Block). take (length new) l) e ∙ take_less (length new) (length old) init (omega (arith, one))

pub front_of : (init now : List Block) (keep : ℕ) → now ≡ take (length now) init → length now ≡ keep → now ≡ take keep init
front_of init now keep e n = e ∙ ap (λ k. take k init) n

-- ---- the start

pub enough_room : (old new : Holding) (n : ℕ) → new ≡ record old { spare = max old.spare n } → n ≤ new.spare
enough_room old new n e = subst (λ (h : Holding). n ≤ h.spare) (sym e) (le-max_right old.spare n)

pub start_yard : (night : Night) (pins blocks : List Block) (t : Trail) (held : Holding) (room n : ℕ) → IsTrailOf night t → t.pins ≡ length pins → IsPermutation pins t.blocks
    → blocks ≡ t.blocks → Stand night (placed blocks) held → held.spare + length held.stays ≡ room → n ≤ room → n ≡ unit_total night → All (IsBlockButId night) t.blocks
    → RunsThrough night (placed t.blocks) → IsYard night (record { path = t; timelines = held })
start_yard night pins blocks t held room n of many same e stand all enough is each through = record {
  path = of;
  each = each;
  through = through;
  pins = omega (arith, many, length_permutation pins t.blocks same);
  stand = subst (λ (l : List Block). Stand night (placed l) held) e stand;
  room = omega (arith, all, enough, is);
}
