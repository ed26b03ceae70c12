-- Each edit, as what goes and what comes, is the edit by its own sentence.
use Rattle.std.proofs.Common.{◌≡◌, ◌≢◌, ◌⊎◌, ⊎_elim, ℕ, ◌+◌, ◌<◌, ◌≤◌, Bool, true, false, List, [], ◌∷◌, ◌++◌, length, refl, sym, subst, ap, arith}
use Rattle.std.specs.Prelude.{◌==◌, nat_le, nat_lt, ◌&&◌, ◌||◌, not, is_some, if◌then◌else◌, Option, Some, None, Result, Ok, Err}
use Rattle.std.specs.List.{AllByRecursion}
use Rattle.std.proofs.lemmas.Bool.{leb-true, ltb-true}
use Rattle.std.proofs.lemmas.Bool.Decides.{nat_tests}
use Rattle.std.proofs.lemmas.List.{length-map}
use Rattle.shunt_lists.proofs.Members.{all_in, all_from, filter_to, each_one as of_all, to_all}
use Rattle.shunt_lists.specs.defs.Members.{In}
use Rattle.shunt_instance.specs.declared.records.Station.{Station}
use Rattle.shunt_instance.specs.defs.Words.{train_at}
use Rattle.shunt_instance.specs.defs.Instance.{Night}
use Rattle.shunt_blocks.specs.declared.records.Shape.{Shape}
use Rattle.shunt_blocks.specs.declared.records.Block.{Block}
use Rattle.shunt_blocks.specs.declared.records.Park.{Park}
use Rattle.shunt_blocks.specs.defs.Shapes.{shape_of, AreRunsWithin, IsOnTrack, IsWithinTrains, IsInRange}
use Rattle.shunt_plan.specs.declared.edits.Edit.{Edit}
use Rattle.shunt_plan.specs.declared.edits.Edit.TheVariants as edits
use Rattle.shunt_moves.specs.declared.types.MoveError.{MoveError}
use Rattle.shunt_moves.specs.declared.types.MoveError.TheVariants as errors
use Rattle.shunt_moves.specs.declared.exchange.Exchange.{Exchange}
use Rattle.shunt_moves.specs.defs.States.{State, IsState, Ascend, block_with, without_block, changed}
use Rattle.shunt_moves.specs.defs.Edits.{edit, edited, continues, are_runs_within, is_on_track, front_of, rest_of, cuts_nothing, are_apart, refusal, cut, join, made, names_no_block, has_bad_count, is_not_adjacent, is_out_of_range, makes_block}
use Rattle.shunt_moves.specs.defs.Exchanges.{Extends, LeadsOn, Agrees, none, one, two, must, found, room_in, adding, dropping, parking, cutting, joining, planned, ◌>>=◌}
use Rattle.shunt_moves.proofs.ByIds.{gone, put_again, insert_last, with_in, other_id, came}
use Rattle.shunt_moves.proofs.Made.{same_block, of_without, ascend_without, few_without, ascend_last, each_last, few_last, each_changed, ascend_changed}
use Rattle.shunt_lists.proofs.Tests.{equal_of as is_same, both_true as both}

-- ---- one block more

took : (b : Block) (blocks : List Block) → Ascend blocks → In b blocks → Extends (Some b) (without_block b.id blocks) blocks
took b blocks a i = (sym (put_again b blocks a i), gone b.id blocks)

came_last : (b : Block) (blocks : List Block) → AllByRecursion (λ c. c.id < b.id) blocks → Extends (Some b) blocks (blocks ++ b ∷ [])
came_last b blocks h = (sym (insert_last b blocks h), all_from (λ c. c.id ≢ b.id) blocks (λ c i e. let lt : c.id < b.id = all_in (λ c. c.id < b.id) blocks c h i in omega arith))

-- ---- the tests

pub runs_true : (night : Night) (s : Shape) → are_runs_within night s ≡ true → AreRunsWithin night s
runs_true night s e =
    let a = both (nat_lt s.arr.0 (length night.arrive)) _ e in let b = both (nat_lt s.dep.0 (length night.depart)) _ a.1 in let c = both (nat_le 1 s.p) _ b.1 in
    let d = both (nat_le 1 s.n) _ c.1 in let f = both (nat_le 1 s.q) _ d.1 in let g = both (nat_le (s.p + s.n) (length (train_at night.arrive s.arr.0).units + 1)) _ f.1 in
    record {
      arr = ltb-true s.arr.0 (length night.arrive) a.0;
      dep = ltb-true s.dep.0 (length night.depart) b.0;
      p = leb-true 1 s.p c.0;
      n = leb-true 1 s.n d.0;
      q = leb-true 1 s.q f.0;
      units = leb-true (s.p + s.n) (length (train_at night.arrive s.arr.0).units + 1) g.0;
      positions = leb-true (s.q + s.n) (length (train_at night.depart s.dep.0).units + 1) g.1;
    }

pub track_true : (s : Station) (park : Option Park) → is_on_track s park ≡ true → IsOnTrack s park
track_true s None e = tt
track_true s (Some k) e = ltb-true k.track.0 (length s.tracks) e

-- ---- refusals and exchanges that agree

-- where there is no room, or no id
abbrev no_room : Bool → Bool → Option MoveError
no_room full spent = if full then Some errors.Full else if spent then Some errors.IdsSpent else None

abbrev room : Bool → Bool → Result (Unit {0}) MoveError
room full spent = do
  _ ← must (not full) errors.Full
  must (not spent) errors.IdsSpent

module _ (night : Night) (s : State) (h : IsState night s) where
  member : (id : ℕ) (b : Block) → block_with s.blocks id ≡ Some b → In b s.blocks
  member id b e = (with_in s.blocks id b e).0

  in_range : (b : Block) → In b s.blocks → IsInRange night b
  in_range b i = of_all (IsInRange night) s.blocks b h.each i

  is_below : (b : Block) → In b s.blocks → b.id < s.next
  is_below b i = all_in (λ b. b.id < s.next) s.blocks b h.below i

  -- ---- drop

  dropped : (b : Block) → In b s.blocks → LeadsOn night (record { gone = one b; come = none; next = s.next }) s (record s { blocks = without_block b.id s.blocks })
  dropped b i = record {
    one = without_block b.id s.blocks;
    both = without_block b.id s.blocks;
    new = without_block b.id s.blocks;
    first_gone = took b s.blocks h.ascend i;
    second_gone = refl;
    first_come = refl;
    second_come = refl;
    next = refl;
    from = h;
    to = record {
      few = omega (arith, few_without b.id s.blocks, h.few);
      each = to_all (IsInRange night) (without_block b.id s.blocks) (λ c j. in_range c (of_without b.id s.blocks c j));
      ascend = ascend_without b.id s.blocks h.ascend;
      below = all_from (λ c. c.id < s.next) (without_block b.id s.blocks) (λ c j. is_below c (of_without b.id s.blocks c j));
      some = h.some;
      next = h.next;
    };
  }

  drop_found : (id : ℕ) (o : Option Block) → block_with s.blocks id ≡ o → Agrees night s (record s { blocks = without_block id s.blocks })
      (if not (is_some o) then Some errors.NoBlock else None) (found o >>= λ b. Ok (record { gone = one b; come = none; next = s.next }))
  drop_found id None e = refl
  drop_found id (Some b) e = let r = with_in s.blocks id b e in subst (λ (n : ℕ). LeadsOn night (record { gone = one b; come = none; next = s.next }) s
      (record s { blocks = without_block n s.blocks })) r.1 (dropped b r.0)

  -- ---- a block that is changed

  module _ (change : Block → Block) (same : (c : Block) → (change c).id ≡ c.id) where
    few_changed : (id : ℕ) (blocks : List Block) → length (changed id change blocks) ≡ length blocks
    few_changed id blocks = length-map blocks (λ b. if b.id == id then change b else b)

    changed_state : (b : Block) → In b s.blocks → IsInRange night (change b) → IsState night (record s { blocks = changed b.id change s.blocks })
    changed_state b i good = record {
      few = omega (arith, few_changed b.id s.blocks, h.few);
      each = to_all (IsInRange night) (changed b.id change s.blocks) (each_changed b.id change (IsInRange night) s.blocks in_range
          (λ c j e. subst (λ (x : Block). IsInRange night (change x)) (sym (same_block s.blocks b c h.ascend i j e)) good));
      ascend = ascend_changed b.id change same s.blocks h.ascend;
      below = all_from (λ c. c.id < s.next) (changed b.id change s.blocks) (each_changed b.id change (λ c. c.id < s.next) s.blocks is_below
          (λ c j e. omega (arith, same c, is_below c j)));
      some = h.some;
      next = h.next;
    }

    changes : (b : Block) → In b s.blocks → IsInRange night (change b) → LeadsOn night (record { gone = one b; come = one (change b); next = s.next }) s
        (record s { blocks = changed b.id change s.blocks })
    changes b i good = record {
      one = without_block b.id s.blocks;
      both = without_block b.id s.blocks;
      new = changed b.id change s.blocks;
      first_gone = took b s.blocks h.ascend i;
      second_gone = refl;
      first_come = came b change s.blocks h.ascend i (same b);
      second_come = refl;
      next = refl;
      from = h;
      to = changed_state b i good;
    }

  -- ---- park and unpark

  parked_range : (b : Block) (park : Option Park) → IsInRange night b → is_on_track night.station park ≡ true → IsInRange night (record b { park = park })
  parked_range b park g t = record { from = g.from; to = g.to; within = record { runs = g.within.runs; track = track_true night.station park t } }

  park_tested : (id : ℕ) (b : Block) (park : Option Park) → block_with s.blocks id ≡ Some b → (t : Bool) → is_on_track night.station park ≡ t
      → Agrees night s (record s { blocks = changed id (λ c. record c { park = park }) s.blocks })
      (if not t then Some errors.BadRange else None) (must t errors.BadRange >>= λ _. Ok (record { gone = one b; come = one (record b { park = park }); next = s.next }))
  park_tested id b park e true t = let r = with_in s.blocks id b e in
      subst (λ (n : ℕ). LeadsOn night (record { gone = one b; come = one (record b { park = park }); next = s.next }) s
      (record s { blocks = changed n (λ c. record c { park = park }) s.blocks })) r.1
      (changes (λ c. record c { park = park }) (λ c. refl) b r.0 (parked_range b park (in_range b r.0) t))
  park_tested id b park e false t = refl

  park_found : (id : ℕ) (park : Option Park) (o : Option Block) → block_with s.blocks id ≡ o
      → Agrees night s (record s { blocks = changed id (λ c. record c { park = park }) s.blocks })
      (if not (is_some o) then Some errors.NoBlock else if not (is_on_track night.station park) then Some errors.BadRange else None)
      (found o >>= λ b. must (is_on_track night.station park) errors.BadRange >>= λ _. Ok (record { gone = one b; come = one (record b { park = park }); next = s.next }))
  park_found id park None e = refl
  park_found id park (Some b) e = park_tested id b park e (is_on_track night.station park) refl

  -- ---- a block at the end

  last_state : (blocks : List Block) (b : Block) → IsState night (record s { blocks = blocks }) → b.id ≡ s.next → IsWithinTrains night b → length blocks ≢ 400 → s.next ≢ 1000001
      → IsState night (record { blocks = blocks ++ b ∷ []; next = s.next + 1 })
  last_state blocks b g e within full spent =
      let low : AllByRecursion (λ c. c.id < b.id) blocks = all_from (λ c. c.id < b.id) blocks
      (λ c i. let lt : c.id < s.next = all_in (λ c. c.id < s.next) blocks c g.below i in omega arith) in
      let few = g.few in let some = g.some in let most = g.next in
      record {
        few = let n = few_last blocks b in ⊎_elim (λ lt. omega arith) (λ eq. absurd (full eq)) (below_or (length blocks) 400 few);
        each = to_all (IsInRange night) (blocks ++ b ∷ []) (each_last (IsInRange night) blocks b (λ c i. of_all (IsInRange night) blocks c g.each i)
            (record { from = omega arith; to = ⊎_elim (λ lt. omega arith) (λ eq. absurd (spent eq)) (below_or s.next 1000001 most); within = within }));
        ascend = ascend_last blocks b g.ascend low;
        below = all_from (λ c. c.id < s.next + 1) (blocks ++ b ∷ []) (each_last (λ c. c.id < s.next + 1) blocks b
            (λ c i. let lt : c.id < s.next = all_in (λ c. c.id < s.next) blocks c g.below i in omega arith) (omega arith));
        some = omega arith;
        next = ⊎_elim (λ lt. omega arith) (λ eq. absurd (spent eq)) (below_or s.next 1000001 most);
      }
    where
      below_or : (x n : ℕ) → x ≤ n → (x < n) ⊎ (x ≡ n)
      below_or x n le = grind (arith, nat_tests)

  -- ---- add

  added : (b : Block) → b.id ≡ s.next → IsWithinTrains night b → length s.blocks ≢ 400 → s.next ≢ 1000001
      → LeadsOn night (record { gone = none; come = one b; next = s.next + 1 }) s (record { blocks = s.blocks ++ b ∷ []; next = s.next + 1 })
  added b e within full spent = record {
    one = s.blocks;
    both = s.blocks;
    new = s.blocks ++ b ∷ [];
    first_gone = refl;
    second_gone = refl;
    first_come = came_last b s.blocks (all_from (λ c. c.id < b.id) s.blocks (λ c i. omega (arith, is_below c i)));
    second_come = refl;
    next = refl;
    from = h;
    to = last_state s.blocks b h e within full spent;
  }

  is_not : (x y : ℕ) → (x == y) ≡ false → x ≢ y
  is_not x y e = grind (arith, nat_tests)

  add_tested : (b : Block) → b.id ≡ s.next → (good full spent : Bool) → (are_runs_within night (shape_of b) && is_on_track night.station b.park) ≡ good
      → (length s.blocks == 400) ≡ full → (s.next == 1000001) ≡ spent →
      Agrees night s (record { blocks = s.blocks ++ b ∷ []; next = s.next + 1 }) (if not good then Some errors.BadRange else no_room full spent)
      (must good errors.BadRange >>= λ _. room full spent >>= λ _. Ok (record { gone = none; come = one b; next = s.next + 1 }))
  add_tested b e false full spent g f n = refl
  add_tested b e true true spent g f n = refl
  add_tested b e true false true g f n = refl
  add_tested b e true false false g f n = let t = both (are_runs_within night (shape_of b)) (is_on_track night.station b.park) g in
      added b e (record { runs = runs_true night (shape_of b) t.0; track = track_true night.station b.park t.1 }) (is_not (length s.blocks) 400 f) (is_not s.next 1000001 n)

  -- ---- cut

  parts_within : (b : Block) (k : ℕ) → IsInRange night b → (k == 0 || nat_le b.n k) ≡ false → IsInRange night (front_of k b) × IsWithinTrains night (rest_of k s.next b)
  parts_within b k g e =
      let r = g.within.runs in
      let some : 1 ≤ k = grind (arith, nat_tests) in let less : k < b.n = grind (arith, nat_tests) in
      let p = r.p in let q = r.q in let u = r.units in let v = r.positions in (
        record {
          from = g.from;
          to = g.to;
          within = record {
            runs = record { arr = r.arr; dep = r.dep; p = r.p; n = some; q = r.q; units = omega arith; positions = omega arith };
            track = g.within.track;
          };
        },
        record {
          runs = record { arr = r.arr; dep = r.dep; p = omega arith; n = omega arith; q = omega arith; units = omega arith; positions = omega arith };
          track =
              g.within.track;
        },
      )

  cuts : (b : Block) (k : ℕ) → In b s.blocks → (k == 0 || nat_le b.n k) ≡ false → length s.blocks ≢ 400 → s.next ≢ 1000001 →
      LeadsOn night (record { gone = one b; come = two (front_of k b) (rest_of k s.next b); next = s.next + 1 }) s
      (record { blocks = changed b.id (front_of k) s.blocks ++ rest_of k s.next b ∷ []; next = s.next + 1 })
  cuts b k i e full spent =
      let parts = parts_within b k (in_range b i) e in
      let count = few_changed (front_of k) (λ c. refl) b.id s.blocks in
      let front : IsState night (record s { blocks = changed b.id (front_of k) s.blocks }) = changed_state (front_of k) (λ c. refl) b i parts.0 in
      record {
        one = without_block b.id s.blocks;
        both = without_block b.id s.blocks;
        new = changed b.id (front_of k) s.blocks;
        first_gone = took b s.blocks h.ascend i;
        second_gone = refl;
        first_come = came b (front_of k) s.blocks h.ascend i refl;
        second_come = came_last (rest_of k s.next b) (changed b.id (front_of k) s.blocks) front.below;
        next = refl;
        from = h;
        to = last_state (changed b.id (front_of k) s.blocks) (rest_of k s.next b) front refl parts.1 (λ f. full (omega arith)) spent;
      }

  cut_tested : (b : Block) (k : ℕ) → In b s.blocks → (bad full spent : Bool) → (k == 0 || nat_le b.n k) ≡ bad → (length s.blocks == 400) ≡ full → (s.next == 1000001) ≡ spent →
      Agrees night s (record { blocks = changed b.id (front_of k) s.blocks ++ rest_of k s.next b ∷ []; next = s.next + 1 })
      (if bad then Some errors.BadCount else no_room full spent)
      (must (not bad) errors.BadCount >>= λ _. room full spent >>= λ _. Ok (record { gone = one b; come = two (front_of k b) (rest_of k s.next b); next = s.next + 1 }))
  cut_tested b k i true full spent g f n = refl
  cut_tested b k i false true spent g f n = refl
  cut_tested b k i false false true g f n = refl
  cut_tested b k i false false false g f n = cuts b k i g (is_not (length s.blocks) 400 f) (is_not s.next 1000001 n)

  cut_found : (id k : ℕ) (o : Option Block) → block_with s.blocks id ≡ o → Agrees night s (cut s o k)
      (if not (is_some o) then Some errors.NoBlock else if cuts_nothing o k then Some errors.BadCount else no_room (length s.blocks == 400) (s.next == 1000001))
      (found o >>= λ b. must (not (k == 0 || nat_le b.n k)) errors.BadCount >>= λ _. room (length s.blocks == 400) (s.next == 1000001) >>= λ _. Ok
      (record { gone = one b; come = two (front_of k b) (rest_of k s.next b); next = s.next + 1 }))
  cut_found id k None e = refl
  cut_found id k (Some b) e = cut_tested b k (member id b e) (k == 0 || nat_le b.n k) (length s.blocks == 400) (s.next == 1000001) refl refl refl

  -- ---- join

  joined_range : (b c : Block) → IsInRange night b → IsInRange night c → continues b c ≡ true → IsInRange night (record b { n = b.n + c.n })
  joined_range b c g f e =
      let one = both (b.arr.0 == c.arr.0) _ e in let two = both (b.p + b.n == c.p) _ one.1 in let three = both (b.dep.0 == c.dep.0) (b.q + b.n == c.q) two.1 in
      let arr : b.arr.0 ≡ c.arr.0 = is_same b.arr.0 c.arr.0 one.0 in let p : b.p + b.n ≡ c.p = is_same (b.p + b.n) c.p two.0 in
      let dep : b.dep.0 ≡ c.dep.0 = is_same b.dep.0 c.dep.0 three.0 in let q : b.q + b.n ≡ c.q = is_same (b.q + b.n) c.q three.1 in
      let units : c.p + c.n ≤ length (train_at night.arrive b.arr.0).units + 1 = subst (λ (a : ℕ). c.p + c.n ≤ length (train_at night.arrive a).units + 1)
      (sym arr) f.within.runs.units in
      let positions : c.q + c.n ≤ length (train_at night.depart b.dep.0).units + 1 = subst (λ (d : ℕ). c.q + c.n ≤ length (train_at night.depart d).units + 1)
      (sym dep) f.within.runs.positions in
      let r = g.within.runs in let n = r.n in
      record {
        from = g.from;
        to = g.to;
        within = record {
          runs = record {
            arr = r.arr;
            dep = r.dep;
            p = r.p;
            n = omega arith;
            q = r.q;
            units = omega arith;
            positions = omega arith;
          };
          track = g.within.track;
        };
      }

  -- blocks that continue each other aren't one block
  apart_ids : (b c : Block) → In b s.blocks → In c s.blocks → continues b c ≡ true → b.id ≢ c.id
  apart_ids b c i j e same =
      let is : b ≡ c = same_block s.blocks c b h.ascend j i same in
      let two = both (b.arr.0 == c.arr.0) _ e in let three = both (b.p + b.n == c.p) _ two.1 in
      let p : b.p + b.n ≡ c.p = is_same (b.p + b.n) c.p three.0 in let n = (in_range b i).within.runs.n in
      omega (arith, ap (λ (x : Block). x.p) is)

  stays_in : (b c : Block) → In b s.blocks → b.id ≢ c.id → In b (without_block c.id s.blocks)
  stays_in b c i ne = filter_to (λ x. not (x.id == c.id)) s.blocks b i (ap not (other_id b.id c.id ne))

  joins : (b c : Block) → In b s.blocks → In c s.blocks → continues b c ≡ true →
      LeadsOn night (record { gone = two c b; come = one (record b { n = b.n + c.n }); next = s.next }) s
      (record s { blocks = changed b.id (λ x. record x { n = x.n + c.n }) (without_block c.id s.blocks) })
  joins b c i j e =
      let ascend = ascend_without c.id s.blocks h.ascend in let k = stays_in b c i (apart_ids b c i j e) in
      let good = joined_range b c (in_range b i) (in_range c j) e in
      let members : (x : Block) → In x (without_block c.id s.blocks) → In x s.blocks = λ x m. of_without c.id s.blocks x m in
      record {
        one = without_block c.id s.blocks;
        both = without_block b.id (without_block c.id s.blocks);
        new = changed b.id (λ x. record x { n = x.n + c.n }) (without_block c.id s.blocks);
        first_gone = took c s.blocks h.ascend j;
        second_gone = took b (without_block c.id s.blocks) ascend k;
        first_come = came b (λ x. record x { n = x.n + c.n }) (without_block c.id s.blocks) ascend k refl;
        second_come = refl;
        next = refl;
        from = h;
        to = record {
          few = omega (arith, few_changed (λ x. record x { n = x.n + c.n }) (λ x. refl) b.id (without_block c.id s.blocks), few_without c.id s.blocks, h.few);
          each = to_all (IsInRange night) (changed b.id (λ x. record x { n = x.n + c.n }) (without_block c.id s.blocks))
              (each_changed b.id (λ x. record x { n = x.n + c.n }) (IsInRange night) (without_block c.id s.blocks) (λ x m. in_range x (members x m))
              (λ x m f. subst (λ (y : Block). IsInRange night (record y { n = y.n + c.n })) (sym (same_block s.blocks b x h.ascend i (members x m) f)) good));
          ascend = ascend_changed b.id (λ x. record x { n = x.n + c.n }) (λ x. refl) (without_block c.id s.blocks) ascend;
          below = all_from (λ x. x.id < s.next) (changed b.id (λ x. record x { n = x.n + c.n }) (without_block c.id s.blocks))
              (each_changed b.id (λ x. record x { n = x.n + c.n }) (λ x. x.id < s.next) (without_block c.id s.blocks) (λ x m. is_below x (members x m))
              (λ x m f. is_below x (members x m)));
          some = h.some;
          next = h.next;
        };
      }

  join_tested : (first : ℕ) (b c : Block) → block_with s.blocks first ≡ Some b → In c s.blocks → (t : Bool) → continues b c ≡ t →
      Agrees night s (join s first (Some c)) (if not t then Some errors.NotAdjacent else None)
      (must t errors.NotAdjacent >>= λ _. Ok (record { gone = two c b; come = one (record b { n = b.n + c.n }); next = s.next }))
  join_tested first b c e j true t = let r = with_in s.blocks first b e in
      subst (λ (n : ℕ). LeadsOn night (record { gone = two c b; come = one (record b { n = b.n + c.n }); next = s.next }) s
      (record s { blocks = changed n (λ x. record x { n = x.n + c.n }) (without_block c.id s.blocks) })) r.1 (joins b c r.0 j t)
  join_tested first b c e j false t = refl

  join_found : (first second : ℕ) (o other : Option Block) → block_with s.blocks first ≡ o → block_with s.blocks second ≡ other → Agrees night s (join s first other)
      (if not (is_some o) || not (is_some other) then Some errors.NoBlock else if are_apart o other then Some errors.NotAdjacent else None)
      (found o >>= λ b. found other >>= λ c. must (continues b c) errors.NotAdjacent >>= λ _. Ok
      (record { gone = two c b; come = one (record b { n = b.n + c.n }); next = s.next }))
  join_found first second None other e f = refl
  join_found first second (Some b) None e f = refl
  join_found first second (Some b) (Some c) e f = join_tested first b c e (member second c f) (continues b c) refl

  -- ---- all of them

  pub agrees : (e : Edit) → Agrees night s (made s e) (refusal night s e) (planned night s e)
  unfolding made refusal names_no_block has_bad_count is_not_adjacent is_out_of_range makes_block planned adding dropping parking cutting joining room_in
  agrees (edits.Add arr p n dep q park) = add_tested (record { id = s.next; arr = arr; p = p; n = n; dep = dep; q = q; park = park }) refl
      (are_runs_within night (record { arr = arr; p = p; n = n; dep = dep; q = q }) && is_on_track night.station park) (length s.blocks == 400) (s.next == 1000001) refl refl refl
  agrees (edits.Drop id) = drop_found id (block_with s.blocks id) refl
  agrees (edits.Park id park) = park_found id (Some park) (block_with s.blocks id) refl
  agrees (edits.Unpark id) = park_found id None (block_with s.blocks id) refl
  agrees (edits.Cut id k) = cut_found id k (block_with s.blocks id) refl
  agrees (edits.Join first second) = join_found first second (block_with s.blocks first) (block_with s.blocks second) refl refl

-- an accepted edit makes a state
pub edit_kept : (night : Night) (s t : State) (e : Edit) → IsState night s → edit night s e ≡ Ok t → IsState night t
edit_kept night s t e h is = go (refusal night s e) (planned night s e) (agrees night s h e) is
  where
    same_ok : (u v : State) → edited None u ≡ Ok v → u ≡ v
    same_ok u v f = cc

    state_to : (x : Result Exchange MoveError) → Agrees night s (made s e) None x → IsState night (made s e)
    state_to (Ok x) a = a.to
    state_to (Err error) a = absurd a

    go : (r : Option MoveError) (x : Result Exchange MoveError) → Agrees night s (made s e) r x → edited r (made s e) ≡ Ok t → IsState night t
    go None x a f = subst (IsState night) (same_ok (made s e) t f) (state_to x a)
    go (Some error) x a f = absurd (cc)
