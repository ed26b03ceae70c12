-- The numbers of a night's events rise in their order.
use Rattle.std.proofs.Common.{◌≡◌, ⊎_elim, ℕ, ◌+◌, ◌<◌, ◌≤◌, List, [], ◌∷◌, ◌++◌, ◌∙◌, length, take, get_or, ap, sym, subst, arith}
use Rattle.std.proofs.lemmas.Bool.{cases_lt}
use Rattle.std.proofs.lemmas.List.{get_or_append_left, get_or_push, length-append}
use Rattle.shunt_instance.specs.declared.records.Train.{Train}
use Rattle.shunt_instance.specs.defs.Words.{train_at, unit_count}
use Rattle.shunt_instance.specs.defs.Instance.{Night, IsOrderedNight, IsUnitAt, IsPositionAt, unit_at, position_at, unit_total, position_total, first_position}
use Rattle.shunt_stacks.specs.defs.Numbers.{arrives, departs, LeavesBefore, IsNumbering}
use Rattle.shunt_gains.specs.declared.numbers.Events.{Events}
use Rattle.shunt_gains.specs.defs.Events.{IsGoneBy, IsComeBefore, IsEntryNumber, IsLeaveNumber, AreEntries, AreLeaves, AreEvents, entry_of, leave_of, places_before}

-- what the laws of the crates below say
pub record OrderLaws (night : Night) : Type 0 where
  pub opened : IsOrderedNight night
  pub unit : (u : ℕ) → u < unit_total night → IsUnitAt night u (unit_at night u)
  pub position : (v : ℕ) → v < position_total night → IsPositionAt night v (position_at night v)
  pub behind : (trains : List Train) (i j : ℕ) → i < j → i < length trains → unit_count (take i trains) + length (train_at trains i).units ≤ unit_count (take j trains)
  pub room : (d : ℕ) → d < length night.depart → first_position night d + length (train_at night.depart d).units ≤ position_total night

-- of a list that grows by an entry
pub grown : (xs ys : List ℕ) (k x : ℕ) → ys ≡ xs ++ x ∷ [] → length xs ≡ k → length ys ≡ k + 1
grown xs ys k x e long = ap length e ∙ (length-append xs (x ∷ []) ∙ ap (λ (n : ℕ). n + 1) long)

pub pushed : (P : ℕ → ℕ → Type 0) (xs ys : List ℕ) (k x : ℕ) → ys ≡ xs ++ x ∷ [] → length xs ≡ k → ((w : ℕ) → w < k → P w (get_or xs w 0)) → P k x →
    (w : ℕ) → w < k + 1 → P w (get_or ys w 0)
pushed P xs ys k x e long each new w lt = subst (λ (zs : List ℕ). P w (get_or zs w 0)) (sym e)
    (⊎_elim
    (λ less. subst (P w) (sym (get_or_append_left xs (x ∷ []) 0 w (omega (arith, less, long)))) (each w less))
    (λ more.
    let last : w ≡ k = omega (arith, more, lt) in
    subst (P w) (sym (get_or_push xs x 0 w (omega (arith, last, long)))) (subst (λ (v : ℕ). P v x) (sym last) new))
    (cases_lt w k))

module _ (night : Night) (laws : OrderLaws night) where
  train_rises : (u w : ℕ) → u < w → w < unit_total night → (unit_at night u).train.0 ≤ (unit_at night w).train.0
  train_rises u w lt within =
      let x = laws.unit u (omega (arith, lt, within)) in
      let y = laws.unit w within in
      ⊎_elim
      (λ more. absurd (omega (arith, laws.behind night.arrive (unit_at night w).train.0 (unit_at night u).train.0 more y.train, x.number, y.number, y.place, x.placed, lt)))
      (λ le. le)
      (cases_lt (unit_at night w).train.0 (unit_at night u).train.0)

  pub arrival_rises : (u w : ℕ) → u < w → w < unit_total night → arrives night u ≤ arrives night w
  arrival_rises u w lt within = laws.opened.arrive_rises (unit_at night u).train.0 (unit_at night w).train.0 _ (train_rises u w lt within) (laws.unit w within).train

  departing_rises : (v w : ℕ) → v < w → w < position_total night → (position_at night v).train.0 ≤ (position_at night w).train.0
  departing_rises v w lt within =
      let x = laws.position v (omega (arith, lt, within)) in
      let y = laws.position w within in
      ⊎_elim
      (λ more. absurd (omega (arith, laws.behind night.depart (position_at night w).train.0 (position_at night v).train.0 more y.train, x.number, y.number, y.place, x.placed, lt)))
      (λ le. le)
      (cases_lt (position_at night w).train.0 (position_at night v).train.0)

  by_train : (v w : ℕ) → (position_at night v).train.0 ≤ (position_at night w).train.0 → w < position_total night → departs night v ≤ departs night w
  by_train v w le within = laws.opened.depart_rises (position_at night v).train.0 (position_at night w).train.0 _ le (laws.position w within).train

  pub departure_rises : (v w : ℕ) → v < w → w < position_total night → departs night v ≤ departs night w
  departure_rises v w lt within = by_train v w (departing_rises v w lt within) within

  -- where the first position stands that leaves after a minute, and where none does; and the same of units
  pub gone_at : (v m : ℕ) → v < position_total night → ((w : ℕ) → w < v → departs night w ≤ m) → m < departs night v → IsGoneBy night m v
  gone_at v m within left stays = record {
    within = omega (arith, within);
    left = left;
    stay = λ w le lt. ⊎_elim (λ more. let r = departure_rises v w more lt in omega (arith, r, stays))
        (λ back. subst (λ (k : ℕ). m < departs night k) (omega (arith, le, back)) stays) (cases_lt v w);
  }

  pub gone_all : (n m : ℕ) → position_total night ≤ n → n ≤ position_total night → ((w : ℕ) → w < n → departs night w ≤ m) → IsGoneBy night m n
  gone_all n m low high left = record { within = high; left = left; stay = λ w le lt. absurd (omega (arith, le, lt, low)) }

  pub come_at : (u m : ℕ) → u < unit_total night → ((w : ℕ) → w < u → arrives night w < m) → m ≤ arrives night u → IsComeBefore night m u
  come_at u m within before later = record {
    within = omega (arith, within);
    before = before;
    later = λ w le lt. ⊎_elim (λ more. let r = arrival_rises u w more lt in omega (arith, r, later))
        (λ back. subst (λ (k : ℕ). m ≤ arrives night k) (omega (arith, le, back)) later) (cases_lt u w);
  }

  pub come_all : (n m : ℕ) → unit_total night ≤ n → n ≤ unit_total night → ((w : ℕ) → w < n → arrives night w < m) → IsComeBefore night m n
  come_all n m low high before = record { within = high; before = before; later = λ w le lt. absurd (omega (arith, le, lt, low)) }

  -- the numbers of gone positions and of come units rise with the minute
  more_gone : (m n x y : ℕ) → IsGoneBy night m x → IsGoneBy night n y → m ≤ n → x ≤ y
  more_gone m n x y gone later le =
      ⊎_elim
      (λ lt. let a = gone.left y lt in let b = later.stay y (omega arith) (let w = gone.within in omega (arith, w, lt)) in absurd (omega (arith, a, b, le)))
      (λ h. h)
      (cases_lt y x)

  more_come : (m n x y : ℕ) → IsComeBefore night m x → IsComeBefore night n y → m ≤ n → x ≤ y
  more_come m n x y come later le =
      ⊎_elim
      (λ lt. let a = come.before y lt in let b = later.later y (omega arith) (let w = come.within in omega (arith, w, lt)) in absurd (omega (arith, a, b, le)))
      (λ h. h)
      (cases_lt y x)

  -- where a position stands among those of all trains up to its own
  places_within : (v : ℕ) → v < position_total night → places_before night v < position_total night
  places_within v within =
      let x = laws.position v within in
      let r = laws.room (position_at night v).train.0 x.train in
      let p = x.placed in
      let q = x.place in
      omega (arith, r, p, q)

  places_rise : (v w : ℕ) → v < position_total night → w < position_total night → LeavesBefore night v w → places_before night v < places_before night w
  places_rise v w a b before =
      let x = laws.position v a in
      let y = laws.position w b in
      ⊎_elim
      (λ lt.
      let r : first_position night (position_at night v).train.0 + length (train_at night.depart (position_at night v).train.0).units ≤ first_position night
      (position_at night w).train.0 =
      laws.behind night.depart (position_at night v).train.0 (position_at night w).train.0 lt x.train in
      omega (arith, r, x.placed, x.place))
      (λ same.
      let firsts = ap (λ (d : ℕ). first_position night d) same.0 in
      let longs = ap (λ (d : ℕ). length (train_at night.depart d).units) same.0 in
      omega (arith, firsts, longs, same.1, x.placed, x.place, y.place))
      before

  trains_rise : (v w : ℕ) → LeavesBefore night v w → (position_at night v).train.0 ≤ (position_at night w).train.0
  trains_rise v w before = ⊎_elim (λ lt. omega (arith, lt)) (λ same. omega (arith, same.0)) before

  -- at that place stands a position of its own train
  not_later : (v : ℕ) → v < position_total night → (position_at night (places_before night v)).train.0 ≤ (position_at night v).train.0
  not_later v within =
      let x = laws.position v within in
      let y = laws.position (places_before night v) (places_within v within) in
      ⊎_elim
      (λ more.
      let r : first_position night (position_at night v).train.0 + length (train_at night.depart (position_at night v).train.0).units ≤ first_position night
      (position_at night (places_before night v)).train.0 =
      laws.behind night.depart (position_at night v).train.0 (position_at night (places_before night v)).train.0 more x.train in
      absurd (omega (arith, r, y.number, y.placed, x.placed, x.place)))
      (λ le. le)
      (cases_lt (position_at night v).train.0 (position_at night (places_before night v)).train.0)

  not_earlier : (v : ℕ) → v < position_total night → (position_at night v).train.0 ≤ (position_at night (places_before night v)).train.0
  not_earlier v within =
      let y = laws.position (places_before night v) (places_within v within) in
      ⊎_elim
      (λ less.
      let r : first_position night (position_at night (places_before night v)).train.0 + length
      (train_at night.depart (position_at night (places_before night v)).train.0).units ≤ first_position night (position_at night v).train.0 =
      laws.behind night.depart (position_at night (places_before night v)).train.0 (position_at night v).train.0 less y.train in
      absurd (omega (arith, r, y.number, y.place)))
      (λ le. le)
      (cases_lt (position_at night (places_before night v)).train.0 (position_at night v).train.0)

  -- if a minute is at a position's departure or later, all positions of its train and of earlier ones have gone
  all_gone : (v m gone : ℕ) → v < position_total night → departs night v ≤ m → IsGoneBy night m gone → places_before night v < gone
  all_gone v m gone within le is =
      ⊎_elim
      (λ h. h)
      (λ less.
      let a = is.stay (places_before night v) less (places_within v within) in
      let b = by_train (places_before night v) v (not_later v within) within in
      absurd (omega (arith, a, b, le)))
      (cases_lt (places_before night v) gone)

  -- and if it is earlier, none of its train
  none_gone : (v m gone : ℕ) → v < position_total night → m < departs night v → IsGoneBy night m gone → gone ≤ places_before night v
  none_gone v m gone within lt is =
      ⊎_elim
      (λ more.
      let a = is.left (places_before night v) more in
      let b = by_train v (places_before night v) (not_earlier v within) (places_within v within) in
      absurd (omega (arith, a, b, lt)))
      (λ h. h)
      (cases_lt (places_before night v) gone)

  all_come : (u m come : ℕ) → u < unit_total night → arrives night u < m → IsComeBefore night m come → u < come
  all_come u m come within lt is =
      ⊎_elim
      (λ h. h)
      (λ le. let a = is.later u le within in absurd (omega (arith, a, lt)))
      (cases_lt u come)

  none_come : (u m come : ℕ) → u < unit_total night → m ≤ arrives night u → IsComeBefore night m come → come ≤ u
  none_come u m come within le is =
      ⊎_elim
      (λ lt. let a = is.before u lt in absurd (omega (arith, a, le)))
      (λ h. h)
      (cases_lt u come)

  module _ (entry leave : ℕ → ℕ) (entries : (u : ℕ) → u < unit_total night → IsEntryNumber night u (entry u))
      (leaves : (v : ℕ) → v < position_total night → IsLeaveNumber night v (leave v)) where
    pub numbered : IsNumbering night (unit_total night + position_total night) entry leave
    numbered = record {
      entries = λ u w lt within.
          let x = entries u (omega (arith, lt, within)) in
          let y = entries w within in
          omega (arith, x.2, y.2, lt, more_gone (arrives night u) (arrives night w) x.0 y.0 x.1 y.1 (arrival_rises u w lt within));
      leaves = λ v w a b before.
          let x = leaves v a in
          let y = leaves w b in
          omega (arith, x.2, y.2, places_rise v w a b before, more_come (departs night v) (departs night w) x.0 y.0 x.1 y.1 (by_train v w (trains_rise v w before) b));
      leave_first = λ u v a b le.
          let x = entries u a in
          let y = leaves v b in
          omega (arith, x.2, y.2, all_gone v (arrives night u) x.0 b le x.1, none_come u (departs night v) y.0 a le y.1);
      entry_first = λ u v a b lt.
          let x = entries u a in
          let y = leaves v b in
          omega (arith, x.2, y.2, none_gone v (arrives night u) x.0 b lt x.1, all_come u (departs night v) y.0 a lt y.1);
      entries_in = λ u a.
          let x = entries u a in
          let w = x.1.within in
          omega (arith, x.2, a, w);
      leaves_in = λ v b.
          let y = leaves v b in
          let w = y.1.within in
          omega (arith, y.2, w, places_within v b);
    }

  pub all_numbers : (e : Events) → AreEntries night e.entries.items → AreLeaves night e.leaves.items → unit_total night ≤ 160 → position_total night ≤ 160 → AreEvents night e
  all_numbers e entries leaves few few_positions =
      let a = entries.long in
      let b = leaves.long in
      record {
        entries = a;
        leaves = b;
        numbers = subst (λ (n : ℕ). IsNumbering night n (entry_of e) (leave_of e)) (omega (arith, a, b)) (numbered (entry_of e) (leave_of e) entries.each leaves.each);
        few = omega (arith, a, b, few, few_positions);
      }
