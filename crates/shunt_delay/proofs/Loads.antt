-- Loads while a train is late: no more stands at any moment than in time.
use Rattle.std.specs.Prelude.{Option, option_map, Some, None, ◌==◌, ◌&&◌, if◌then◌else◌}
use Rattle.std.specs.List.{cons_option}
use Rattle.std.specs.Ordering.{nat_cmp, bool_cmp, ordering_then, is_le}
use Rattle.std.specs.declared.cmp.Ordering.{Ordering}
use Rattle.std.specs.declared.cmp.Ordering.TheVariants.{Less, Greater}
use Rattle.std.proofs.Common.{◌≡◌, ⊎_elim, ℕ, ◌+◌, ◌<◌, ◌≤◌, Bool, true, false, List, [], ◌∷◌, refl, sym, subst, ap, ◌∙◌, arith, inl, inr}
use Rattle.std.proofs.lemmas.Bool.{cases_Bool, cond-true, cond-false, false≢true, cases_lt}
use Rattle.std.proofs.lemmas.Bool.Decides.{nat_tests}
use Rattle.std.proofs.lemmas.List.Sums.{sum_by-cons}
use Rattle.shunt_lists.specs.defs.Members.{In}
use Rattle.shunt_base.specs.declared.keys.EventKey.{EventKey}
use Rattle.shunt_base.specs.declared.keys.Stay.{Stay}
use Rattle.shunt_base.specs.defs.Keys.{key_cmp}
use Rattle.shunt_stays.specs.defs.Events.{key_before}
use Rattle.shunt_stays.specs.defs.Crossings.{stands_at, load_at}
use Rattle.shunt_instance.specs.defs.Instance.{Night}
use Rattle.shunt_blocks.specs.declared.records.Block.{Block}
use Rattle.shunt_blocks.specs.defs.Shapes.{shape_of, AreRunsWithin}
use Rattle.shunt_blocks.specs.defs.Stays.{stay_of}
use Rattle.shunt_blocks.specs.defs.Lists.{stays_of}
use Rattle.shunt_delay.specs.defs.Late.{late}
use Rattle.shunt_delay.specs.defs.Kept.{late_by, is_too_soon_by, later}
use Rattle.shunt_delay.proofs.Lately.{Units, late_stay, stay_late}

-- what a stay adds to a load
abbrev part : ℕ → EventKey → Option Stay → ℕ
part track moment None = 0
part track moment (Some s) = if stands_at track moment s then s.length else 0

load_cons : (o : Option Stay) (stays : List Stay) (track : ℕ) (moment : EventKey) → load_at (cons_option o stays) track moment ≡ part track moment o + load_at stays track moment
load_cons None stays track moment = omega arith
load_cons (Some s) stays track moment = sum_by-cons (λ (t : Stay). if stands_at track moment t then t.length else 0) s stays

-- a minute that comes before another one, some minutes later too, comes before it in time
earlier : (m e n : ℕ) (rest : Ordering) → is_le (ordering_then (nat_cmp (m + e) n) rest) ≡ true → is_le (ordering_then (nat_cmp m n) rest) ≡ true
earlier m e n rest h = ⊎_elim
    (λ lt. ap (λ (o : Ordering). is_le (ordering_then o rest)) (less m n lt))
    (λ le. ⊎_elim
    (λ lt. absurd (false≢true (sym (ap (λ (o : Ordering). is_le (ordering_then o rest)) (greater (m + e) n lt)) ∙ h)))
    (λ small. let same : m + e ≡ m = omega arith in subst (λ (k : ℕ). is_le (ordering_then (nat_cmp k n) rest) ≡ true) same h)
    (cases_lt n (m + e)))
    (cases_lt m n)
  where
    less : (a b : ℕ) → a < b → nat_cmp a b ≡ Less
    less a b lt = grind (arith, nat_tests)

    greater : (a b : ℕ) → b < a → nat_cmp a b ≡ Greater
    greater a b lt = grind (arith, nat_tests)

swap : (a b c d : Bool) → (b ≡ true → d ≡ true) → a && (b && c) ≡ true → a && (d && c) ≡ true
swap false b c d h e = absurd (false≢true e)
swap true false c d h e = absurd (false≢true e)
swap true true false d h e = absurd (false≢true e)
swap true true true d h e = ap (λ (x : Bool). x && true) (h refl)

stands_earlier : (d track : ℕ) (moment : EventKey) (s : Stay) → stands_at track moment (later d s) ≡ true → stands_at track moment s ≡ true
stands_earlier d track moment s = swap (s.track.0 == track) (is_le (key_cmp (later d s).enter moment)) (key_before moment s.leave) (is_le (key_cmp s.enter moment))
    (earlier s.enter.minute d moment.minute (ordering_then (bool_cmp s.enter.enters moment.enters)
    (ordering_then (nat_cmp s.enter.train moment.train) (ordering_then (nat_cmp s.enter.place moment.place) (nat_cmp s.enter.id moment.id)))))

part_less : (d track : ℕ) (moment : EventKey) (o : Option Stay) → part track moment (option_map (later d) o) ≤ part track moment o
part_less d track moment None = omega arith
part_less d track moment (Some s) = elim (cases_Bool (stands_at track moment (later d s))) [
  | inl stands ↦
      let a : part track moment (Some (later d s)) ≡ s.length = cond-true (stands_at track moment (later d s)) s.length 0 stands in
      let b : part track moment (Some s) ≡ s.length = cond-true (stands_at track moment s) s.length 0 (stands_earlier d track moment s stands) in
      omega (arith, a, b)
  | inr apart ↦ let a : part track moment (Some (later d s)) ≡ 0 = cond-false (stands_at track moment (later d s)) s.length 0 apart in omega (arith, a)
]

late_less : (night : Night) (d track : ℕ) (moment : EventKey) (b : Block) → part track moment (late_stay night d b) ≤ part track moment (stay_of night b)
late_less night d track moment b = elim (cases_Bool (is_too_soon_by night d (shape_of b))) [
  | inl soon ↦ let a : part track moment (late_stay night d b) ≡ 0 = ap (part track moment)
      (cond-true (is_too_soon_by night d (shape_of b)) None (option_map (later d) (stay_of night b)) soon) in omega (arith, a)
  | inr late_enough ↦
      let a : part track moment (late_stay night d b) ≡ part track moment (option_map (later d) (stay_of night b)) = ap (part track moment)
      (cond-false (is_too_soon_by night d (shape_of b)) None (option_map (later d) (stay_of night b)) late_enough) in
      omega (arith, a, part_less d track moment (stay_of night b))
]

pub loads_less : Units → (i d : ℕ) (night : Night) (blocks : List Block) (track : ℕ) (moment : EventKey) → ((b : Block) → In b blocks → AreRunsWithin night (shape_of b))
    → load_at (stays_of (late i d night) blocks) track moment ≤ load_at (stays_of night blocks) track moment
loads_less units i d night [] track moment within = omega arith
loads_less units i d night (b ∷ blocks) track moment within =
    let a : part track moment (stay_of (late i d night) b) ≡ part track moment (late_stay night (late_by i d b) b) = ap (part track moment)
    (stay_late units i d night b (within b (inl refl))) in
    omega (
      arith,
      a,
      late_less night (late_by i d b) track moment b,
      load_cons (stay_of (late i d night) b) (stays_of (late i d night) blocks) track moment,
      load_cons (stay_of night b) (stays_of night blocks) track moment,
      loads_less units i d night blocks track moment (λ c j. within c (inr j)),
    )
