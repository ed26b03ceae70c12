-- What code counts of a bound, part by part.
use Rattle.std.proofs.Common.{⊎_elim, ℕ, List, length, get_or, set, sym, subst, arith, get_or-set_same, get_or-set_other, ◌≡◌, ◌≢◌, ◌+◌, ◌<◌, ◌≤◌, Bool, ◌*◌, ℤ, pos, ap, ◌+ℤ◌, ◌∙◌, add-one, take, refl, [], ◌∷◌}
use Rattle.std.proofs.lemmas.Bool.{cases_eq}
use Rattle.std.specs.Prelude.{cond, ◌==◌, ◌&&◌, ◌≤ℤ◌, Option, Some, None, ◌*ℤ◌, true, ◌-ℤ◌, slice_get}
use Rattle.std.proofs.lemmas.Bool.Decides.{nat_tests}
use Rattle.std.proofs.lemmas.Int.{ints}
use Rattle.shunt_prices.specs.defs.Bounds.{IsBoundOf, most_surcharge, uncovered_alphas, uncovered_betas, sum_at}
use Rattle.shunt_prices.proofs.Signed.{bound_rises, sum_z_push, five}
use Rattle.shunt_base.specs.declared.duals.Duals.{Duals}
use Rattle.shunt_base.specs.declared.duals.PriceKind.TheVariants as kinds
use Rattle.shunt_instance.specs.defs.Instance.{Night}
use Rattle.shunt_blocks.specs.declared.records.Shape.{Shape}
use Rattle.shunt_blocks.specs.defs.Shapes.{unit_from, position_from, shape_of}
use Rattle.shunt_prices.specs.defs.Sums.{sum_z_below, IsWithin, sum_z}
use Rattle.shunt_prices.specs.defs.Cases.{duals_over, surcharge, weight}
use Rattle.shunt_prices.specs.defs.Limits.{IsValue, case_at, IsCase, AreCases}
use Rattle.std.proofs.lemmas.List.{take_more}
use Rattle.shunt_blocks.specs.declared.records.Park.{Park}
use Rattle.std.specs.Int.{int_max}
use Rattle.shunt_base.specs.declared.duals.Case.{Case}
use Rattle.shunt_blocks.specs.declared.records.Block.{Block}
use Rattle.shunt_choices.specs.defs.Paths.{masks_of}
use Rattle.shunt_prices.specs.defs.Prices.{paid_at_most, counted_with, price_part_with, count, is_there, price_part}
use Rattle.std.proofs.lemmas.Option.{get_or_from_slice_get}
use Rattle.std.proofs.lemmas.List.Sums.{sum_by-cons, sum_by_more}
use Rattle.shunt_base.specs.declared.duals.Price.{Price}

-- a price that is not there, for places past a list's end
abbrev pub no_price : Price
no_price = record { kind = kinds.Length; track = record { 0 = 0 }; train = record { 0 = 0 }; value = 0 }

-- from the trains below one to one more
pub train_more : (Fits : ℕ → ℕ → Type 0) (costs : List ℕ) (t cost : ℕ) → t < length costs → Fits t cost → ((a : ℕ) → a < t → Fits a (get_or costs a 0))
    → (a : ℕ) → a < t + 1 → Fits a (get_or (set costs t cost) a 0)
train_more Fits costs t cost inside here before a lt =
    ⊎_elim
    (λ (e : a ≡ t).
    subst (λ (w : ℕ). Fits w (get_or (set costs t cost) w 0)) (sym e) (subst (Fits t) (sym (get_or-set_same costs t cost 0 inside)) here))
    (λ (ne : a ≢ t). subst (Fits a) (sym (get_or-set_other costs t a cost 0 ne)) (before a (omega (arith, lt, ne))))
    (cases_eq a t)

pub small_at : (costs : List ℕ) (t cost most : ℕ) → t < length costs → cost ≤ most → ((a : ℕ) → get_or costs a 0 ≤ most) → (a : ℕ) → get_or (set costs t cost) a 0 ≤ most
small_at costs t cost most inside le before a =
    ⊎_elim
    (λ (e : a ≡ t).
    let at : get_or (set costs t cost) a 0 ≡ cost = subst (λ (w : ℕ). get_or (set costs t cost) w 0 ≡ cost) (sym e) (get_or-set_same costs t cost 0 inside) in
    omega (arith, at, le))
    (λ (ne : a ≢ t). omega (arith, get_or-set_other costs t a cost 0 ne, before a))
    (cases_eq a t)

pub on_own : (a b : ℕ) (there : Bool) (n v : ℕ) → a ≡ b → v * cond ((a == b) && there) n 0 ≡ v * cond there n 0
on_own a b there n v e = grind (arith, nat_tests)

pub on_other : (a b : ℕ) (there : Bool) (n v : ℕ) → a ≢ b → v * cond ((a == b) && there) n 0 ≡ 0
on_other a b there n v ne = grind (arith, nat_tests)

pub small_more : (parts : List ℕ) (t i most x : ℕ) → t < length parts → x ≤ most → ((w : ℕ) → get_or parts w 0 ≤ i * most)
    → (w : ℕ) → get_or (set parts t (get_or parts t 0 + x)) w 0 ≤ (i + 1) * most
small_more parts t i most x inside le before w =
    ⊎_elim
    (λ (e : w ≡ t).
    let at : get_or (set parts t (get_or parts t 0 + x)) w 0 ≡ get_or parts t 0 + x = subst (λ (v : ℕ). get_or (set parts t (get_or parts t 0 + x)) v 0 ≡ get_or parts t 0 + x)
    (sym e) (get_or-set_same parts t (get_or parts t 0 + x) 0 inside) in
    omega (arith, at, before t))
    (λ (ne : w ≢ t). omega (arith, get_or-set_other parts t w (get_or parts t 0 + x) 0 ne, before w))
    (cases_eq w t)

-- two bounds of one sum
pub one_bound : (sum bound other : ℤ) → IsBoundOf sum bound → IsBoundOf sum other → bound ≤ℤ other
one_bound sum bound other h k = bound_rises sum sum bound other (omega (arith, ints)) h k

pub over_is : (night : Night) (d : Duals) (s : Shape) (u v n : ℕ) (alpha beta : List ℤ) (a b : ℤ) → u ≡ unit_from night s → v ≡ position_from night s → alpha ≡ d.alpha
    → beta ≡ d.beta → n ≡ s.n
    → a ≡ sum_z_below n (λ k. get_or alpha (u + k) (pos 0)) → b ≡ sum_z_below n (λ k. get_or beta (v + k) (pos 0)) → a +ℤ b ≡ duals_over night d s
over_is night d s u v n alpha beta a b eu ev ea eb en ha hb =
    let A : ℕ → List ℤ → ℕ → Type 0 = λ w zs m. a ≡ sum_z_below m (λ k. get_or zs (w + k) (pos 0)) in
    let B : ℕ → List ℤ → ℕ → Type 0 = λ w zs m. b ≡ sum_z_below m (λ k. get_or zs (w + k) (pos 0)) in
    let a_is : a ≡ sum_z_below s.n (λ k. get_or d.alpha (unit_from night s + k) (pos 0)) = subst (λ (w : ℕ). A w d.alpha s.n) eu
    (subst (λ (zs : List ℤ). A u zs s.n) ea (subst (λ (m : ℕ). A u alpha m) en ha)) in
    let b_is : b ≡ sum_z_below s.n (λ k. get_or d.beta (position_from night s + k) (pos 0)) = subst (λ (w : ℕ). B w d.beta s.n) ev
    (subst (λ (zs : List ℤ). B v zs s.n) eb (subst (λ (m : ℕ). B v beta m) en hb)) in
    ap (λ (x : ℤ). x +ℤ b) a_is ∙ ap (λ (x : ℤ). sum_z_below s.n (λ k. get_or d.alpha (unit_from night s + k) (pos 0)) +ℤ x) b_is

pub one_more : (k : ℕ) (f : ℕ → ℤ) (z : ℤ) → z ≡ sum_z_below k f +ℤ f k → z ≡ sum_z_below (k + 1) f
one_more k f z e = subst (λ (m : ℕ). z ≡ sum_z_below m f) (sym (add-one k)) e

pub within_more : (k : ℕ) (total value z : ℤ) → z ≡ total +ℤ value → IsValue value → IsWithin (k * 999999999999) total → IsWithin ((k + 1) * 999999999999) z
within_more k total value z e v w = record { low = omega (arith, ints, v.low, w.low, e); high = omega (arith, ints, v.high, w.high, e) }

pub sum_more : {X : Type 0} (f : X → ℤ) (xs : List X) (i : ℕ) (d : X) (z : ℤ) → i < length xs → z ≡ sum_z f (take i xs) +ℤ f (get_or xs i d) → z ≡ sum_z f (take (i + 1) xs)
sum_more f xs i d z lt e = e ∙ sym (ap (sum_z f) (take_more xs i d lt) ∙ sum_z_push f (take i xs) (get_or xs i d))

pub wider_more : (k most : ℕ) (total value z : ℤ) → z ≡ total +ℤ value → IsWithin most value → IsWithin (k * most) total → IsWithin ((k + 1) * most) z
wider_more k most total value z e v w = record { low = omega (arith, ints, v.low, w.low, e); high = omega (arith, ints, v.high, w.high, e) }

pub no_surcharge : (park : Option Park) → surcharge (pos 0) park ≡ pos 0
no_surcharge None = refl
no_surcharge (Some k) = refl

pub most_seen : (m : ℤ) (from to : ℕ) (r a b : ℤ) → IsValue m → from ≤ 160 → to ≤ 160 → a ≡ m *ℤ pos from → b ≡ m *ℤ pos to → r ≡ int_max a b → r ≡ most_surcharge m from to
most_seen m from to r a b v few many ea eb e = e ∙ ap (λ (x : ℤ). int_max x b) ea ∙ ap (λ (x : ℤ). int_max (m *ℤ pos from) x) eb

pub uncovered_is : (a : ℤ) (zs ys : List ℤ) (cs ds : List Bool) (n : ℕ) → zs ≡ ys → cs ≡ ds → length ys ≡ n
    → a ≡ sum_z_below (length zs) (λ u. cond (get_or cs u true) (pos 0) (get_or zs u (pos 0))) → a ≡ sum_z_below n (λ u. cond (get_or ds u true) (pos 0) (get_or ys u (pos 0)))
uncovered_is a zs ys cs ds n ez ec en e =
    subst (λ (m : ℕ). a ≡ sum_z_below m (λ u. cond (get_or ds u true) (pos 0) (get_or ys u (pos 0)))) en
    (subst (λ (bs : List Bool). a ≡ sum_z_below (length ys) (λ u. cond (get_or bs u true) (pos 0) (get_or ys u (pos 0)))) ec
    (subst (λ (xs : List ℤ). a ≡ sum_z_below (length xs) (λ u. cond (get_or cs u true) (pos 0) (get_or xs u (pos 0)))) ez e))

pub sum_is : (night : Night) (path : List Block) (from : ℕ) (c : Case) (z w a b p s : ℤ) → z ≡ w +ℤ (a +ℤ b) -ℤ p -ℤ s
    → w ≡ sum_z (weight night c) path → a ≡ uncovered_alphas night (masks_of night path) c.duals → b ≡ uncovered_betas night (masks_of night path) c.duals
    → p ≡ pos (paid_at_most night c.duals.prices) → s ≡ most_surcharge c.multiplier from c.to → z ≡ sum_at night path from c
sum_is night path from c z w a b p s e ew ea eb ep es = e ∙ five w a b p s _ _ _ _ _ ew ea eb ep es

-- the case that was got is the one with its number
pub got : (cases : List Case) (k : ℕ) (c : Case) → slice_get cases k ≡ Some c → case_at cases k ≡ c
got cases k c e = get_or_from_slice_get cases k c _ e

pub got_is : (night : Night) (cases : List Case) (k : ℕ) (c : Case) → slice_get cases k ≡ Some c → k < length cases → AreCases night cases → IsCase night c
got_is night cases k c e lt are = subst (IsCase night) (got cases k c e) (are.each k _ lt)

pub no_part : (night : Night) (prices : List Price) (s : Shape) → price_part_with night prices s None ≡ 0
no_part night [] s = refl
no_part night (p ∷ ps) s = omega (arith, sum_by-cons (λ (q : Price). q.value * counted_with night q s None) p ps, no_part night ps s)

pub taken_more : (night : Night) (prices : List Price) (s : Shape) (i : ℕ) (d : Price) (parts : List ℕ) (x : ℕ) → i < length prices → length parts ≡ 60
    → (get_or prices i d).track.0 < 60
    → x ≡ (get_or prices i d).value * cond (is_there night (get_or prices i d) s) (count night (get_or prices i d) s) 0
    → ((k : Park) → k.track.0 < 60 → get_or parts k.track.0 0 ≡ price_part_with night (take i prices) s (Some k))
    → (k : Park) → k.track.0 < 60 → get_or (set parts (get_or prices i d).track.0 (get_or parts (get_or prices i d).track.0 0 + x)) k.track.0 0
    ≡ price_part_with night (take (i + 1) prices) s (Some k)
taken_more night prices s i d parts x lt long within is before k low =
    let price : Price = get_or prices i d in
    let t : ℕ = price.track.0 in
    let inside : t < length parts = omega arith in
    let more = sum_by_more (λ (q : Price). q.value * counted_with night q s (Some k)) prices i d lt in
    ⊎_elim
    (λ (e : k.track.0 ≡ t).
    let at : get_or (set parts t (get_or parts t 0 + x)) k.track.0 0 ≡ get_or parts t 0 + x = subst
    (λ (w : ℕ). get_or (set parts t (get_or parts t 0 + x)) w 0 ≡ get_or parts t 0 + x) (sym e) (get_or-set_same parts t (get_or parts t 0 + x) 0 inside) in
    let old : get_or parts t 0 ≡ price_part_with night (take i prices) s (Some k) = subst (λ (w : ℕ). get_or parts w 0 ≡ price_part_with night (take i prices) s (Some k)) e
    (before k low) in
    omega (arith, at, old, is, more, on_own k.track.0 t (is_there night price s) (count night price s) price.value e))
    (λ (ne : k.track.0 ≢ t).
    omega (
      arith,
      get_or-set_other parts t k.track.0 (get_or parts t 0 + x) 0 ne,
      before k low,
      more,
      on_other k.track.0 t (is_there night price s) (count night price s) price.value ne,
    ))
    (cases_eq k.track.0 t)

pub unparked_part : (night : Night) (prices : List Price) (b : Block) → b.park ≡ None → 0 ≡ price_part night prices b
unparked_part night prices b e = sym (ap (price_part_with night prices (shape_of b)) e ∙ no_part night prices (shape_of b))
