-- One event more of a walk.
use Rattle.std.proofs.Common.{◌≡◌, ℕ, zero, suc, ◌+◌, ◌<◌, ◌≤◌, Bool, true, false, cond, List, [], ◌∷◌, ◌++◌, length, get_or, take, drop, set, map, refl, sym, subst, ap, ◌∙◌, arith}
use mir.Val.{bool_byte}
use Rattle.std.specs.List.{count_by}
use Rattle.std.proofs.lemmas.List.{get_or_default, length-take-le}
use Rattle.std.proofs.lemmas.List.Sums.{sum_by_more, count_by-le-length}
use Rattle.std.proofs.lemmas.List.Edits.{map_over_more}
use Rattle.shunt_lists.proofs.Members.{in_place}
use Rattle.shunt_lists.specs.defs.Members.{In}
use Rattle.shunt_base.specs.declared.keys.Stay.{Stay}
use Rattle.shunt_timeline.specs.declared.events.StayEvent.{StayEvent}
use Rattle.shunt_timeline.specs.defs.Levels.{lowered, IsSmall}
use Rattle.shunt_timeline.proofs.Lists.{sum_map}

abbrev pub flag : Bool → ℕ
flag b = cond b 1 0

pub still : {X : Type 0} (f : X → X) (xs : List X) (i : ℕ) (d : X) → i < length xs → get_or (map f (take i xs) ++ drop i xs) i d ≡ get_or xs i d
still f [] i d lt = absurd (omega arith)
still f (x ∷ xs) zero d lt = refl
still f (x ∷ xs) (suc i) d lt = still f xs i d (omega arith)

length_walked : {X : Type 0} (f : X → X) (xs : List X) (i : ℕ) → length (map f (take i xs) ++ drop i xs) ≡ length xs
length_walked f xs zero = refl
length_walked f [] (suc i) = refl
length_walked f (x ∷ xs) (suc i) = ap (λ n. suc n) (length_walked f xs i)

module _ {X : Type 0} (f : X → X) (xs ys : List X) (i : ℕ) (d : X) (lt : i < length xs) (walked : ys ≡ map f (take i xs) ++ drop i xs) where
  pub here : get_or ys i d ≡ get_or xs i d
  here = ap (λ l. get_or l i d) walked ∙ still f xs i d lt

  pub at_hand : (P : X → Type 0) → ((x : X) → In x xs → P x) → P (get_or ys i d)
  at_hand P h = subst P (sym here) (h (get_or xs i d) (in_place xs i d lt))

  pub walks : (y : X) → y ≡ f (get_or ys i d) → set ys i y ≡ map f (take (i + 1) xs) ++ drop (i + 1) xs
  walks y e =
      let within : i < length ys = omega (arith, ap length walked, length_walked f xs i) in
      ap (λ z. set ys i z) e ∙ map_over_more f xs ys i (get_or ys i d) lt walked (get_or_default ys i d (get_or ys i d) within)

  pub counts_made : (p : X → Bool) (n m : ℕ) → n ≡ count_by (λ x. p (f x)) (take i xs) → m ≡ n + flag (p (f (get_or ys i d))) → m ≡ count_by (λ x. p (f x)) (take (i + 1) xs)
  counts_made p n m e g =
      let one : flag (p (f (get_or ys i d))) ≡ flag (p (f (get_or xs i d))) = ap (λ x. flag (p (f x))) here in
      omega (arith, sum_by_more (λ x. flag (p (f x))) xs i d lt)

  pub counts : (p : X → Bool) (n m : ℕ) → n ≡ count_by p (take i xs) → m ≡ n + flag (p (get_or ys i d)) → m ≡ count_by p (take (i + 1) xs)
  counts p n m e g =
      let one : flag (p (get_or ys i d)) ≡ flag (p (get_or xs i d)) = ap (λ x. flag (p x)) here in
      omega (arith, sum_by_more (λ x. flag (p x)) xs i d lt)

pub count_map : {X : Type 0} (p : X → Bool) (f : X → X) (xs : List X) → count_by p (map f xs) ≡ count_by (λ x. p (f x)) xs
count_map p f xs = sum_map (λ x. flag (p x)) f xs

-- that many events count to no more than that
pub counts_within : {X : Type 0} (p : X → Bool) (xs : List X) (i n : ℕ) → i < length xs → length xs ≤ 131072 → n ≡ count_by p (take i xs) → n < 131072
counts_within p xs i n lt le e = omega (arith, count_by-le-length p (take i xs), length-take-le i xs (omega arith))

pub flag_most : (b : Bool) → ◌≤◌ (cond b 1 0) 1
flag_most true = omega arith
flag_most false = omega arith

pub small_lowered : (x : Stay) (e l : StayEvent) → l ≡ lowered x e → IsSmall e → IsSmall l
small_lowered x e l is h = subst IsSmall (sym is) (record {
  crossings = let p = h.crossings in omega arith;
  standing = let p = h.standing in omega arith;
  load = let p = h.load in omega arith;
})

-- a test as a number in code
pub byte_is : (b : Bool) → bool_byte b ≡ flag b
byte_is true = refl
byte_is false = refl

pub byte_within : (b : Bool) (n : ℕ) → n ≡ bool_byte b → n ≤ 1
byte_within true n e = omega arith
byte_within false n e = omega arith
