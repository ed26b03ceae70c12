-- The order of the fields is the order of one number.
use Rattle.std.proofs.Common.{◌↔◌, ◌≡◌, ℕ, ◌+◌, ◌*◌, ◌^◌, ◌<◌, ◌≤◌, Bool, true, false, cond, refl, sym, ap, ◌∙◌, arith, Ordering, ⊎_elim}
use Rattle.std.specs.Ordering.{nat_cmp, bool_cmp, ordering_then}
use Rattle.std.specs.declared.cmp.Ordering.TheVariants.{Less, Equal, Greater}
use Rattle.std.proofs.Math.Nat.{mul-le-mul_left, mul_comm}
use Rattle.std.proofs.lemmas.Bool.{cases_order}
use Rattle.std.proofs.lemmas.Bool.Decides.{nat_tests}
use Rattle.shunt_base.specs.defs.Keys.{rank, key_cmp, IsBefore, IsKey}
use Rattle.shunt_base.specs.declared.keys.EventKey.{EventKey}
use Rattle.shunt_lists.proofs.Orders.{nat_less as less, nat_greater as greater, nat_equal as even}

below : (a b w x y : ℕ) → x < w → a < b → a * w + x < b * w + y
below a b w x y small lt = omega (arith, mul-le-mul_left w (let le : a + 1 ≤ b = omega arith in le), mul_comm w (a + 1), mul_comm w b)

then_rank : (w a b x y : ℕ) → x < w → y < w → ordering_then (nat_cmp a b) (nat_cmp x y) ≡ nat_cmp (a * w + x) (b * w + y)
then_rank w a b x y p q = ⊎_elim same (λ o. ⊎_elim first second o) (cases_order a b)
  where
    same : a ≡ b → ordering_then (nat_cmp a b) (nat_cmp x y) ≡ nat_cmp (a * w + x) (b * w + y)
    same e = ap (λ o. ordering_then o (nat_cmp x y)) (even a b e) ∙ shifted ∙ ap (λ k. nat_cmp (a * w + x) (k * w + y)) e
      where
        shifted : nat_cmp x y ≡ nat_cmp (a * w + x) (a * w + y)
        shifted = grind (arith, nat_tests)

    first : a < b → ordering_then (nat_cmp a b) (nat_cmp x y) ≡ nat_cmp (a * w + x) (b * w + y)
    first lt = ap (λ o. ordering_then o (nat_cmp x y)) (less a b lt) ∙ sym (less _ _ (below a b w x y p lt))

    second : b < a → ordering_then (nat_cmp a b) (nat_cmp x y) ≡ nat_cmp (a * w + x) (b * w + y)
    second lt = ap (λ o. ordering_then o (nat_cmp x y)) (greater a b lt) ∙ sym (greater _ _ (below b a w y x q lt))

regroup : (a b c : Ordering) → ordering_then (ordering_then a b) c ≡ ordering_then a (ordering_then b c)
regroup Less b c = refl
regroup Equal b c = refl
regroup Greater b c = refl

abbrev flag : Bool → ℕ
flag b = cond b 1 0

flags : (a b : Bool) → bool_cmp a b ≡ nat_cmp (cond a 1 0) (cond b 1 0)
flags true true = refl
flags true false = refl
flags false true = refl
flags false false = refl

flag_small : (a : Bool) → cond a 1 0 < 2
flag_small true = omega arith
flag_small false = omega arith

pub key_cmp_is : (k l : EventKey) → IsKey k → IsKey l → key_cmp k l ≡ nat_cmp (rank k) (rank l)
unfolding rank
key_cmp_is k l p q =
    let m = nat_cmp k.minute l.minute in
    let e = nat_cmp (cond k.enters 1 0) (cond l.enters 1 0) in
    let t = nat_cmp k.train l.train in
    let r = nat_cmp k.place l.place in
    let i = nat_cmp k.id l.id in
    ap (λ o. ordering_then m (ordering_then o (ordering_then t (ordering_then r i)))) (flags k.enters l.enters)
    ∙ sym (regroup m e (ordering_then t (ordering_then r i)))
    ∙ ap (λ o. ordering_then o (ordering_then t (ordering_then r i))) (then_rank 2 k.minute l.minute (cond k.enters 1 0) (cond l.enters 1 0) (flag_small k.enters)
    (flag_small l.enters))
    ∙ sym (regroup _ t (ordering_then r i))
    ∙ ap (λ o. ordering_then o (ordering_then r i)) (then_rank 256 _ _ k.train l.train p.train q.train)
    ∙ sym (regroup _ r i)
    ∙ ap (λ o. ordering_then o i) (then_rank 256 _ _ k.place l.place p.place q.place)
    ∙ then_rank (2 ^ 32) _ _ k.id l.id p.id q.id

flag_tells : (a b : Bool) → flag a ≡ flag b → a ≡ b
flag_tells true true e = refl
flag_tells true false e = absurd (omega arith)
flag_tells false true e = absurd (omega arith)
flag_tells false false e = refl

-- the key of these parts
abbrev pub made_key : ℕ → Bool → ℕ → ℕ → ℕ → EventKey
made_key minute enters train place id = record { minute = minute; enters = enters; train = train; place = place; id = id }

made_alike : (m n : ℕ) (d e : Bool) (t u p q i j : ℕ) → m ≡ n → d ≡ e → t ≡ u → p ≡ q → i ≡ j → made_key m d t p i ≡ made_key n e u q j
made_alike m n d e t u p q i j a b c f g = cc

-- keys with one rank are one
pub rank_tells : (k l : EventKey) → IsKey k → IsKey l → rank k ≡ rank l → k ≡ l
unfolding rank
rank_tells k l p q e =
    let small : cond k.enters 1 0 < 2 = flag_small k.enters in
    let other : cond l.enters 1 0 < 2 = flag_small l.enters in
    let minute : k.minute ≡ l.minute = omega arith in
    let enters : k.enters ≡ l.enters = flag_tells k.enters l.enters (omega arith) in
    let train : k.train ≡ l.train = omega arith in
    let place : k.place ≡ l.place = omega arith in
    let id : k.id ≡ l.id = omega arith in
    made_alike _ _ _ _ _ _ _ _ _ _ minute enters train place id

less_only : (a b : ℕ) → nat_cmp a b ≡ Less → a < b
less_only a b e = grind (arith, nat_tests)

pub is_before : (k l : EventKey) → IsKey k → IsKey l → IsBefore k l ↔ (rank k < rank l)
is_before k l p q = (λ e. less_only _ _ (sym (key_cmp_is k l p q) ∙ e), λ lt. key_cmp_is k l p q ∙ less _ _ lt)
