-- Stays by ascending id.
use Rattle.std.proofs.Common.{◌≡◌, ◌≢◌, inr, ⊎_elim, ℕ, zero, suc, ◌<◌, ◌≤◌, ltb, true, false, List, [], ◌∷◌, ◌++◌, length, get_or, take, drop, refl, sym, subst, ap, ◌∙◌, arith}
use Rattle.std.specs.List.{All, insert, remove}
use Rattle.std.specs.List.Sorted.{IsPartitionedBy, IsPartitionPoint}
use Rattle.std.proofs.lemmas.Bool.{ltb-true, ltb-false, lt-ltb}
use Rattle.std.proofs.lemmas.List.{take-append-drop}
use Rattle.shunt_lists.proofs.Members.{in_place, all_from, in_cases, in_take, in_drop}
use Rattle.shunt_lists.specs.defs.Members.{In, Ascends}
use Rattle.shunt_base.specs.declared.keys.Stay.{Stay}
use Rattle.shunt_timeline.proofs.Lists.{ascends_at, ascends_front, ascends_back, ascends_apart, ascends_joined}

abbrev pub id_of : Stay → ℕ
id_of s = s.id

module _ (xs : List Stay) (id : ℕ) where
  pub parted_ids : Ascends id_of xs → IsPartitionedBy (λ s. ltb s.id id) xs
  parted_ids a i j d le lt t = let later = ltb-true (get_or xs j d).id id t in let up : (get_or xs i d).id ≤ (get_or xs j d).id = ascends_at id_of xs i j d a le lt in lt-ltb
      (get_or xs i d).id id (omega arith)

  module _ (n : ℕ) (point : IsPartitionPoint (λ s. ltb s.id id ≡ true) (λ s. ltb s.id id ≡ false) xs n) where
    pub ids_before : (s : Stay) → In s (take n xs) → s.id < id
    ids_before s h = let p = in_take n xs s h in subst (λ (z : Stay). z.id < id) p.3 (ltb-true (get_or xs p.0 s).id id (point.0 p.0 s (omega arith) p.1))

    pub ids_after : (s : Stay) → In s (drop n xs) → id ≤ s.id
    ids_after s h = let p = in_drop n xs s h in subst (λ (z : Stay). id ≤ z.id) p.3 (ltb-false (get_or xs p.0 s).id id (point.1 p.0 s p.1 p.2))

-- where the id isn't at its place, it is nowhere
pub nowhere : (xs : List Stay) (id n : ℕ) → Ascends id_of xs → n ≤ length xs → ((s : Stay) → In s (take n xs) → s.id < id) → ((s : Stay) → In s (drop n xs) → id ≤ s.id)
    → ((d : Stay) → n < length xs → (get_or xs n d).id ≢ id) → All (λ s. s.id ≢ id) xs
nowhere xs id n a bound before after ne k d lt is = ⊎_elim
    (λ l. let b = before (get_or xs k d) l in absurd (omega arith))
    (λ r. let p = in_drop n xs (get_or xs k d) r in
    let within : n < length xs = let u = p.1 in let v = p.2 in omega arith in
    let low : id ≤ (get_or xs n d).id = after (get_or xs n d) (head n xs d within) in
    let same : (get_or xs p.0 d).id ≡ id = ap (λ (s : Stay). s.id) (default xs p.0 d (get_or xs k d) p.2 ∙ p.3) ∙ is in
    let up : (get_or xs n d).id ≤ (get_or xs p.0 d).id = ascends_at id_of xs n p.0 d a p.1 p.2 in
    ne d within (omega arith))
    (in_cases (take n xs) (drop n xs) (get_or xs k d) (subst (λ (l : List Stay). In (get_or xs k d) l) (sym (take-append-drop n xs)) (in_place xs k d lt)))
  where
    head : {X : Type 0} (n : ℕ) (xs : List X) (d : X) → n < length xs → In (get_or xs n d) (drop n xs)
    head zero xs d lt = in_place xs 0 d lt
    head (suc n) [] d lt = absurd (omega arith)
    head (suc n) (y ∷ xs) d lt = head n xs d (omega arith)

    default : {X : Type 0} (xs : List X) (n : ℕ) (d e : X) → n < length xs → get_or xs n d ≡ get_or xs n e
    default [] n d e lt = absurd (omega arith)
    default (y ∷ xs) zero d e lt = refl
    default (y ∷ xs) (suc n) d e lt = default xs n d e (omega arith)

-- a new id at its place
pub ids_put : (xs : List Stay) (x : Stay) (n : ℕ) → Ascends id_of xs → ((s : Stay) → In s (take n xs) → s.id < x.id) → ((s : Stay) → In s (drop n xs) → x.id < s.id)
    → Ascends id_of (insert xs n x)
ids_put xs x n a before after =
    let parts : Ascends id_of (take n xs ++ drop n xs) = subst (λ (l : List Stay). Ascends id_of l) (sym (take-append-drop n xs)) a in
    ascends_joined id_of (take n xs) (x ∷ drop n xs) (ascends_front id_of (take n xs) (drop n xs) parts)
    (all_from (λ y. x.id < y.id) (drop n xs) after, ascends_back id_of (take n xs) (drop n xs) parts)
    (λ u v h j. let p = before u h in ⊎_elim (λ e. omega (arith, ap id_of e)) (λ k. let q = after v k in omega arith) j)

drop_in : {X : Type 0} (n : ℕ) (xs : List X) (x : X) → In x (drop (suc n) xs) → In x (drop n xs)
drop_in zero [] x h = h
drop_in zero (y ∷ xs) x h = inr h
drop_in (suc n) [] x h = h
drop_in (suc n) (y ∷ xs) x h = drop_in n xs x h

pub ids_taken : (xs : List Stay) (n : ℕ) → Ascends id_of xs → Ascends id_of (remove xs n)
ids_taken xs n a =
    let parts : Ascends id_of (take n xs ++ drop n xs) = subst (λ (l : List Stay). Ascends id_of l) (sym (take-append-drop n xs)) a in
    ascends_joined id_of (take n xs) (drop (suc n) xs) (ascends_front id_of (take n xs) (drop n xs) parts) (later n xs a)
    (λ u v h j. ascends_apart id_of (take n xs) (drop n xs) u v parts h (drop_in n xs v j))
  where
    later : (n : ℕ) (ys : List Stay) → Ascends id_of ys → Ascends id_of (drop (suc n) ys)
    later n [] b = tt
    later zero (y ∷ ys) b = b.1
    later (suc n) (y ∷ ys) b = later n ys b.1
