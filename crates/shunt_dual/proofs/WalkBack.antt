-- The walk back along the parents, from a free column to column n.
use Rattle.std.proofs.Common.{◌≡◌, ◌≢◌, ◌⊎◌, inr, ⊎_elim, ℕ, ◌+◌, ◌<◌, ◌≤◌, List, length, set, sym, ap, ◌∙◌, subst, arith, get_or-set_other, get_or-set_same}
use Rattle.std.proofs.lemmas.Grind.{elements}
use Rattle.std.proofs.lemmas.Bool.{cases_eq}
use Rattle.shunt_dual.specs.defs.Tables.{at, times}
use Rattle.shunt_dual.specs.defs.Pairs.{IsPaired}
use Rattle.shunt_dual.proofs.Counts.{fewer, as_many}

-- the walk stands at column c, whose owner is about to change
pub record IsWalking (n end rows c : ℕ) (way when old_place old_owner place owner : List ℕ) : Type 0 where
  pub inside : c ≤ n
  pub paired : IsPaired n rows c place owner
  pub near : (c ≡ end) ⊎ (at when c < at when end)
  pub links : (x : ℕ) → x < n → at when x ≤ at when c → (at way x < rows) × (at when (at place (at way x)) < at when x)
  pub moved : (r : ℕ) → r < rows → (at place r ≡ at old_place r) ⊎ ((at way (at place r) ≡ r) × ((at place r ≡ end) ⊎ (at when (at place r) < at when end)))
  pub kept : (x : ℕ) → x ≤ n → at owner x ≡ n + 1 → at old_owner x ≡ n + 1
  pub count : ((at owner c ≡ n + 1) × (times (n + 1) owner ≡ times (n + 1) old_owner)) ⊎ ((at owner c ≢ n + 1) × (times (n + 1) owner + 1 ≡ times (n + 1) old_owner))

pub step_paired : (n rows c r : ℕ) (place owner : List ℕ) → length place ≡ n → length owner ≡ n + 1 → rows ≤ n → r < rows → c < n
    → IsPaired n rows c place owner → IsPaired n rows (at place r) (set place r c) (set owner c r)
step_paired n rows c r place owner pl ol rn lt cn p = record {
  placed = λ q k. let old = p.placed q k in grind (arith, elements);
  apart = λ q k e. let a = p.apart r lt in let o = p.owned q k in let own = p.owned r lt in grind (arith, elements);
  owned = λ q k. let a = p.apart q k in let o = p.owned q k in grind (arith, elements);
  back = λ x k ne. let b = p.back x k in grind (arith, elements);
}

step_count : (n c r next : ℕ) (owner old_owner : List ℕ) → length owner ≡ n + 1 → c ≤ n → r < n → at owner next ≡ r → next ≢ c
    → ((at owner c ≡ n + 1) × (times (n + 1) owner ≡ times (n + 1) old_owner)) ⊎ ((at owner c ≢ n + 1) × (times (n + 1) owner + 1 ≡ times (n + 1) old_owner))
    → (at (set owner c r) next ≢ n + 1) × (times (n + 1) (set owner c r) + 1 ≡ times (n + 1) old_owner)
step_count n c r next owner old_owner ol cn rn own ne h = (
  λ e. grind (arith, elements),
  ⊎_elim
      (λ f. omega (arith, fewer (n + 1) owner c r (omega arith) f.0 (λ e. omega arith), f.1))
      (λ f. omega (arith, as_many (n + 1) owner c r (omega arith) f.0 (λ e. omega arith), f.1))
      h,
)

abbrev IsMoved : (q end : ℕ) → (way when : List ℕ) → (old p : ℕ) → Type 0
IsMoved q end way when old p = (p ≡ old) ⊎ ((at way p ≡ q) × ((p ≡ end) ⊎ (at when p < at when end)))

step_moved : (q r c end rows : ℕ) (way when old_place place : List ℕ) → r ≡ at way c → r < length place → (c ≡ end) ⊎ (at when c < at when end) → q < rows
    → IsMoved q end way when (at old_place q) (at place q) → IsMoved q end way when (at old_place q) (at (set place r c) q)
step_moved q r c end rows way when old_place place e lt near k m = ⊎_elim
    (λ s. let here : at (set place r c) q ≡ c = subst (λ (i : ℕ). at (set place r c) i ≡ c) (sym s) (get_or-set_same place r c 0 lt) in
    subst (λ (p : ℕ). IsMoved q end way when (at old_place q) p) (sym here) (inr (sym e ∙ sym s, near)))
    (λ ne. subst (λ (p : ℕ). IsMoved q end way when (at old_place q) p) (sym (get_or-set_other place r q c 0 ne)) m)
    (cases_eq q r)

pub walk_step : (n end rows c r : ℕ) (way when old_place old_owner place owner : List ℕ) → length place ≡ n → length owner ≡ n + 1 → rows ≤ n → c < n
    → r ≡ at way c → IsWalking n end rows c way when old_place old_owner place owner
    → IsWalking n end rows (at place r) way when old_place old_owner (set place r c) (set owner c r)
walk_step n end rows c r way when old_place old_owner place owner pl ol rn cn e w =
    let link = w.links c cn (omega arith) in
    let lt : r < rows = omega arith in
    let closer : at when (at place r) < at when c = let P : ℕ → Type 0 = λ q. at when (at place q) < at when c in subst P (sym e) link.1 in
    let own = w.paired.owned r lt in
    let apart = w.paired.apart r lt in
    record {
      inside = w.paired.placed r lt;
      paired = step_paired n rows c r place owner pl ol rn lt cn w.paired;
      near = inr (⊎_elim (λ s. let f : at when c ≡ at when end = ap (at when) s in omega arith) (λ s. omega arith) w.near);
      links = λ x k near. let l = w.links x k (omega arith) in (
        l.0,
        let ne : at way x ≢ r = (λ s. let f : at when (at place (at way x))
            ≡ at when (at place r) = ap (λ q. at when (at place q)) s in omega (arith, l.1)) in grind (arith, elements, l.1),
      );
      moved = λ q k. step_moved q r c end rows way when old_place place e (omega arith) w.near k (w.moved q k);
      kept = λ x k s. let kp = w.kept x k in grind (arith, elements);
      count = inr (step_count n c r (at place r) owner old_owner ol w.inside (omega arith) own apart w.count);
    }
