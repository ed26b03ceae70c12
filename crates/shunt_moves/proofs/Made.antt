-- States stay states: lists that lose a block, get one at the end, or have one changed.
use Rattle.std.proofs.Common.{◌≡◌, inl, inr, ⊎_elim, ℕ, suc, ◌+◌, ◌<◌, ◌≤◌, List, [], ◌∷◌, ◌++◌, length, refl, sym, subst, ap, ◌∙◌, arith}
use Rattle.std.specs.Prelude.{◌==◌, not, if◌then◌else◌, Some}
use Rattle.std.specs.List.{AllByRecursion}
use Rattle.std.proofs.lemmas.Bool.{cases_Bool, cond-true, cond-false}
use Rattle.shunt_lists.proofs.Members.{all_in, all_from, in_cases, of_map, filter_from, filter_yes, filter_no}
use Rattle.shunt_lists.specs.defs.Members.{In}
use Rattle.shunt_blocks.specs.declared.records.Block.{Block}
use Rattle.shunt_moves.specs.defs.States.{Ascend, block_with, without_block, changed}
use Rattle.shunt_moves.proofs.ByIds.{with_is}
use Rattle.shunt_lists.proofs.Tests.{equal_of as is_same}

-- ---- facts of each member

-- two members with one id are one
pub same_block : (blocks : List Block) (b c : Block) → Ascend blocks → In b blocks → In c blocks → c.id ≡ b.id → c ≡ b
same_block blocks b c a i j e = some_same c b (sym (with_is blocks c a j) ∙ ap (block_with blocks) e ∙ with_is blocks b a i)
  where
    some_same : (x y : Block) → Some x ≡ Some y → x ≡ y
    some_same x y e = cc

-- ---- without a block

pub of_without : (id : ℕ) (blocks : List Block) (c : Block) → In c (without_block id blocks) → In c blocks
of_without id blocks c i = (filter_from (λ b. not (b.id == id)) blocks c i).0

pub ascend_without : (id : ℕ) (blocks : List Block) → Ascend blocks → Ascend (without_block id blocks)
ascend_without id [] a = tt
ascend_without id (b ∷ blocks) a = ⊎_elim
    (λ t. subst Ascend (sym (filter_yes (λ c. not (c.id == id)) b blocks t)) (
      all_from (λ c. b.id < c.id) (without_block id blocks)
          (λ c i. all_in (λ d. b.id < d.id) blocks c a.0 (of_without id blocks c i)),
      ascend_without id blocks a.1,
    ))
    (λ t. subst Ascend (sym (filter_no (λ c. not (c.id == id)) b blocks t)) (ascend_without id blocks a.1))
    (cases_Bool (not (b.id == id)))

pub few_without : (id : ℕ) (blocks : List Block) → length (without_block id blocks) ≤ length blocks
few_without id [] = omega arith
few_without id (b ∷ blocks) = ⊎_elim
    (λ t. let e : length (without_block id (b ∷ blocks)) ≡ suc (length (without_block id blocks)) = ap length (filter_yes (λ c. not (c.id == id)) b blocks t) in omega
    (arith, few_without id blocks))
    (λ t. let e : length (without_block id (b ∷ blocks)) ≡ length (without_block id blocks) = ap length (filter_no (λ c. not (c.id == id)) b blocks t) in omega
    (arith, few_without id blocks))
    (cases_Bool (not (b.id == id)))

-- ---- with a block at the end

pub ascend_last : (blocks : List Block) (b : Block) → Ascend blocks → AllByRecursion (λ c. c.id < b.id) blocks → Ascend (blocks ++ b ∷ [])
ascend_last [] b a h = (tt, tt)
ascend_last (c ∷ blocks) b a h = (
  all_from (λ d. c.id < d.id) (blocks ++ b ∷ []) (λ d i. ⊎_elim (λ l. all_in (λ d. c.id < d.id) blocks d a.0 l) (λ r. last d r) (in_cases blocks (b ∷ []) d i)),
  ascend_last blocks b a.1 h.1,
)
  where
    last : (d : Block) → In d (b ∷ []) → c.id < d.id
    last d (inl e) = let lt = h.0 in omega (arith, ap (λ (x : Block). x.id) e)
    last d (inr i) = absurd i

pub each_last : (P : Block → Type 0) (blocks : List Block) (b : Block) → ((c : Block) → In c blocks → P c) → P b → (c : Block) → In c (blocks ++ b ∷ []) → P c
each_last P blocks b h p c i = ⊎_elim (λ l. h c l) (λ r. last c r) (in_cases blocks (b ∷ []) c i)
  where
    last : (d : Block) → In d (b ∷ []) → P d
    last d (inl e) = subst P (sym e) p
    last d (inr j) = absurd j

pub few_last : (blocks : List Block) (b : Block) → length (blocks ++ b ∷ []) ≡ length blocks + 1
few_last [] b = refl
few_last (c ∷ blocks) b = let rest = few_last blocks b in omega arith

-- ---- with a block changed

module _ (id : ℕ) (change : Block → Block) where
  pub each_changed : (P : Block → Type 0) (blocks : List Block) → ((c : Block) → In c blocks → P c) → ((c : Block) → In c blocks → c.id ≡ id → P (change c)) → (c : Block)
      → In c (changed id change blocks) → P c
  each_changed P blocks h p c i = let r = of_map (λ b. if b.id == id then change b else b) blocks c i in subst P (sym r.2) (one r.0 r.1)
    where
      one : (b : Block) → In b blocks → P (if b.id == id then change b else b)
      one b j = ⊎_elim
          (λ t. subst P (sym (cond-true (b.id == id) (change b) b t)) (p b j (is_same b.id id t)))
          (λ t. subst P (sym (cond-false (b.id == id) (change b) b t)) (h b j))
          (cases_Bool (b.id == id))

  module _ (same : (c : Block) → (change c).id ≡ c.id) where
    id_kept : (b : Block) → (if b.id == id then change b else b).id ≡ b.id
    id_kept b = ⊎_elim
        (λ t. ap (λ (x : Block). x.id) (cond-true (b.id == id) (change b) b t) ∙ same b)
        (λ t. ap (λ (x : Block). x.id) (cond-false (b.id == id) (change b) b t))
        (cases_Bool (b.id == id))

    pub ascend_changed : (blocks : List Block) → Ascend blocks → Ascend (changed id change blocks)
    ascend_changed [] a = tt
    ascend_changed (b ∷ blocks) a = (
      all_from (λ c. (if b.id == id then change b else b).id < c.id) (changed id change blocks) (λ c i. let r = of_map (λ b. if b.id == id then change b else b) blocks c i in
          let lt : b.id < r.0.id = all_in (λ c. b.id < c.id) blocks r.0 a.0 r.1 in omega (arith, id_kept b, id_kept r.0, ap (λ (x : Block). x.id) r.2)),
      ascend_changed blocks a.1,
    )
