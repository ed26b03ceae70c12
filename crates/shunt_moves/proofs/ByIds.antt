-- Blocks by ascending id: one is put among them, taken away, or changed.
use Rattle.std.proofs.Common.{◌≡◌, ◌≢◌, inl, inr, ⊎_elim, ℕ, ◌<◌, ◌≤◌, Bool, true, false, cond, List, [], ◌∷◌, ◌++◌, refl, sym, subst, ap, ◌∙◌, arith}
use Rattle.std.specs.Prelude.{◌==◌, nat_le, not, Some, None}
use Rattle.std.specs.List.{AllByRecursion}
use Rattle.std.proofs.lemmas.Bool.{cases_Bool, cond-true, cond-false, cases_lt}
use Rattle.std.proofs.lemmas.Bool.Decides.{nat_tests}
use Rattle.shunt_lists.proofs.Members.{all_in, all_from, filter_yes, filter_no, filter_from}
use Rattle.shunt_lists.specs.defs.Members.{In}
use Rattle.shunt_blocks.specs.declared.records.Block.{Block}
use Rattle.shunt_audit.specs.defs.Listed.{insert_by_id}
use Rattle.shunt_moves.specs.defs.States.{Ascend, block_with, without_block, changed}
use Rattle.shunt_moves.specs.defs.Exchanges.{Extends}
use Rattle.shunt_lists.proofs.Tests.{equal_of as is_same, equal_to as same_id, unequal_from as is_other}
use Rattle.shunt_audit.proofs.ById.{put_first as insert_below}

-- all of these have other ids
abbrev pub IsNew : ℕ → List Block → Type 0
IsNew id blocks = AllByRecursion (λ c. c.id ≢ id) blocks

pub other_id : (x y : ℕ) → x ≢ y → (x == y) ≡ false
other_id x y e = grind (arith, nat_tests)

-- ---- inserting by cases on the first

pub insert_first : (b c : Block) (blocks : List Block) → b.id ≤ c.id → insert_by_id b (c ∷ blocks) ≡ b ∷ c ∷ blocks
insert_first b c blocks le = cond-true (nat_le b.id c.id) (b ∷ c ∷ blocks) (c ∷ insert_by_id b blocks) (grind (arith, nat_tests))

pub insert_later : (b c : Block) (blocks : List Block) → c.id < b.id → insert_by_id b (c ∷ blocks) ≡ c ∷ insert_by_id b blocks
insert_later b c blocks lt = cond-false (nat_le b.id c.id) (b ∷ c ∷ blocks) (c ∷ insert_by_id b blocks) (grind (arith, nat_tests))

-- above all of them it comes last
pub insert_last : (b : Block) (blocks : List Block) → AllByRecursion (λ c. c.id < b.id) blocks → insert_by_id b blocks ≡ blocks ++ b ∷ []
insert_last b [] h = refl
insert_last b (c ∷ blocks) h = insert_later b c blocks h.0 ∙ ap (λ (l : List Block). c ∷ l) (insert_last b blocks h.1)

-- ---- taking away by cases on the first

pub without_same : (id : ℕ) (c : Block) (blocks : List Block) → c.id ≡ id → without_block id (c ∷ blocks) ≡ without_block id blocks
without_same id c blocks e = filter_no (λ b. not (b.id == id)) c blocks (ap not (same_id c.id id e))

pub without_other : (id : ℕ) (c : Block) (blocks : List Block) → c.id ≢ id → without_block id (c ∷ blocks) ≡ c ∷ without_block id blocks
without_other id c blocks ne = filter_yes (λ b. not (b.id == id)) c blocks (ap not (other_id c.id id ne))

-- where none has the id, nothing goes
pub without_new : (id : ℕ) (blocks : List Block) → IsNew id blocks → without_block id blocks ≡ blocks
without_new id [] h = refl
without_new id (c ∷ blocks) h = without_other id c blocks h.0 ∙ ap (λ (l : List Block). c ∷ l) (without_new id blocks h.1)

pub gone : (id : ℕ) (blocks : List Block) → IsNew id (without_block id blocks)
gone id blocks = all_from (λ c. c.id ≢ id) (without_block id blocks) (λ c i. is_other c.id id (opened (c.id == id) (filter_from (λ b. not (b.id == id)) blocks c i).1))
  where
    opened : (t : Bool) → not t ≡ true → t ≡ false
    opened true e = absurd (cc)
    opened false e = refl

pub above_new : (b : Block) (blocks : List Block) → AllByRecursion (λ c. b.id < c.id) blocks → IsNew b.id blocks
above_new b blocks h = all_from (λ c. c.id ≢ b.id) blocks (λ c i e. let lt : b.id < c.id = all_in (λ c. b.id < c.id) blocks c h i in omega arith)

-- ---- put and taken away again, and the other way round

pub taken_again : (b : Block) (blocks : List Block) → IsNew b.id blocks → without_block b.id (insert_by_id b blocks) ≡ blocks
taken_again b [] h = without_same b.id b [] refl
taken_again b (c ∷ blocks) h = ⊎_elim
    (λ lt. ap (without_block b.id) (insert_later b c blocks lt) ∙ without_other b.id c (insert_by_id b blocks) h.0 ∙ ap (λ (l : List Block). c ∷ l) (taken_again b blocks h.1))
    (λ ge. ap (without_block b.id) (insert_first b c blocks ge) ∙ without_same b.id b (c ∷ blocks) refl ∙ without_new b.id (c ∷ blocks) h)
    (cases_lt c.id b.id)

-- a member's change in place is its going and the other's coming
changed_is : (b : Block) (change : Block → Block) (blocks : List Block) → Ascend blocks → In b blocks → (change b).id ≡ b.id
    → insert_by_id (change b) (without_block b.id blocks) ≡ changed b.id change blocks
changed_is b change [] a i e = absurd i
changed_is b change (c ∷ blocks) a (inl is) e =
    let here : (b.id == b.id) ≡ true = same_id b.id b.id refl in
    let above : AllByRecursion (λ d. (change b).id < d.id) blocks = all_from (λ d. (change b).id < d.id) blocks
    (λ d i. let lt : c.id < d.id = all_in (λ d. c.id < d.id) blocks d a.0 i in omega (arith, ap (λ (x : Block). x.id) is)) in
    let new : IsNew b.id blocks = all_from (λ d. d.id ≢ b.id) blocks (λ d i f. let lt : c.id < d.id = all_in (λ d. c.id < d.id) blocks d a.0 i in absurd
    (omega (arith, ap (λ (x : Block). x.id) is))) in
    ap (insert_by_id (change b)) (without_same b.id c blocks (ap (λ (x : Block). x.id) (sym is)) ∙ without_new b.id blocks new)
    ∙ insert_below (change b) blocks above
    ∙ sym (first new)
  where
    rest : (ds : List Block) → IsNew b.id ds → changed b.id change ds ≡ ds
    rest [] n = refl
    rest (d ∷ ds) n = ap (λ (x : Block). x ∷ changed b.id change ds) (cond-false (d.id == b.id) (change d) d (other_id d.id b.id n.0))
        ∙ ap (λ (l : List Block). d ∷ l) (rest ds n.1)

    first : IsNew b.id blocks → changed b.id change (c ∷ blocks) ≡ change b ∷ blocks
    first new = subst (λ (x : Block). changed b.id change (x ∷ blocks) ≡ change b ∷ blocks) is
        (ap (λ (x : Block). x ∷ changed b.id change blocks) (cond-true (b.id == b.id) (change b) b (same_id b.id b.id refl))
        ∙ ap (λ (l : List Block). change b ∷ l) (rest blocks new))
changed_is b change (c ∷ blocks) a (inr i) e =
    let lt : c.id < b.id = all_in (λ d. c.id < d.id) blocks b a.0 i in
    ap (insert_by_id (change b)) (without_other b.id c blocks (λ f. absurd (omega arith)))
    ∙ insert_later (change b) c (without_block b.id blocks) (omega arith)
    ∙ ap (λ (l : List Block). c ∷ l) (changed_is b change blocks a.1 i e)
    ∙ ap (λ (x : Block). x ∷ changed b.id change blocks) (sym (cond-false (c.id == b.id) (change c) c (other_id c.id b.id (λ f. absurd (omega arith)))))

-- a member that is changed in place goes, and comes as the other
pub came : (b : Block) (change : Block → Block) (blocks : List Block) → Ascend blocks → In b blocks → (change b).id ≡ b.id
    → Extends (Some (change b)) (without_block b.id blocks) (changed b.id change blocks)
came b change blocks a i e = (sym (changed_is b change blocks a i e), subst (λ n. IsNew n (without_block b.id blocks)) (sym e) (gone b.id blocks))

-- what was taken away is put again
pub put_again : (b : Block) (blocks : List Block) → Ascend blocks → In b blocks → insert_by_id b (without_block b.id blocks) ≡ blocks
put_again b blocks a i = changed_is b (λ x. x) blocks a i refl ∙ unchanged blocks
  where
    unchanged : (ds : List Block) → changed b.id (λ x. x) ds ≡ ds
    unchanged [] = refl
    unchanged (d ∷ ds) = ap (λ (x : Block). x ∷ changed b.id (λ x. x) ds) (same (d.id == b.id) d) ∙ ap (λ (l : List Block). d ∷ l) (unchanged ds)
      where
        same : (t : Bool) (x : Block) → cond t x x ≡ x
        same true x = refl
        same false x = refl

-- ---- the block with an id

pub with_in : (blocks : List Block) (id : ℕ) (b : Block) → block_with blocks id ≡ Some b → In b blocks × (b.id ≡ id)
with_in [] id b e = absurd (cc)
with_in (c ∷ blocks) id b e = ⊎_elim
    (λ t. let is : c ≡ b = some_same c b (sym (cond-true (c.id == id) (Some c) (block_with blocks id) t) ∙ e) in
    (inl (sym is), ap (λ (x : Block). x.id) (sym is) ∙ is_same c.id id t))
    (λ f. let r = with_in blocks id b (sym (cond-false (c.id == id) (Some c) (block_with blocks id) f) ∙ e) in (inr r.0, r.1))
    (cases_Bool (c.id == id))
  where
    some_same : (x y : Block) → Some x ≡ Some y → x ≡ y
    some_same x y e = cc

pub with_none : (blocks : List Block) (id : ℕ) → IsNew id blocks → block_with blocks id ≡ None
with_none [] id h = refl
with_none (c ∷ blocks) id h = cond-false (c.id == id) (Some c) (block_with blocks id) (other_id c.id id h.0) ∙ with_none blocks id h.1

pub with_is : (blocks : List Block) (b : Block) → Ascend blocks → In b blocks → block_with blocks b.id ≡ Some b
with_is [] b a i = absurd i
with_is (c ∷ blocks) b a (inl is) = subst (λ (x : Block). block_with (x ∷ blocks) b.id ≡ Some b) is
    (cond-true (b.id == b.id) (Some b) (block_with blocks b.id) (same_id b.id b.id refl))
with_is (c ∷ blocks) b a (inr i) = let lt : c.id < b.id = all_in (λ d. c.id < d.id) blocks b a.0 i in cond-false (c.id == b.id) (Some c) (block_with blocks b.id)
    (other_id c.id b.id (λ f. absurd (omega arith))) ∙ with_is blocks b a.1 i
