-- What is kept beside the blocks, as one comes or goes.
use Rattle.std.proofs.Common.{◌≡◌, ◌≢◌, ◌⊎◌, inl, inr, ⊎_elim, ℕ, ◌+◌, ◌*◌, ◌<◌, ◌≤◌, Bool, true, false, cond, List, [], ◌∷◌, length, refl, sym, subst, ap, ◌∙◌, arith, IsPermutation}
use Rattle.std.proofs.lemmas.Bool.Decides.{nat_tests}
use Rattle.std.specs.Prelude.{nat_le, All, count_by, Option, Some, None}
use Rattle.std.specs.List.{AllByRecursion, cons_option}
use Rattle.std.proofs.lemmas.Bool.{cases_Bool, cond-true, cond-false, cases_lt}
use Rattle.std.proofs.lemmas.List.Sums.{sum_by-cons, count_by-le-length}
use Rattle.std.proofs.lemmas.List.Sorted.{IsPermutation-refl, IsPermutation-cons, IsPermutation-sym, IsPermutation-trans, IsPermutation-middle, sum_by-IsPermutation, length_permutation, All-permutation}
use Rattle.shunt_lists.proofs.Members.{all_in, all_from, each_one as of_all, to_all}
use Rattle.shunt_lists.specs.defs.Members.{In}
use Rattle.shunt_base.specs.declared.keys.Stay.{Stay}
use Rattle.shunt_stays.proofs.SortedEvents.{of_permuted, in_permuted}
use Rattle.shunt_instance.specs.defs.Instance.{Night}
use Rattle.shunt_blocks.specs.declared.records.Block.{Block}
use Rattle.shunt_blocks.specs.defs.Shapes.{shape_of, unit_from, position_from, IsInRange}
use Rattle.shunt_blocks.specs.defs.Blocks.{type_fault}
use Rattle.shunt_blocks.specs.defs.Costs.{block_cost}
use Rattle.shunt_blocks.specs.defs.Stays.{is_too_soon, stay_of}
use Rattle.shunt_blocks.specs.defs.Lists.{has_unit, has_position, stays_of, total_cost}
use Rattle.shunt_timeline.specs.defs.Holdings.{Holding}
use Rattle.shunt_audit.specs.defs.Listed.{insert_by_id, lacks_way_in, lacks_way_out}
use Rattle.shunt_moves.specs.declared.faults.Faults.{Faults}
use Rattle.shunt_moves.specs.defs.States.{Ascend}
use Rattle.shunt_moves.specs.defs.Kept.{Times, at, is_within, faults_of, own_faults, plus, less, IsSmall, IsKeptState, Comes}
use Rattle.shunt_moves.proofs.ByIds.{IsNew}
use Rattle.shunt_lists.proofs.Options.{few_some, of_some}
use Rattle.shunt_blocks.proofs.StaysOf.{stay_id}
use Rattle.shunt_audit.proofs.ById.{insert_moves}

abbrev pub flag : Bool → ℕ
flag b = cond b 1 0

-- ---- a block among the others is a block more

swap : {X : Type 0} (x y : X) (xs : List X) → IsPermutation (x ∷ y ∷ xs) (y ∷ x ∷ xs)
swap x y xs = IsPermutation-sym (y ∷ x ∷ xs) (x ∷ y ∷ xs) (IsPermutation-middle (y ∷ []) x xs)

pub of_insert : (b : Block) (blocks : List Block) (c : Block) → In c (insert_by_id b blocks) → (c ≡ b) ⊎ In c blocks
of_insert b blocks c i = of_permuted (b ∷ blocks) (insert_by_id b blocks) c (insert_moves b blocks) i

pub to_insert : (b : Block) (blocks : List Block) (c : Block) → In c blocks → In c (insert_by_id b blocks)
to_insert b blocks c i = in_permuted (b ∷ blocks) (insert_by_id b blocks) c (insert_moves b blocks) (inr i)

pub inserted : (b : Block) (blocks : List Block) → In b (insert_by_id b blocks)
inserted b blocks = in_permuted (b ∷ blocks) (insert_by_id b blocks) b (insert_moves b blocks) (inl refl)

-- ---- the stays

cons_swap : {Y : Type 0} (o p : Option Y) (ys : List Y) → IsPermutation (cons_option o (cons_option p ys)) (cons_option p (cons_option o ys))
cons_swap None p ys = IsPermutation-refl (cons_option p ys)
cons_swap (Some x) None ys = IsPermutation-refl (x ∷ ys)
cons_swap (Some x) (Some y) ys = swap x y ys

cons_same : {Y : Type 0} (o : Option Y) (xs ys : List Y) → IsPermutation xs ys → IsPermutation (cons_option o xs) (cons_option o ys)
cons_same None xs ys p = p
cons_same (Some x) xs ys p = IsPermutation-cons x xs ys p

pub stays_insert : (night : Night) (b : Block) (blocks : List Block) → IsPermutation (cons_option (stay_of night b) (stays_of night blocks))
    (stays_of night (insert_by_id b blocks))
stays_insert night b [] = IsPermutation-refl (stays_of night (b ∷ []))
stays_insert night b (c ∷ blocks) = elim (cases_Bool (nat_le b.id c.id)) [
  | inl is ↦ subst (λ (l : List Block). IsPermutation (stays_of night (b ∷ c ∷ blocks)) (stays_of night l))
      (sym (cond-true (nat_le b.id c.id) (b ∷ c ∷ blocks) (c ∷ insert_by_id b blocks) is)) (IsPermutation-refl (stays_of night (b ∷ c ∷ blocks)))
  | inr apart ↦ subst (λ (l : List Block). IsPermutation (stays_of night (b ∷ c ∷ blocks)) (stays_of night l))
      (sym (cond-false (nat_le b.id c.id) (b ∷ c ∷ blocks) (c ∷ insert_by_id b blocks) apart))
      (IsPermutation-trans (stays_of night (b ∷ c ∷ blocks)) (cons_option (stay_of night c) (cons_option (stay_of night b) (stays_of night blocks)))
      (stays_of night (c ∷ insert_by_id b blocks)) (cons_swap (stay_of night b) (stay_of night c) (stays_of night blocks))
      (cons_same (stay_of night c) (cons_option (stay_of night b) (stays_of night blocks)) (stays_of night (insert_by_id b blocks)) (stays_insert night b blocks)))
]

-- ---- the counts

pub count_insert : (p : Block → Bool) (b : Block) (blocks : List Block) → count_by p (insert_by_id b blocks) ≡ flag (p b) + count_by p blocks
count_insert p b blocks = sum_by-IsPermutation (λ c. cond (p c) 1 0) (b ∷ blocks) (insert_by_id b blocks) (insert_moves b blocks) ∙ sum_by-cons (λ c. cond (p c) 1 0) b blocks

cost_insert : (night : Night) (b : Block) (blocks : List Block) → total_cost night (insert_by_id b blocks) ≡ block_cost night b + total_cost night blocks
cost_insert night b blocks = sum_by-IsPermutation (block_cost night) (b ∷ blocks) (insert_by_id b blocks) (insert_moves b blocks) ∙ sum_by-cons (block_cost night) b blocks

pub length_insert : (b : Block) (blocks : List Block) → length (insert_by_id b blocks) ≡ length blocks + 1
length_insert b blocks = omega (arith, length_permutation (b ∷ blocks) (insert_by_id b blocks) (insert_moves b blocks))

abbrev made_faults : ℕ → ℕ → ℕ → ℕ → ℕ → Faults
made_faults v s i o c = record { wrong_type = v; too_soon = s; no_route_in = i; no_route_out = o; cost = c }

same_faults : (v s i o c w t j p d : ℕ) → v ≡ w → s ≡ t → i ≡ j → o ≡ p → c ≡ d → made_faults v s i o c ≡ made_faults w t j p d
same_faults v s i o c w t j p d e1 e2 e3 e4 e5 = cc

pub faults_more : (night : Night) (b : Block) (blocks : List Block) (f : Faults) → f ≡ faults_of night blocks
    → plus f (own_faults night b) ≡ faults_of night (insert_by_id b blocks)
faults_more night b blocks f e = ap (λ (g : Faults). plus g (own_faults night b)) e ∙ same_faults _ _ _ _ _ _ _ _ _ _
    (omega (arith, count_insert (type_fault night) b blocks))
    (omega (arith, count_insert (λ c. is_too_soon night (shape_of c)) b blocks))
    (omega (arith, count_insert (lacks_way_in night) b blocks))
    (omega (arith, count_insert (lacks_way_out night) b blocks))
    (omega (arith, cost_insert night b blocks))

pub faults_less : (night : Night) (b : Block) (blocks : List Block) (f : Faults) → f ≡ faults_of night (insert_by_id b blocks)
    → less f (own_faults night b) ≡ faults_of night blocks
faults_less night b blocks f e = ap (λ (g : Faults). less g (own_faults night b)) e ∙ same_faults _ _ _ _ _ _ _ _ _ _
    (omega (arith, count_insert (type_fault night) b blocks))
    (omega (arith, count_insert (λ c. is_too_soon night (shape_of c)) b blocks))
    (omega (arith, count_insert (lacks_way_in night) b blocks))
    (omega (arith, count_insert (lacks_way_out night) b blocks))
    (omega (arith, cost_insert night b blocks))

-- ---- the order

pub ascend_insert : (b : Block) (blocks : List Block) → IsNew b.id blocks → Ascend blocks → Ascend (insert_by_id b blocks)
ascend_insert b [] new a = (tt, tt)
ascend_insert b (c ∷ blocks) new a = ⊎_elim
    (λ lt. subst Ascend (sym (cond-false (nat_le b.id c.id) (b ∷ c ∷ blocks) (c ∷ insert_by_id b blocks) (not_below b.id c.id lt))) (
      all_from (λ d. c.id < d.id) (insert_by_id b blocks) (λ d i. ⊎_elim (λ e. omega (arith, ap (λ (x : Block). x.id) e)) (λ j. all_in (λ d. c.id < d.id) blocks d a.0 j)
          (of_insert b blocks d i)),
      ascend_insert b blocks new.1 a.1,
    ))
    (λ ge. subst Ascend (sym (cond-true (nat_le b.id c.id) (b ∷ c ∷ blocks) (c ∷ insert_by_id b blocks) (is_below b.id c.id ge)))
    (let lt : b.id < c.id = strict b.id c.id ge new.0 in
    ((lt, all_from (λ d. b.id < d.id) blocks (λ d i. let more : c.id < d.id = all_in (λ d. c.id < d.id) blocks d a.0 i in omega arith)), a)))
    (cases_lt c.id b.id)
  where
    not_below : (x y : ℕ) → y < x → nat_le x y ≡ false
    not_below x y lt = grind (arith, nat_tests)

    is_below : (x y : ℕ) → x ≤ y → nat_le x y ≡ true
    is_below x y le = grind (arith, nat_tests)

    strict : (x y : ℕ) → x ≤ y → y ≢ x → x < y
    strict x y le ne = ⊎_elim (λ lt. lt) (λ ge. absurd (ne (omega arith))) (cases_lt x y)

pub ascend_less : (b : Block) (blocks : List Block) → Ascend (insert_by_id b blocks) → IsNew b.id blocks → Ascend blocks
ascend_less b [] a new = tt
ascend_less b (c ∷ blocks) a new = elim (cases_Bool (nat_le b.id c.id)) [
  | inl is ↦ (subst Ascend (cond-true (nat_le b.id c.id) (b ∷ c ∷ blocks) (c ∷ insert_by_id b blocks) is) a).1
  | inr apart ↦ let rest : Ascend (c ∷ insert_by_id b blocks) = subst Ascend (cond-false (nat_le b.id c.id) (b ∷ c ∷ blocks) (c ∷ insert_by_id b blocks) apart) a in
      (all_from (λ d. c.id < d.id) blocks (λ d i. all_in (λ d. c.id < d.id) (insert_by_id b blocks) d rest.0 (to_insert b blocks d i)), ascend_less b blocks rest.1 new.1)
]

-- ---- one comes, one goes

pub faults_small : (night : Night) (blocks : List Block) (f : Faults) → f ≡ faults_of night blocks → length blocks ≤ 400 → total_cost night blocks ≤ 1600000000 → IsSmall f
faults_small night blocks f e few cost = subst IsSmall (sym e) (record {
  wrong_type = omega (arith, count_by-le-length (type_fault night) blocks);
  too_soon = omega (arith, count_by-le-length (λ c. is_too_soon night (shape_of c)) blocks);
  no_route_in = omega (arith, count_by-le-length (lacks_way_in night) blocks);
  no_route_out = omega (arith, count_by-le-length (lacks_way_out night) blocks);
  cost = cost;
})

-- ids of stays are those of their blocks
pub new_stays : (night : Night) (blocks : List Block) (id : ℕ) → IsNew id blocks → (t : Stay) → In t (stays_of night blocks) → t.id ≢ id
new_stays night blocks id new t i e = let r = of_some (stay_of night) blocks t i in let named = stay_id night r.0 t r.2 in all_in (λ c. c.id ≢ id) blocks r.0 new r.1 (omega arith)

pub new_held : (night : Night) (blocks : List Block) (held : List Stay) (id : ℕ) → IsPermutation (stays_of night blocks) held → IsNew id blocks → All (λ t. t.id ≢ id) held
new_held night blocks held id p new = All-permutation (λ t. t.id ≢ id) (stays_of night blocks) held p
    (to_all (λ t. t.id ≢ id) (stays_of night blocks) (new_stays night blocks id new))

pub few_held : (night : Night) (blocks : List Block) (held : List Stay) → IsPermutation (stays_of night blocks) held → length held ≤ length blocks
few_held night blocks held p = omega (arith, length_permutation (stays_of night blocks) held p, few_some (stay_of night) blocks)

comes_stays : (o : Option Stay) (stays : List Stay) (before after : Holding) → Comes o before after → IsPermutation stays before.stays
    → IsPermutation (cons_option o stays) after.stays
comes_stays None stays before after e p = subst (λ (h : Holding). IsPermutation stays h.stays) (sym e) p
comes_stays (Some t) stays before after e p = IsPermutation-trans (t ∷ stays) (t ∷ before.stays) after.stays (IsPermutation-cons t stays before.stays p) e.0

comes_lengths : (o : Option Stay) (before after : Holding) → Comes o before after → after.lengths ≡ before.lengths
comes_lengths None before after e = ap (λ (h : Holding). h.lengths) e
comes_lengths (Some t) before after e = e.2

comes_room : (o : Option Stay) (before after : Holding) → Comes o before after → after.spare + length after.stays ≡ before.spare + length before.stays
comes_room None before after e = ap (λ (h : Holding). h.spare + length h.stays) e
comes_room (Some t) before after e = let n = e.1 in let m = e.3 in omega arith

module _ (night : Night) (b : Block) (less : List Block) (before after : Holding) (units places units_after places_after : Times) (f : Faults) where
  pub come : IsKeptState night less before units places f → IsNew b.id less → IsInRange night b → block_cost night b ≤ 4000000 → length less < 400
      → Comes (stay_of night b) before after
      → units_after.total ≡ units.total → ((u : ℕ) → u < units.total → at units_after.times u ≡ at units.times u + flag (is_within (unit_from night (shape_of b)) b.n u))
      → places_after.total ≡ places.total → ((v : ℕ) → v < places.total → at places_after.times v ≡ at places.times v + flag (is_within (position_from night (shape_of b)) b.n v))
      → IsKeptState night (insert_by_id b less) after units_after places_after (plus f (own_faults night b))
  come k new range low few held ut ue pt pe = record {
    ascend = ascend_insert b less new k.ascend;
    each = to_all (IsInRange night) (insert_by_id b less) (λ c i. ⊎_elim (λ e. subst (IsInRange night) (sym e) range) (λ j. of_all (IsInRange night) less c k.each j)
        (of_insert b less c i));
    few = omega (arith, length_insert b less);
    stays = IsPermutation-trans (stays_of night (insert_by_id b less)) (cons_option (stay_of night b) (stays_of night less)) after.stays
        (IsPermutation-sym (cons_option (stay_of night b) (stays_of night less)) (stays_of night (insert_by_id b less)) (stays_insert night b less))
        (comes_stays (stay_of night b) (stays_of night less) before after held k.stays);
    lengths = comes_lengths (stay_of night b) before after held ∙ k.lengths;
    room = let r = comes_room (stay_of night b) before after held in let q = k.room in omega arith;
    unit_count = ut ∙ k.unit_count;
    each_unit = λ u lt. let e = ue u (subst (λ n. u < n) (sym k.unit_count) lt) in let c = count_insert (λ c. has_unit night (shape_of c) u) b less in let w = k.each_unit u lt in
        let g : flag (is_within (unit_from night (shape_of b)) b.n u) ≡ flag (has_unit night (shape_of b) u) = refl in omega arith;
    place_count = pt ∙ k.place_count;
    each_place = λ v lt. let e = pe v (subst (λ n. v < n) (sym k.place_count) lt) in let c = count_insert
        (λ c. has_position night (shape_of c) v) b less in let w = k.each_place v lt in
        let g : flag (is_within (position_from night (shape_of b)) b.n v) ≡ flag (has_position night (shape_of b) v) = refl in omega arith;
    faults_are = faults_more night b less f k.faults_are;
    cheap = all_from (λ c. block_cost night c ≤ 4000000) (insert_by_id b less) (λ c i. ⊎_elim (λ e. subst (λ (x : Block). block_cost night x ≤ 4000000) (sym e) low)
        (λ j. all_in (λ c. block_cost night c ≤ 4000000) less c k.cheap j) (of_insert b less c i));
  }

-- that many blocks cost so much at most
pub cost_most : (night : Night) (blocks : List Block) → AllByRecursion (λ b. block_cost night b ≤ 4000000) blocks → total_cost night blocks ≤ 4000000 * length blocks
cost_most night [] h = omega arith
cost_most night (b ∷ blocks) h = let one = h.0 in omega (arith, cost_most night blocks h.1, sum_by-cons (block_cost night) b blocks)

pub kept_small : (night : Night) (blocks : List Block) (held : Holding) (units places : Times) (f : Faults) → IsKeptState night blocks held units places f → IsSmall f
kept_small night blocks held units places f k = let few = k.few in faults_small night blocks f k.faults_are k.few (omega (arith, cost_most night blocks k.cheap))
