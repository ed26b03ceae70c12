-- Blocks that are put in from the last to the first.
use Rattle.std.proofs.Common.{◌≡◌, ◌≢◌, inl, inr, ℕ, zero, suc, ◌+◌, ◌-◌, ◌<◌, ◌≤◌, max, reverse, List, [], ◌∷◌, length, get_or, take, drop, map, refl, sym, subst, ap, ◌∙◌, arith}
use Rattle.std.proofs.lemmas.List.Sorted.{length_permutation}
use Rattle.shunt_lists.proofs.Members.{all_in, all_from, each_one as of_all}
use Rattle.shunt_lists.specs.defs.Members.{In, AreDistinct, Ascends}
use Rattle.shunt_blocks.specs.declared.records.Block.{Block}
use Rattle.shunt_audit.specs.defs.Listed.{insert_by_id, by_id}
use Rattle.shunt_audit.proofs.ById.{id_of, Apart, apart, there, moves, ascends, sorted_range}
use Rattle.shunt_instance.specs.defs.Instance.{Night}
use Rattle.shunt_blocks.specs.defs.Shapes.{IsInRange}
use Rattle.shunt_blocks.specs.defs.Lists.{AreInRange}
use Rattle.shunt_moves.specs.declared.exchange.Exchange.{Exchange}
use Rattle.shunt_moves.specs.defs.Exchanges.{AllLead, IsBench}
use Rattle.shunt_moves.specs.defs.Kept.{Standing}
use Rattle.shunt_moves.specs.defs.States.{State, IsState, Ascend, greatest_id}
use Rattle.shunt_moves.proofs.ByIds.{IsNew}

drop_at : (xs : List Block) (n : ℕ) (d : Block) → n < length xs → drop n xs ≡ get_or xs n d ∷ drop (suc n) xs
drop_at [] n d lt = absurd (omega arith)
drop_at (x ∷ xs) zero d lt = refl
drop_at (x ∷ xs) (suc n) d lt = drop_at xs n d (omega arith)

length_drop : (xs : List Block) (n : ℕ) → n ≤ length xs → length (drop n xs) + n ≡ length xs
length_drop xs zero le = omega arith
length_drop [] (suc n) le = absurd (omega arith)
length_drop (x ∷ xs) (suc n) le = let rest = length_drop xs n (omega arith) in omega arith

drop_apart : (xs : List Block) (n : ℕ) → Apart xs → Apart (drop n xs)
drop_apart xs zero a = a
drop_apart [] (suc n) a = a
drop_apart (x ∷ xs) (suc n) a = drop_apart xs n a.1

pub next_by_id : (xs : List Block) (n : ℕ) (d : Block) → n < length xs → insert_by_id (get_or xs n d) (by_id (drop (suc n) xs)) ≡ by_id (drop n xs)
next_by_id xs n d lt = sym (ap by_id (drop_at xs n d lt))

pub new_by_id : (xs : List Block) (n : ℕ) (d : Block) → n < length xs → AreDistinct (map (λ b. b.id) xs) → IsNew (get_or xs n d).id (by_id (drop (suc n) xs))
new_by_id xs n d lt distinct =
    let a : Apart (get_or xs n d ∷ drop (suc n) xs) = subst Apart (drop_at xs n d lt) (drop_apart xs n (apart xs distinct)) in
    all_from (λ c. c.id ≢ (get_or xs n d).id) (by_id (drop (suc n) xs)) (λ c i e. all_in (λ c. (get_or xs n d).id ≢ c.id) (drop (suc n) xs) c a.0 ((there (drop (suc n) xs) c).0 i)
    (sym e))

pub few_by_id : (xs : List Block) (n : ℕ) → n < length xs → length xs ≤ 400 → length (by_id (drop (suc n) xs)) < 400
few_by_id xs n lt few = let a = length_drop xs (suc n) (omega arith) in omega (arith, length_permutation (drop (suc n) xs) (by_id (drop (suc n) xs)) (moves (drop (suc n) xs)))

pub drop_end : (xs : List Block) (n : ℕ) → n ≡ length xs → drop n xs ≡ []
drop_end xs n e = go xs n (omega arith)
  where
    go : (ys : List Block) (m : ℕ) → length ys ≤ m → drop m ys ≡ []
    go [] zero le = refl
    go [] (suc m) le = refl
    go (y ∷ ys) zero le = absurd (omega arith)
    go (y ∷ ys) (suc m) le = go ys m (omega arith)

max_zero : (x : ℕ) → max x 0 ≡ max 0 x
max_zero x = grind arith

max_assoc : (x y z : ℕ) → max x (max y z) ≡ max (max x y) z
max_assoc x y z = grind arith

pub greatest_more : (xs : List Block) (i : ℕ) (d : Block) → i < length xs → greatest_id (take (suc i) xs) ≡ max (greatest_id (take i xs)) (get_or xs i d).id
greatest_more [] i d lt = absurd (omega arith)
greatest_more (x ∷ xs) zero d lt = max_zero x.id
greatest_more (x ∷ xs) (suc i) d lt = ap (λ n. max x.id n) (greatest_more xs i d (omega arith)) ∙ max_assoc x.id (greatest_id (take i xs)) (get_or xs i d).id

pub greatest_small : (n : ℕ) (xs : List Block) → ((b : Block) → In b xs → b.id ≤ n) → greatest_id xs ≤ n
greatest_small n [] h = omega arith
greatest_small n (x ∷ xs) h = max_most x.id (greatest_id xs) n (h x (inl refl)) (greatest_small n xs (λ b i. h b (inr i)))
  where
    max_most : (x y n : ℕ) → x ≤ n → y ≤ n → max x y ≤ n
    max_most x y n a b = grind arith

pub below_greatest : (xs : List Block) (b : Block) → In b xs → b.id ≤ greatest_id xs
below_greatest [] b i = absurd i
below_greatest (x ∷ xs) b (inl e) = max_left b.id x.id (greatest_id xs) (ap (λ (y : Block). y.id) e)
  where
    max_left : (m x y : ℕ) → m ≡ x → m ≤ max x y
    max_left m x y e = grind arith
below_greatest (x ∷ xs) b (inr i) = max_right b.id x.id (greatest_id xs) (below_greatest xs b i)
  where
    max_right : (m x y : ℕ) → m ≤ y → m ≤ max x y
    max_right m x y le = grind arith

pub greatest_next : (xs : List Block) (i : ℕ) (d : Block) → i < length xs → greatest_id (take (i + 1) xs) ≡ max (greatest_id (take i xs)) (get_or xs i d).id
greatest_next xs i d lt = subst (λ (n : ℕ). greatest_id (take n xs) ≡ max (greatest_id (take i xs)) (get_or xs i d).id) (one_more i) (greatest_more xs i d lt)
  where
    one_more : (i : ℕ) → suc i ≡ i + 1
    one_more i = omega arith

before : (n : ℕ) → 0 < n → suc (n - 1) ≡ n
before n lt = omega arith

pub new_before : (xs : List Block) (n : ℕ) (d : Block) (blocks : List Block) → 0 < n → n ≤ length xs → AreDistinct (map (λ b. b.id) xs) → blocks ≡ by_id (drop n xs)
    → IsNew (get_or xs (n - 1) d).id blocks
new_before xs n d blocks lt le distinct e = subst (IsNew (get_or xs (n - 1) d).id) (ap (λ (k : ℕ). by_id (drop k xs)) (before n lt) ∙ sym e)
    (new_by_id xs (n - 1) d (omega arith) distinct)

pub few_before : (xs : List Block) (n : ℕ) (blocks : List Block) → 0 < n → n ≤ length xs → length xs ≤ 400 → blocks ≡ by_id (drop n xs) → length blocks < 400
few_before xs n blocks lt le few e = subst (λ (l : List Block). length l < 400) (ap (λ (k : ℕ). by_id (drop k xs)) (before n lt) ∙ sym e) (few_by_id xs (n - 1) (omega arith) few)

-- ---- the state of a plan

to_ascend : (xs : List Block) → Ascends id_of xs → Ascend xs
to_ascend [] a = tt
to_ascend (x ∷ xs) a = (a.0, to_ascend xs a.1)

pub top_id : (night : Night) (blocks : List Block) → AreInRange night blocks → greatest_id blocks ≤ 1000000
top_id night blocks h = greatest_small 1000000 blocks (λ b i. (of_all (IsInRange night) blocks b h.each i).to)

start_state : (night : Night) (blocks : List Block) → AreInRange night blocks → IsState night (record { blocks = by_id blocks; next = greatest_id blocks + 1 })
start_state night blocks h =
    let sorted = sorted_range night blocks h in let top = top_id night blocks h in
    record {
      few = sorted.few;
      each = sorted.each;
      ascend = to_ascend (by_id blocks) (ascends blocks (apart blocks h.ids));
      below = all_from (λ b. b.id < greatest_id blocks + 1) (by_id blocks) (λ b i. let le = below_greatest blocks b ((there blocks b).0 i) in omega arith);
      some = omega arith;
      next = omega arith;
    }

abbrev stands : Night → List Block → ℕ → Standing
stands night blocks next = record { night = night; state = record { blocks = blocks; next = next } }

pub start_stands : (q p : Standing) (n : ℕ) (night : Night) (blocks : List Block) → q ≡ record p { state = record p.state { next = n } } → p.night ≡ night
    → p.state.blocks ≡ by_id blocks → n ≡ greatest_id blocks + 1 → AreInRange night blocks → IsState q.night q.state
start_stands q p n night blocks e a b f h =
    let is : q ≡ stands night (by_id blocks) (greatest_id blocks + 1) =
    e ∙ ap (λ (m : Night). stands m p.state.blocks n) a ∙ ap (λ (l : List Block). stands night l n) b ∙ ap (λ (k : ℕ). stands night (by_id blocks) k) f in
    subst (λ (r : Standing). IsState r.night r.state) (sym is) (start_state night blocks h)

pub started_bench : (night : Night) (s : State) (past undone : List Exchange) (past_room undone_room : ℕ) → past ≡ [] → undone ≡ [] → IsState night s
    → IsBench night s past undone past_room undone_room
started_bench night s past undone past_room undone_room e f h = record {
  state = h;
  past_leads = subst (λ (l : List Exchange). AllLead night s (reverse l)) (sym e) tt;
  undone_leads = subst (λ (l : List Exchange). AllLead night s (reverse l)) (sym f) tt;
  past_fits = omega (arith, ap (λ (l : List Exchange). length l) e, ap (λ (l : List Exchange). length l) f);
  undone_fits = omega (arith, ap (λ (l : List Exchange). length l) e, ap (λ (l : List Exchange). length l) f);
}
