-- Fronts of lists of blocks, as loops go through them.
use Rattle.std.proofs.Common.{◌≡◌, ◌⊎◌, ℕ, zero, suc, ◌+◌, ◌<◌, ◌≤◌, true, false, List, [], ◌∷◌, ◌++◌, length, map, get_or, take, drop, refl, sym, ap, subst, ◌∙◌, arith, inl, inr, ⊎_elim, IsTrue}
use Rattle.std.specs.Prelude.{◌==◌}
use Rattle.std.specs.List.{list_any}
use Rattle.std.proofs.lemmas.Bool.{true≢false, eqb-true, eq-eqb, or_cases}
use Rattle.std.proofs.lemmas.List.{take_all, take_more, drop_more, take-append-drop, length-map}
use Rattle.std.proofs.lemmas.List.Elements.{All-more}
use Rattle.shunt_lists.proofs.Members.{in_place}
use Rattle.shunt_lists.specs.defs.Members.{In, AreDistinct}
use Rattle.shunt_rows.proofs.Named.{distinct_push}
use Rattle.shunt_blocks.specs.declared.records.Block.{Block}
use Rattle.shunt_blocks.specs.defs.Pins.{IsKept, Keeps, without_id}
use Rattle.shunt_plan.specs.defs.BlockRecords.{has_id}
use Rattle.shunt_plan.specs.defs.Plans.{IsFirstLost}

-- ---- ids

abbrev ids : List Block → List ℕ
ids blocks = map (λ b. b.id) blocks

id_at : (blocks : List Block) (i : ℕ) (d : Block) (e : ℕ) → i < length blocks → get_or (ids blocks) i e ≡ (get_or blocks i d).id
id_at [] i d e lt = absurd (omega arith)
id_at (b ∷ blocks) zero d e lt = refl
id_at (b ∷ blocks) (suc i) d e lt = id_at blocks i d e (omega arith)

-- an id that stands in the front stands twice
clash : (blocks : List Block) (i : ℕ) (d : Block) → i < length blocks → list_any (λ b. b.id == (get_or blocks i d).id) (take i blocks) ≡ true → AreDistinct (ids blocks) → ⊥
clash [] i d lt e all = omega arith
clash (b ∷ blocks) zero d lt e all = true≢false (sym e)
clash (b ∷ blocks) (suc i) d lt e all = ⊎_elim
    (λ t. all 0 (suc i) 0 (omega arith) (omega (arith, length-map blocks (λ (b : Block). b.id))) (eqb-true b.id (get_or blocks i d).id t ∙ sym (id_at blocks i d 0 (omega arith))))
    (λ t. clash blocks i d (omega arith) t (λ j k e lt small. all (suc j) (suc k) e (omega arith) (omega arith)))
    (or_cases (b.id == (get_or blocks i d).id) (list_any (λ b. b.id == (get_or blocks i d).id) (take i blocks)) e)

pub own_ids_not : (blocks : List Block) (i : ℕ) (d : Block) → i < length blocks → true ≡ has_id (take i blocks) (get_or blocks i d).id
    → (IsTrue false → AreDistinct (ids blocks)) × (AreDistinct (ids blocks) → IsTrue false)
unfolding has_id
own_ids_not blocks i d lt e = (λ f. absurd (true≢false (sym f)), λ all. absurd (clash blocks i d lt (sym e) all))

pub own_ids_more : (blocks : List Block) (i : ℕ) (d : Block) → i < length blocks → false ≡ has_id (take i blocks) (get_or blocks i d).id → AreDistinct (ids (take i blocks))
    → AreDistinct (ids (take (i + 1) blocks))
unfolding has_id
own_ids_more blocks i d lt e all =
    let b = get_or blocks i d in
    subst (λ (l : List Block). AreDistinct (ids l)) (sym (take_more blocks i d lt))
    (distinct_push (λ (c : Block). c.id) (λ c. c.id == b.id) (take i blocks) b (λ c same. eq-eqb c.id b.id same) all (sym e))

pub own_ids_whole : (blocks : List Block) (i : ℕ) → length blocks ≤ i → AreDistinct (ids (take i blocks))
    → (IsTrue true → AreDistinct (ids blocks)) × (AreDistinct (ids blocks) → IsTrue true)
own_ids_whole blocks i le all = (λ t. subst (λ (l : List Block). AreDistinct (ids l)) (take_all i blocks le) all, λ _. refl)

-- ---- pins

in_last : {X : Type 0} (x y : X) (xs : List X) → In x (xs ++ y ∷ []) → In x xs ⊎ (x ≡ y)
in_last x y [] i = ⊎_elim (λ e. inr e) (λ n. absurd n) i
in_last x y (z ∷ xs) i = ⊎_elim (λ e. inl (inl e)) (λ j. ⊎_elim (λ k. inl (inr k)) (λ e. inr e) (in_last x y xs j)) i

pub kept_here : (blocks : List Block) (pin : Block) (i : ℕ) (d : Block) → i < length blocks → without_id (get_or blocks i d) ≡ without_id pin
    → (IsTrue true → IsKept blocks pin) × (IsKept blocks pin → IsTrue true)
kept_here blocks pin i d lt same = (λ _. record { block = get_or blocks i d; there = in_place blocks i d lt; same = same }, λ _. refl)

pub not_yet : (blocks : List Block) (pin : Block) (i : ℕ) (d : Block) → i < length blocks → (IsKept (take i blocks) pin → ⊥)
    → (without_id (get_or blocks i d) ≡ without_id pin → IsTrue false) → IsKept (take (i + 1) blocks) pin → ⊥
not_yet blocks pin i d lt none differs kept =
    let b = get_or blocks i d in
    ⊎_elim
    (λ j. none (record { block = kept.block; there = j; same = kept.same }))
    (λ e. true≢false (sym (differs (ap without_id (sym e) ∙ kept.same))))
    (in_last kept.block b (take i blocks) (subst (λ (l : List Block). In kept.block l) (take_more blocks i d lt) kept.there))

pub first_lost : (blocks seen pins : List Block) (i : ℕ) (d : Block) → seen ≡ blocks → i < length pins → Keeps blocks (take i pins) → (IsKept seen (get_or pins i d) → IsTrue false)
    → IsFirstLost blocks pins (get_or pins i d).id
first_lost blocks seen pins i d same lt kept lost = record {
  before = take i pins;
  pin = get_or pins i d;
  after = drop (i + 1) pins;
  place = sym (take-append-drop i pins) ∙ ap (λ l. take i pins ++ l) (drop_more pins i d lt);
  kept = kept;
  lost = λ k. true≢false (sym (lost (subst (λ (l : List Block). IsKept l (get_or pins i d)) (sym same) k)));
  is = refl;
}

pub keeps_more : (blocks seen pins : List Block) (i : ℕ) (d : Block) → seen ≡ blocks → i < length pins → Keeps blocks (take i pins) → IsKept seen (get_or pins i d)
    → Keeps blocks (take (i + 1) pins)
keeps_more blocks seen pins i d same lt kept is = All-more (IsKept blocks) pins i d lt kept (subst (λ (l : List Block). IsKept l (get_or pins i d)) same is)
