-- Blocks that are gone through one by one.
use Rattle.std.specs.Prelude.{All, IsTrue, slice_index_or}
use Rattle.std.proofs.Common.{◌≡◌, ◌≢◌, ◌⊎◌, inl, inr, ⊎_elim, ℕ, suc, zero, ◌+◌, ◌<◌, ◌≤◌, Bool, true, false, List, [], ◌∷◌, ◌++◌, length, map, take, set, get_or, refl, sym, subst, ap, ◌∙◌, arith}
use Rattle.std.proofs.lemmas.Bool.{cases_lt}
use Rattle.std.proofs.lemmas.List.{length-map, take_all, take_more}
use Rattle.std.proofs.lemmas.List.Elements.{All-push}
use Rattle.std.proofs.Math.Seq.{take-append_seam}
use Rattle.shunt_lists.specs.defs.Members.{In}
use Rattle.shunt_lists.proofs.Members.{in_place, each_one as of_all, to_all, place_of}
use Rattle.shunt_instance.specs.defs.Instance.{Night}
use Rattle.shunt_blocks.specs.declared.records.Block.{Block}
use Rattle.shunt_blocks.specs.defs.Lists.{IsFeasible, total_cost}
use Rattle.shunt_blocks.specs.defs.Pins.{IsKept, Keeps, without_id}
use Rattle.shunt_blocks.specs.defs.Polished.{IsPolished}
use Rattle.shunt_timeline.specs.defs.Holdings.{Holding}
use Rattle.shunt_search.specs.defs.Polish.{unparked, others_of, Stand, IsLeastBut, AreLeast}

-- ---- the other blocks

pub same_others : (xs : List Block) (k : ℕ) (y : Block) → k < length xs → others_of (set xs k y) k ≡ others_of xs k
same_others [] k y lt = absurd (omega arith)
same_others (x ∷ xs) zero y lt = refl
same_others (x ∷ xs) (suc k) y lt = ap (λ (l : List Block). x ∷ l) (same_others xs k y (omega arith))

here_or_other : (xs : List Block) (k : ℕ) (d b : Block) → k < length xs → In b xs → (b ≡ get_or xs k d) ⊎ In b (others_of xs k)
here_or_other [] k d b lt i = absurd i
here_or_other (x ∷ xs) zero d b lt i = i
here_or_other (x ∷ xs) (suc k) d b lt (inl e) = inr (inl e)
here_or_other (x ∷ xs) (suc k) d b lt (inr i) = ⊎_elim inl (λ o. inr (inr o)) (here_or_other xs k d b (omega arith) i)

of_others : (xs : List Block) (k : ℕ) (b : Block) → In b (others_of xs k) → In b xs
of_others [] zero b i = absurd i
of_others [] (suc k) b i = absurd i
of_others (x ∷ xs) zero b i = inr i
of_others (x ∷ xs) (suc k) b (inl e) = inl e
of_others (x ∷ xs) (suc k) b (inr i) = inr (of_others xs k b i)

-- where the block at a place is no pin, and the others stay, so do the pins
pub still_kept : (pins xs ys : List Block) (k : ℕ) (d : Block) → k < length xs → (IsKept pins (get_or xs k d) → ⊥) → others_of ys k ≡ others_of xs k → Keeps xs pins → Keeps ys pins
still_kept pins xs ys k d lt free same keeps = to_all (IsKept ys) pins (λ p i.
    let w = of_all (IsKept xs) pins p keeps i in
    let other : In w.block (others_of xs k) = ⊎_elim (λ e. absurd (free (record { block = p; there = i; same = sym w.same ∙ ap (λ (b : Block). without_id b) e }))) (λ o. o)
    (here_or_other xs k d w.block lt w.there) in
    record { block = w.block; there = of_others ys k w.block (subst (λ (l : List Block). In w.block l) (sym same) other); same = w.same })

-- the blocks up to a place have been looked at
pub record IsSwept (night : Night) (pins : List Block) (place : ℕ) (old now : List Block) (held : Holding) (changed : Bool) : Type 0 where
  pub feasible : IsFeasible night now
  pub stand : Stand night now held
  pub room : length now ≤ held.spare + length held.stays
  pub shapes : map unparked now ≡ map unparked old
  pub keeps : Keeps old pins → Keeps now pins
  pub cheaper : IsTrue changed → total_cost night now < total_cost night old
  pub same : (now ≡ old) ⊎ IsTrue changed
  pub least : IsTrue changed ⊎ AreLeast night pins place old

as_long : (xs ys : List Block) → map unparked xs ≡ map unparked ys → length xs ≡ length ys
as_long xs ys e = sym (length-map xs unparked) ∙ ap (λ (l : List Block). length l) e ∙ length-map ys unparked

pub count : (night : Night) (pins : List Block) (place : ℕ) (old now : List Block) (held : Holding) (changed : Bool) → IsSwept night pins place old now held changed
    → length now ≡ length old
count night pins place old now held changed w = as_long now old w.shapes

no_dearer : (night : Night) (old now : List Block) (changed : Bool) → (IsTrue changed → total_cost night now < total_cost night old) → (now ≡ old) ⊎ IsTrue changed
    → total_cost night now ≤ total_cost night old
no_dearer night old now changed cheaper same = ⊎_elim (λ e. subst (λ (l : List Block). total_cost night l ≤ total_cost night old) (sym e) (omega arith))
    (λ t. (let lt = cheaper t in omega (arith, lt))) same

module _ (night : Night) (pins : List Block) (place : ℕ) (old now new : List Block) (held after : Holding) (changed : Bool) (w : IsSwept night pins place old now held changed)
    (feasible : IsFeasible night new) (stand : Stand night new after) (room : length new ≤ after.spare + length after.stays) (shapes : map unparked new ≡ map unparked now)
    (keeps : Keeps now pins → Keeps new pins) where
  pub better : total_cost night new < total_cost night now → IsSwept night pins (place + 1) old new after true
  better lt = record {
    feasible = feasible;
    stand = stand;
    room = room;
    shapes = shapes ∙ w.shapes;
    keeps = λ k. keeps (w.keeps k);
    cheaper = λ _. (let le = no_dearer night old now changed w.cheaper w.same in omega (arith, le, lt));
    same = inr refl;
    least = inl refl;
  }

  pub unchanged : new ≡ now → ((d : Block) → IsLeastBut night pins now (slice_index_or now place d)) → IsSwept night pins (place + 1) old new after changed
  unchanged e least = record {
    feasible = feasible;
    stand = stand;
    room = room;
    shapes = shapes ∙ w.shapes;
    keeps = λ k. keeps (w.keeps k);
    cheaper = λ t. subst (λ (l : List Block). total_cost night l < total_cost night old) (sym e) (w.cheaper t);
    same = ⊎_elim (λ f. inl (e ∙ f)) inr w.same;
    least = ⊎_elim inl (λ all. ⊎_elim (λ f. inr (λ k d lt within. ⊎_elim (λ less. all k d less within) (λ more. (
        let at : k ≡ place = omega (arith, lt, more) in
        subst (λ n. IsLeastBut night pins old (slice_index_or old n d)) (sym at) (subst (λ (l : List Block). IsLeastBut night pins l (slice_index_or l place d)) f (least d))))
        (cases_lt k place))) inl w.same) w.least;
  }

  pub step : (found next : Bool) → (IsTrue found → total_cost night new < total_cost night now) → (new ≡ now) ⊎ IsTrue found
      → ((d : Block) → IsTrue found ⊎ IsLeastBut night pins now (slice_index_or now place d)) → ((found ≡ true) × (next ≡ true)) ⊎ ((found ≡ false) × (next ≡ changed))
      → IsSwept night pins (place + 1) old new after next
  step found next cheaper same least (inl is) = subst (λ (t : Bool). IsSwept night pins (place + 1) old new after t) (sym is.1) (better (cheaper is.0))
  step found next cheaper same least (inr is) =
      let never : IsTrue found → ⊥ = λ t. absurd (cc) in
      subst (λ (t : Bool). IsSwept night pins (place + 1) old new after t) (sym is.1)
      (unchanged (⊎_elim (λ e. e) (λ t. absurd (never t)) same) (λ d. ⊎_elim (λ t. absurd (never t)) (λ l. l) (least d)))

-- blocks that keep the pins, none of which but the pins has a cheaper option, are polished
pub polished : (night : Night) (pins blocks : List Block) → IsFeasible night blocks → Keeps blocks pins → AreLeast night pins (length blocks) blocks → IsPolished night pins blocks
polished night pins blocks feasible keeps least = record {
  feasible = feasible;
  keeps = keeps;
  least = λ b option i free is ok. (let r = place_of blocks b b i in subst (IsLeastBut night pins blocks) r.2 (least r.0 b r.1 r.1) free option is ok);
}

pub first_part : {X : Type 0} (n : ℕ) (xs rest : List X) → length xs ≡ n → take n (xs ++ rest) ≡ xs
first_part {X} n xs rest e = subst (λ (m : ℕ). take m (xs ++ rest) ≡ xs) e (take-append_seam xs rest)

-- ---- pins that were looked at

-- none of the pins up to a place is the block but for its id
pub no_pin_yet : (pins : List Block) (b d : Block) (k : ℕ) → k < length pins → (without_id (get_or pins k d) ≡ without_id b → ⊥)
    → All (λ (q : Block). without_id q ≢ without_id b) (take k pins) → All (λ (q : Block). without_id q ≢ without_id b) (take (k + 1) pins)
no_pin_yet pins b d k lt other before =
    subst (λ (l : List Block). All (λ (q : Block). without_id q ≢ without_id b) l) (sym (take_more pins k d lt))
    (All-push (λ (q : Block). without_id q ≢ without_id b) (take k pins) (get_or pins k d) before other)

pub is_no_pin : (pins : List Block) (b : Block) (k : ℕ) → length pins ≤ k → All (λ (q : Block). without_id q ≢ without_id b) (take k pins) → IsKept pins b → ⊥
is_no_pin pins b k all none kept =
    of_all (λ (q : Block). without_id q ≢ without_id b) pins kept.block (subst (λ (l : List Block). All (λ (q : Block). without_id q ≢ without_id b) l) (take_all k pins all) none)
    kept.there kept.same

pub is_a_pin : (pins : List Block) (b d : Block) (k : ℕ) → k < length pins → without_id (get_or pins k d) ≡ without_id b → IsKept pins b
is_a_pin pins b d k lt same = record { block = get_or pins k d; there = in_place pins k d lt; same = same }
