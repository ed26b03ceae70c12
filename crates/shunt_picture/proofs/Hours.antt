-- The hours of a picture hold all moves.
use Rattle.std.proofs.Common.{◌≡◌, ℕ, zero, suc, Bool, true, false, cond, ◌+◌, ◌-◌, ◌*◌, ◌<◌, ◌≤◌, min, List, [], ◌∷◌, length, take, fold, get_or, sym, subst, ap, ◌∙◌, arith}
use Rattle.std.specs.Prelude.{All}
use Rattle.std.specs.List.Sorted.{IsNonDecreasingBy}
use Rattle.std.proofs.lemmas.Bool.{true≢false}
use Rattle.std.proofs.lemmas.List.{get_or_default}
use Rattle.std.proofs.lemmas.List.Sums.{fold_more}
use Rattle.shunt_instance.specs.declared.records.Train.{Train}
use Rattle.shunt_instance.specs.defs.Words.{train_at, is_standing}
use Rattle.shunt_instance.specs.defs.Instance.{Night, IsInstance}
use Rattle.shunt_picture.specs.defs.Pictures.{earlier, first_move, last_minute, shown_from, first_hour, last_hour, IsWithin, IsWithinHours}

-- one more train
pub moves_more : (trains : List Train) (k : ℕ) (first more : ℕ) → k < length trains → first ≡ first_move (take k trains) → more ≡ earlier first (train_at trains k)
    → more ≡ first_move (take (k + 1) trains)
moves_more trains k first more lt done is = is ∙ ap (λ m. earlier m (train_at trains k)) done ∙ sym (fold_more earlier 2820 trains k _ lt)

lesser : (b : Bool) (m n : ℕ) → cond b m (min m n) ≤ m
lesser true m n = omega arith
lesser false m n = omega arith

moving : (b : Bool) (m n : ℕ) → b ≡ false → cond b m (min m n) ≤ n
moving true m n e = absurd (true≢false e)
moving false m n e = omega arith

not_later : (trains : List Train) (m : ℕ) → fold earlier m trains ≤ m
not_later [] m = omega arith
not_later (t ∷ trains) m =
    let rest = not_later trains (earlier m t) in
    let here = lesser (is_standing t) m t.minute in
    omega (arith, rest, here)

-- no train moves before the first move
least : (trains : List Train) (m k : ℕ) (d : Train) → k < length trains → is_standing (get_or trains k d) ≡ false → fold earlier m trains ≤ (get_or trains k d).minute
least [] m k d lt e = absurd (omega (arith, lt))
least (t ∷ trains) m zero d lt e =
    let rest = not_later trains (earlier m t) in
    let here = moving (is_standing t) m t.minute e in
    omega (arith, rest, here)
least (t ∷ trains) m (suc k) d lt e = least trains (earlier m t) k d (omega (arith, lt)) e

shown : (b : Bool) (m : ℕ) → shown_from b m ≤ m
shown true m = omega arith
shown false m = omega arith

held : (trains : List Train) (from to : ℕ) → IsNonDecreasingBy (λ t. t.minute) trains → 60 * from ≤ first_move trains → last_minute trains < 60 * to → All (IsWithin from to) trains
held trains from to rises below above = λ k d lt.
    let same : train_at trains k ≡ get_or trains k d = get_or_default trains k _ d lt in
    let greatest : (train_at trains k).minute ≤ last_minute trains = rises k (length trains - 1) _ (omega (arith, lt)) (omega (arith, lt)) in
    record {
      after = λ e. let first = least trains 2820 k d lt e in omega (arith, first, below);
      before = subst (λ (t : Train). t.minute < 60 * to) same (omega (arith, greatest, above));
    }

pub arrive_held : (night : Night) → IsInstance night → All (IsWithinHours night) night.arrive
unfolding IsInstance
arrive_held night h =
    let first = shown (is_standing (train_at night.arrive 0)) (min (first_move night.arrive) (first_move night.depart)) in
    held night.arrive (first_hour night) (last_hour night) h.arrive_rises (omega (arith, first)) (omega arith)

pub depart_held : (night : Night) → IsInstance night → All (IsWithinHours night) night.depart
unfolding IsInstance
depart_held night h =
    let first = shown (is_standing (train_at night.arrive 0)) (min (first_move night.arrive) (first_move night.depart)) in
    held night.depart (first_hour night) (last_hour night) h.depart_rises (omega (arith, first)) (omega arith)
