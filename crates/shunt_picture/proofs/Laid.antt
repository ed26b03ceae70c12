-- Lanes one below the other, and rows of trains.
use Rattle.std.proofs.Common.{◌≡◌, ◌≢◌, ⊎_elim, ℕ, ◌+◌, ◌<◌, ◌≤◌, List, [], ◌∷◌, ◌++◌, length, get_or, take, sym, subst, ap, ◌∙◌, arith}
use Rattle.std.specs.Prelude.{All, slice_index}
use Rattle.std.proofs.lemmas.Bool.{cases_lt, cases_eq}
use Rattle.std.proofs.lemmas.List.{length_push, get_or_append_left, get_or_push, take_all, take_more}
use Rattle.std.proofs.lemmas.List.Elements.{All-weaker, All-push}
use Rattle.shunt_picture.specs.declared.records.TrainMark.{TrainMark}
use Rattle.shunt_picture.specs.declared.records.Lane.{Lane}
use Rattle.shunt_picture.specs.defs.Words.{x_of}
use Rattle.shunt_picture.specs.defs.Layouts.{lane_high, AreStacked, end_of, IsLeftOf, AreTrainRows}

put_below : (lanes : List Lane) (top bottom : ℕ) (l : Lane) → AreStacked top lanes bottom → l.top ≡ bottom → AreStacked top (lanes ++ l ∷ []) (bottom + lane_high l)
put_below [] top bottom l same is = (is ∙ sym same, ap (λ n. n + lane_high l) same)
put_below (m ∷ lanes) top bottom l stacked is = (stacked.0, put_below lanes (top + lane_high m) bottom l stacked.1 is)

-- one more lane below these
pub stacked_more : (lanes more : List Lane) (top bottom low : ℕ) (l : Lane) → AreStacked top lanes bottom → l.top ≡ bottom → more ≡ lanes ++ l ∷ [] → low ≡ bottom + lane_high l
    → AreStacked top more low
stacked_more lanes more top bottom low l stacked is push sum =
    subst (λ (ls : List Lane). AreStacked top ls low) (sym push) (subst (AreStacked top (lanes ++ l ∷ [])) (sym sum) (put_below lanes top bottom l stacked is))

-- the words of a train end before the end that is noted for a row
abbrev pub EndsBy : ℕ → TrainMark → List ℕ → ℕ → Type 0
EndsBy from t ends row = end_of from t ≤ slice_index ends row

-- the rows of the first trains, and where the words of each row end
pub record AreRowed (from : ℕ) (trains : List TrainMark) (rows ends : List ℕ) : Type 0 where
  pub count : length rows ≡ length trains
  pub few : length ends ≤ length rows
  pub within : All (λ r. r < length ends) rows
  pub ended : (k : ℕ) (d : TrainMark) → k < length trains → EndsBy from (get_or trains k d) ends (slice_index rows k)
  pub apart : (i j : ℕ) (d : TrainMark) → i < j → j < length trains → slice_index rows i ≡ slice_index rows j → IsLeftOf from (get_or trains i d) (get_or trains j d)

pub rowed_none : (from : ℕ) → AreRowed from [] [] []
rowed_none from = record {
  count = omega arith;
  few = omega arith;
  within = λ k d lt. absurd (omega (arith, lt));
  ended = λ k d lt. absurd (omega (arith, lt));
  apart = λ i j d before lt. absurd (omega (arith, lt));
}

module _ (from : ℕ) (trains : List TrainMark) (rows ends : List ℕ) (h : AreRowed from trains rows ends) (t : TrainMark) (row : ℕ) (later : List ℕ)
    (free : row < length ends → slice_index ends row ≤ x_of from t.minute) (inside : row < length later) (longer : length ends ≤ length later)
    (few : length later ≤ length ends + 1)
    (here : slice_index later row ≡ end_of from t) (others : (k : ℕ) → k < length ends → k ≢ row → slice_index later k ≡ slice_index ends k) where
  row_within : (k : ℕ) → k < length trains → slice_index rows k < length ends
  row_within k lt = let count = h.count in h.within k 0 (omega (arith, lt, count))

  -- those before it still end before the ends of their rows
  still : (k : ℕ) (d : TrainMark) → k < length trains → EndsBy from (get_or trains k d) later (slice_index rows k)
  still k d lt =
      let by = h.ended k d lt in
      let known = row_within k lt in
      ⊎_elim
      (λ (same : slice_index rows k ≡ row).
      let ends_here : EndsBy from (get_or trains k d) ends row = subst (EndsBy from (get_or trains k d) ends) same by in
      let is_free : slice_index ends row ≤ x_of from t.minute = free (subst (λ r. r < length ends) same known) in
      let there : EndsBy from (get_or trains k d) later row = omega (arith, ends_here, is_free, here) in
      subst (EndsBy from (get_or trains k d) later) (sym same) there)
      (λ differ.
      let kept = others (slice_index rows k) known differ in
      omega (arith, by, kept))
      (cases_eq (slice_index rows k) row)

  -- and those of its row before it begins
  before : (k : ℕ) (d : TrainMark) → k < length trains → slice_index rows k ≡ row → IsLeftOf from (get_or trains k d) t
  before k d lt same =
      let ends_here : EndsBy from (get_or trains k d) ends row = subst (EndsBy from (get_or trains k d) ends) same (h.ended k d lt) in
      let is_free : slice_index ends row ≤ x_of from t.minute = free (subst (λ r. r < length ends) same (row_within k lt)) in
      omega (arith, ends_here, is_free)

  ended_all : (k : ℕ) (d : TrainMark) → k < length (trains ++ t ∷ []) → EndsBy from (get_or (trains ++ t ∷ []) k d) later (slice_index (rows ++ row ∷ []) k)
  ended_all k d lt =
      let count = h.count in
      let total = length_push trains t in
      ⊎_elim
      (λ (old : k < length trains).
      subst (λ (u : TrainMark). EndsBy from u later (slice_index (rows ++ row ∷ []) k)) (sym (get_or_append_left trains (t ∷ []) d k old))
      (subst (EndsBy from (get_or trains k d) later) (sym (get_or_append_left rows (row ∷ []) 0 k (omega (arith, old, count)))) (still k d old)))
      (λ (past : length trains ≤ k).
      let last : length trains ≡ k = omega (arith, past, lt, total) in
      let here_ends : EndsBy from t later row = omega (arith, here) in
      subst (λ (u : TrainMark). EndsBy from u later (slice_index (rows ++ row ∷ []) k)) (sym (get_or_push trains t d k last))
      (subst (EndsBy from t later) (sym (get_or_push rows row 0 k (omega (arith, last, count)))) here_ends))
      (cases_lt k (length trains))

  apart_all : (i j : ℕ) (d : TrainMark) → i < j → j < length (trains ++ t ∷ []) → slice_index (rows ++ row ∷ []) i ≡ slice_index (rows ++ row ∷ []) j
      → IsLeftOf from (get_or (trains ++ t ∷ []) i d) (get_or (trains ++ t ∷ []) j d)
  apart_all i j d before_j lt same =
      let count = h.count in
      let total = length_push trains t in
      let early : i < length trains = omega (arith, before_j, lt, total) in
      let row_i = get_or_append_left rows (row ∷ []) 0 i (omega (arith, early, count)) in
      subst (λ (u : TrainMark). IsLeftOf from u (get_or (trains ++ t ∷ []) j d)) (sym (get_or_append_left trains (t ∷ []) d i early))
      (⊎_elim
      (λ (old : j < length trains).
      let row_j = get_or_append_left rows (row ∷ []) 0 j (omega (arith, old, count)) in
      subst (IsLeftOf from (get_or trains i d)) (sym (get_or_append_left trains (t ∷ []) d j old)) (h.apart i j d before_j old (sym row_i ∙ same ∙ row_j)))
      (λ (past : length trains ≤ j).
      let last : length trains ≡ j = omega (arith, past, lt, total) in
      let row_j = get_or_push rows row 0 j (omega (arith, last, count)) in
      subst (IsLeftOf from (get_or trains i d)) (sym (get_or_push trains t d j last)) (before i d early (sym row_i ∙ same ∙ row_j)))
      (cases_lt j (length trains)))

  rowed_push : AreRowed from (trains ++ t ∷ []) (rows ++ row ∷ []) later
  rowed_push =
      let count = h.count in
      let old_few = h.few in
      let total = length_push trains t in
      let total_rows = length_push rows row in
      record {
        count = omega (arith, count, total, total_rows);
        few = omega (arith, few, old_few, total_rows);
        within = All-push (λ r. r < length later) rows row (All-weaker (λ r. r < length ends) (λ r. r < length later) (λ r lt. omega (arith, lt, longer)) rows h.within) inside;
        ended = ended_all;
        apart = apart_all;
      }

-- one more train
pub rowed_more : (from : ℕ) (trains : List TrainMark) (i : ℕ) (rows more ends later : List ℕ) (t : TrainMark) (row : ℕ) → AreRowed from (take i trains) rows ends
    → i < length trains → t ≡ get_or trains i t
    → (row < length ends → slice_index ends row ≤ x_of from t.minute) → row < length later → length ends ≤ length later → length later ≤ length ends + 1
    → slice_index later row ≡ end_of from t → ((k : ℕ) → k < length ends → k ≢ row → slice_index later k ≡ slice_index ends k) → more ≡ rows ++ row ∷ []
    → AreRowed from (take (i + 1) trains) more later
rowed_more from trains i rows more ends later t row h lt at free inside longer few here others push =
    let all : take (i + 1) trains ≡ take i trains ++ t ∷ [] = take_more trains i t lt ∙ ap (λ (u : TrainMark). take i trains ++ u ∷ []) (sym at) in
    subst (λ (ts : List TrainMark). AreRowed from ts more later) (sym all)
    (subst (λ (rs : List ℕ). AreRowed from (take i trains ++ t ∷ []) rs later) (sym push)
    (rowed_push from (take i trains) rows ends h t row later free inside longer few here others))

-- no more trains
pub rowed_all : (from : ℕ) (trains : List TrainMark) (i : ℕ) (rows ends : List ℕ) → AreRowed from (take i trains) rows ends → length trains ≤ i → AreTrainRows from trains rows
rowed_all from trains i rows ends h past =
    let few = h.few in
    let count = h.count in
    subst (λ (ts : List TrainMark). AreTrainRows from ts rows) (take_all i trains past) (record {
      count = count;
      low = All-weaker (λ r. r < length ends) (λ r. r < length (take i trains)) (λ r lt. omega (arith, lt, few, count)) rows h.within;
      apart = h.apart;
    })
