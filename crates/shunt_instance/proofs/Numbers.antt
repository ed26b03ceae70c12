-- The numbers of units and positions: where the one with a number stands.
use Rattle.std.specs.Prelude.{slice_index_or}
use Rattle.std.proofs.Common.{◌≡◌, ℕ, zero, suc, ◌+◌, ◌-◌, ◌<◌, ◌≤◌, List, [], ◌∷◌, ◌++◌, length, get_or, take, sym, ap, ◌∙◌, arith, inl, inr, refl, length-append, subst}
use Rattle.std.proofs.Math.Seq.{get_or-append_right}
use Rattle.std.proofs.Math.ListN.{get_or-append}
use Rattle.std.proofs.lemmas.Bool.{cases_lt}
use Rattle.std.proofs.lemmas.List.{get_or-append-add}
use Rattle.std.proofs.lemmas.List.Sums.{sum_by-cons}
use Rattle.shunt_base.specs.declared.ids.TypeId.{TypeId}
use Rattle.shunt_instance.specs.declared.records.Train.{Train}
use Rattle.shunt_instance.specs.defs.Words.{unit_count, train_at}
use Rattle.shunt_instance.specs.defs.Instance.{numbered_from, numbered_through}

abbrev no_type : TypeId
no_type = record { 0 = 0 }

-- place p of the train that has i trains before it
pub record Stands {X : Type 0} (make : ℕ → ℕ → TypeId → X) (a : ℕ) (ts : List Train) (u : ℕ) (x : X) : Type 0 where
  pub i : ℕ
  pub p : ℕ
  pub i_in : i < length ts
  pub p_in : p < length (train_at ts i).units
  pub is : x ≡ make (a + i) (p + 1) (slice_index_or (train_at ts i).units p (record { 0 = 0 }))
  pub number : u ≡ unit_count (take i ts) + p

pub length_from : {X : Type 0} (make : ℕ → ℕ → TypeId → X) (a p : ℕ) (ks : List TypeId) → length (numbered_from make a p ks) ≡ length ks
length_from make a p [] = refl
length_from make a p (k ∷ ks) = ap suc (length_from make a (p + 1) ks)

pub length_through : {X : Type 0} (make : ℕ → ℕ → TypeId → X) (a : ℕ) (ts : List Train) → length (numbered_through make a ts) ≡ unit_count ts
length_through make a [] = refl
length_through make a (t ∷ ts) =
    let e = sum_by-cons (λ (t : Train). length t.units) t ts in
    omega (arith, length-append (numbered_from make a 1 t.units) (numbered_through make (a + 1) ts), length_from make a 1 t.units, length_through make (a + 1) ts, e)

alike : {X : Type 0} (make : ℕ → ℕ → TypeId → X) (a b p q : ℕ) (k : TypeId) → a ≡ b → p ≡ q → make a p k ≡ make b q k
alike make a b p q k e f = cc

at_place : {X : Type 0} (make : ℕ → ℕ → TypeId → X) (a p : ℕ) (ks : List TypeId) (i : ℕ) (d : X) → i < length ks
    → get_or (numbered_from make a p ks) i d ≡ make a (p + i) (get_or ks i no_type)
at_place make a p [] i d lt = absurd (omega arith)
at_place make a p (k ∷ ks) zero d lt = alike make a a p (p + zero) k refl (omega arith)
at_place make a p (k ∷ ks) (suc i) d lt = at_place make a (p + 1) ks i d (omega arith) ∙ alike make a a (p + 1 + i) (p + suc i) (get_or ks i no_type) refl (omega arith)

-- the first train, or a later one
in_first : {X : Type 0} (make : ℕ → ℕ → TypeId → X) (a : ℕ) (t : Train) (ts : List Train) (u : ℕ) (d : X) → u < length t.units
    → Stands make a (t ∷ ts) u (get_or (numbered_from make a 1 t.units ++ numbered_through make (a + 1) ts) u d)
in_first make a t ts u d lt = record {
  i = 0;
  p = u;
  i_in = omega arith;
  p_in = lt;
  is = get_or-append (numbered_from make a 1 t.units) (numbered_through make (a + 1) ts) d u (rw (length_from make a 1 t.units) lt) ∙ at_place make a 1 t.units u d lt
      ∙ alike make a (a + 0) (1 + u) (u + 1) (get_or t.units u no_type) (omega arith) (omega arith);
  number = omega arith;
}

in_later : {X : Type 0} (make : ℕ → ℕ → TypeId → X) (a : ℕ) (t : Train) (ts : List Train) (u v : ℕ) (x : X) → u ≡ length t.units + v → Stands make (a + 1) ts v x
    → Stands make a (t ∷ ts) u x
in_later make a t ts u v x e s =
    let sums = sum_by-cons (λ (t : Train). length t.units) t (take s.i ts) in
    record {
      i = suc s.i;
      p = s.p;
      i_in = omega (arith, s.i_in);
      p_in = s.p_in;
      is = s.is ∙ alike make (a + 1 + s.i) (a + suc s.i) (s.p + 1) (s.p + 1) (get_or (train_at ts s.i).units s.p no_type) (omega arith) refl;
      number = omega (arith, s.number, sums);
    }

pub located : {X : Type 0} (make : ℕ → ℕ → TypeId → X) (a : ℕ) (ts : List Train) (u : ℕ) (d : X) → u < length (numbered_through make a ts)
    → Stands make a ts u (get_or (numbered_through make a ts) u d)
located make a [] u d lt = absurd (omega arith)
located make a (t ∷ ts) u d lt = elim (cases_lt u (length t.units)) [
  | inl here ↦ in_first make a t ts u d here
  | inr past ↦
      let first = length_from make a 1 t.units in
      let both = length-append (numbered_from make a 1 t.units) (numbered_through make (a + 1) ts) in
      let le : length (numbered_from make a 1 t.units) ≤ u = omega arith in
      let e : u ≡ length t.units + (u - length (numbered_from make a 1 t.units)) = omega arith in
      let rest : u - length (numbered_from make a 1 t.units) < length (numbered_through make (a + 1) ts) = omega arith in
      in_later make a t ts u (u - length (numbered_from make a 1 t.units)) (get_or (numbered_from make a 1 t.units ++ numbered_through make (a + 1) ts) u d) e
      (subst (Stands make (a + 1) ts (u - length (numbered_from make a 1 t.units)))
      (sym (get_or-append_right (numbered_from make a 1 t.units) (numbered_through make (a + 1) ts) u d le))
      (located make (a + 1) ts (u - length (numbered_from make a 1 t.units)) d rest))
]

-- the entries of a train stand behind those of the trains before it
pub counts_more : (ts : List Train) (i j : ℕ) → i < j → i < length ts → unit_count (take i ts) + length (train_at ts i).units ≤ unit_count (take j ts)
counts_more [] i j lt within = absurd (omega arith)
counts_more (t ∷ ts) zero (suc j) lt within = omega (arith, sum_by-cons (λ (t : Train). length t.units) t (take j ts))
counts_more (t ∷ ts) (suc i) (suc j) lt within = omega (
  arith,
  sum_by-cons (λ (t : Train). length t.units) t (take i ts),
  sum_by-cons (λ (t : Train). length t.units) t (take j ts),
  counts_more ts i j (omega arith) (omega arith),
)
counts_more (t ∷ ts) i zero lt within = absurd (omega arith)

-- so the train rises with the number
pub train_rises : {X : Type 0} (make : ℕ → ℕ → TypeId → X) (a : ℕ) (ts : List Train) (u v : ℕ) (x y : X) (s : Stands make a ts u x) (t : Stands make a ts v y) → u ≤ v → s.i ≤ t.i
train_rises make a ts u v x y s t le = elim (cases_lt t.i s.i) [
  | inl back ↦ absurd (omega (arith, counts_more ts t.i s.i back t.i_in, s.number, t.number, t.p_in))
  | inr fits ↦ fits
]

-- the one at a place of a train has the number that its train and place tell
pub numbered_at : {X : Type 0} (make : ℕ → ℕ → TypeId → X) (a : ℕ) (ts : List Train) (i p : ℕ) (d : X) → i < length ts → p < length (train_at ts i).units
    → get_or (numbered_through make a ts) (unit_count (take i ts) + p) d ≡ make (a + i) (p + 1) (get_or (train_at ts i).units p no_type)
numbered_at make a [] i p d lt within = absurd (omega arith)
numbered_at make a (t ∷ ts) zero p d lt within =
    let none : 0 + p ≡ p = omega arith in
    ap (λ (n : ℕ). get_or (numbered_from make a 1 t.units ++ numbered_through make (a + 1) ts) n d) none
    ∙ get_or-append (numbered_from make a 1 t.units) (numbered_through make (a + 1) ts) d p (rw (length_from make a 1 t.units) within) ∙ at_place make a 1 t.units p d within
    ∙ alike make a (a + 0) (1 + p) (p + 1) (get_or t.units p no_type) (omega arith) (omega arith)
numbered_at make a (t ∷ ts) (suc i) p d lt within =
    let sums = sum_by-cons (λ (t : Train). length t.units) t (take i ts) in
    let place : unit_count (t ∷ take i ts) + p ≡ length (numbered_from make a 1 t.units) + (unit_count (take i ts) + p) = omega (arith, sums, length_from make a 1 t.units) in
    ap (λ (n : ℕ). get_or (numbered_from make a 1 t.units ++ numbered_through make (a + 1) ts) n d) place
    ∙ get_or-append-add (numbered_from make a 1 t.units) (numbered_through make (a + 1) ts) (unit_count (take i ts) + p) d
    ∙ numbered_at make (a + 1) ts i p d (omega arith) within ∙ alike make (a + 1 + i) (a + suc i) (p + 1) (p + 1) (get_or (train_at ts i).units p no_type) (omega arith) refl
