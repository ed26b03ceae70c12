-- What a late train changes in a list of trains, and what it doesn't.
use Rattle.std.proofs.Common.{◌≡◌, ◌≢◌, ℕ, zero, suc, ◌+◌, ◌<◌, List, [], ◌∷◌, ◌++◌, length, take, refl, sym, ap, ◌∙◌, arith}
use Rattle.std.proofs.lemmas.List.Sums.{sum_by-cons}
use Rattle.shunt_base.specs.declared.ids.TypeId.{TypeId}
use Rattle.shunt_instance.specs.declared.records.Train.{Train}
use Rattle.shunt_instance.specs.defs.Words.{train_at, minute_at, unit_count}
use Rattle.shunt_instance.specs.defs.Instance.{numbered_from, numbered_through}
use Rattle.shunt_delay.specs.defs.Late.{delayed}

pub units_same : {X : Type 0} (make : ℕ → ℕ → TypeId → X) (a i d : ℕ) (trains : List Train) → numbered_through make a (delayed i d trains) ≡ numbered_through make a trains
units_same make a i d [] = refl
units_same make a zero d (t ∷ trains) = refl
units_same {X} make a (suc i) d (t ∷ trains) = ap (λ (xs : List X). numbered_from make a 1 t.units ++ xs) (units_same make (a + 1) i d trains)

abbrev size : Train → ℕ
size t = length t.units

pub count_same : (a i d : ℕ) (trains : List Train) → unit_count (take a (delayed i d trains)) ≡ unit_count (take a trains)
count_same zero i d trains = refl
count_same (suc a) i d [] = refl
count_same (suc a) zero d (t ∷ trains) = sum_by-cons size (record t { minute = t.minute + d }) (take a trains) ∙ sym (sum_by-cons size t (take a trains))
count_same (suc a) (suc i) d (t ∷ trains) = sum_by-cons size t (take a (delayed i d trains)) ∙ ap (λ (n : ℕ). size t + n) (count_same a i d trains)
    ∙ sym (sum_by-cons size t (take a trains))

pub length_same : (i d : ℕ) (trains : List Train) → length (delayed i d trains) ≡ length trains
length_same i d [] = refl
length_same zero d (t ∷ trains) = refl
length_same (suc i) d (t ∷ trains) = ap (λ (n : ℕ). suc n) (length_same i d trains)

-- the late train itself, and all others
pub train_here : (i d : ℕ) (trains : List Train) → i < length trains → (train_at (delayed i d trains) i).minute ≡ (train_at trains i).minute + d
train_here i d [] lt = absurd (omega arith)
train_here zero d (t ∷ trains) lt = refl
train_here (suc i) d (t ∷ trains) lt = train_here i d trains (omega arith)

pub train_there : (i d j : ℕ) (trains : List Train) → j ≢ i → train_at (delayed i d trains) j ≡ train_at trains j
train_there i d j [] ne = refl
train_there zero d zero (t ∷ trains) ne = absurd (ne refl)
train_there zero d (suc j) (t ∷ trains) ne = refl
train_there (suc i) d zero (t ∷ trains) ne = refl
train_there (suc i) d (suc j) (t ∷ trains) ne = train_there i d j trains (λ e. ne (ap (λ (n : ℕ). suc n) e))

pub minute_here : (i d : ℕ) (trains : List Train) → i < length trains → minute_at (delayed i d trains) i ≡ minute_at trains i + d
minute_here i d [] lt = absurd (omega arith)
minute_here zero d (t ∷ trains) lt = refl
minute_here (suc i) d (t ∷ trains) lt = minute_here i d trains (omega arith)

pub minute_there : (i d j : ℕ) (trains : List Train) → j ≢ i → minute_at (delayed i d trains) j ≡ minute_at trains j
minute_there i d j [] ne = refl
minute_there zero d zero (t ∷ trains) ne = absurd (ne refl)
minute_there zero d (suc j) (t ∷ trains) ne = refl
minute_there (suc i) d zero (t ∷ trains) ne = refl
minute_there (suc i) d (suc j) (t ∷ trains) ne = minute_there i d j trains (λ e. ne (ap (λ (n : ℕ). suc n) e))

-- what is no minute is the same of each train
pub same_units : (i d j : ℕ) (trains : List Train) → (train_at (delayed i d trains) j).units ≡ (train_at trains j).units
same_units i d j [] = refl
same_units zero d zero (t ∷ trains) = refl
same_units zero d (suc j) (t ∷ trains) = refl
same_units (suc i) d zero (t ∷ trains) = refl
same_units (suc i) d (suc j) (t ∷ trains) = same_units i d j trains

-- no minutes late
again : (m n : ℕ) (t : Train) → m ≡ t.minute → record t { minute = m } ≡ t
again m n t e = ap (λ (k : ℕ). record t { minute = k }) e

pub none_late : (i : ℕ) (trains : List Train) → delayed i 0 trains ≡ trains
none_late i [] = refl
none_late zero (t ∷ trains) = ap (λ (u : Train). u ∷ trains) (again (t.minute + 0) 0 t (omega arith))
none_late (suc i) (t ∷ trains) = ap (λ (ts : List Train). t ∷ ts) (none_late i trains)
