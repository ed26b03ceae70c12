-- Lists that are made number by number.
use Rattle.std.proofs.Common.{◌≡◌, ℕ, zero, suc, ◌+◌, Bool, true, false, cond, List, [], ◌∷◌, ◌++◌, map, filter, refl, sym, ap, ◌∙◌, arith}
use Rattle.std.specs.List.{flat_map, range_with_len}
use Rattle.shunt_base.specs.declared.ids.TrackId.{TrackId}
use Rattle.shunt_picture.specs.declared.records.Lane.{Lane}
use Rattle.std.proofs.lemmas.List.{map-append, append-nil, append_assoc}
use Rattle.std.proofs.lemmas.List.Elements.{filter-append}
use Rattle.std.proofs.lemmas.List.FromFn.{map-range_with_len_more}
use Rattle.std.proofs.lemmas.List.Concat.{flat_map-append, flat_map-cons}

-- one more number
pub range_more : (a n j : ℕ) → a + n ≡ j → range_with_len a (n + 1) ≡ range_with_len a n ++ j ∷ []
range_more a zero j e = let same : a ≡ j = omega (arith, e) in ap (λ (m : ℕ). m ∷ []) same
range_more a (suc n) j e =
    let same : suc n + 1 ≡ suc (n + 1) = omega arith in
    ap (range_with_len a) same ∙ ap (λ (l : List ℕ). a ∷ l) (range_more (a + 1) n j (omega (arith, e)))

-- and of texts
pub texts_more : (f : ℕ → List ℕ) (a n m j : ℕ) (old text more : List ℕ) → a + n ≡ j → m ≡ n + 1 → text ≡ old ++ flat_map f (range_with_len a n) → more ≡ text ++ f j
    → more ≡ old ++ flat_map f (range_with_len a m)
texts_more f a n m j old text more e s done push =
    push ∙ ap (λ (t : List ℕ). t ++ f j) done ∙ append_assoc old (flat_map f (range_with_len a n)) (f j)
    ∙ ap (λ (t : List ℕ). old ++ t)
    (ap (λ (t : List ℕ). flat_map f (range_with_len a n) ++ t) (sym (flat_map-cons f j [] ∙ append-nil (f j)))
    ∙ sym (flat_map-append f (range_with_len a n) (j ∷ []))
    ∙ ap (flat_map f) (sym (range_more a n j e))
    ∙ ap (λ k. flat_map f (range_with_len a k)) (sym s))

-- the same where the test says so
map_cond : {X : Type 0} (f : ℕ → X) (b : Bool) (j : ℕ) → map f (cond b (j ∷ []) []) ≡ cond b (f j ∷ []) []
map_cond f true j = refl
map_cond f false j = refl

pub noted_more : (p : ℕ → Bool) (a n m j : ℕ) (xs more : List ℕ) → a + n ≡ j → m ≡ n + 1 → xs ≡ filter p (range_with_len a n) → more ≡ xs ++ cond (p j) (j ∷ []) []
    → more ≡ filter p (range_with_len a m)
noted_more p a n m j xs more e s done push =
    push ∙ ap (λ (l : List ℕ). l ++ cond (p j) (j ∷ []) []) done
    ∙ sym (filter-append p (range_with_len a n) (j ∷ []))
    ∙ ap (filter p) (sym (range_more a n j e))
    ∙ ap (λ k. filter p (range_with_len a k)) (sym s)

pub mapped_noted : {X : Type 0} (f : ℕ → X) (p : ℕ → Bool) (a n m j : ℕ) (xs more : List X) → a + n ≡ j → m ≡ n + 1 → xs ≡ map f (filter p (range_with_len a n))
    → more ≡ xs ++ cond (p j) (f j ∷ []) [] → more ≡ map f (filter p (range_with_len a m))
mapped_noted {X} f p a n m j xs more e s done push =
    push ∙ ap (λ (l : List X). l ++ cond (p j) (f j ∷ []) []) done
    ∙ ap (λ (l : List X). map f (filter p (range_with_len a n)) ++ l) (sym (map_cond f (p j) j))
    ∙ sym (map-append f (filter p (range_with_len a n)) (cond (p j) (j ∷ []) []))
    ∙ ap (map f) (noted_more p a n m j (filter p (range_with_len a n)) (filter p (range_with_len a n) ++ cond (p j) (j ∷ []) []) e s refl refl)

-- one more lane
pub tracks_more : (lanes more : List Lane) (lane : Lane) (k : ℕ) → map (λ l. l.track.0) lanes ≡ range_with_len 0 k → lane.track ≡ record { 0 = k } → more ≡ lanes ++ lane ∷ []
    → map (λ l. l.track.0) more ≡ range_with_len 0 (k + 1)
tracks_more lanes more lane k done is push =
    ap (map (λ (l : Lane). l.track.0)) push
    ∙ map-append (λ (l : Lane). l.track.0) lanes (lane ∷ [])
    ∙ ap (λ (l : List ℕ). l ++ lane.track.0 ∷ []) done
    ∙ ap (λ (t : TrackId). range_with_len 0 k ++ t.0 ∷ []) is
    ∙ sym (range_more 0 k k (omega arith))

-- one more of those that are made of the numbers in turn
pub pushed_next : {X : Type 0} (f : ℕ → X) (k : ℕ) (xs more : List X) (x : X) → x ≡ f k → xs ≡ map f (range_with_len 0 k) → more ≡ xs ++ x ∷ []
    → more ≡ map f (range_with_len 0 (k + 1))
pushed_next {X} f k xs more x is done push =
    push ∙ ap (λ (l : List X). l ++ x ∷ []) done
    ∙ ap (λ (y : X). map f (range_with_len 0 k) ++ y ∷ []) is
    ∙ sym (map-range_with_len_more f 0 k k (omega arith))
