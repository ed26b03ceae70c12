-- How far the marks of bars go.
use Rattle.std.proofs.Common.{◌≡◌, ℕ, suc, Bool, true, false, cond, ◌+◌, ◌*◌, ◌<◌, ◌≤◌, ◌==◌, decimal, codes, List, [], ◌∷◌, length, filter, refl, ap, ◌∙◌, arith}
use Rattle.std.proofs.lemmas.List.{length-append}
use Rattle.std.proofs.lemmas.Bool.Decides.{nat_tests}
use Rattle.std.proofs.lemmas.Fmt.{length-decimal-le}
use Rattle.std.proofs.lemmas.List.Concat.{flat_map-cons}
use Rattle.shunt_instance.specs.defs.Instance.{Night}
use Rattle.shunt_audit.specs.declared.types.Finding.{Finding}
use Rattle.shunt_picture.specs.declared.rows.StaySeat.{StaySeat}
use Rattle.shunt_picture.specs.defs.Words.{fault_text, faults_words}
use Rattle.shunt_picture.specs.defs.Told.{is_marked, faults_of}
use Rattle.shunt_picture.specs.defs.Rows.{HaveRoom}
use Rattle.shunt_picture.specs.defs.Lanes.{bar_of, marks_end, AreMarksApart}

longer : (x : ℕ) (xs : List ℕ) → length (faults_words (x ∷ xs)) ≡ length (fault_text x) + length (faults_words xs)
longer x xs = ap (λ (l : List ℕ). length l) (flat_map-cons fault_text x xs) ∙ length-append (fault_text x) (faults_words xs)

put : (b : Bool) (x : ℕ) (ys xs : List ℕ) → length (faults_words ys) ≤ length (faults_words xs) → length (faults_words (cond b (x ∷ ys) ys)) ≤ length (faults_words (x ∷ xs))
put true x ys xs le =
    let one = longer x ys in
    let other = longer x xs in
    omega (arith, le, one, other)
put false x ys xs le =
    let other = longer x xs in
    omega (arith, le, other)

-- fewer findings take fewer bytes
shorter : (p : ℕ → Bool) (xs : List ℕ) → length (faults_words (filter p xs)) ≤ length (faults_words xs)
shorter p [] = omega arith
shorter p (x ∷ xs) = put (p x) x (filter p xs) xs (shorter p xs)

ended : (xs : List ℕ) → marks_end xs ≤ 9 + 7 * length (faults_words xs)
ended [] = omega arith
ended (x ∷ xs) = omega arith

-- one more takes three bytes at most
one_more_fault : (x : ℕ) (xs : List ℕ) (n : ℕ) → x < 100 → length (faults_words xs) ≤ n → length (faults_words (x ∷ xs)) ≤ n + 3
one_more_fault x xs n small le =
    let digits : length (decimal x) ≤ 2 = length-decimal-le 2 x (omega arith) (omega (arith, small)) (omega (arith, small)) in
    let here = length-append (decimal x) (codes " ") in
    let both = longer x xs in
    omega (arith, le, digits, here, both)

six : length (faults_words (5 ∷ 6 ∷ 7 ∷ 8 ∷ 9 ∷ 10 ∷ [])) ≤ 18
six =
    one_more_fault 5 (6 ∷ 7 ∷ 8 ∷ 9 ∷ 10 ∷ []) 15 (omega arith) (one_more_fault 6 (7 ∷ 8 ∷ 9 ∷ 10 ∷ []) 12 (omega arith) (one_more_fault 7 (8 ∷ 9 ∷ 10 ∷ []) 9 (omega arith)
    (one_more_fault 8 (9 ∷ 10 ∷ []) 6 (omega arith) (one_more_fault 9 (10 ∷ []) 3 (omega arith) (one_more_fault 10 [] 0 (omega arith) (omega arith))))))

-- the marks of a bar take 140 pixels at most
marks_short : (findings : List Finding) (id : ℕ) → marks_end (faults_of findings id) ≤ 140
marks_short findings id =
    let most : length (faults_words (faults_of findings id)) ≤ length (faults_words (5 ∷ 6 ∷ 7 ∷ 8 ∷ 9 ∷ 10 ∷ [])) = shorter (is_marked findings id)
    (5 ∷ 6 ∷ 7 ∷ 8 ∷ 9 ∷ 10 ∷ []) in
    let all = six in
    let end = ended (faults_of findings id) in
    omega (arith, most, all, end)

some_findings : (n : ℕ) → (suc n == 0) ≡ false
some_findings n = grind (arith, nat_tests)

-- and none where there are no findings
marks_none : (id : ℕ) → marks_end (faults_of [] id) ≡ 0
marks_none id = refl

pub marks_of : (night : Night) (from : ℕ) (findings : List Finding) (s t : StaySeat) (o : Bool) → o ≡ (length findings == 0) → HaveRoom from o s t
    → AreMarksApart from (bar_of night findings s) (bar_of night findings t)
marks_of night from [] s t o is room = λ same.
    let first = room.first same in
    let none = marks_none s.standing.block.id in
    omega (arith, first, none)
marks_of night from (f ∷ findings) s t o is room = λ same.
    let later = room.marks (is ∙ some_findings (length findings)) same in
    let short = marks_short (f ∷ findings) s.standing.block.id in
    omega (arith, later, short)
