-- Reading a file piece by piece.
use Rattle.std.proofs.Common.{◌≡◌, ℕ, ◌+◌, ◌<◌, ◌≤◌, List, ◌++◌, length, take, drop, Option, Some, None, sym, ap, subst, ◌∙◌, arith, length-append, length-take, inl, inr}
use Rattle.std.specs.Prelude.{IfSome, ◌^◌, ◌-◌, ◌⊎◌}
use Rattle.std.proofs.lemmas.Bool.{cases_lt}
use Rattle.std.proofs.Math.Seq.{take-add}
use Rattle.std.proofs.lemmas.List.{take-append-le}
use Rattle.shunt_store.specs.defs.Causes.{counted_on, RoseBy}
use Rattle.shunt_store.specs.defs.Files.{Files, HandsOut, Stage, content, name_of}

-- the bytes are the file's first
abbrev pub IsFront : List ℕ → List ℕ → Type 0
IsFront bytes file = (bytes ≡ take (length bytes) file) × (length bytes ≤ length file)

front_more : (file bytes buffer rest new : List ℕ) (taken n : ℕ) → IsFront bytes file → HandsOut file taken n buffer → taken ≡ length bytes → n ≤ length buffer
    → new ≡ bytes ++ take n (buffer ++ rest) → IsFront new file
front_more file bytes buffer rest new taken n front out is within made =
    let piece : take n (buffer ++ rest) ≡ take n (drop (length bytes) file) = take-append-le n buffer rest within ∙ out.bytes ∙ ap (λ k. take n (drop k file)) is in
    let long : length new ≡ length bytes + n = ap length made ∙ length-append bytes (take n (buffer ++ rest))
    ∙ omega (arith, length-take n (buffer ++ rest), length-append buffer rest) in (
      made ∙ ap (λ p. bytes ++ p) piece ∙ ap (λ p. p ++ take n (drop (length bytes) file)) front.0 ∙ sym (take-add (length bytes) n file) ∙ ap (λ k. take k file) (sym long),
      omega (arith, long, out.within, is),
    )

-- the same of a file that may be told, seen before and after a call that left the files as they were
pub told_more : (first now : Option Files) (stage stage_now : Stage) (bytes buffer rest new : List ℕ) (taken n : ℕ)
    → IfSome first (λ files. IsFront bytes (content files (name_of stage))) → now ≡ first → stage_now ≡ stage
    → IfSome now (λ files. HandsOut (content files (name_of stage_now)) taken n buffer)
    → taken ≡ length bytes → n ≤ length buffer → new ≡ bytes ++ take n (buffer ++ rest)
    → IfSome first (λ files. IsFront new (content files (name_of stage)))
told_more first now stage stage_now bytes buffer rest new taken n front same same_stage out is within made =
    at first front (subst (λ s. IfSome first (λ files. HandsOut (content files (name_of s)) taken n buffer)) same_stage
    (subst (λ o. IfSome o (λ files. HandsOut (content files (name_of stage_now)) taken n buffer)) same out))
  where
    at : (o : Option Files) → IfSome o (λ files. IsFront bytes (content files (name_of stage))) → IfSome o (λ files. HandsOut (content files (name_of stage)) taken n buffer)
        → IfSome o (λ files. IsFront new (content files (name_of stage)))
    at None front out = tt
    at (Some files) front out = front_more (content files (name_of stage)) bytes buffer rest new taken n front out is within made

-- how many bytes were handed out in all, after one more piece
more_bytes : (bytes buffer rest new : List ℕ) (n : ℕ) → n ≤ length buffer → new ≡ bytes ++ take n (buffer ++ rest) → length new ≡ length bytes + n
more_bytes bytes buffer rest new n within made = ap length made ∙ length-append bytes (take n (buffer ++ rest))
    ∙ omega (arith, length-take n (buffer ++ rest), length-append buffer rest)

pub at_most : (start now next n : ℕ) (bytes buffer rest new : List ℕ) → now ≤ start + length bytes → next ≡ counted_on now n → n ≤ length buffer
    → new ≡ bytes ++ take n (buffer ++ rest) → next ≤ start + length new
at_most start now next n bytes buffer rest new most is within made = omega (arith, most, is, more_bytes bytes buffer rest new n within made)

rose_by : (start now next n few many : ℕ) → start + few ≤ now → next ≡ counted_on now n → many ≡ few + n → (2 ^ 64 - 1 < now + n) ⊎ (now + n ≤ 2 ^ 64 - 1) → RoseBy many start next
rose_by start now next n few many le is sum (inl over) = inr (omega (arith, le, is, sum, over))
rose_by start now next n few many le is sum (inr fits) = inl (omega (arith, le, is, sum, fits))

pub at_least : (start now next n : ℕ) (bytes buffer rest new : List ℕ) → RoseBy (length bytes) start now → next ≡ counted_on now n → n ≤ length buffer
    → new ≡ bytes ++ take n (buffer ++ rest) → RoseBy (length new) start next
at_least start now next n bytes buffer rest new (inl le) is within made = rose_by start now next n (length bytes) (length new) le is
    (more_bytes bytes buffer rest new n within made) (cases_lt (2 ^ 64 - 1) (now + n))
at_least start now next n bytes buffer rest new (inr last) is within made = inr (omega (arith, last, is))
