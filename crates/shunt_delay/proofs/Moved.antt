-- Stays that come to timelines and go again.
use Rattle.std.specs.Prelude.{◌↔◌, All, IfSome, IfNone, OnSome, Option, Some, None, map}
use Rattle.std.proofs.Common.{◌≡◌, ◌≢◌, ◌⊎◌, inl, inr, ⊎_elim, ℕ, zero, suc, ◌+◌, ◌<◌, List, [], ◌∷◌, length, take, get_or, refl, sym, subst, ap, ◌∙◌, arith, IsPermutation}
use Rattle.std.proofs.lemmas.List.Sorted.{length_permutation}
use Rattle.shunt_lists.proofs.Members.{all_in, in_place, in_map, of_map, each_one as of_all, to_all}
use Rattle.shunt_lists.specs.defs.Members.{In}
use Rattle.shunt_base.specs.declared.keys.Stay.{Stay}
use Rattle.shunt_base.specs.defs.Keys.{IsWellFormed, AreStays}
use Rattle.shunt_stays.proofs.SortedEvents.{in_permuted, of_permuted, tracks_within, same_members}
use Rattle.shunt_stays.specs.defs.Run.{AreOnTracks, GoesThrough}
use Rattle.shunt_stays.proofs.Fewer.{part_through}
use Rattle.shunt_timeline.specs.defs.Holdings.{Holding}
use Rattle.shunt_delay.specs.defs.Kept.{later, IsApart, CanCome}
use Rattle.shunt_stays.proofs.Halves.{formed as member_formed}

-- ---- members of stays

-- the members up to one more
pub next_in : {X : Type 0} (xs : List X) (k : ℕ) (d t : X) → k < length xs → In t (take (suc k) xs) → In t (take k xs) ⊎ (t ≡ get_or xs k d)
next_in [] k d t lt i = absurd (omega arith)
next_in (x ∷ xs) zero d t lt (inl e) = inr e
next_in (x ∷ xs) zero d t lt (inr i) = absurd i
next_in (x ∷ xs) (suc k) d t lt (inl e) = inl (inl e)
next_in (x ∷ xs) (suc k) d t lt (inr i) = ⊎_elim (λ j. inl (inr j)) (λ e. inr e) (next_in xs k d t (omega arith) i)

pub in_next : {X : Type 0} (xs : List X) (k : ℕ) (d t : X) → k < length xs → In t (take k xs) ⊎ (t ≡ get_or xs k d) → In t (take (suc k) xs)
in_next [] k d t lt h = absurd (omega arith)
in_next (x ∷ xs) zero d t lt (inl i) = absurd i
in_next (x ∷ xs) zero d t lt (inr e) = inl e
in_next (x ∷ xs) (suc k) d t lt (inl (inl e)) = inl e
in_next (x ∷ xs) (suc k) d t lt (inl (inr i)) = inr (in_next xs k d t (omega arith) (inl i))
in_next (x ∷ xs) (suc k) d t lt (inr e) = inr (in_next xs k d t (omega arith) (inr e))

-- what is true of all up to one, and of it
pub all_next : {X : Type 0} (P : X → Type 0) (xs : List X) (k : ℕ) (d : X) → k < length xs → ((x : X) → In x (take k xs) → P x) → P (get_or xs k d) → (x : X)
    → In x (take (k + 1) xs) → P x
all_next {X} P xs k d lt before here x i =
    let next : k + 1 ≡ suc k = omega arith in
    ⊎_elim (λ j. before x j) (λ e. subst P (sym e) here) (next_in xs k d x lt (subst (λ (m : ℕ). In x (take m xs)) next i))

-- an earlier one has another id
pub ids_before : (f : Stay → Stay) (xs : List Stay) (k : ℕ) (d t : Stay) → AreStays (map f xs) → k < length xs → In t (take k xs) → (f t).id ≢ (f (get_or xs k d)).id
ids_before f [] k d t a lt i = absurd (omega arith)
ids_before f (x ∷ xs) zero d t a lt i = absurd i
ids_before f (x ∷ xs) (suc k) d t a lt (inl e) =
    λ same. all_in (λ u. (f x).id ≢ u.id) (map f xs) (f (get_or xs k d)) a.1 (in_map f xs (get_or xs k d) (in_place xs k d (omega arith)))
    (ap (λ (u : Stay). (f u).id) (sym e) ∙ same)
ids_before f (x ∷ xs) (suc k) d t a lt (inr i) = ids_before f xs k d t a.2 (omega arith) i

-- ---- stays come, one after the other

pub record HasCome (own : List Stay) (minutes k : ℕ) (before now : Holding) : Type 0 where
  pub members : (s : Stay) → In s now.stays ↔ In s (map (later minutes) (take k own)) ⊎ In s before.stays
  pub lengths : now.lengths ≡ before.lengths
  pub count : length now.stays ≡ length before.stays + k
  pub spare : now.spare + k ≡ before.spare

module _ (own : List Stay) (minutes k : ℕ) (before now : Holding) (x d : Stay) (can : CanCome own minutes before) (h : HasCome own minutes k before now) (lt : k < length own)
    (is : x ≡ get_or own k d) where
  there : In x own
  there = subst (λ (y : Stay). In y own) (sym is) (in_place own k d lt)

  pub begins : x.enter.minute < 2880
  begins = can.begin x there

  pub comes_formed : IsWellFormed (later minutes x)
  comes_formed = member_formed (map (later minutes) own) (later minutes x) can.formed (in_map (later minutes) own x there)

  pub comes_track : x.track.0 < length now.lengths
  comes_track = subst (λ (ls : List ℕ). x.track.0 < length ls) (sym h.lengths) (can.tracks x there)

  pub comes_new : All (λ s. s.id ≢ x.id) now.stays
  comes_new = to_all (λ s. s.id ≢ x.id) now.stays (λ s i. ⊎_elim
      (λ j. let r = of_map (later minutes) (take k own) s j in λ same.
      ids_before (later minutes) own k d r.0 can.formed lt r.1 (ap (λ (u : Stay). u.id) (sym r.2) ∙ same ∙ ap (λ (u : Stay). u.id) is))
      (λ j. can.new s j x there)
      ((h.members s).0 i))

  pub comes_few : length now.stays < 65536
  comes_few = let c = h.count in let m = can.most in omega arith

  pub comes_room : 0 < now.spare
  comes_room = let c = h.spare in let m = can.room in omega arith

  come_suc : (after : Holding) → IsPermutation (later minutes x ∷ now.stays) after.stays → length after.stays ≡ length now.stays + 1 → after.lengths ≡ now.lengths
      → after.spare + 1 ≡ now.spare → HasCome own minutes (suc k) before after
  come_suc after p count lengths spare = record {
    members = λ s. (
      λ i. ⊎_elim
          (λ e. inl (subst (λ (y : Stay). In y (map (later minutes) (take (suc k) own))) (sym e) (in_map (later minutes) (take (suc k) own) x (in_next own k d x lt (inr is)))))
          (λ j. ⊎_elim
          (λ m. let r = of_map (later minutes) (take k own) s m in inl (subst (λ (y : Stay). In y (map (later minutes) (take (suc k) own))) (sym r.2)
          (in_map (later minutes) (take (suc k) own) r.0 (in_next own k d r.0 lt (inl r.1)))))
          (λ o. inr o)
          ((h.members s).0 j))
          (of_permuted (later minutes x ∷ now.stays) after.stays s p i),
      λ i. in_permuted (later minutes x ∷ now.stays) after.stays s p (⊎_elim
          (λ m. let r = of_map (later minutes) (take (suc k) own) s m in ⊎_elim
          (λ j. inr ((h.members s).1 (inl (subst (λ (y : Stay). In y (map (later minutes) (take k own))) (sym r.2) (in_map (later minutes) (take k own) r.0 j)))))
          (λ e. inl (r.2 ∙ ap (later minutes) (e ∙ sym is)))
          (next_in own k d r.0 lt r.1))
          (λ o. inr ((h.members s).1 (inr o)))
          i),
    );
    lengths = lengths ∙ h.lengths;
    count = let c = h.count in omega arith;
    spare = let c = h.spare in omega arith;
  }

  pub come_next : (after : Holding) → IsPermutation (later minutes x ∷ now.stays) after.stays → length after.stays ≡ length now.stays + 1 → after.lengths ≡ now.lengths
      → after.spare + 1 ≡ now.spare → HasCome own minutes (k + 1) before after
  come_next after p count lengths spare = let next : suc k ≡ k + 1 = omega arith in subst (λ (m : ℕ). HasCome own minutes m before after) next
      (come_suc after p count lengths spare)

-- ---- stays go, one after the other

pub record HasGone (own : List Stay) (k : ℕ) (before now : Holding) : Type 0 where
  pub members : (s : Stay) → In s now.stays ↔ In s before.stays × IsApart (take k own) s
  pub lengths : now.lengths ≡ before.lengths
  pub room : now.spare + length now.stays ≡ before.spare + length before.stays

pub record IsWithout (id : ℕ) (before after : Holding) : Type 0 where
  pub members : (s : Stay) → In s after.stays ↔ In s before.stays × (s.id ≢ id)
  pub room : after.spare + length after.stays ≡ before.spare + length before.stays

pub removed : (id : ℕ) (o : Option Stay) (before after : Holding)
    → IfSome o (λ stay. (stay.id ≡ id) × IsPermutation (stay ∷ after.stays) before.stays × (after.spare ≡ before.spare + 1))
    → (o ≡ None ↔ All (λ s. s.id ≢ id) before.stays) → All (λ s. s.id ≢ id) after.stays
    → OnSome o (length after.stays + 1 ≡ length before.stays) → IfNone o (after ≡ before) → IsWithout id before after
removed id None before after some none gone count same = subst (IsWithout id before) (sym same) (record {
  members = λ s. (λ i. (i, of_all (λ u. u.id ≢ id) before.stays s (none.0 refl) i), λ h. h.0);
  room = refl;
})
removed id (Some stay) before after some none gone count same = record {
  members = λ s. (
    λ i. (in_permuted (stay ∷ after.stays) before.stays s some.1 (inr i), of_all (λ u. u.id ≢ id) after.stays s gone i),
    λ h. ⊎_elim (λ e. absurd (h.1 (ap (λ (u : Stay). u.id) e ∙ some.0))) (λ j. j) (of_permuted (stay ∷ after.stays) before.stays s some.1 h.0),
  );
  room = let c = some.2 in omega (arith, c, count);
}

gone_suc : (own : List Stay) (k : ℕ) (before now after : Holding) (x d : Stay) → HasGone own k before now → k < length own → x ≡ get_or own k d → IsWithout x.id now after
    → after.lengths ≡ now.lengths → HasGone own (suc k) before after
gone_suc own k before now after x d h lt is w lengths = record {
  members = λ s. (
    λ i. let r = (w.members s).0 i in let q = (h.members s).0 r.0 in
        (q.0, λ t j. ⊎_elim (λ m. q.1 t m) (λ e same. r.1 (same ∙ ap (λ (u : Stay). u.id) (e ∙ sym is))) (next_in own k d t lt j)),
    λ r. (w.members s).1 ((h.members s).1 (r.0, λ t j. r.1 t (in_next own k d t lt (inl j))), r.1 x (in_next own k d x lt (inr is))),
  );
  lengths = lengths ∙ h.lengths;
  room = let a = w.room in let b = h.room in omega arith;
}

pub gone_next : (own : List Stay) (k : ℕ) (before now after : Holding) (x d : Stay) → HasGone own k before now → k < length own → x ≡ get_or own k d → IsWithout x.id now after
    → after.lengths ≡ now.lengths → HasGone own (k + 1) before after
gone_next own k before now after x d h lt is w lengths = let next : suc k ≡ k + 1 = omega arith in subst (λ (m : ℕ). HasGone own m before after) next
    (gone_suc own k before now after x d h lt is w lengths)

-- ---- they come and go again

pub back_again : (own : List Stay) (minutes : ℕ) (before with_own after : Holding) → CanCome own minutes before
    → ((s : Stay) → In s with_own.stays ↔ In s (map (later minutes) own) ⊎ In s before.stays)
    → ((s : Stay) → In s after.stays ↔ In s with_own.stays × IsApart own s) → (s : Stay) → In s after.stays ↔ In s before.stays
back_again own minutes before with_own after can come go s = (
  λ i. let r = (go s).0 i in ⊎_elim
      (λ m. let q = of_map (later minutes) own s m in absurd (r.1 q.0 q.1 (ap (λ (u : Stay). u.id) q.2)))
      (λ j. j)
      ((come s).0 r.0),
  λ j. (go s).1 ((come s).1 (inr j), can.new s j),
)

-- where the run of all of them goes through, so does that of any list of the same stays
pub runs_through : (own : List Stay) (minutes : ℕ) (before with_own : Holding) (stays : List Stay)
    → ((s : Stay) → In s with_own.stays ↔ In s (map (later minutes) own) ⊎ In s before.stays) → with_own.lengths ≡ before.lengths
    → AreStays with_own.stays → AreOnTracks with_own.lengths with_own.stays → GoesThrough with_own.lengths with_own.stays
    → AreStays stays → ((s : Stay) → In s stays ↔ In s (map (later minutes) own) ⊎ In s before.stays) → GoesThrough before.lengths stays
runs_through own minutes before with_own stays come lengths formed on go listed same =
    let within : (s : Stay) → In s stays → In s with_own.stays = λ s i. (come s).1 ((same s).0 i) in
    subst (λ (ls : List ℕ). GoesThrough ls stays) lengths (part_through with_own.lengths with_own.stays stays formed on listed
    (tracks_within with_own.lengths with_own.stays stays on within) within go)

-- ---- stays of the same members are as many

pub as_many : (xs ys : List Stay) → AreStays xs → AreStays ys → ((s : Stay) → In s xs ↔ In s ys) → length xs ≡ length ys
as_many xs ys a b same = omega (arith, length_permutation xs ys (same_members xs ys a b same))
