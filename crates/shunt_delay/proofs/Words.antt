-- The delays of a plan in words.
use Rattle.std.specs.Prelude.{◌↔◌, IsTrue, All, Option, Some, None, map, option_map, ◌==◌, if◌then◌else◌}
use Rattle.std.specs.List.{filter}
use Rattle.std.proofs.Common.{◌≡◌, ◌⊎◌, inl, inr, ⊎_elim, ℕ, suc, ◌+◌, ◌≤◌, true, false, List, [], ◌∷◌, refl, sym, subst, ap, ◌∙◌, arith}
use Rattle.std.proofs.lemmas.Bool.{cases_Bool, cases_lt, false≢true, cond-true, cond-false, ne_eqb, eq-eqb}
use Rattle.shunt_lists.proofs.Members.{all_in, filter_yes, filter_no, filter_from, filter_to}
use Rattle.shunt_lists.specs.defs.Members.{In}
use Rattle.shunt_base.specs.declared.ids.ArrId.{ArrId}
use Rattle.shunt_base.specs.defs.Keys.{AreStays}
use Rattle.shunt_stays.specs.defs.Run.{AreOnTracks}
use Rattle.shunt_instance.specs.defs.Instance.{Night, IsInstance}
use Rattle.shunt_blocks.specs.declared.records.Block.{Block}
use Rattle.shunt_blocks.specs.defs.Shapes.{shape_of, AreRunsWithin}
use Rattle.shunt_blocks.specs.defs.Stays.{is_too_soon, stay_of}
use Rattle.shunt_blocks.specs.defs.Lists.{AreInRange, track_lengths, stays_of}
use Rattle.shunt_audit.specs.declared.types.Finding.{Finding}
use Rattle.shunt_audit.specs.defs.Findings.{IsFinding, FindingBefore}
use Rattle.shunt_audit.specs.defs.Listed.{findings_in}
use Rattle.shunt_audit.proofs.Order.{Rising, of_order}
use Rattle.shunt_audit.proofs.Exactly.{exactly, ordered}
use Rattle.shunt_delay.specs.declared.records.Delay.{Delay}
use Rattle.shunt_delay.specs.declared.records.Stop.{Stop}
use Rattle.shunt_delay.specs.declared.records.Stop.TheVariants.{Limit, TooSoon, Crossing, TooLong}
use Rattle.shunt_delay.specs.defs.Late.{late}
use Rattle.shunt_delay.specs.defs.Delays.{StaysFeasible, is_of_delay, delay_findings, first, told, Bears, IsDelay, AreDelays}
use Rattle.shunt_delay.specs.defs.Kept.{late_by, is_too_soon_by, later}
use Rattle.shunt_delay.proofs.Lately.{Units, soon_late, stay_late, in_range_late}
use Rattle.shunt_delay.proofs.Formed.{Laws, stays_late}
use Rattle.shunt_delay.proofs.Found.{none_where, where_none, first_none}

pub stay_in_words : Units → (i d : ℕ) (night : Night) (b : Block) → AreRunsWithin night (shape_of b) → is_too_soon (late i d night) (shape_of b) ≡ false
    → stay_of (late i d night) b ≡ option_map (later (late_by i d b)) (stay_of night b)
stay_in_words units i d night b r late_enough = stay_late units i d night b r
    ∙ cond-false (is_too_soon_by night (late_by i d b) (shape_of b)) None (option_map (later (late_by i d b)) (stay_of night b)) (sym (soon_late units i d night b r) ∙ late_enough)

pub found_exactly : (night : Night) (blocks : List Block) (f : Finding) → In f (delay_findings night blocks) ↔ IsFinding night blocks f × IsTrue (is_of_delay f)
found_exactly night blocks f = (
  λ i. let r = filter_from is_of_delay (findings_in night blocks) f i in ((exactly night blocks f).0 r.0, r.1),
  λ h. filter_to is_of_delay (findings_in night blocks) f ((exactly night blocks f).1 h.0) h.1,
)

some_same : (f g : Finding) → Some f ≡ Some g → f ≡ g
some_same f g e = cc

least_of : (fs : List Finding) (f g : Finding) → Rising fs → first (filter is_of_delay fs) ≡ Some f → In g fs → is_of_delay g ≡ true → (g ≡ f) ⊎ FindingBefore f g
least_of [] f g r e i t = absurd i
least_of (x ∷ fs) f g r e i t = elim (cases_Bool (is_of_delay x)) [
  | inl held ↦ let is : x ≡ f = some_same x f (sym (ap first (filter_yes is_of_delay x fs held)) ∙ e) in
      subst (λ (y : Finding). (g ≡ y) ⊎ FindingBefore y g) is (⊎_elim (λ same. inl same) (λ j. inr (all_in (FindingBefore x) fs g r.0 j)) i)
  | inr no_more ↦ ⊎_elim
      (λ same. absurd (false≢true (sym no_more ∙ ap is_of_delay (sym same) ∙ t)))
      (λ j. least_of fs f g r.1 (sym (ap first (filter_no is_of_delay x fs no_more)) ∙ e) j t)
      i
]

pub found_least : (night : Night) (blocks : List Block) (f g : Finding) → AreInRange night blocks → first (delay_findings night blocks) ≡ Some f
    → In g (delay_findings night blocks) → (g ≡ f) ⊎ FindingBefore f g
found_least night blocks f g h e i = let r = filter_from is_of_delay (findings_in night blocks) g i in least_of (findings_in night blocks) f g
    (of_order (findings_in night blocks) (ordered night blocks h)) e r.0 r.1

module _ (laws : Laws) (i d : ℕ) (night : Night) (blocks : List Block) (n : IsInstance night) (h : AreInRange night blocks) (few : d ≤ 120) where
  formed : AreStays (stays_of (late i d night) blocks)
  formed = stays_late laws i d night blocks n h few

  tracks : AreOnTracks (track_lengths night.station) (stays_of (late i d night) blocks)
  tracks = laws.tracks (late i d night) blocks (laws.can_stand (late i d night) blocks (in_range_late i d night blocks h))

  pub none_found : (delay_findings (late i d night) blocks ≡ []) ↔ StaysFeasible (late i d night) blocks
  none_found = (λ e. where_none (late i d night) blocks formed tracks e, λ f. none_where (late i d night) blocks formed tracks f)

-- ---- one list

told_same : (a b : Stop) → told a ≡ told b → a ≡ b
told_same Limit Limit e = refl
told_same Limit (TooSoon id) e = absurd (cc)
told_same Limit (Crossing x y) e = absurd (cc)
told_same Limit (TooLong id load) e = absurd (cc)
told_same (TooSoon id) Limit e = absurd (cc)
told_same (TooSoon id) (TooSoon other) e = cc
told_same (TooSoon id) (Crossing x y) e = absurd (cc)
told_same (TooSoon id) (TooLong other load) e = absurd (cc)
told_same (Crossing b c) Limit e = absurd (cc)
told_same (Crossing b c) (TooSoon id) e = absurd (cc)
told_same (Crossing b c) (Crossing x y) e = cc
told_same (Crossing b c) (TooLong id load) e = absurd (cc)
told_same (TooLong id load) Limit e = absurd (cc)
told_same (TooLong id load) (TooSoon other) e = absurd (cc)
told_same (TooLong id load) (Crossing x y) e = absurd (cc)
told_same (TooLong id load) (TooLong other more) e = cc

same_fields : (t u : ArrId) (m k : ℕ) (a b : Stop) → t.0 ≡ u.0 → m ≡ k → a ≡ b → ◌≡◌ {A = Delay} (record { train = t; minutes = m; stop = a })
    (record { train = u; minutes = k; stop = b })
same_fields t u m k a b e f g = let train : t ≡ u = ap (λ (x : ℕ). record { 0 = x }) e in cc

abbrev stop_at : Night → List Block → ℕ → ℕ → Option Finding
stop_at night blocks i m = if m == 120 then None else first (delay_findings (late i (m + 1) night) blocks)

one_delay : (night : Night) (blocks : List Block) (x y : Delay) → x.train.0 ≡ y.train.0 → IsDelay night blocks x → IsDelay night blocks y → x ≡ y
one_delay night blocks x y e p q =
    let le = p.greatest y.minutes (subst (λ (i : ℕ). Bears night blocks i y.minutes) (sym e) q.bears) in
    let ge = q.greatest x.minutes (subst (λ (i : ℕ). Bears night blocks i x.minutes) e p.bears) in
    let minutes : x.minutes ≡ y.minutes = omega arith in
    let stops : told x.stop ≡ told y.stop = p.stop ∙ ap (λ (i : ℕ). stop_at night blocks i x.minutes) e ∙ ap (stop_at night blocks y.train.0) minutes ∙ sym q.stop in
    same_fields x.train y.train x.minutes y.minutes x.stop y.stop e minutes (told_same x.stop y.stop stops)

head_same : (x y : ℕ) (xs ys : List ℕ) → x ∷ xs ≡ y ∷ ys → (x ≡ y) × (xs ≡ ys)
head_same x y xs ys e = (cc, cc)

one_list : (night : Night) (blocks : List Block) (xs ys : List Delay) → map (λ (d : Delay). d.train.0) xs ≡ map (λ (d : Delay). d.train.0) ys → All (IsDelay night blocks) xs
    → All (IsDelay night blocks) ys → xs ≡ ys
one_list night blocks [] [] e p q = refl
one_list night blocks [] (y ∷ ys) e p q = absurd (cc)
one_list night blocks (x ∷ xs) [] e p q = absurd (cc)
one_list night blocks (x ∷ xs) (y ∷ ys) e p q =
    let r = head_same x.train.0 y.train.0 (map (λ (d : Delay). d.train.0) xs) (map (λ (d : Delay). d.train.0) ys) e in
    let first_same : x ≡ y = one_delay night blocks x y r.0 (p 0 x (omega arith)) (q 0 y (omega arith)) in
    let rest_same : xs ≡ ys = one_list night blocks xs ys r.1 (λ k d lt. p (suc k) d (omega arith)) (λ k d lt. q (suc k) d (omega arith)) in
    cc

pub delays_one : (night : Night) (blocks : List Block) (xs ys : List Delay) → AreDelays night blocks xs → AreDelays night blocks ys → xs ≡ ys
delays_one night blocks xs ys p q = one_list night blocks xs ys (p.trains ∙ sym q.trains) p.each q.each

pub limit_at : Laws → (night : Night) (blocks : List Block) (x : Delay) → IsInstance night → AreInRange night blocks → IsDelay night blocks x → (x.stop ≡ Limit) ↔ (x.minutes ≡ 120)
limit_at laws night blocks x n h p = (
  λ e. ⊎_elim
      (λ lt.
      let none : first (delay_findings (late x.train.0 (x.minutes + 1) night) blocks)
      ≡ None = sym (p.stop ∙ cond-false (x.minutes == 120) None (first (delay_findings (late x.train.0 (x.minutes + 1) night) blocks))
      (ne_eqb x.minutes 120 (λ is. omega arith))) ∙ ap told e in
      let more = (none_found laws x.train.0 (x.minutes + 1) night blocks n h (omega arith)).0 (first_none (delay_findings (late x.train.0 (x.minutes + 1) night) blocks) none) in
      let le : x.minutes + 1 ≤ x.minutes = p.greatest (x.minutes + 1) (record {
        most = omega arith;
        each = λ k below. ⊎_elim (λ less. p.bears.each k (omega arith))
            (λ ge. let is : x.minutes + 1 ≡ k = omega arith in subst (λ (j : ℕ). StaysFeasible (late x.train.0 j night) blocks) is more) (cases_lt k (x.minutes + 1));
      }) in
      absurd (omega arith))
      (λ ge. let m = p.bears.most in omega arith)
      (cases_lt x.minutes 120),
  λ e. told_same x.stop Limit (p.stop ∙ cond-true (x.minutes == 120) None (first (delay_findings (late x.train.0 (x.minutes + 1) night) blocks)) (eq-eqb x.minutes 120 e)),
)
