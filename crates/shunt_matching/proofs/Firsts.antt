-- A first shortage is the only one, and comes exactly when the counts fail.
use Rattle.std.proofs.Common.{◌≡◌, ⊎_elim, ℕ, ◌<◌, ◌≤◌, Bool, false, List, length, sym, ap, ◌∙◌, subst, arith}
use Rattle.std.proofs.lemmas.Bool.{cases_lt, cases_order, and_left, and_right, ne_eqb}
use Rattle.shunt_lists.proofs.CountsBelow.{count_below-none}
use Rattle.shunt_base.specs.declared.ids.TypeId.{TypeId}
use Rattle.shunt_instance.specs.defs.Matching.{Entry, entry_at}
use Rattle.shunt_matching.specs.declared.types.Shortage.{Shortage}
use Rattle.shunt_matching.specs.declared.types.Shortage.TheVariants.{Balance, ByMinute}
use Rattle.shunt_matching.specs.defs.Counts.{is_of_kind, is_by_minute, count_of_kind, count_by_minute, IsBalanced, HasKindsBelow}
use Rattle.shunt_matching.specs.defs.Shortages.{IsEven, IsEnoughBy, IsFirstUneven, IsFirstLate, IsFirstShortage}

-- ---- from the types that are there to all numbers

none_of_kind : (kinds : ℕ) (es : List Entry) (mask : List Bool) (k i : ℕ) → HasKindsBelow kinds es → kinds ≤ k → i < length es → is_of_kind es mask k i ≡ false
none_of_kind kinds es mask k i below le lt = and_right _ _ (ne_eqb (entry_at es i).kind k (λ e. let b = below i lt in omega arith))

count_past : (kinds : ℕ) (es : List Entry) (mask : List Bool) (k : ℕ) → HasKindsBelow kinds es → kinds ≤ k → count_of_kind es mask k ≡ 0
count_past kinds es mask k below le = count_below-none (length es) (is_of_kind es mask k) (λ i lt. none_of_kind kinds es mask k i below le lt)

by_past : (kinds : ℕ) (es : List Entry) (mask : List Bool) (k m : ℕ) → HasKindsBelow kinds es → kinds ≤ k → count_by_minute es mask k m ≡ 0
by_past kinds es mask k m below le = count_below-none (length es) (is_by_minute es mask k m) (λ i lt. and_left _ _ (none_of_kind kinds es mask k i below le lt))

pub all_even : (kinds : ℕ) (us vs : List Entry) (um vm : List Bool) → HasKindsBelow kinds us → HasKindsBelow kinds vs
    → ((k : ℕ) → k < kinds → IsEven us vs um vm k) → (k : ℕ) → IsEven us vs um vm k
all_even kinds us vs um vm a b even k = ⊎_elim (λ lt. even k lt) (λ le. count_past kinds us um k a le ∙ sym (count_past kinds vs vm k b le)) (cases_lt k kinds)

pub all_enough : (kinds : ℕ) (us vs : List Entry) (um vm : List Bool) → HasKindsBelow kinds vs
    → ((k m : ℕ) → k < kinds → IsEnoughBy us vs um vm k m) → (k m : ℕ) → IsEnoughBy us vs um vm k m
all_enough kinds us vs um vm b enough k m = ⊎_elim (λ lt. enough k m lt) (λ le. omega (arith, by_past kinds vs vm k m b le)) (cases_lt k kinds)

-- ---- no shortage where the counts allow a matching

pub never_balanced : (us vs : List Entry) (um vm : List Bool) (s : Shortage) → IsFirstShortage us vs um vm s → IsBalanced us vs um vm → ⊥
never_balanced us vs um vm (Balance kind arrive depart) s b = s.differ (s.arrive_is ∙ b.same kind.0 ∙ sym s.depart_is)
never_balanced us vs um vm (ByMinute kind minute need have) s b = omega (arith, b.enough kind.0 minute, s.need_is, s.have_is, s.short)

-- ---- only one is the first

same_kind : (k l : TypeId) → k.0 ≡ l.0 → k ≡ l
same_kind k l e = ap (λ (n : ℕ). let t : TypeId = record { 0 = n } in t) e

uneven_first : (us vs : List Entry) (um vm : List Bool) (k a d l b e : ℕ) → IsFirstUneven us vs um vm k a d → IsFirstUneven us vs um vm l b e → k < l → ⊥
uneven_first us vs um vm k a d l b e s t lt = s.differ (s.arrive_is ∙ t.before k lt ∙ sym s.depart_is)

late_first : (us vs : List Entry) (um vm : List Bool) (k m a d l n b e : ℕ) → IsFirstLate us vs um vm k m a d → IsFirstLate us vs um vm l n b e → k < l → ⊥
late_first us vs um vm k m a d l n b e s t lt = omega (arith, t.before k m lt, s.need_is, s.have_is, s.short)

late_sooner : (us vs : List Entry) (um vm : List Bool) (k m a d n b e : ℕ) → IsFirstLate us vs um vm k m a d → IsFirstLate us vs um vm k n b e → m < n → ⊥
late_sooner us vs um vm k m a d n b e s t lt = omega (arith, t.sooner m lt, s.need_is, s.have_is, s.short)

one_balance : (us vs : List Entry) (um vm : List Bool) (k l : TypeId) (a d b e : ℕ) → IsFirstUneven us vs um vm k.0 a d → IsFirstUneven us vs um vm l.0 b e
    → Balance k a d ≡ Balance l b e
one_balance us vs um vm k l a d b e s t =
    let same : k.0 ≡ l.0 = ⊎_elim (λ e. e) (λ other. ⊎_elim
    (λ lt. absurd (uneven_first us vs um vm k.0 a d l.0 b e s t lt))
    (λ lt. absurd (uneven_first us vs um vm l.0 b e k.0 a d t s lt)) other) (cases_order k.0 l.0) in
    let kinds = same_kind k l same in
    let arrive : a ≡ b = s.arrive_is ∙ ap (λ (n : ℕ). count_of_kind us um n) same ∙ sym t.arrive_is in
    let depart : d ≡ e = s.depart_is ∙ ap (λ (n : ℕ). count_of_kind vs vm n) same ∙ sym t.depart_is in
    cc

one_late : (us vs : List Entry) (um vm : List Bool) (k l : TypeId) (m a d n b e : ℕ) → IsFirstLate us vs um vm k.0 m a d → IsFirstLate us vs um vm l.0 n b e
    → ByMinute k m a d ≡ ByMinute l n b e
one_late us vs um vm k l m a d n b e s t =
    let same : k.0 ≡ l.0 = ⊎_elim (λ e. e) (λ other. ⊎_elim
    (λ lt. absurd (late_first us vs um vm k.0 m a d l.0 n b e s t lt))
    (λ lt. absurd (late_first us vs um vm l.0 n b e k.0 m a d t s lt)) other) (cases_order k.0 l.0) in
    let kinds = same_kind k l same in
    let u : IsFirstLate us vs um vm l.0 m a d = subst (λ (x : ℕ). IsFirstLate us vs um vm x m a d) same s in
    let minutes : m ≡ n = ⊎_elim (λ e. e) (λ other. ⊎_elim
    (λ lt. absurd (late_sooner us vs um vm l.0 m a d n b e u t lt))
    (λ lt. absurd (late_sooner us vs um vm l.0 n b e m a d t u lt)) other) (cases_order m n) in
    let need : a ≡ b = u.need_is ∙ ap (λ (x : ℕ). count_by_minute vs vm l.0 x) minutes ∙ sym t.need_is in
    let have : d ≡ e = u.have_is ∙ ap (λ (x : ℕ). count_by_minute us um l.0 x) minutes ∙ sym t.have_is in
    cc

pub one_first : (us vs : List Entry) (um vm : List Bool) (s t : Shortage) → IsFirstShortage us vs um vm s → IsFirstShortage us vs um vm t → s ≡ t
one_first us vs um vm (Balance k a d) (Balance l b e) s t = one_balance us vs um vm k l a d b e s t
one_first us vs um vm (Balance k a d) (ByMinute l n b e) s t = absurd (s.differ (s.arrive_is ∙ t.even k.0 ∙ sym s.depart_is))
one_first us vs um vm (ByMinute k m a d) (Balance l b e) s t = absurd (t.differ (t.arrive_is ∙ s.even l.0 ∙ sym t.depart_is))
one_first us vs um vm (ByMinute k m a d) (ByMinute l n b e) s t = one_late us vs um vm k l m a d n b e s t
