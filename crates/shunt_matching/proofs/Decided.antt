-- What an answer by counts says of matchings.
use Rattle.std.proofs.Common.{◌≡◌, ℕ, ◌<◌, Bool, List, length, Option, Some, None, IfNone, IfSome, sym, ap, ◌∙◌, arith}
use Rattle.shunt_instance.specs.defs.Instance.{Night, IsInstance, leaves}
use Rattle.shunt_instance.specs.defs.Matching.{Entry, entry_at, IsMatchingOfRest, unit_entries, position_entries, RisesByKind}
use Rattle.shunt_matching.specs.declared.types.Shortage.{Shortage}
use Rattle.shunt_matching.specs.defs.Counts.{IsBalanced, count_by_minute, first_fit_of}
use Rattle.shunt_matching.specs.defs.Shortages.{IsEven, IsEnoughBy, IsLateAt, IsFirstLate, IsFirstShortage}
use Rattle.shunt_matching.proofs.ByCounts.{balanced, matched}
use Rattle.shunt_matching.proofs.Firsts.{all_even, all_enough, never_balanced, one_first}
use Rattle.shunt_instance.proofs.Facts.{position_entry_is}
use Rattle.shunt_matching.proofs.Nights.{unit_kinds, position_kinds, length-position_entries}

pub fit_exists : (us vs : List Entry) (um vm : List Bool) (r : Option Shortage) → RisesByKind us → RisesByKind vs
    → IfNone r (IsBalanced us vs um vm) → IfNone r (IsMatchingOfRest us vs um vm (first_fit_of us vs um vm))
fit_exists us vs um vm None a b k = matched us vs um vm a b k
fit_exists us vs um vm (Some s) a b k = tt

pub one_exists : (us vs : List Entry) (um vm : List Bool) (r : Option Shortage) → RisesByKind us → RisesByKind vs
    → IfNone r (IsBalanced us vs um vm) → IfNone r ((place : List ℕ) × IsMatchingOfRest us vs um vm place)
one_exists us vs um vm None a b k = (first_fit_of us vs um vm, matched us vs um vm a b k)
one_exists us vs um vm (Some s) a b k = tt

pub never : (us vs : List Entry) (um vm : List Bool) (s : Shortage) → IsFirstShortage us vs um vm s → (place : List ℕ) → IsMatchingOfRest us vs um vm place → ⊥
never us vs um vm s first place m = never_balanced us vs um vm s first (balanced us vs um vm place m)

pub none_matches : (us vs : List Entry) (um vm : List Bool) (r : Option Shortage) → IfSome r (IsFirstShortage us vs um vm)
    → IfSome r (λ s. (place : List ℕ) → IsMatchingOfRest us vs um vm place → ⊥)
none_matches us vs um vm None h = tt
none_matches us vs um vm (Some s) h = never us vs um vm s h

pub only_one : (us vs : List Entry) (um vm : List Bool) (r : Option Shortage) → IfNone r (IsBalanced us vs um vm) → IfSome r (IsFirstShortage us vs um vm)
    → (s : Shortage) → IsFirstShortage us vs um vm s → r ≡ Some s
only_one us vs um vm None k h s first = absurd (never_balanced us vs um vm s first k)
only_one us vs um vm (Some t) k h s first = ap (λ (x : Shortage). Some x) (one_first us vs um vm t s h first)

-- ---- of a night, whose types are all below their number

pub night_even : (night : Night) (um vm : List Bool) (kinds : ℕ) → IsInstance night → kinds ≡ length night.station.types
    → ((k : ℕ) → k < kinds → IsEven (unit_entries night) (position_entries night) um vm k) → (k : ℕ) → IsEven (unit_entries night) (position_entries night) um vm k
night_even night um vm kinds is e even =
    all_even kinds (unit_entries night) (position_entries night) um vm
    (λ i lt. let b = unit_kinds night is i lt in omega arith) (λ i lt. let b = position_kinds night is i lt in omega arith) even

pub night_balanced : (night : Night) (um vm : List Bool) (kinds : ℕ) → IsInstance night → kinds ≡ length night.station.types
    → ((k : ℕ) → k < kinds → IsEven (unit_entries night) (position_entries night) um vm k)
    → ((k m : ℕ) → k < kinds → IsEnoughBy (unit_entries night) (position_entries night) um vm k m)
    → IsBalanced (unit_entries night) (position_entries night) um vm
night_balanced night um vm kinds is e even enough = record {
  same = night_even night um vm kinds is e even;
  enough = all_enough kinds (unit_entries night) (position_entries night) um vm (λ i lt. let b = position_kinds night is i lt in omega arith) enough;
}

pub night_late : (night : Night) (um vm : List Bool) (kinds kind v minute need have : ℕ) → IsInstance night → kinds ≡ length night.station.types
    → ((k : ℕ) → k < kinds → IsEven (unit_entries night) (position_entries night) um vm k)
    → IsLateAt (unit_entries night) (position_entries night) um vm kind v
    → ((k m : ℕ) → k < kind → IsEnoughBy (unit_entries night) (position_entries night) um vm k m)
    → minute ≡ leaves night v → need ≡ count_by_minute (position_entries night) vm kind minute → have ≡ count_by_minute (unit_entries night) um kind minute
    → IsFirstLate (unit_entries night) (position_entries night) um vm kind minute need have
night_late night um vm kinds kind v minute need have is e even late before m n h =
    let there = late.there in
    let entry = position_entry_is night v (omega (arith, there, length-position_entries night)) in
    let same : minute ≡ (entry_at (position_entries night) v).minute = m ∙ sym (ap (λ (x : Entry). x.minute) entry) in
    record {
      even = night_even night um vm kinds is e even;
      need_is = n;
      have_is = h;
      short = omega (
        arith,
        n,
        h,
        late.short,
        ap (λ (x : ℕ). count_by_minute (position_entries night) vm kind x) same,
        ap (λ (x : ℕ). count_by_minute (unit_entries night) um kind x) same,
      );
      sooner = λ x lt. late.sooner x (omega arith);
      before = before;
    }
