-- A shortage by any minute is one by a minute at which a position of the type leaves.
use Rattle.std.proofs.Common.{◌≡◌, ⊎_elim, ℕ, suc, ◌+◌, ◌-◌, ◌<◌, ◌≤◌, Bool, true, List, length, sym, ◌∙◌, below_more, arith}
use Rattle.std.proofs.lemmas.Bool.{cases_lt, and_parts, and_from, leb-true, le-leb}
use Rattle.shunt_lists.proofs.CountsBelow.{count_below-le, count_below-rises, of_rank}
use Rattle.shunt_instance.specs.defs.Matching.{Entry, entry_at, RisesByKind}
use Rattle.shunt_matching.specs.defs.Counts.{is_of_kind, is_by_minute, count_by_minute}
use Rattle.shunt_matching.specs.defs.Shortages.{IsEnoughBy, IsLateAt}
use Rattle.shunt_matching.proofs.ByCounts.{rises, kind_of}

-- up to n, no position of the type has a minute by which there are too few units
abbrev pub AreEnoughUpTo : List Entry → List Entry → List Bool → List Bool → ℕ → ℕ → Type 0
AreEnoughUpTo us vs um vm kind n = (w : ℕ) → w < n → is_of_kind vs vm kind w ≡ true → IsEnoughBy us vs um vm kind (entry_at vs w).minute

-- the last position that leaves by m: by its minute as many leave as by m
last_by : (vs : List Entry) (vm : List Bool) (kind m k : ℕ) → RisesByKind vs → count_by_minute vs vm kind m ≡ suc k
    → (w : ℕ) × (w < length vs) × (is_by_minute vs vm kind m w ≡ true) × (count_by_minute vs vm kind m ≤ count_by_minute vs vm kind (entry_at vs w).minute)
last_by vs vm kind m k up e =
    let by = is_by_minute vs vm kind m in
    let w = of_rank (length vs) by k (omega arith) in
    let parts = and_parts _ _ w.2 in (
      w.0,
      w.1,
      w.2,
      count_below-le (length vs) by (is_by_minute vs vm kind (entry_at vs w.0).minute)
          (λ i lt passes.
          let own = and_parts _ _ passes in
          and_from _ _ own.0 (le-leb _ _ (⊎_elim
          (λ later. absurd (let a = count_below-rises by w.0 i later w.2 in let b = count_below-rises by i (length vs) lt passes in omega (arith, a, b, w.3)))
          (λ le. rises vs up i w.0 le w.1 (kind_of vs vm kind i own.0 ∙ sym (kind_of vs vm kind w.0 parts.0)))
          (cases_lt w.0 i)))),
    )

-- by an earlier minute no more are ready
fewer : (es : List Entry) (mask : List Bool) (kind m n : ℕ) → m ≤ n → count_by_minute es mask kind m ≤ count_by_minute es mask kind n
fewer es mask kind m n le = count_below-le (length es) (is_by_minute es mask kind m) (is_by_minute es mask kind n)
    (λ i lt passes. let parts = and_parts _ _ passes in and_from _ _ parts.0 (le-leb (entry_at es i).minute n
    (let by : (entry_at es i).minute ≤ m = leb-true _ _ parts.1 in omega arith)))

-- where m is short, so is the minute of a position that leaves by m
short_at : (us vs : List Entry) (um vm : List Bool) (kind m : ℕ) → RisesByKind vs → count_by_minute us um kind m < count_by_minute vs vm kind m
    → (w : ℕ) × (w < length vs) × (is_of_kind vs vm kind w ≡ true) × ((entry_at vs w).minute ≤ m)
    × (count_by_minute us um kind (entry_at vs w).minute < count_by_minute vs vm kind (entry_at vs w).minute)
short_at us vs um vm kind m up lt =
    let w = last_by vs vm kind m (count_by_minute vs vm kind m - 1) up (omega arith) in
    let parts = and_parts _ _ w.2 in
    let le : (entry_at vs w.0).minute ≤ m = leb-true _ _ parts.1 in
    (w.0, w.1, parts.0, le, omega (arith, lt, w.3, fewer us um kind (entry_at vs w.0).minute m le))

pub enough_more : (us vs : List Entry) (um vm : List Bool) (kind v : ℕ) → AreEnoughUpTo us vs um vm kind v
    → (is_of_kind vs vm kind v ≡ true → IsEnoughBy us vs um vm kind (entry_at vs v).minute) → AreEnoughUpTo us vs um vm kind (v + 1)
enough_more us vs um vm kind v enough here = below_more (λ w. is_of_kind vs vm kind w ≡ true → IsEnoughBy us vs um vm kind (entry_at vs w).minute) v enough here

-- enough at each of its positions is enough at all minutes
pub enough_by_all : (us vs : List Entry) (um vm : List Bool) (kind : ℕ) → RisesByKind vs → AreEnoughUpTo us vs um vm kind (length vs) → (m : ℕ) → IsEnoughBy us vs um vm kind m
enough_by_all us vs um vm kind up enough m = ⊎_elim
    (λ short. let w = short_at us vs um vm kind m up short in absurd (omega (arith, enough w.0 w.1 w.2, w.4)))
    (λ le. le) (cases_lt (count_by_minute us um kind m) (count_by_minute vs vm kind m))

-- the first position that is short has the least short minute
pub late_at : (us vs : List Entry) (um vm : List Bool) (kind v : ℕ) → RisesByKind vs → AreEnoughUpTo us vs um vm kind v
    → v < length vs → is_of_kind vs vm kind v ≡ true → count_by_minute us um kind (entry_at vs v).minute < count_by_minute vs vm kind (entry_at vs v).minute
    → IsLateAt us vs um vm kind v
late_at us vs um vm kind v up enough lt own short = record {
  there = lt;
  short = short;
  sooner = λ m before. ⊎_elim
      (λ also.
      let w = short_at us vs um vm kind m up also in
      absurd (⊎_elim
      (λ less. omega (arith, enough w.0 less w.2, w.4))
      (λ le. omega (arith, rises vs up v w.0 le w.1 (kind_of vs vm kind v own ∙ sym (kind_of vs vm kind w.0 w.2)), w.3, before))
      (cases_lt w.0 v)))
      (λ le. le) (cases_lt (count_by_minute us um kind m) (count_by_minute vs vm kind m));
}
