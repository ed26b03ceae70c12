-- Counts and sums stay within their types.
use Rattle.std.proofs.Common.{◌≡◌, ⊎_elim, ℕ, ◌+◌, ◌*◌, ◌<◌, ◌≤◌, Bool, true, false, cond, List, [], length, get_or, take, refl, ap, arith, sum_by}
use Rattle.std.specs.List.{count_by}
use Rattle.std.proofs.lemmas.Bool.{cases_Bool}
use Rattle.std.proofs.lemmas.List.Sums.{sum_by_more_le}
use Rattle.shunt_base.specs.declared.keys.EventKey.{EventKey}
use Rattle.shunt_base.specs.declared.keys.Stay.{Stay}
use Rattle.shunt_base.specs.defs.Keys.{AreStays, IsWellFormed}
use Rattle.shunt_stays.specs.defs.Crossings.{crosses, stands_at, load_at}
use Rattle.shunt_stays.proofs.Halves.{formed}
use Rattle.shunt_stays.proofs.Crossings.{crosses_is, never_itself}
use Rattle.shunt_lists.proofs.Sums.{count_below, sum_at_most as sum_within}

-- a stay doesn't cross itself
not_itself : (b : Stay) → IsWellFormed b → (t : Bool) → crosses b b ≡ t → t ≡ false
not_itself b w true e = absurd (never_itself b w ((crosses_is b b).0 e))
not_itself b w false e = refl

times : (n : ℕ) (k : ℕ) → n ≤ 65536 → k ≤ n * 65535 → k < 4294967296
times n k le h = omega arith

pairs_within : (stays : List Stay) → AreStays stays → length stays ≤ 65536 → sum_by (λ b. count_by (crosses b) stays) stays < 4294967296
pairs_within stays a few = times (length stays) (sum_by (λ b. count_by (crosses b) stays) stays) few (sum_within (λ b. count_by (crosses b) stays) 65535 stays (λ b h.
    let lt = count_below (crosses b) stays b h (not_itself b (formed stays b a h) (crosses b b) refl) in omega arith))

load_times : (n : ℕ) (k : ℕ) → n ≤ 65536 → k ≤ n * 4294967296 → k < 18446744073709551616
load_times n k le h = omega arith

length_within : (t : ℕ) (k : EventKey) (s : Stay) → IsWellFormed s → cond (stands_at t k s) s.length 0 ≤ 4294967296
length_within t k s w = ⊎_elim (λ e. let lt = w.length_in in omega (arith, ap (λ b. cond b s.length 0) e)) (λ e. omega (arith, ap (λ b. cond b s.length 0) e))
    (cases_Bool (stands_at t k s))

load_within : (stays : List Stay) (t : ℕ) (k : EventKey) → AreStays stays → length stays ≤ 65536 → sum_by (λ s. cond (stands_at t k s) s.length 0) stays < 18446744073709551616
load_within stays t k a few = load_times (length stays) (sum_by (λ s. cond (stands_at t k s) s.length 0) stays) few
    (sum_within (λ s. cond (stands_at t k s) s.length 0) 4294967296 stays (λ s h. length_within t k s (formed stays s a h)))

pub pairs_fit : (stays : List Stay) → AreStays stays → length stays ≤ 65536 → (i x y : ℕ) (d : Stay) → i < length stays
    → x ≡ sum_by (λ b. count_by (crosses b) stays) (take i stays) → y ≡ count_by (crosses (get_or stays i d)) stays → x + y < 4294967296
pairs_fit stays a few i x y d lt so more =
    let next : sum_by (λ b. count_by (crosses b) stays) (take i stays) + count_by (crosses (get_or stays i d)) stays ≤ sum_by
    (λ b. count_by (crosses b) stays) stays = sum_by_more_le (λ b. count_by (crosses b) stays) stays i d lt in
    let most = pairs_within stays a few in
    omega arith

pub load_fits : (stays : List Stay) (t : ℕ) (k : EventKey) → AreStays stays → length stays ≤ 65536 → (i x y : ℕ) (d : Stay) → i < length stays
    → x ≡ load_at (take i stays) t k → y ≡ cond (stands_at t k (get_or stays i d)) (get_or stays i d).length 0 → x + y < 18446744073709551616
load_fits stays t k a few i x y d lt so more =
    let next : load_at (take i stays) t k + cond (stands_at t k (get_or stays i d)) (get_or stays i d).length 0 ≤ load_at stays t k = sum_by_more_le
    (λ s. cond (stands_at t k s) s.length 0) stays i d lt in
    let most : load_at stays t k < 18446744073709551616 = load_within stays t k a few in
    omega arith
