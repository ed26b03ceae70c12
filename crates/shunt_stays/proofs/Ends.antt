-- A run of stays that goes through leaves nothing behind.
use Rattle.std.proofs.Common.{◌≡◌, ⊎_elim, ℕ, suc, ◌+◌, ◌<◌, true, false, not, cond, List, [], ◌∷◌, length, Result, Ok, Err, refl, sym, subst, ap, ◌∙◌, arith, sum_by}
use Rattle.std.specs.Result.{IfOk}
use Rattle.std.proofs.lemmas.List.Sums.{sum_by-cons}
use Rattle.shunt_base.specs.declared.keys.Stay.{Stay}
use Rattle.shunt_base.specs.defs.Keys.{AreStays}
use Rattle.shunt_stays.specs.defs.Events.{Move, entry_of, leave_of, insert_by_key, key_before, in_order}
use Rattle.shunt_stays.specs.defs.Run.{Standing, Stop, Through, run, run_of, AreOnTracks, empty_tracks, blocks_on, entries_in, leaves_in}
use Rattle.std.proofs.lemmas.Bool.{cases_Bool}
use Rattle.shunt_lists.proofs.Members.{of_map}
use Rattle.shunt_lists.specs.defs.Members.{In}
use Rattle.shunt_stays.proofs.Halves.{Half, move_of, halves_of, of_stay, in_order_is}
use Rattle.shunt_stays.proofs.Fewer.{on_tracks}
use Rattle.shunt_stays.proofs.Steps.{run_leaves}

count_insert : (f : Move → ℕ) (m : Move) (moves : List Move) → sum_by f (insert_by_key m moves) ≡ f m + sum_by f moves
count_insert f m [] = sum_by-cons f m []
count_insert f m (n ∷ moves) =
    ⊎_elim (λ t. ap (λ b. sum_by f (cond b (m ∷ n ∷ moves) (n ∷ insert_by_key m moves))) t ∙ sum_by-cons f m (n ∷ moves))
    (λ t. ap (λ b. sum_by f (cond b (m ∷ n ∷ moves) (n ∷ insert_by_key m moves))) t
    ∙ (let r = count_insert f m moves in omega (arith, sum_by-cons f n (insert_by_key m moves), sum_by-cons f n moves)))
    (cases_Bool (key_before m.key n.key))

abbrev enters : Move → ℕ
enters m = cond m.key.enters 1 0

abbrev leaves : Move → ℕ
leaves m = cond (not m.key.enters) 1 0

pub as_many : (stays : List Stay) → AreStays stays → entries_in (in_order stays) ≡ leaves_in (in_order stays)
as_many [] a = refl
as_many (s ∷ stays) a =
    let rest : sum_by enters (in_order stays) ≡ sum_by leaves (in_order stays) = as_many stays a.2 in
    let later = insert_by_key (leave_of s) (in_order stays) in
    let e : enters (entry_of s) ≡ 1 = ap (λ b. cond b 1 0) a.0.enters in
    let f : enters (leave_of s) ≡ 0 = ap (λ b. cond b 1 0) a.0.leaves in
    let g : leaves (entry_of s) ≡ 0 = ap (λ b. cond (not b) 1 0) a.0.enters in
    let h : leaves (leave_of s) ≡ 1 = ap (λ b. cond (not b) 1 0) a.0.leaves in
    omega (
      arith,
      count_insert enters (entry_of s) later,
      count_insert enters (leave_of s) (in_order stays),
      count_insert leaves (entry_of s) later,
      count_insert leaves (leave_of s) (in_order stays),
    )

pub none_on : (lengths : List ℕ) → blocks_on (empty_tracks lengths) ≡ 0
none_on [] = refl
none_on (n ∷ lengths) = omega (arith, sum_by-cons (λ (bs : List Standing). length bs) [] (empty_tracks lengths), none_on lengths)

size_empty : (lengths : List ℕ) → length (empty_tracks lengths) ≡ length lengths
size_empty [] = refl
size_empty (n ∷ lengths) = ap suc (size_empty lengths)

all_empty : (lengths : List ℕ) (tracks : List (List Standing)) → length tracks ≡ length lengths → blocks_on tracks ≡ 0 → tracks ≡ empty_tracks lengths
all_empty [] [] e z = refl
all_empty [] (l ∷ tracks) e z = absurd (omega arith)
all_empty (n ∷ lengths) [] e z = absurd (omega arith)
all_empty (n ∷ lengths) ([] ∷ tracks) e z = ap (λ (l : List (List Standing)). [] ∷ l)
    (all_empty lengths tracks (omega arith) (omega (arith, sum_by-cons (λ (bs : List Standing). length bs) [] tracks)))
all_empty (n ∷ lengths) ((b ∷ l) ∷ tracks) e z = absurd (omega (arith, sum_by-cons (λ (bs : List Standing). length bs) (b ∷ l) tracks))

moves_on : (lengths : List ℕ) (stays : List Stay) → AreStays stays → AreOnTracks lengths stays → (m : Move) → In m (in_order stays) → m.track.0 < length lengths
moves_on lengths stays a on m h =
    let r = of_map move_of (halves_of stays) m (subst (λ (l : List Move). In m l) (in_order_is stays a) h) in
    subst (λ (z : Move). z.track.0 < length lengths) (sym r.2) (half_on r.0 (of_stay stays r.0 r.1))
  where
    half_on : (h : Half) → In h.0 stays → (move_of h).track.0 < length lengths
    half_on (s, true) i = on_tracks lengths stays s on i
    half_on (s, false) i = on_tracks lengths stays s on i

ends : (lengths : List ℕ) (stays : List Stay) → AreStays stays → AreOnTracks lengths stays → (r : Result Through Stop) → run_of lengths stays ≡ r
    → IfOk r (λ t. t.tracks ≡ empty_tracks lengths)
ends lengths stays a on (Err e) is = tt
ends lengths stays a on (Ok t) is =
    let l = run_leaves lengths (in_order stays) (empty_tracks lengths) t (λ m h. let lt = moves_on lengths stays a on m h in omega (arith, size_empty lengths)) is in
    all_empty lengths t.tracks (l.sizes ∙ size_empty lengths) (let c = l.count in omega (arith, as_many stays a, none_on lengths))

pub nothing_left : (lengths : List ℕ) (stays : List Stay) → AreStays stays → AreOnTracks lengths stays → IfOk (run_of lengths stays) (λ t. t.tracks ≡ empty_tracks lengths)
nothing_left lengths stays a on = ends lengths stays a on (run_of lengths stays) refl

pub counted : (lengths : List ℕ) (moves : List Move) (tracks : List (List Standing)) → ((m : Move) → In m moves → m.track.0 < length tracks)
    → IfOk (run lengths moves tracks) (λ t. blocks_on t.tracks + leaves_in moves ≡ blocks_on tracks + entries_in moves)
counted lengths moves tracks ins = by (run lengths moves tracks) refl
  where
    by : (r : Result Through Stop) → run lengths moves tracks ≡ r → IfOk r (λ t. blocks_on t.tracks + leaves_in moves ≡ blocks_on tracks + entries_in moves)
    by (Err e) is = tt
    by (Ok t) is = (run_leaves lengths moves tracks t ins is).count
