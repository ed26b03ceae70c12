-- Following is the run, and what it leaves.
use Rattle.std.proofs.Common.{◌≡◌, ℕ, ◌+◌, ◌<◌, ◌≤◌, cond, not, List, [], ◌∷◌, length, get_or, set, map, Result, Ok, Err, refl, sym, subst, ap, ◌∙◌, arith}
use Rattle.std.specs.Prelude.{All, IsOk}
use Rattle.std.specs.Result.{IfOk}
use Rattle.std.proofs.lemmas.List.{length-map}
use Rattle.std.proofs.lemmas.List.Sums.{sum_by-cons}
use Rattle.shunt_lists.specs.defs.Members.{In}
use Rattle.shunt_lists.proofs.Members.{in_to, of_map}
use Rattle.shunt_base.specs.declared.keys.Stay.{Stay}
use Rattle.shunt_base.specs.defs.Keys.{AreStays}
use Rattle.shunt_stays.specs.defs.Events.{Move, in_order}
use Rattle.shunt_stays.specs.defs.Run.{Standing, Stop, Through, moved, run, load, ◌>>=◌, empty_tracks, blocks_on, entries_in, leaves_in, seen, GoesThrough}
use Rattle.shunt_stays.specs.defs.Run.Stop.{Blocked, Over}
use Rattle.shunt_stays.proofs.Ends.{as_many, counted, none_on}
use Rattle.shunt_stays.proofs.Steps.{seen_alike}
use Rattle.shunt_stays.proofs.Blocks.{one_more}
use Rattle.shunt_instance.specs.declared.records.Station.{Station}
use Rattle.shunt_blocks.specs.defs.Lists.{track_lengths}
use Rattle.shunt_sheet.specs.declared.records.Order.{Order}
use Rattle.shunt_sheet.specs.declared.records.Followed.{Followed}
use Rattle.shunt_sheet.specs.declared.records.Followed.TheVariants as answers
use Rattle.shunt_sheet.specs.defs.Orders.{order_of}
use Rattle.shunt_sheet.specs.defs.FollowedOrders.{move_of, goes_on, follow_from, followed}
use Rattle.shunt_lists.proofs.Tests.{flag_small}

-- ---- following is the run

-- what comes of orders is that of their run
abbrev pub Agrees : Result Through Stop → Followed → Type 0
Agrees (Ok t) a = a ≡ answers.Through (blocks_on t.tracks)
Agrees (Err (Blocked m)) a = (n : ℕ) × (a ≡ answers.Blocked n)
Agrees (Err (Over m load)) a = (n : ℕ) × (a ≡ answers.Over n load)

kept : (m : Move) (blocks : List Standing) (r : Result Through Stop) (a : Followed) → Agrees r a → Agrees (r >>= (λ t. Ok (one_more m blocks t))) a
kept m blocks (Ok t) a h = h
kept m blocks (Err (Blocked n)) a h = h
kept m blocks (Err (Over n k)) a h = h

step : (n : ℕ) (m : Move) (r : Result (List Standing) Stop) (runs : List Standing → Result Through Stop) (rest : List Standing → Followed)
    → ((blocks : List Standing) → Agrees (runs blocks) (rest blocks))
    → Agrees (r >>= (λ blocks. runs blocks >>= (λ t. Ok (one_more m blocks t)))) (goes_on n r rest)
step n m (Ok blocks) runs rest h = kept m blocks (runs blocks) (rest blocks) (h blocks)
step n m (Err (Blocked o)) runs rest h = (n, refl)
step n m (Err (Over o k)) runs rest h = (n, refl)

pub agrees : (lengths : List ℕ) (n : ℕ) (orders : List Order) (tracks : List (List Standing))
    → Agrees (run lengths (map move_of orders) tracks) (follow_from lengths n orders tracks)
agrees lengths n [] tracks = refl
agrees lengths n (o ∷ orders) tracks =
    step n (move_of o) (moved (get_or lengths o.track.0 0) (move_of o) (get_or tracks o.track.0 []))
    (λ blocks. run lengths (map move_of orders) (set tracks o.track.0 blocks)) (λ blocks. follow_from lengths (n + 1) orders (set tracks o.track.0 blocks))
    (λ blocks. agrees lengths (n + 1) orders (set tracks o.track.0 blocks))

-- ---- how many blocks it leaves

entries_few : (moves : List Move) → entries_in moves ≤ length moves
entries_few [] = omega arith
entries_few (m ∷ moves) = omega (arith, sum_by-cons (λ (n : Move). cond n.key.enters 1 0) m moves, flag_small m.key.enters, entries_few moves)

pub through_same : (m n : ℕ) → answers.Through m ≡ answers.Through n → m ≡ n
through_same m n e = cc

through_blocked : (m n : ℕ) → answers.Through m ≡ answers.Blocked n → ⊥
through_blocked m n e = absurd cc

through_over : (m n k : ℕ) → answers.Through m ≡ answers.Over n k → ⊥
through_over m n k e = absurd cc

on_moves : (orders : List Order) (most : ℕ) → All (λ o. o.track.0 < most) orders → (m : Move) → In m (map move_of orders) → m.track.0 < most
on_moves orders most on m i =
    let r = of_map move_of orders m i in
    let c = in_to orders r.0 r.1 in
    subst (λ (n : Move). n.track.0 < most) (sym r.2) (subst (λ (o : Order). o.track.0 < most) c.2 (on c.0 r.0 c.1))

-- orders that go through leave no more blocks than there are orders
pub few_left : (lengths : List ℕ) (orders : List Order) (tracks : List (List Standing)) (left : ℕ) → length orders ≤ 800 → All (λ o. o.track.0 < length tracks) orders
    → blocks_on tracks ≡ 0 → answers.Through left ≡ follow_from lengths 1 orders tracks → left ≤ 800
few_left lengths orders tracks left few on none e =
    by (run lengths (map move_of orders) tracks) (agrees lengths 1 orders tracks) (counted lengths (map move_of orders) tracks (on_moves orders (length tracks) on))
  where
    by : (r : Result Through Stop) → Agrees r (follow_from lengths 1 orders tracks)
        → IfOk r (λ t. blocks_on t.tracks + leaves_in (map move_of orders) ≡ blocks_on tracks + entries_in (map move_of orders)) → left ≤ 800
    by (Ok t) h c = omega (arith, through_same left (blocks_on t.tracks) (e ∙ h), c, none, few, entries_few (map move_of orders), length-map orders move_of)
    by (Err (Blocked m)) h c = absurd (through_blocked left h.0 (e ∙ h.1))
    by (Err (Over m k)) h c = absurd (through_over left h.0 k (e ∙ h.1))

pub nothing_on : (lengths : List ℕ) (tracks : List (List Standing)) → tracks ≡ empty_tracks lengths → blocks_on tracks ≡ 0
nothing_on lengths tracks e = ap blocks_on e ∙ none_on lengths

-- ---- the orders of stays whose run goes through

abbrev again : Move → Move
again m = move_of (order_of m)

seen_same : (moves : List Move) → map seen moves ≡ map seen (map move_of (map order_of moves))
seen_same [] = refl
seen_same (m ∷ moves) = ap (λ (l : List Move). seen m ∷ l) (seen_same moves)

entries_same : (moves : List Move) → entries_in (map move_of (map order_of moves)) ≡ entries_in moves
entries_same [] = refl
entries_same (m ∷ moves) = omega (
  arith,
  sum_by-cons (λ (n : Move). cond n.key.enters 1 0) (again m) (map move_of (map order_of moves)),
  sum_by-cons (λ (n : Move). cond n.key.enters 1 0) m moves,
  entries_same moves,
)

leaves_same : (moves : List Move) → leaves_in (map move_of (map order_of moves)) ≡ leaves_in moves
leaves_same [] = refl
leaves_same (m ∷ moves) = omega (
  arith,
  sum_by-cons (λ (n : Move). cond (not n.key.enters) 1 0) (again m) (map move_of (map order_of moves)),
  sum_by-cons (λ (n : Move). cond (not n.key.enters) 1 0) m moves,
  leaves_same moves,
)

-- orders that go through and of which as many enter as leave leave nothing
through_zero : (lengths : List ℕ) (orders : List Order) (tracks : List (List Standing)) → IsOk (run lengths (map move_of orders) tracks) → blocks_on tracks ≡ 0
    → entries_in (map move_of orders) ≡ leaves_in (map move_of orders)
    → All (λ o. o.track.0 < length tracks) orders → follow_from lengths 1 orders tracks ≡ answers.Through 0
through_zero lengths orders tracks ok none same on =
    by (run lengths (map move_of orders) tracks) ok (agrees lengths 1 orders tracks) (counted lengths (map move_of orders) tracks (on_moves orders (length tracks) on))
  where
    by : (r : Result Through Stop) → IsOk r → Agrees r (follow_from lengths 1 orders tracks)
        → IfOk r (λ t. blocks_on t.tracks + leaves_in (map move_of orders) ≡ blocks_on tracks + entries_in (map move_of orders))
        → follow_from lengths 1 orders tracks ≡ answers.Through 0
    by (Ok t) ok h c = h ∙ ap answers.Through (let zero_left : blocks_on t.tracks ≡ 0 = omega (arith, c, none, same) in zero_left)
    by (Err e) ok h c = absurd cc

empty_sizes : (s : Station) → length (empty_tracks (track_lengths s)) ≡ length s.tracks
empty_sizes s = length-map (track_lengths s) (λ (n : ℕ). let l : List Standing = [] in l) ∙ length-map s.tracks (λ t. t.length)

pub stays_followed : (s : Station) (stays : List Stay) → AreStays stays → All (λ o. o.track.0 < length s.tracks) (map order_of (in_order stays))
    → GoesThrough (track_lengths s) stays → followed s (map order_of (in_order stays)) ≡ answers.Through 0
unfolding followed
stays_followed s stays a on through =
    through_zero (track_lengths s) (map order_of (in_order stays)) (empty_tracks (track_lengths s))
    (seen_alike (track_lengths s) (in_order stays) (map move_of (map order_of (in_order stays))) (empty_tracks (track_lengths s)) (seen_same (in_order stays)) through)
    (none_on (track_lengths s)) (entries_same (in_order stays) ∙ as_many stays a ∙ sym (leaves_same (in_order stays)))
    (λ k d lt. let small = on k d lt in omega (arith, small, empty_sizes s))
