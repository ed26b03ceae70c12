-- One order that is followed, as the loop does it.
use Rattle.std.proofs.Common.{◌≡◌, ⊎_elim, ℕ, zero, suc, ◌+◌, ◌<◌, ◌≤◌, List, [], ◌∷◌, length, get_or, set, drop, map, Result, Ok, refl, sym, subst, ap, ◌∙◌, arith}
use Rattle.std.specs.Prelude.{All}
use Rattle.std.proofs.lemmas.Bool.{cases_eq}
use Rattle.std.proofs.lemmas.List.{drop_more, length-set, map-set, length-map, get_or-map, get_or-set_same, get_or-set_other}
use Rattle.shunt_stays.specs.defs.Events.{Move}
use Rattle.shunt_stays.specs.defs.Run.{Standing, Stop, moved, load, empty_tracks, blocks_on}
use Rattle.shunt_stays.proofs.Steps.{load_kept}
use Rattle.shunt_instance.specs.declared.records.Station.{Station}
use Rattle.shunt_blocks.specs.defs.Lists.{track_lengths}
use Rattle.shunt_sheet.specs.declared.records.Order.{Order}
use Rattle.shunt_sheet.specs.declared.records.Followed.{Followed}
use Rattle.shunt_sheet.specs.declared.records.Followed.TheVariants as answers
use Rattle.shunt_sheet.specs.declared.tracks.Did.{Did}
use Rattle.shunt_sheet.specs.declared.tracks.Did.TheVariants as did
use Rattle.shunt_sheet.specs.defs.Tracks.{Does}
use Rattle.shunt_sheet.specs.defs.FollowedOrders.{move_of, goes_on, follow_from, followed}
use Rattle.shunt_sheet.proofs.Runs.{few_left}
use Rattle.shunt_tracks.specs.defs.Blocks.{Fit}

did_moved : (x : Did) (m : Move) (room : ℕ) (old new : List Standing) → x ≡ did.Moved → Does x m room old new → moved room m old ≡ Ok new
did_moved x m room old new e h = subst (λ (y : Did). Does y m room old new) e h

module _ {X : Type 0} (view : X → List Standing) (lengths : List ℕ) (orders : List Order) (i n : ℕ) (tracks : List X) (u : ℕ) (o : Order) (v : X) (lt : i < length orders)
    (is : o ≡ get_or orders i o) (at : u ≡ o.track.0) (on : u < length tracks) (was : v ≡ get_or tracks u v) where
  abbrev rest : List Standing → Followed
  rest bs = follow_from lengths (n + 1) (drop (i + 1) orders) (set (map view tracks) o.track.0 bs)

  -- the order whose turn it is comes first
  first_is : follow_from lengths n (drop i orders) (map view tracks) ≡ goes_on n (moved (get_or lengths u 0) (move_of o) (view v)) rest
  first_is =
      ap (λ (l : List Order). follow_from lengths n l (map view tracks)) (drop_more orders i o lt ∙ ap (λ (x : Order). x ∷ drop (i + 1) orders) (sym is))
      ∙ ap (λ (k : ℕ). goes_on n (moved (get_or lengths k 0) (move_of o) (get_or (map view tracks) k [])) rest) (sym at)
      ∙ ap (λ (l : List Standing). goes_on n (moved (get_or lengths u 0) (move_of o) l) rest) (get_or-map view tracks u v [] on ∙ ap view (sym was))

  -- what came of it decides what the whole comes to
  decided : (r : Result (List Standing) Stop) (all : Followed) → moved (get_or lengths u 0) (move_of o) (view v) ≡ r → follow_from lengths n (drop i orders) (map view tracks) ≡ all
      → goes_on n r rest ≡ all
  decided r all did_so so = sym (first_is ∙ ap (λ (q : Result (List Standing) Stop). goes_on n q rest) did_so) ∙ so

  pub turned : (x : Did) (w : X) (all : Followed) → x ≡ did.Moved → Does x (move_of o) (get_or lengths u 0) (view v) (view w)
      → follow_from lengths n (drop i orders) (map view tracks) ≡ all → follow_from lengths (n + 1) (drop (i + 1) orders) (map view (set tracks u w)) ≡ all
  turned x w all e does so =
      ap (λ (l : List (List Standing)). follow_from lengths (n + 1) (drop (i + 1) orders) l) (map-set view tracks u w ∙ ap (λ (k : ℕ). set (map view tracks) k (view w)) at)
      ∙ decided (Ok (view w)) all (did_moved x (move_of o) (get_or lengths u 0) (view v) (view w) e does) so

  pub fits : (x : Did) (w : X) → x ≡ did.Moved → Does x (move_of o) (get_or lengths u 0) (view v) (view w) → Fit view lengths tracks → Fit view lengths (set tracks u w)
  fits x w e does fit = λ k d below.
      let m = did_moved x (move_of o) (get_or lengths u 0) (view v) (view w) e does in
      let bound : load (view v) ≤ get_or lengths u 0 = subst (λ (y : X). load (view y) ≤ get_or lengths u 0) (sym was) (fit u v on) in
      let size = length-set tracks u w in
      ⊎_elim (λ s. subst (λ (j : ℕ). load (view (get_or (set tracks u w) j d)) ≤ get_or lengths j 0) (sym s)
      (subst (λ (y : X). load (view y) ≤ get_or lengths u 0) (sym (get_or-set_same tracks u w d on)) (load_kept (get_or lengths u 0) (move_of o) (view v) (view w) m bound)))
      (λ ne. subst (λ (y : X). load (view y) ≤ get_or lengths k 0) (sym (get_or-set_other tracks u k w d ne)) (fit k d (omega arith))) (cases_eq k u)

pub within : (lengths : List ℕ) (orders : List Order) (i u n : ℕ) (o : Order) → All (λ x. x.track.0 < length lengths) orders → i < length orders → o ≡ get_or orders i o
    → u ≡ o.track.0 → n ≡ length lengths → u < n
within lengths orders i u n o on lt is at e = let below = on i o lt in omega (arith, below, ap (λ (x : Order). x.track.0) is, at, e)

-- no order is left
none_left : (orders : List Order) (i : ℕ) → length orders ≤ i → drop i orders ≡ []
none_left [] zero le = refl
none_left [] (suc i) le = refl
none_left (o ∷ orders) zero le = absurd (omega arith)
none_left (o ∷ orders) (suc i) le = none_left orders i (omega arith)

pub all_through : (lengths : List ℕ) (orders : List Order) (i n : ℕ) (tracks : List (List Standing)) (all : Followed) → length orders ≤ i
    → follow_from lengths n (drop i orders) tracks ≡ all → answers.Through (blocks_on tracks) ≡ all
all_through lengths orders i n tracks all le so = ap (λ (l : List Order). follow_from lengths n l tracks) (sym (none_left orders i le)) ∙ so

-- orders that are done leave no more blocks than there are orders
pub left_few : {X : Type 0} (view : X → List Standing) (lengths : List ℕ) (orders : List Order) (i n : ℕ) (was now seen : List X) → length orders ≤ 800
    → length was ≡ length lengths → All (λ o. o.track.0 < length lengths) orders → blocks_on (map view was) ≡ 0
    → length orders ≤ i → follow_from lengths n (drop i orders) (map view now) ≡ follow_from lengths 1 orders (map view was) → seen ≡ now → blocks_on (map view seen) ≤ 800
left_few view lengths orders i n was now seen few sizes on none past so same =
    subst (λ l. blocks_on (map view l) ≤ 800) (sym same)
    (few_left lengths orders (map view was) (blocks_on (map view now)) few (λ k d lt. let below = on k d lt in omega (arith, below, sizes, length-map was view)) none
    (all_through lengths orders i n (map view now) (follow_from lengths 1 orders (map view was)) past so))

-- the tracks of orders have lengths
pub lengths_for : (s : Station) (lengths : List ℕ) (orders seen : List Order) → seen ≡ orders → lengths ≡ track_lengths s → All (λ o. o.track.0 < length s.tracks) orders
    → All (λ o. o.track.0 < length lengths) seen
lengths_for s lengths orders seen same e on =
    subst (All (λ o. o.track.0 < length lengths)) (sym same)
    (λ k d lt. let small = on k d lt in omega (arith, small, ap length e, length-map s.tracks (λ t. t.length)))

pub followed_from : (s : Station) (lengths : List ℕ) (orders seen : List Order) (tracks : List (List Standing)) → seen ≡ orders → lengths ≡ track_lengths s
    → tracks ≡ empty_tracks lengths → follow_from lengths 1 seen tracks ≡ followed s orders
unfolding followed
followed_from s lengths orders seen tracks same e none =
    ap (λ l. follow_from lengths 1 l tracks) same ∙ ap (follow_from lengths 1 orders) none ∙ ap (λ l. follow_from l 1 orders (empty_tracks l)) e
