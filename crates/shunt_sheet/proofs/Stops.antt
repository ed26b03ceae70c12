-- Where following stops.
use Rattle.std.proofs.Common.{◌≡◌, ◌⊎◌, inl, inr, ⊎_elim, ℕ, ◌+◌, List, [], ◌∷◌, ◌++◌, length, get_or, set, map, Result, Ok, Err, refl, sym, subst, ap, ◌∙◌, arith}
use Rattle.std.specs.Prelude.{Bool, true, false, nat_le, Option, Some, None, if◌then◌else◌}
use Rattle.shunt_stays.specs.defs.Events.{Move}
use Rattle.shunt_stays.specs.defs.Run.{Standing, Stop, Through, put, without, moved, entered, left, run, load, ◌>>=◌, empty_tracks, blocks_on}
use Rattle.shunt_stays.specs.defs.Run.Stop.{Blocked, Over}
use Rattle.shunt_instance.specs.declared.records.Station.{Station}
use Rattle.shunt_blocks.specs.defs.Lists.{track_lengths}
use Rattle.shunt_sheet.specs.declared.records.Order.{Order}
use Rattle.shunt_sheet.specs.declared.records.Followed.{Followed}
use Rattle.shunt_sheet.specs.declared.records.Followed.TheVariants as answers
use Rattle.shunt_sheet.specs.defs.FollowedOrders.{move_of, goes_on, follow_from, followed, run_in, StopsAt, InWords}
use Rattle.shunt_sheet.proofs.Runs.{Agrees, agrees, through_same}
use Rattle.shunt_stays.proofs.Steps.{ok_was, first_was}
use Rattle.shunt_stays.proofs.Blocks.{one_more}

abbrev moved_at : List ℕ → Order → List (List Standing) → Result (List Standing) Stop
moved_at lengths o tracks = moved (get_or lengths o.track.0 0) (move_of o) (get_or tracks o.track.0 [])

-- what is answered where the order with a number can't be done
abbrev told : ℕ → Stop → Followed
told n (Blocked m) = answers.Blocked n
told n (Over m k) = answers.Over n k

-- orders of which the first has this number are followed from these tracks up to the one with another number
record Stopped (lengths : List ℕ) (n : ℕ) (orders : List Order) (tracks : List (List Standing)) (number : ℕ) (stop : Stop) : Type 0 where
  before : List Order
  here : Order
  after : List Order
  place : orders ≡ before ++ here ∷ after
  counted : number ≡ length before + n
  done : Through
  goes : run lengths (map move_of before) tracks ≡ Ok done
  stops : moved_at lengths here done.tracks ≡ Err stop

-- it goes through, or stops at one
abbrev Ends : List ℕ → ℕ → List Order → List (List Standing) → Followed → Type 0
Ends lengths n orders tracks a =
    ((t : Through) × (run lengths (map move_of orders) tracks ≡ Ok t) × (a ≡ answers.Through (blocks_on t.tracks)))
    ⊎ ((number : ℕ) × (stop : Stop) × Stopped lengths n orders tracks number stop × (a ≡ told number stop))

told_is : (n : ℕ) (stop : Stop) (rest : List Standing → Followed) → goes_on n (Err stop) rest ≡ told n stop
told_is n (Blocked m) rest = refl
told_is n (Over m k) rest = refl

-- a run whose first order can be done
first : (lengths : List ℕ) (o : Order) (orders : List Order) (tracks : List (List Standing)) (blocks : List Standing) (t : Through) → moved_at lengths o tracks ≡ Ok blocks
    → run lengths (map move_of orders) (set tracks o.track.0 blocks) ≡ Ok t
    → run lengths (map move_of (o ∷ orders)) tracks ≡ Ok (one_more (move_of o) blocks t)
first lengths o orders tracks blocks t is goes =
    ap (λ (r : Result (List Standing) Stop). r >>= (λ bs. run lengths (map move_of orders) (set tracks o.track.0 bs) >>= (λ u. Ok (one_more (move_of o) bs u)))) is
    ∙ ap (λ (r : Result Through Stop). r >>= (λ u. Ok (one_more (move_of o) blocks u))) goes

-- the first can be done, and the others end so
behind : (lengths : List ℕ) (n : ℕ) (o : Order) (orders : List Order) (tracks : List (List Standing)) (blocks : List Standing) (a : Followed)
    → moved_at lengths o tracks ≡ Ok blocks
    → Ends lengths (n + 1) orders (set tracks o.track.0 blocks) a → Ends lengths n (o ∷ orders) tracks a
behind lengths n o orders tracks blocks a is (inl t) = inl (one_more (move_of o) blocks t.0, first lengths o orders tracks blocks t.0 is t.1, t.2)
behind lengths n o orders tracks blocks a is (inr r) =
    let s = r.2 in
    let number = s.counted in
    inr (
      r.0,
      r.1,
      record {
        before = o ∷ s.before;
        here = s.here;
        after = s.after;
        place = ap (λ l. o ∷ l) s.place;
        counted = omega (arith, number);
        done = one_more (move_of o) blocks s.done;
        goes = first lengths o s.before tracks blocks s.done is s.goes;
        stops = s.stops;
      },
      r.3,
    )

abbrev rest_of : List ℕ → ℕ → Order → List Order → List (List Standing) → List Standing → Followed
rest_of lengths n o orders tracks blocks = follow_from lengths (n + 1) orders (set tracks o.track.0 blocks)

first_ends : (lengths : List ℕ) (n : ℕ) (o : Order) (orders : List Order) (tracks : List (List Standing)) (r : Result (List Standing) Stop) → moved_at lengths o tracks ≡ r
    → ((blocks : List Standing) → Ends lengths (n + 1) orders (set tracks o.track.0 blocks) (rest_of lengths n o orders tracks blocks))
    → Ends lengths n (o ∷ orders) tracks (goes_on n (moved_at lengths o tracks) (rest_of lengths n o orders tracks))
first_ends lengths n o orders tracks (Ok blocks) is h =
    subst (λ q. Ends lengths n (o ∷ orders) tracks (goes_on n q (rest_of lengths n o orders tracks))) (sym is)
    (behind lengths n o orders tracks blocks (rest_of lengths n o orders tracks blocks) is (h blocks))
first_ends lengths n o orders tracks (Err stop) is h =
    inr (
      n,
      stop,
      record { before = []; here = o; after = orders; place = refl; counted = omega arith; done = record { steps = []; tracks = tracks }; goes = refl; stops = is },
      ap (λ q. goes_on n q (rest_of lengths n o orders tracks)) is ∙ told_is n stop (rest_of lengths n o orders tracks),
    )

ends : (lengths : List ℕ) (n : ℕ) (orders : List Order) (tracks : List (List Standing)) → Ends lengths n orders tracks (follow_from lengths n orders tracks)
ends lengths n [] tracks = inl (record { steps = []; tracks = tracks }, refl, refl)
ends lengths n (o ∷ orders) tracks = first_ends lengths n o orders tracks (moved_at lengths o tracks) refl (λ blocks. ends lengths (n + 1) orders (set tracks o.track.0 blocks))

-- ---- the order that is blamed

either_blames : {P : Type 0} (b : Bool) (r q : Result (List Standing) Stop) (stop : Stop) → (r ≡ Err stop → P) → (q ≡ Err stop → P) → (if b then r else q) ≡ Err stop → P
either_blames true r q stop f g e = f e
either_blames false r q stop f g e = g e

abbrev Blames : Move → Stop → Type 0
Blames m stop = (stop ≡ Blocked m) ⊎ ((k : ℕ) × (stop ≡ Over m k))

no_error : {P : Type 0} (blocks : List Standing) (stop : Stop) → ◌≡◌ {A = Result (List Standing) Stop} (Ok blocks) (Err stop) → P
no_error blocks stop e = absurd cc

err_same : (q stop : Stop) → ◌≡◌ {A = Result (List Standing) Stop} (Err q) (Err stop) → stop ≡ q
err_same q stop e = cc

left_blames : (m : Move) (o : Option (List Standing)) (stop : Stop) → left m o ≡ Err stop → Blames m stop
left_blames m (Some others) stop e = no_error others stop e
left_blames m None stop e = inl (err_same (Blocked m) stop e)

entered_blames : (room : ℕ) (m : Move) (blocks : List Standing) (stop : Stop) → entered room m blocks ≡ Err stop → Blames m stop
entered_blames room m blocks stop =
    either_blames (nat_le (load blocks) room) (Ok blocks) (Err (Over m (load blocks))) stop (λ e. no_error blocks stop e)
    (λ e. inr (load blocks, err_same (Over m (load blocks)) stop e))

abbrev block_of : Move → Standing
block_of m = record { id = m.key.id; length = m.length }

blames : (room : ℕ) (m : Move) (blocks : List Standing) (stop : Stop) → moved room m blocks ≡ Err stop → Blames m stop
blames room m blocks stop =
    either_blames m.key.enters (entered room m (put m.side (block_of m) blocks)) (left m (without m.side m.key.id blocks)) stop
    (λ e. entered_blames room m (put m.side (block_of m) blocks) stop e) (λ e. left_blames m (without m.side m.key.id blocks) stop e)

-- ---- in words

ok_same : (t u : Through) → ◌≡◌ {A = Result Through Stop} (Ok t) (Ok u) → t ≡ u
ok_same t u e = cc

-- where the first orders can be done, it goes on behind them
reached : (lengths : List ℕ) (n : ℕ) (before later : List Order) (tracks : List (List Standing)) (done : Through) → run lengths (map move_of before) tracks ≡ Ok done
    → follow_from lengths n (before ++ later) tracks ≡ follow_from lengths (length before + n) later done.tracks
reached lengths n [] later tracks done e =
    let number : n ≡ 0 + n = omega arith in
    ap (λ (t : Through). follow_from lengths n later t.tracks) (ok_same (record { steps = []; tracks = tracks }) done e) ∙ ap (λ k. follow_from lengths k later done.tracks) number
reached lengths n (o ∷ before) later tracks done e =
    let f = first_was (moved_at lengths o tracks) (λ bs. run lengths (map move_of before) (set tracks o.track.0 bs) >>= (λ t. Ok (one_more (move_of o) bs t))) done e in
    let r = ok_was (run lengths (map move_of before) (set tracks o.track.0 f.0)) (one_more (move_of o) f.0) done f.2 in
    let number : length before + (n + 1) ≡ length (o ∷ before) + n = omega arith in
    ap (λ q. goes_on n q (λ blocks. follow_from lengths (n + 1) (before ++ later) (set tracks o.track.0 blocks))) f.1
    ∙ reached lengths (n + 1) before later (set tracks o.track.0 f.0) r.0 r.1
    ∙ ap (λ k. follow_from lengths k later r.0.tracks) number
    ∙ ap (λ (t : Through). follow_from lengths (length (o ∷ before) + n) later t.tracks) (sym r.2)

stop_told : (s : Station) (orders : List Order) (number : ℕ) (stop : Move → Stop) → StopsAt s orders number stop → (m : Move) × (followed s orders ≡ told number (stop m))
unfolding followed
stop_told s orders number stop at =
    let lengths = track_lengths s in
    let rest : List Standing → Followed = λ blocks. follow_from lengths (length at.before + 1 + 1) at.after (set at.done.tracks at.here.track.0 blocks) in (
      move_of at.here,
      ap (λ l. follow_from lengths 1 l (empty_tracks lengths)) at.place
          ∙ reached lengths 1 at.before (at.here ∷ at.after) (empty_tracks lengths) at.done at.goes
          ∙ ap (λ q. goes_on (length at.before + 1) q rest) at.stops
          ∙ told_is (length at.before + 1) (stop (move_of at.here)) rest
          ∙ ap (λ k. told k (stop (move_of at.here))) (sym at.counted),
    )

blocked_same : (m n : ℕ) → answers.Blocked m ≡ answers.Blocked n → m ≡ n
blocked_same m n e = cc

over_same : (m n k l : ℕ) → answers.Over m k ≡ answers.Over n l → (m ≡ n) × (k ≡ l)
over_same m n k l e = (cc, cc)

through_blocked : {P : Type 0} (m n : ℕ) → answers.Through m ≡ answers.Blocked n → P
through_blocked m n e = absurd cc

through_over : {P : Type 0} (m n k : ℕ) → answers.Through m ≡ answers.Over n k → P
through_over m n k e = absurd cc

blocked_over : {P : Type 0} (m n k : ℕ) → answers.Blocked m ≡ answers.Over n k → P
blocked_over m n k e = absurd cc

module _ (s : Station) (orders : List Order) where
  abbrev stopped : ℕ → Stop → Type 0
  stopped number stop = Stopped (track_lengths s) 1 orders (empty_tracks (track_lengths s)) number stop

  ended : Ends (track_lengths s) 1 orders (empty_tracks (track_lengths s)) (followed s orders)
  unfolding followed
  ended = ends (track_lengths s) 1 orders (empty_tracks (track_lengths s))

  stops_at : (number other : ℕ) (stop : Stop) (told_by : Move → Stop) (st : stopped number stop) → stop ≡ told_by (move_of st.here) → number ≡ other
      → StopsAt s orders other told_by
  stops_at number other stop told_by st is same = record {
    before = st.before;
    here = st.here;
    after = st.after;
    place = st.place;
    counted = sym same ∙ st.counted;
    done = st.done;
    goes = st.goes;
    stops = st.stops ∙ ap (λ q. let r : Result (List Standing) Stop = Err q in r) is;
  }

  blame : (number : ℕ) (stop : Stop) (st : stopped number stop) → Blames (move_of st.here) stop
  blame number stop st = blames (get_or (track_lengths s) st.here.track.0 0) (move_of st.here) (get_or st.done.tracks st.here.track.0 []) stop st.stops

  abbrev Ended : Type 0
  Ended = Ends (track_lengths s) 1 orders (empty_tracks (track_lengths s)) (followed s orders)

  was_through : (count : ℕ) → followed s orders ≡ answers.Through count → Ended → (t : Through) × (run_in s orders ≡ Ok t) × (blocks_on t.tracks ≡ count)
  was_through count e (inl t) = (t.0, t.1, through_same (blocks_on t.0.tracks) count (sym t.2 ∙ e))
  was_through count e (inr r) =
      ⊎_elim (λ b. through_blocked count r.0 (sym e ∙ r.3 ∙ ap (told r.0) b)) (λ o. through_over count r.0 o.0 (sym e ∙ r.3 ∙ ap (told r.0) o.1)) (blame r.0 r.1 r.2)

  was_blocked : (number : ℕ) → followed s orders ≡ answers.Blocked number → Ended → StopsAt s orders number Blocked
  was_blocked number e (inl t) = through_blocked (blocks_on t.0.tracks) number (sym t.2 ∙ e)
  was_blocked number e (inr r) =
      ⊎_elim (λ b. stops_at r.0 number r.1 Blocked r.2 b (blocked_same r.0 number (sym (r.3 ∙ ap (told r.0) b) ∙ e)))
      (λ o. blocked_over number r.0 o.0 (sym e ∙ r.3 ∙ ap (told r.0) o.1)) (blame r.0 r.1 r.2)

  was_over : (number load : ℕ) → followed s orders ≡ answers.Over number load → Ended → StopsAt s orders number (λ m. Over m load)
  was_over number load e (inl t) = through_over (blocks_on t.0.tracks) number load (sym t.2 ∙ e)
  was_over number load e (inr r) =
      ⊎_elim (λ b. blocked_over r.0 number load (sym (r.3 ∙ ap (told r.0) b) ∙ e))
      (λ o. let both = over_same r.0 number o.0 load (sym (r.3 ∙ ap (told r.0) o.1) ∙ e) in stops_at r.0 number r.1 (λ m. Over m load) r.2
      (o.1 ∙ ap (Over (move_of r.2.here)) both.1) both.0) (blame r.0 r.1 r.2)

  goes_through : (count : ℕ) (t : Through) → run_in s orders ≡ Ok t → blocks_on t.tracks ≡ count → followed s orders ≡ answers.Through count
  unfolding followed
  goes_through count t goes is = subst (λ r. Agrees r (followed s orders)) goes (agrees (track_lengths s) 1 orders (empty_tracks (track_lengths s))) ∙ ap answers.Through is

  pub in_words : InWords s orders
  in_words = record {
    through = λ count. (λ e. was_through count e ended, λ h. goes_through count h.0 h.1 h.2);
    blocked = λ number. (λ e. was_blocked number e ended, λ at. (stop_told s orders number Blocked at).1);
    over = λ number load. (λ e. was_over number load e ended, λ at. (stop_told s orders number (λ m. Over m load) at).1);
  }
