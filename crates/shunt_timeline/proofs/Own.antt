-- How many cross a stay that comes, and what stands just before an event.
use Rattle.std.proofs.Common.{◌≡◌, ◌≢◌, ⊎_elim, ℕ, ◌+◌, ◌-◌, ◌<◌, ◌≤◌, ltb, eqb, Bool, true, false, cond, not, ◌&&◌, List, refl, sym, ap, ◌∙◌, arith, sum_by}
use Rattle.std.specs.List.{count_by}
use Rattle.std.proofs.lemmas.Bool.{cases_Bool}
use Rattle.std.proofs.lemmas.Bool.Decides.{nat_tests}
use Rattle.shunt_lists.proofs.Members.{all_in}
use Rattle.shunt_base.specs.defs.Sides.{same_side}
use Rattle.shunt_lists.specs.defs.Members.{In}
use Rattle.shunt_base.specs.declared.keys.Stay.{Stay}
use Rattle.shunt_base.specs.defs.Keys.{rank, IsWellFormed}
use Rattle.shunt_stays.specs.defs.Events.{key_before}
use Rattle.shunt_stays.specs.defs.Crossings.{crosses, stands_at}
use Rattle.shunt_stays.proofs.Halves.{before_is, formed, ids_apart}
use Rattle.shunt_timeline.specs.declared.events.StayEvent.{StayEvent}
use Rattle.shunt_timeline.specs.defs.Levels.{has_left, has_blocked}
use Rattle.shunt_timeline.specs.defs.Kept.{sum_on}
use Rattle.shunt_timeline.proofs.Lists.{sum_plus, sum_zero}
use Rattle.shunt_timeline.proofs.Steps.{flag}
use Rattle.shunt_timeline.proofs.Numbers.{met, parts, covers, own_ways, standing_ways}
use Rattle.shunt_timeline.proofs.Changes.{inside, stands_is, crosses_ranks}
use Rattle.shunt_timeline.proofs.ThreeParts.{Cut, and_flag, window, wx, inB, we, leave_rank, leave_none}
use Rattle.shunt_lists.proofs.Sums.{sum_alike}

no_part : (be bl xe xl : ℕ) → bl ≤ xe → parts be bl xe xl ≡ false
no_part be bl xe xl le = grind (arith, nat_tests)

no_part_late : (be bl xe xl : ℕ) → xl ≤ bl → parts be bl xe xl ≡ false
no_part_late be bl xe xl le = grind (arith, nat_tests)

part_is : (be bl xe xl : ℕ) → xe < bl → bl < xl → parts be bl xe xl ≡ ltb be xe
part_is be bl xe xl p q = grind (arith, nat_tests)

times : (b : Bool) (m n : ℕ) → cond b (m + n) 0 ≡ cond b m 0 + cond b n 0
times true m n = refl
times false m n = refl

swap_cond : (a b : Bool) (n : ℕ) → cond a (cond b 0 n) 0 ≡ cond b 0 (cond a n 0)
swap_cond true true n = refl
swap_cond true false n = refl
swap_cond false true n = refl
swap_cond false false n = refl

sum_cond : (b : Bool) (f : Stay → ℕ) (stays : List Stay) → sum_by (λ s. cond b 0 (f s)) stays ≡ cond b 0 (sum_by f stays)
sum_cond true f stays = sum_zero (λ s. 0) stays (λ s h. refl)
sum_cond false f stays = refl

negated : (a b : Bool) → flag (not a && b) ≡ cond a 0 (flag b)
negated true b = refl
negated false b = refl

module _ (stays : List Stay) (x : Stay) (A B C : List StayEvent) (c : Cut stays x A B C) where
  abbrev xe : ℕ
  xe = rank x.enter

  abbrev xl : ℕ
  xl = rank x.leave

  abbrev part : Stay → Bool
  part s = parts (rank s.enter) (rank s.leave) xe xl

  abbrev cover : Stay → Bool
  cover s = covers (rank s.enter) (rank s.leave) xe xl

  abbrev out : Bool
  out = same_side x.side_out x.side_in

  abbrev by : Stay → Bool
  by s = same_side s.side_out x.side_in

  ws : (s : Stay) → In s stays → IsWellFormed s
  ws s h = formed stays s c.formed.2 h

  -- the keys of two stays are apart
  ids : (s : Stay) → In s stays → x.id ≢ s.id
  ids s h = all_in (λ u. x.id ≢ u.id) stays s c.formed.1 h

  enters_apart : (s : Stay) → In s stays → rank s.enter ≢ xe
  enters_apart s h e = ids s h (sym ((wx stays x A B C c).enter_id) ∙ sym (ids_apart s.enter x.enter (ws s h).enter_in.id (wx stays x A B C c).enter_in.id e) ∙ (ws s h).enter_id)

  leaves_apart : (s : Stay) → In s stays → rank s.leave ≢ xl
  leaves_apart s h e = ids s h (sym ((wx stays x A B C c).leave_id) ∙ sym (ids_apart s.leave x.leave (ws s h).leave_in.id (wx stays x A B C c).leave_in.id e) ∙ (ws s h).leave_id)

  -- leaves among B are of stays that part
  leaving : (p : Stay → Bool) (q : StayEvent → Bool) → ((e : StayEvent) → In e B → e.enters ≡ false → flag (q e) ≡ flag (part e.stay && p e.stay))
      → ((e : StayEvent) → In e B → e.enters ≡ true → flag (q e) ≡ 0) → count_by q B ≡ sum_on x.track.0 (λ s. flag (part s && p s)) stays
  leaving p q is none =
      sum_alike (λ e. flag (q e)) g B (λ e h. ⊎_elim (λ t. none e h t ∙ sym (ap (λ b. cond b 0 (flag (part e.stay && p e.stay))) t))
      (λ t. is e h t ∙ sym (ap (λ b. cond b 0 (flag (part e.stay && p e.stay))) t)) (cases_Bool e.enters))
      ∙ sym (window stays x A B C c g
      (λ e h. leave_none stays x A B C c e _ (λ t. let lt = c.before e h in let r = leave_rank stays x A B C c e t in gone e
      (no_part (rank e.stay.enter) (rank e.stay.leave) xe xl (omega arith))))
      (λ e h. leave_none stays x A B C c e _ (λ t. let lt = c.after e h in let r = leave_rank stays x A B C c e t in gone e
      (no_part_late (rank e.stay.enter) (rank e.stay.leave) xe xl (omega arith)))))
      ∙ c.kept.leaves (λ s. flag (part s && p s))
    where
      g : StayEvent → ℕ
      g e = cond e.enters 0 (flag (part e.stay && p e.stay))

      gone : (e : StayEvent) → part e.stay ≡ false → flag (part e.stay && p e.stay) ≡ 0
      gone e f = ap (λ b. flag (b && p e.stay)) f

  left_at : (e : StayEvent) → In e B → e.enters ≡ false → has_left x e ≡ part e.stay
  left_at e h t =
      let w = we stays x A B C c e (inB stays x A B C c e h) in
      let a = c.since e h in
      let b = c.until e h in
      let r = leave_rank stays x A B C c e t in
      ap (λ z. not z && key_before e.stay.enter x.enter) t ∙ before_is e.stay.enter x.enter w.enter_in (wx stays x A B C c).enter_in
      ∙ sym (part_is (rank e.stay.enter) (rank e.stay.leave) xe xl (omega arith) (omega arith))

  and_true : (b : Bool) → (b && true) ≡ b
  and_true true = refl
  and_true false = refl

  left_is : count_by (has_left x) B ≡ sum_on x.track.0 (λ s. flag (part s && true)) stays
  left_is = leaving (λ s. true) (has_left x) (λ e h t. ap flag (left_at e h t ∙ sym (and_true (part e.stay))))
      (λ e h t. ap (λ z. flag (not z && key_before e.stay.enter x.enter)) t)

  blocked_is : count_by (has_blocked x) B ≡ sum_on x.track.0 (λ s. flag (part s && by s)) stays
  blocked_is = leaving by (has_blocked x) (λ e h t. ap (λ z. flag (z && by e.stay)) (left_at e h t))
      (λ e h t. ap (λ z. flag ((not z && key_before e.stay.enter x.enter) && by e.stay)) t)

  -- who stands at x's entry covers it or parts
  standing_is : count_by (stands_at x.track.0 x.enter) stays ≡ sum_on x.track.0 (λ s. flag (cover s)) stays + sum_on x.track.0 (λ s. flag (part s && true)) stays
  standing_is = sum_plus (λ s. cond (eqb s.track.0 x.track.0) (flag (cover s)) 0) (λ s. cond (eqb s.track.0 x.track.0) (flag (part s && true)) 0)
      (λ s. flag (stands_at x.track.0 x.enter s)) stays (λ s h.
      ap flag (stands_is x.track.0 x.enter s (wx stays x A B C c).enter_in (ws s h))
      ∙ and_flag (eqb s.track.0 x.track.0) (inside xe s)
      ∙ ap (λ n. cond (eqb s.track.0 x.track.0) n 0) (standing_ways (rank s.enter) (rank s.leave) xe xl (enters_apart s h) (leaves_apart s h)
      ∙ ap (λ b. flag (cover s) + flag b) (sym (and_true (part s))))
      ∙ times (eqb s.track.0 x.track.0) (flag (cover s)) (flag (part s && true)))

  crossing_is : count_by (λ b. crosses b x) stays ≡ sum_on x.track.0 (λ s. flag (part s && by s)) stays + cond out 0 (sum_on x.track.0 (λ s. flag (cover s)) stays)
  crossing_is =
      let rest : sum_by (λ s. cond out 0 (cond (eqb s.track.0 x.track.0) (flag (cover s)) 0)) stays
      ≡ cond out 0 (sum_on x.track.0 (λ s. flag (cover s)) stays) = sum_cond out (λ s. cond (eqb s.track.0 x.track.0) (flag (cover s)) 0) stays in
      sum_plus (λ s. cond (eqb s.track.0 x.track.0) (flag (part s && by s)) 0) (λ s. cond out 0 (cond (eqb s.track.0 x.track.0) (flag (cover s)) 0))
      (λ s. flag (crosses s x)) stays (λ s h.
      ap flag (crosses_ranks s x (ws s h) (wx stays x A B C c))
      ∙ and_flag (eqb s.track.0 x.track.0) (met (rank s.enter) (rank s.leave) xe xl out (by s))
      ∙ ap (λ n. cond (eqb s.track.0 x.track.0) n 0) (own_ways (rank s.enter) (rank s.leave) xe xl out (by s))
      ∙ times (eqb s.track.0 x.track.0) (flag (part s && by s)) (cond out 0 (flag (cover s)))
      ∙ ap (λ n. cond (eqb s.track.0 x.track.0) (flag (part s && by s)) 0 + n) (swap_cond (eqb s.track.0 x.track.0) out (flag (cover s))))
      ∙ ap (λ n. sum_on x.track.0 (λ s. flag (part s && by s)) stays + n) rest

  -- of those that stand at x's entry, that many leave before it
  pub left_within : (standing : ℕ) → standing ≡ count_by (stands_at x.track.0 x.enter) stays → count_by (has_left x) B ≤ standing
  left_within n e = omega (arith, left_is, standing_is)

  pub own_is : (standing own : ℕ) → standing ≡ count_by (stands_at x.track.0 x.enter) stays → own ≡ count_by (has_blocked x) B + cond out 0 (standing - count_by (has_left x) B)
      → own ≡ count_by (λ b. crosses b x) stays
  own_is n own e is =
      let rest : n - count_by (has_left x) B ≡ sum_on x.track.0 (λ s. flag (cover s)) stays = omega (arith, left_is, standing_is) in
      is ∙ ap (λ m. count_by (has_blocked x) B + cond out 0 m) rest ∙ omega (arith, blocked_is, crossing_is)
