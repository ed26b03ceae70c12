-- Other tracks, other orders of the stays, and how large the kept numbers are.
use Rattle.std.proofs.Common.{◌≡◌, ◌≢◌, ⊎_elim, ℕ, ◌+◌, ◌*◌, ◌^◌, ◌<◌, ◌≤◌, eqb, Bool, true, false, cond, List, [], ◌∷◌, length, refl, sym, ap, ◌∙◌, arith, sum_by, IsPermutation}
use Rattle.std.specs.List.{count_by}
use Rattle.std.proofs.lemmas.Bool.{eqb-true, cases_Bool}
use Rattle.std.proofs.lemmas.List.Sums.{sum_by-cons, count_by-le-length}
use Rattle.std.proofs.lemmas.List.Sorted.{sum_by-IsPermutation, Contains-permutation}
use Rattle.shunt_lists.proofs.Members.{in_to, in_from}
use Rattle.shunt_lists.specs.defs.Members.{In}
use Rattle.shunt_base.specs.declared.keys.EventKey.{EventKey}
use Rattle.shunt_base.specs.declared.keys.Stay.{Stay}
use Rattle.shunt_base.specs.defs.Keys.{AreStays}
use Rattle.shunt_stays.specs.defs.Crossings.{crosses, stands_at, load_at}
use Rattle.shunt_stays.proofs.Halves.{formed}
use Rattle.shunt_timeline.specs.declared.events.StayEvent.{StayEvent}
use Rattle.shunt_timeline.specs.defs.Levels.{key_of, IsSmall}
use Rattle.shunt_timeline.specs.defs.Kept.{IsKeptTrack, sum_on}
use Rattle.shunt_timeline.proofs.Steps.{flag}
use Rattle.shunt_timeline.proofs.Changes.{off_track, off_crossing, kept_aside, aside_kept}
use Rattle.shunt_lists.proofs.Sums.{sum_at_most as sum_most}

-- a track on which x isn't
pub beside : (stays : List Stay) (x : Stay) (t : ℕ) (events : List StayEvent) → x.track.0 ≢ t → IsKeptTrack stays t events → IsKeptTrack (x ∷ stays) t events
beside stays x t events ne k = record {
  ascends = k.ascends;
  each = λ e h. let i = k.each e h in kept_aside stays x t e (off_track t (key_of e) x ne) (λ u. off_crossing x e.stay (λ s. ne (s ∙ i.track))) i;
  entries = λ f. k.entries f ∙ sym (sum_by-cons (λ s. cond (eqb s.track.0 t) (f s) 0) x stays ∙ ap (λ n. n + sum_on t f stays) (off f) ∙ omega arith);
  leaves = λ f. k.leaves f ∙ sym (sum_by-cons (λ s. cond (eqb s.track.0 t) (f s) 0) x stays ∙ ap (λ n. n + sum_on t f stays) (off f) ∙ omega arith);
}
  where
    off : (f : Stay → ℕ) → cond (eqb x.track.0 t) (f x) 0 ≡ 0
    off f = ⊎_elim (λ u. absurd (ne (eqb-true x.track.0 t u))) (λ u. ap (λ b. cond b (f x) 0) u) (cases_Bool (eqb x.track.0 t))

pub without : (stays : List Stay) (x : Stay) (t : ℕ) (events : List StayEvent) → x.track.0 ≢ t → IsKeptTrack (x ∷ stays) t events → IsKeptTrack stays t events
without stays x t events ne k = record {
  ascends = k.ascends;
  each = λ e h. let i = k.each e h in aside_kept stays x t e (off_track t (key_of e) x ne) (λ u. off_crossing x e.stay (λ s. ne (s ∙ i.track)))
      (⊎_elim (λ s. absurd (ne (ap (λ (z : Stay). z.track.0) (sym s) ∙ i.track))) (λ j. j) i.stay) i;
  entries = λ f. k.entries f ∙ sum_by-cons (λ s. cond (eqb s.track.0 t) (f s) 0) x stays ∙ ap (λ n. n + sum_on t f stays) (off f) ∙ omega arith;
  leaves = λ f. k.leaves f ∙ sum_by-cons (λ s. cond (eqb s.track.0 t) (f s) 0) x stays ∙ ap (λ n. n + sum_on t f stays) (off f) ∙ omega arith;
}
  where
    off : (f : Stay → ℕ) → cond (eqb x.track.0 t) (f x) 0 ≡ 0
    off f = ⊎_elim (λ u. absurd (ne (eqb-true x.track.0 t u))) (λ u. ap (λ b. cond b (f x) 0) u) (cases_Bool (eqb x.track.0 t))

-- the order of the stays is nothing to it
pub in_permuted : (stays others : List Stay) (s : Stay) → IsPermutation stays others → In s stays → In s others
in_permuted stays others s p h = in_from others s (Contains-permutation stays others s p (in_to stays s h))

pub reordered : (stays others : List Stay) (t : ℕ) (events : List StayEvent) → IsPermutation stays others → IsKeptTrack stays t events → IsKeptTrack others t events
reordered stays others t events p k = record {
  ascends = k.ascends;
  each = λ e h. let i = k.each e h in record {
    stay = in_permuted stays others e.stay p i.stay;
    track = i.track;
    crossings = λ u. i.crossings u ∙ sym (sum_by-IsPermutation (λ b. flag (crosses b e.stay)) stays others p);
    none = i.none;
    standing = i.standing ∙ sym (sum_by-IsPermutation (λ s. flag (stands_at t (key_of e) s)) stays others p);
    load = i.load ∙ sym (sum_by-IsPermutation (λ s. cond (stands_at t (key_of e) s) s.length 0) stays others p);
  };
  entries = λ f. k.entries f ∙ sym (sum_by-IsPermutation (λ s. cond (eqb s.track.0 t) (f s) 0) stays others p);
  leaves = λ f. k.leaves f ∙ sym (sum_by-IsPermutation (λ s. cond (eqb s.track.0 t) (f s) 0) stays others p);
}

-- bounds
length_bound : (b : Bool) (n : ℕ) → n < 2 ^ 32 → cond b n 0 ≤ 2 ^ 32
length_bound true n lt = omega arith
length_bound false n lt = omega arith

pub load_bound : (stays : List Stay) (t : ℕ) (k : EventKey) → AreStays stays → load_at stays t k ≤ length stays * 2 ^ 32
load_bound stays t k a = sum_most (λ s. cond (stands_at t k s) s.length 0) (2 ^ 32) stays (λ s h. length_bound (stands_at t k s) s.length (formed stays s a h).length_in)

module _ (stays : List Stay) (t : ℕ) (events : List StayEvent) (a : AreStays stays) (few : length stays ≤ 65536) (k : IsKeptTrack stays t events) where
  one_flag : (b : Bool) → cond b 1 0 + cond b 0 1 ≡ 1
  one_flag true = refl
  one_flag false = refl

  one_most : (b : Bool) → cond b 1 0 ≤ 1
  one_most true = omega arith
  one_most false = omega arith

  all_ones : (es : List StayEvent) → length es ≡ sum_by (λ e. cond e.enters 1 0) es + sum_by (λ e. cond e.enters 0 1) es
  all_ones [] = refl
  all_ones (e ∷ es) = let r = all_ones es in let o = one_flag e.enters in omega (arith, sum_by-cons (λ e. cond e.enters 1 0) e es, sum_by-cons (λ e. cond e.enters 0 1) e es)

  -- two events a stay at most
  pub length_kept : length events ≤ 2 * length stays
  length_kept =
      let most : sum_on t (λ s. 1) stays ≤ length stays * 1 = sum_most (λ s. cond (eqb s.track.0 t) 1 0) 1 stays (λ s h. one_most (eqb s.track.0 t)) in
      omega (arith, all_ones events, k.entries (λ s. 1), k.leaves (λ s. 1))

  count_small : (p : Stay → Bool) → count_by p stays ≤ 65536
  count_small p = omega (arith, count_by-le-length p stays)

  -- the numbers of an event fit their types
  pub small_kept : (e : StayEvent) → In e events → IsSmall e
  small_kept e h =
      let i = k.each e h in record {
        crossings = ⊎_elim (λ u. let c = i.crossings u in let s = count_small (λ b. crosses b e.stay) in omega arith) (λ u. let c = i.none u in omega arith) (cases_Bool e.enters);
        standing = let s = i.standing in let n = count_small (stands_at t (key_of e)) in omega arith;
        load = let l = i.load in let n = load_bound stays t (key_of e) a in omega arith;
      }
