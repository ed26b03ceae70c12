-- A search that starts again, and one that is done.
use Rattle.std.specs.Prelude.{◌≤ℤ◌, Option, Some, None, IfSome}
use Rattle.std.proofs.Common.{◌≡◌, ◌⊎◌, inl, inr, ⊎_elim, ℕ, ◌≤◌, List, [], length, ℤ, pos, sym, subst, ap, arith, IsPermutation}
use Rattle.std.proofs.lemmas.Int.{ints}
use Rattle.std.proofs.lemmas.List.Sorted.{length_permutation}
use Rattle.shunt_store.specs.defs.Files.{BothTold}
use Rattle.shunt_lists.specs.defs.Members.{In}
use Rattle.shunt_base.specs.declared.duals.Case.{Case}
use Rattle.shunt_instance.specs.defs.Instance.{Night}
use Rattle.shunt_blocks.specs.declared.records.Block.{Block}
use Rattle.shunt_blocks.specs.defs.Pins.{opening_cost}
use Rattle.shunt_proof.specs.declared.records.Node.{Node}
use Rattle.shunt_proof.specs.declared.records.Version.{Version}
use Rattle.shunt_proof.specs.defs.Versions.{HoldIn}
use Rattle.shunt_proof.specs.defs.Trees.{IsStart, best_before}
use Rattle.shunt_search.specs.declared.known.KnownPlan.{KnownPlan}
use Rattle.shunt_search.specs.declared.walk_stack.Pending.{Pending}
use Rattle.shunt_search.specs.declared.search_state.Search.{Search}
use Rattle.shunt_search.specs.defs.WalkStates.{cases_in}
use Rattle.shunt_search.specs.defs.Roots.{IsAbove, IsFloor}
use Rattle.shunt_search.specs.defs.SearchStates.{IsSearch, IsFresh, StartsAgain}
use Rattle.shunt_search.specs.defs.Endings.{IsLeft, IsOver, IsDone}
use Rattle.shunt_search.proofs.Searched.{same_best}

-- what the laws of the crates below say
pub record RestartLaws : Type 0 where
  pub one : (night : Night) (pins start other : List Block) → IsStart night pins start → IsStart night pins other → start ≡ other
  pub opening : (night : Night) (pins others : List Block) → IsPermutation pins others → opening_cost night others ≡ opening_cost night pins
  pub before_opening : (night : Night) (start : List Block) (nodes : List Node) (k : ℕ) → best_before night start nodes k ≤ opening_cost night start

-- the plan of a search costs no more than the opening cost
pub low_opening : RestartLaws → (version : Version) (night : Night) (pins : List Block) (stock : List (List Case)) (told : Option (List Node)) (number owned : ℕ) (s : Search)
    → IsSearch version night pins stock told number owned s.waiting.items s → s.known.cost ≤ opening_cost night pins
low_opening laws version night pins stock told number owned s S =
    let cheap = S.walk.cheap in
    let most = laws.before_opening night S.start S.nodes (length S.nodes) in
    let same = laws.opening night pins S.start S.begins.same in
    omega (arith, cheap, most, same)

pub restarted : RestartLaws → (version : Version) (night : Night) (pins : List Block) (stock : List (List Case)) (told : Option (List Node)) (number owned : ℕ) (s z : Search)
    → IsSearch version night pins stock told number owned s.waiting.items s → StartsAgain night pins s z → IsFresh version night pins stock z
restarted laws version night pins stock told number owned s z S a =
    let same_cost : z.known.cost ≡ s.known.cost = ap (λ (k : KnownPlan). k.cost) a.known in
    let same_start = laws.one night pins S.start z.yard.path.blocks S.begins a.begins in
    record {
      usable = S.usable;
      even = S.even;
      begins = a.begins;
      stocked = S.stocked;
      rooted = record {
        statable = S.rooted.statable;
        hold = subst (λ (l : List Block). HoldIn version night l (cases_in stock 0)) same_start S.rooted.hold;
        floor = S.rooted.floor;
        assignment = S.rooted.assignment;
        above = subst (λ (l : List Block). IsAbove version night l (cases_in stock 0) S.rooted.floor) same_start S.rooted.above;
      };
      lowest = subst (λ (l : List Block). IsFloor version night l (cases_in stock 0) S.rooted.floor z.floor) same_start
          (subst (λ (x : ℤ). IsFloor version night S.start (cases_in stock 0) S.rooted.floor x) (sym a.floor) S.lowest);
      yard = a.yard;
      long = let many = a.many in let same = length_permutation pins z.yard.path.blocks a.begins.same in omega (arith, many, same);
      best = same_best night pins s.known z.known a.known S.best;
      opening = let low = low_opening laws version night pins stock told number owned s S in omega (arith, same_cost, low);
      small = let small = S.small in omega (arith, small, same_cost);
      low = a.low;
      empty = a.empty;
    }

-- nothing is told behind a restart
pub told_none : (o p : Option (List Node)) → BothTold o p (λ old new. new ≡ []) → IfSome p (λ l. l ≡ [])
told_none None None both = tt
told_none None (Some y) both = absurd both
told_none (Some x) None both = absurd both
told_none (Some x) (Some y) both = both

-- where nothing is left, what is left is the low bound
pub over_where_none : (waiting : List Pending) (best : ℕ) (low : ℤ) → waiting ≡ [] → pos best ≤ℤ low → IsOver waiting best low
over_where_none waiting best low none high = λ bound left. ⊎_elim
    (λ e. omega (arith, ints, e, high))
    (λ t. absurd (subst (λ (l : List Pending). In t.0 l) none t.1))
    left.least

pub over_at_least : (waiting : List Pending) (best : ℕ) (low least : ℤ) → IsLeft waiting low least → pos best ≤ℤ least → IsOver waiting best low
over_at_least waiting best low least own high = λ bound is. ⊎_elim
    (λ e. let within = own.within in omega (arith, ints, e, high, within))
    (λ t. let le = own.left t.0 t.1 in let e = t.2 in omega (arith, ints, e, high, le))
    is.least

pub done_at : {number most count cost : ℕ} {low : ℤ} {waiting : List Pending} → count ≡ number → number ≤ most → (number ≡ most) ⊎ (waiting ≡ [])
    → (most ≤ count) ⊎ (pos cost ≤ℤ low) → IsDone number most waiting cost low
done_at counted few done which = ⊎_elim
    (λ all. inl (omega (arith, counted, few, all)))
    (λ high. ⊎_elim inl (λ none. inr (over_where_none _ _ _ none high)) done)
    which
