-- A search that begins again with stacks.
use Rattle.std.specs.Prelude.{All, Option}
use Rattle.std.proofs.Common.{◌≡◌, ℕ, List, ℤ, sym, subst, arith}
use Rattle.std.proofs.lemmas.Int.{ints}
use Rattle.shunt_base.specs.declared.duals.Case.{Case}
use Rattle.shunt_instance.specs.defs.Instance.{Night, IsInstance}
use Rattle.shunt_blocks.specs.declared.records.Block.{Block}
use Rattle.shunt_blocks.specs.defs.Shapes.{IsWithinTrains}
use Rattle.shunt_blocks.specs.defs.Lists.{ShareNothing, RunsThrough, placed}
use Rattle.shunt_prices.specs.defs.Cases.{CasesHold}
use Rattle.shunt_prices.specs.defs.Bounds.{IsCasesBound}
use Rattle.shunt_stacks.specs.defs.Cases.{StackCasesHold}
use Rattle.shunt_stacks.specs.defs.Bounds.{IsStackBound}
use Rattle.shunt_proof.specs.declared.records.Node.{Node}
use Rattle.shunt_proof.specs.declared.records.Version.{Version}
use Rattle.shunt_proof.specs.declared.records.Version.TheVariants.{Prices, Stacks}
use Rattle.shunt_proof.specs.defs.Nodes.{AreStatable}
use Rattle.shunt_proof.specs.defs.Versions.{HoldIn}
use Rattle.shunt_proof.specs.defs.Trees.{IsStart}
use Rattle.shunt_search.specs.declared.yard.Yard.{Yard}
use Rattle.shunt_search.specs.declared.known.KnownPlan.{KnownPlan}
use Rattle.shunt_search.specs.declared.root_bounds.Root.{Root}
use Rattle.shunt_search.specs.declared.search_state.Search.{Search}
use Rattle.shunt_search.specs.defs.Yards.{IsYard}
use Rattle.shunt_search.specs.defs.WalkStates.{cases_in}
use Rattle.shunt_search.specs.defs.Roots.{IsAbove, IsFloor, IsRoot}
use Rattle.shunt_search.specs.defs.SearchStates.{IsSearch, IsGround}
use Rattle.shunt_search.proofs.Restarted.{RestartLaws, low_opening}
use Rattle.shunt_blocks.proofs.Shapes.{all_within}

-- what the laws of the crates below say
pub record StackLaws : Type 0 where
  pub hold : (night : Night) (path : List Block) (cases : List Case) → CasesHold night path cases → StackCasesHold night path cases
  pub bound : (night : Night) (path : List Block) (cases : List Case) (bound : ℤ) → IsInstance night → All (IsWithinTrains night) path → ShareNothing night path
      → RunsThrough night (placed path)
      → CasesHold night path cases → IsCasesBound night path cases bound → IsStackBound night path cases bound
  pub one : (night : Night) (path : List Block) (cases : List Case) (x y : ℤ) → IsStackBound night path cases x → IsStackBound night path cases y → x ≡ y

-- a root by prices is one with stacks: its cases hold, and bound the yard's path as they did
pub root_with_stacks : StackLaws → (night : Night) → IsInstance night → (y : Yard) → IsYard night y → (r : Root) → IsRoot Prices night y.path.blocks r
    → IsRoot Stacks night y.path.blocks r
root_with_stacks laws night i y yard r root =
    let path = y.path.blocks in
    let reach = root.low.reach in
    let is = laws.bound night path r.cases reach.0 i (all_within night path yard.each) yard.path.apart yard.through root.rooted.hold reach.1 in
    record {
      rooted = record {
        statable = root.rooted.statable;
        hold = laws.hold night path r.cases root.rooted.hold;
        floor = root.rooted.floor;
        assignment = root.rooted.assignment;
        above = λ bound own. let same = laws.one night path r.cases reach.0 bound is own in let high = root.rooted.above reach.0 reach.1 in omega (arith, ints, same, high);
      };
      low = record { high = root.low.high; reach = (reach.0, is, reach.2) };
    }

-- the root's cases are good for a root again
root_again : RestartLaws → (night : Night) (pins start : List Block) (stock : List (List Case)) (told : Option (List Node)) (number owned : ℕ) (s : Search) (r : Root)
    → IsSearch Prices night pins stock told number owned s.waiting.items s → r.cases ≡ cases_in stock 0 → r.floor ≡ s.floor → IsStart night pins start → IsRoot Prices night start r
root_again laws night pins start stock told number owned s r S cases floor begins =
    let same = laws.one night pins S.start start S.begins begins in
    let is = sym cases in
    record {
      rooted = record {
        statable = subst (λ (d : List Case). AreStatable night d) is S.rooted.statable;
        hold = subst (λ (d : List Case). HoldIn Prices night start d) is (subst (λ (l : List Block). HoldIn Prices night l (cases_in stock 0)) same S.rooted.hold);
        floor = S.rooted.floor;
        assignment = S.rooted.assignment;
        above = subst (λ (d : List Case). IsAbove Prices night start d S.rooted.floor) is
            (subst (λ (l : List Block). IsAbove Prices night l (cases_in stock 0) S.rooted.floor) same S.rooted.above);
      };
      low = subst (λ (x : ℤ). IsFloor Prices night start r.cases S.rooted.floor x) (sym floor)
          (subst (λ (d : List Case). IsFloor Prices night start d S.rooted.floor s.floor) is
          (subst (λ (l : List Block). IsFloor Prices night l (cases_in stock 0) S.rooted.floor s.floor) same S.lowest));
    }

pub ground_of : RestartLaws → (night : Night) (pins : List Block) (stock : List (List Case)) (told : Option (List Node)) (number owned : ℕ) (s : Search) (r : Root)
    → IsSearch Prices night pins stock told number owned s.waiting.items s → r.cases ≡ cases_in stock 0 → r.floor ≡ s.floor → IsGround night pins r s.known
ground_of laws night pins stock told number owned s r S cases floor = record {
  usable = S.usable;
  even = S.even;
  root = λ start begins. root_again laws night pins start stock told number owned s r S cases floor begins;
  best = S.best;
  opening = low_opening laws Prices night pins stock told number owned s S;
  small = S.small;
}

-- the same root with the plan of another search
pub ground_with : RestartLaws → (version : Version) (night : Night) (pins : List Block) (stock : List (List Case)) (told : Option (List Node)) (number owned : ℕ) (s : Search)
    (r : Root) (k : KnownPlan) → IsSearch version night pins stock told number owned s.waiting.items s → IsGround night pins r k → IsGround night pins r s.known
ground_with laws version night pins stock told number owned s r k S g = record {
  usable = g.usable;
  even = g.even;
  root = g.root;
  best = S.best;
  opening = low_opening laws version night pins stock told number owned s S;
  small = S.small;
}
