-- The parents, paths, duals and best costs of a small tree, worked by hand.
use Rattle.std.specs.Prelude.{min, Option, Some, None}
use Rattle.std.proofs.Common.{◌≡◌, ℕ, List, [], ◌∷◌, pos, refl}
use Rattle.shunt_base.specs.declared.duals.Case.{Case}
use Rattle.shunt_instance.specs.defs.Instance.{Night}
use Rattle.shunt_blocks.specs.declared.records.Block.{Block}
use Rattle.shunt_blocks.specs.defs.Lists.{total_cost}
use Rattle.shunt_blocks.specs.defs.Pins.{opening_cost}
use Rattle.shunt_prices.specs.defs.Limits.{plain}
use Rattle.shunt_proof.specs.declared.records.Choice.{Choice}
use Rattle.shunt_proof.specs.declared.records.NodeKind.TheVariants.{Branch, Leaf, Whole}
use Rattle.shunt_proof.specs.declared.records.NodeDuals.TheVariants.{Same, New, Bare}
use Rattle.shunt_proof.specs.declared.records.Node.{Node}
use Rattle.shunt_proof.specs.defs.Trees.{parent, longer_with, path_at, duals_at, best_before}
use Rattle.shunt_proof.proofs.NodesBack.{made_of}

-- ---- a root with two children, the first of which has two, the second one

abbrev single : ℕ → Option Choice
single q = Some (record { n = 1; dep = record { 0 = 0 }; q = q; park = None })

abbrev cases : ℕ → List Case
cases q = plain (record { alpha = pos q ∷ []; beta = []; prices = [] })

abbrev tree : List Node
tree = made_of 0 None Branch (New (cases 0)) ∷ made_of 1 (single 1) Branch Same ∷ made_of 2 (single 2) Whole Bare ∷ made_of 2 (single 3) Leaf Same ∷ made_of 1 (single 4) Branch
    (New (cases 4)) ∷ made_of 2 (single 5) Leaf Same ∷ []

first_child : parent tree 1 ≡ 0
first_child = refl

nearest_one : parent tree 3 ≡ 1
nearest_one = refl

back_at_the_root : parent tree 4 ≡ 0
back_at_the_root = refl

below_the_second : parent tree 5 ≡ 4
below_the_second = refl

from_the_root : duals_at tree 3 ≡ cases 0
from_the_root = refl

its_own : duals_at tree 4 ≡ cases 4
its_own = refl

from_its_parent : duals_at tree 5 ≡ cases 4
from_its_parent = refl

none_where_whole : duals_at tree 2 ≡ []
none_where_whole = refl

module _ (night : Night) (start : List Block) where
  two_choices : path_at night start tree 3 ≡ longer_with night (longer_with night start (single 1)) (single 3)
  two_choices = refl

  other_choices : path_at night start tree 5 ≡ longer_with night (longer_with night start (single 4)) (single 5)
  other_choices = refl

  nothing_whole : best_before night start tree 2 ≡ opening_cost night start
  nothing_whole = refl

  one_whole : best_before night start tree 5 ≡ min (opening_cost night start) (total_cost night (path_at night start tree 2))
  one_whole = refl
