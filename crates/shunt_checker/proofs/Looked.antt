-- What a branch would have to list, test by test.
use Rattle.std.specs.Prelude.{IsTrue, ◌↔◌, Bool, true, false}
use Rattle.std.proofs.Common.{◌≡◌, ℕ, List, sym, subst}
use Rattle.shunt_base.specs.declared.duals.Case.{Case}
use Rattle.shunt_instance.specs.defs.Instance.{Night}
use Rattle.shunt_blocks.specs.declared.records.Block.{Block}
use Rattle.shunt_blocks.specs.defs.Blocks.{IsOption}
use Rattle.shunt_blocks.specs.defs.Lists.{RunsThrough, placed}
use Rattle.shunt_choices.specs.defs.Choices.{Choice as PathChoice, longer_by}
use Rattle.shunt_proof.specs.declared.records.Choice.{Choice}
use Rattle.shunt_proof.specs.declared.records.Node.{Node}
use Rattle.shunt_proof.specs.declared.records.Version.{Version}
use Rattle.shunt_checker.specs.defs.Children.{HasChild, said}
use Rattle.shunt_checker.specs.defs.Lows.{IsLowBy}
use Rattle.shunt_checker.specs.defs.Misses.{IsMissed}

-- what a test that fails decides doesn't hold
pub against : (b : Bool) (P : Type 0) → IsTrue b ↔ P → b ≡ false → P → ⊥
against b P test e h = let t : b ≡ true = test.1 h in absurd cc

pub refuted : (P : Type 0) → (P → ⊥) → IsTrue false ↔ P
refuted P never = (λ (t : false ≡ true). cc, λ h. absurd (never h))

module _ (version : Version) (night : Night) (path : List Block) (cases : List Case) (nodes : List Node) (k L : ℕ) (c : PathChoice) where
  pub no_option : (b : Bool) → IsTrue b ↔ IsOption night c.shape c.option → b ≡ false → IsTrue false ↔ IsMissed version night path cases nodes k L c
  no_option b test e = refuted (IsMissed version night path cases nodes k L c) (λ h. against b (IsOption night c.shape c.option) test e h.option)

  pub not_low : (b : Bool) → IsTrue b ↔ IsLowBy version night path cases L c → b ≡ false → IsTrue false ↔ IsMissed version night path cases nodes k L c
  not_low b test e = refuted (IsMissed version night path cases nodes k L c) (λ h. against b (IsLowBy version night path cases L c) test e h.low)

  module _ (choice : Choice) (is : choice ≡ said c) where
    pub listed : (b : Bool) → IsTrue b ↔ HasChild nodes k choice → b ≡ true → IsTrue false ↔ IsMissed version night path cases nodes k L c
    listed b test e = refuted (IsMissed version night path cases nodes k L c) (λ h. h.unlisted (subst (HasChild nodes k) is (test.0 e)))

    pub missed_is : (o l h b : Bool) → IsTrue o ↔ IsOption night c.shape c.option → o ≡ true → IsTrue l ↔ IsLowBy version night path cases L c → l ≡ true
        → IsTrue h ↔ HasChild nodes k choice → h ≡ false
        → IsTrue b ↔ RunsThrough night (placed (longer_by path c)) → IsTrue b ↔ IsMissed version night path cases nodes k L c
    missed_is o l h b option eo low el child eh runs = (
      λ t. record {
        option = option.0 eo;
        low = low.0 el;
        unlisted = λ x. against h (HasChild nodes k choice) child eh (subst (HasChild nodes k) (sym is) x);
        through = runs.0 t;
      },
      λ m. runs.1 m.through,
    )
