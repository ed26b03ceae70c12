-- One more block at a path, and how far the gain of its stack falls.
use Rattle.std.specs.Prelude.{All, ◌-ℤ◌, Option, Some, None}
use Rattle.std.proofs.Common.{◌≡◌, ⊎_elim, ℕ, ◌+◌, ◌<◌, false, List, [], ◌∷◌, ◌++◌, length, take, get_or, ℤ, pos, refl, sym, subst}
use Rattle.std.proofs.lemmas.List.{take_more}
use Rattle.std.proofs.lemmas.List.Elements.{All-cons, All-nil, All-append}
use Rattle.shunt_lists.specs.defs.Members.{In}
use Rattle.shunt_lists.proofs.Members.{in_cases, of_one}
use Rattle.shunt_base.specs.declared.duals.Case.{Case}
use Rattle.shunt_instance.specs.defs.Instance.{Night}
use Rattle.shunt_blocks.specs.declared.records.Block.{Block}
use Rattle.shunt_blocks.specs.declared.records.Park.{Park}
use Rattle.shunt_blocks.specs.defs.Shapes.{shape_of}
use Rattle.shunt_blocks.specs.defs.Blocks.{IsBlockButId}
use Rattle.shunt_blocks.specs.defs.Lists.{ShareNothing}
use Rattle.shunt_choices.specs.defs.Paths.{masks_of}
use Rattle.shunt_choices.specs.defs.Choices.{IsChoice}
use Rattle.shunt_choices.proofs.Given.{PlaceLaws}
use Rattle.shunt_choices.proofs.Grown.{grown_apart, choice_free, choice_of}
use Rattle.shunt_blocks.specs.defs.Shapes.{begins_at}
use Rattle.shunt_prices.specs.defs.Cases.{IsFreeBlock}
use Rattle.shunt_stacks.specs.defs.Stacks.{Stack, is_of}
use Rattle.shunt_stacks.specs.defs.Fillings.{IsStackGain}
use Rattle.shunt_stacks.specs.defs.Bounds.{IsFall}
use Rattle.shunt_recount.specs.declared.counts.StackCount.{StackCount}
use Rattle.shunt_recount.specs.defs.Offers.{stack_at}

module _ (night : Night) (path : List Block) (b : Block) (free : IsFreeBlock night (masks_of night path) (shape_of b) b.park) where
  pub longer_each : All (IsBlockButId night) path → All (IsBlockButId night) (path ++ b ∷ [])
  longer_each each = All-append (IsBlockButId night) path (b ∷ []) each (All-cons (IsBlockButId night) b [] (record { shape = free.shape.shape; option = free.option })
      (All-nil (IsBlockButId night)))

  chosen : IsChoice night (masks_of night path) (begins_at night b) (choice_of b)
  chosen = record { shape = free.shape; option = free.option }

  pub longer_apart : PlaceLaws → ShareNothing night path → ShareNothing night (path ++ b ∷ [])
  longer_apart places apart = grown_apart night path b apart (choice_free places night path (begins_at night b) b.id (choice_of b) chosen)

module _ (night : Night) (path : List Block) (b : Block) (c : Case) where
  pub no_fall : (o : Option Stack) → ((s : Stack) → o ≡ Some s → ⊥) → IsFall night path b c o (pos 0)
  no_fall None not = refl
  no_fall (Some s) not = absurd (not s refl)

  pub some_fall : (o : Option Stack) (s : Stack) (before after z : ℤ) → o ≡ Some s → IsStackGain night path c s before → IsStackGain night (path ++ b ∷ []) c s after
      → z ≡ before -ℤ after → IsFall night path b c o z
  some_fall o s before after z e first later is = subst (λ (p : Option Stack). IsFall night path b c p z) (sym e) (before, after, first, later, is)

pub not_yet : (counts : List StackCount) (i : ℕ) (d : StackCount) (park : Option Park) → i < length counts → is_of (stack_at (get_or counts i d).end) park ≡ false →
    ((k : StackCount) → In k (take i counts) → is_of (stack_at k.end) park ≡ false) → (k : StackCount) → In k (take (i + 1) counts) → is_of (stack_at k.end) park ≡ false
not_yet counts i d park lt is before k there = ⊎_elim (λ early. before k early) (λ last. subst (λ (x : StackCount). is_of (stack_at x.end) park ≡ false)
    (sym (of_one (get_or counts i d) k last)) is)
    (in_cases (take i counts) (get_or counts i d ∷ []) k (subst (λ (l : List StackCount). In k l) (take_more counts i d lt) there))
