-- The steps of an exchange, one after the other.
use Rattle.std.proofs.Common.{◌≡◌, ℕ, ◌<◌, ◌≤◌, List, length, sym, subst, ap, ◌∙◌, arith}
use Rattle.std.specs.Prelude.{All, Option, Some, None}
use Rattle.shunt_lists.specs.defs.Members.{In}
use Rattle.shunt_instance.specs.defs.Instance.{Night}
use Rattle.shunt_blocks.specs.declared.records.Block.{Block}
use Rattle.shunt_blocks.specs.defs.Shapes.{IsInRange}
use Rattle.shunt_moves.specs.declared.exchange.Exchange.{Exchange}
use Rattle.shunt_moves.specs.defs.States.{State}
use Rattle.shunt_moves.specs.defs.Exchanges.{taken, put, Extends, LeadsOn}
use Rattle.shunt_moves.proofs.KeptBeside.{to_insert, inserted, length_insert}
use Rattle.shunt_moves.proofs.Exchanges.{taken_is, put_is}
use Rattle.shunt_lists.proofs.Members.{each_one as of_all, to_all}

-- a list with a block more has all others
pub extends_in : (o : Option Block) (less more : List Block) → Extends o less more → (c : Block) → In c less → In c more
extends_in None less more e c i = subst (In c) e i
extends_in (Some b) less more e c i = subst (In c) (sym e.0) (to_insert b less c i)

pub extends_few : (o : Option Block) (less more : List Block) → Extends o less more → length less ≤ length more
extends_few None less more e = omega (arith, ap (λ (l : List Block). length l) e)
extends_few (Some b) less more e = omega (arith, length_insert b less, ap (λ (l : List Block). length l) e.0)

-- what may come
abbrev pub MayCome : Night → Option Block → List Block → Type 0
MayCome night o blocks = (more : List Block) × Extends o blocks more × All (IsInRange night) more × (length more ≤ 400)

abbrev pub MayGo : Option Block → List Block → Type 0
MayGo o blocks = (less : List Block) × Extends o less blocks

module _ (night : Night) (x : Exchange) (s t : State) (h : LeadsOn night x s t) where
  pub goes_first : MayGo x.gone.first s.blocks
  goes_first = (h.one, h.first_gone)

  pub goes_second : (blocks : List Block) → blocks ≡ taken x.gone.first s.blocks → MayGo x.gone.second blocks
  goes_second blocks e = (h.both, subst (Extends x.gone.second h.both) (sym (e ∙ taken_is x.gone.first h.one s.blocks h.first_gone)) h.second_gone)

  both_are : taken x.gone.second (taken x.gone.first s.blocks) ≡ h.both
  both_are = ap (taken x.gone.second) (taken_is x.gone.first h.one s.blocks h.first_gone) ∙ taken_is x.gone.second h.both h.one h.second_gone

  pub comes_first : (blocks : List Block) → blocks ≡ taken x.gone.second (taken x.gone.first s.blocks) → MayCome night x.come.first blocks
  comes_first blocks e = (
    h.new,
    subst (λ (l : List Block). Extends x.come.first l h.new) (sym (e ∙ both_are)) h.first_come,
    to_all (IsInRange night) h.new (λ c i. of_all (IsInRange night) t.blocks c h.to.each (extends_in x.come.second h.new t.blocks h.second_come c i)),
    (let n = extends_few x.come.second h.new t.blocks h.second_come in let few = h.to.few in omega arith),
  )

  pub comes_second : (blocks : List Block) → blocks ≡ put x.come.first (taken x.gone.second (taken x.gone.first s.blocks)) → MayCome night x.come.second blocks
  comes_second blocks e = (
    t.blocks,
    subst (λ (l : List Block). Extends x.come.second l t.blocks) (sym (e ∙ ap (put x.come.first) both_are ∙ put_is x.come.first h.both h.new h.first_come)) h.second_come,
    h.to.each,
    h.to.few,
  )

abbrev pub state_of : List Block → ℕ → State
state_of bs n = record { blocks = bs; next = n }

-- what the steps themselves need
pub goes_in : (o : Option Block) (b : Block) (blocks : List Block) → o ≡ Some b → MayGo o blocks → In b blocks
goes_in None b blocks e h = absurd (cc)
goes_in (Some c) b blocks e h = let same : c ≡ b = some_same c b e in subst (λ (x : Block). In x blocks) same (subst (In c) (sym h.1.0) (inserted c h.0))
  where
    some_same : (x y : Block) → Some x ≡ Some y → x ≡ y
    some_same x y e = cc

pub comes_range : (night : Night) (o : Option Block) (b : Block) (blocks : List Block) → o ≡ Some b → MayCome night o blocks → IsInRange night b
comes_range night None b blocks e h = absurd (cc)
comes_range night (Some c) b blocks e h = let same : c ≡ b = some_same c b e in subst (IsInRange night) same
    (of_all (IsInRange night) h.0 c h.2 (subst (In c) (sym h.1.0) (inserted c blocks)))
  where
    some_same : (x y : Block) → Some x ≡ Some y → x ≡ y
    some_same x y e = cc

pub comes_few : (night : Night) (o : Option Block) (b : Block) (blocks : List Block) → o ≡ Some b → MayCome night o blocks → length blocks < 400
comes_few night None b blocks e h = absurd (cc)
comes_few night (Some c) b blocks e h = let few = h.3 in omega (arith, length_insert c blocks, ap (λ (l : List Block). length l) h.1.0)
