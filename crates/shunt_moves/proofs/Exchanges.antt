-- Exchanges lead back, and the states that they lead to stay the same.
use Rattle.std.proofs.Common.{◌≡◌, ℕ, List, [], ◌∷◌, ◌++◌, reverse, refl, sym, subst, ap, ◌∙◌}
use Rattle.std.specs.Prelude.{Option, Some, None}
use Rattle.std.proofs.lemmas.List.{reverse-append}
use Rattle.shunt_instance.specs.defs.Instance.{Night}
use Rattle.shunt_blocks.specs.declared.records.Block.{Block}
use Rattle.shunt_moves.specs.declared.exchange.Exchange.{Exchange}
use Rattle.shunt_moves.specs.defs.States.{State, without_block}
use Rattle.shunt_moves.specs.defs.Exchanges.{taken, put, Extends, exchanged, flipped, LeadsOn, trail, AllLead}
use Rattle.shunt_moves.proofs.ByIds.{taken_again}

abbrev state_of : List Block → ℕ → State
state_of bs n = record { blocks = bs; next = n }

same_state : (bs cs : List Block) (m n : ℕ) → bs ≡ cs → m ≡ n → state_of bs m ≡ state_of cs n
same_state bs cs m n e f = ap (λ (l : List Block). state_of l m) e ∙ ap (state_of cs) f

pub taken_is : (o : Option Block) (less more : List Block) → Extends o less more → taken o more ≡ less
taken_is None less more e = sym e
taken_is (Some b) less more e = ap (without_block b.id) e.0 ∙ taken_again b less e.1

pub put_is : (o : Option Block) (less more : List Block) → Extends o less more → put o less ≡ more
put_is None less more e = e
put_is (Some b) less more e = sym e.0

module _ (night : Night) (x : Exchange) (s t : State) (h : LeadsOn night x s t) where
  pub blocks_are : put x.come.second (put x.come.first (taken x.gone.second (taken x.gone.first s.blocks))) ≡ t.blocks
  blocks_are =
      ap (λ (l : List Block). put x.come.second (put x.come.first (taken x.gone.second l))) (taken_is x.gone.first h.one s.blocks h.first_gone)
      ∙ ap (λ (l : List Block). put x.come.second (put x.come.first l)) (taken_is x.gone.second h.both h.one h.second_gone)
      ∙ ap (put x.come.second) (put_is x.come.first h.both h.new h.first_come)
      ∙ put_is x.come.second h.new t.blocks h.second_come

  pub leads_to : exchanged x s ≡ t
  leads_to = same_state (exchanged x s).blocks t.blocks x.next t.next blocks_are h.next

  pub leads_back : LeadsOn night (flipped x s.next) t s
  leads_back = record {
    one = h.new;
    both = h.both;
    new = h.one;
    first_gone = h.second_come;
    second_gone = h.first_come;
    first_come = h.second_gone;
    second_come = h.first_gone;
    next = refl;
    from = h.to;
    to = h.from;
  }

-- the state before is put in front of those that it leads to
pub back_lead : (night : Night) (x : Exchange) (s t : State) (exchanges : List Exchange) → LeadsOn night x s t → AllLead night s exchanges
    → AllLead night t (flipped x s.next ∷ exchanges)
back_lead night x s t exchanges h all =
    let back = leads_back night x s t h in let is : exchanged (flipped x s.next) t ≡ s = leads_to night (flipped x s.next) t s back in
    (subst (LeadsOn night (flipped x s.next) t) (sym is) back, subst (λ (u : State). AllLead night u exchanges) (sym is) all)

pub back_trail : (night : Night) (x : Exchange) (s t : State) (exchanges : List Exchange) → LeadsOn night x s t → trail t (flipped x s.next ∷ exchanges) ≡ s ∷ trail s exchanges
back_trail night x s t exchanges h =
    ap (λ (u : State). u ∷ trail u exchanges) (leads_to night (flipped x s.next) t s (leads_back night x s t h))

-- the last of a list comes first in its reverse
pub reverse_last : {X : Type 0} (xs : List X) (x : X) → reverse (xs ++ x ∷ []) ≡ x ∷ reverse xs
reverse_last xs x = reverse-append xs (x ∷ [])
