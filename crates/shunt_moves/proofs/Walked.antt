-- One step of a workbench, back or on.
use Rattle.std.proofs.Common.{◌≡◌, ◌+◌, List, [], ◌∷◌, ◌++◌, length, reverse, refl, sym, subst, ap, ◌∙◌, arith}
use Rattle.std.specs.Prelude.{Option, Some, None, Result, Ok, Err}
use Rattle.shunt_instance.specs.defs.Instance.{Night}
use Rattle.shunt_plan.specs.declared.edits.Edit.{Edit}
use Rattle.shunt_moves.specs.declared.types.MoveError.{MoveError}
use Rattle.shunt_moves.specs.declared.exchange.Exchange.{Exchange}
use Rattle.shunt_moves.specs.defs.States.{State, IsState}
use Rattle.shunt_moves.specs.defs.Edits.{refusal, made, edited, edit}
use Rattle.shunt_moves.specs.defs.Benches.{Bench, applied, after_edit, gone_back, after_undo, gone_on, after_redo}
use Rattle.shunt_moves.specs.defs.Exchanges.{exchanged, flipped, LeadsOn, trail, AllLead, Agrees, planned}
use Rattle.shunt_moves.specs.defs.Kept.{Standing}
use Rattle.shunt_moves.proofs.Exchanges.{leads_to, back_lead, back_trail, reverse_last}
use Rattle.shunt_moves.proofs.Edited.{agrees}

abbrev pub bench_at : Standing → List Exchange → List Exchange → Bench
bench_at p past undone = record { night = p.night; present = p.state; past = trail p.state (reverse past); undone = trail p.state (reverse undone) }

abbrev stands : Night → State → Standing
stands n s = record { night = n; state = s }

same_standing : (p : Standing) (n : Night) (s : State) → p.night ≡ n → p.state ≡ s → p ≡ stands n s
same_standing p n s e f = ap (λ (m : Night). stands m p.state) e ∙ ap (stands n) f

last_length : {X : Type 0} (xs : List X) (x : X) → length (xs ++ x ∷ []) ≡ length xs + 1
last_length [] x = refl
last_length (y ∷ xs) x = let rest = last_length xs x in omega arith

-- ---- a step by an exchange that leads somewhere

module _ (night : Night) (s : State) (x : Exchange) (to : List Exchange) (h : LeadsOn night x s (exchanged x s)) where
  pub put_lead : AllLead night s (reverse to) → AllLead night (exchanged x s) (reverse (to ++ flipped x s.next ∷ []))
  put_lead all = subst (AllLead night (exchanged x s)) (sym (reverse_last to (flipped x s.next))) (back_lead night x s (exchanged x s) (reverse to) h all)

  pub put_trail : trail (exchanged x s) (reverse (to ++ flipped x s.next ∷ [])) ≡ s ∷ trail s (reverse to)
  put_trail = ap (trail (exchanged x s)) (reverse_last to (flipped x s.next)) ∙ back_trail night x s (exchanged x s) (reverse to) h

-- the last one of a list
pub last_lead : (night : Night) (s : State) (from rest : List Exchange) (x : Exchange) → from ≡ rest ++ x ∷ [] → AllLead night s (reverse from)
    → LeadsOn night x s (exchanged x s) × AllLead night (exchanged x s) (reverse rest)
last_lead night s from rest x e all = subst (AllLead night s) (ap reverse e ∙ reverse_last rest x) all

pub last_trail : (s : State) (from rest : List Exchange) (x : Exchange) → from ≡ rest ++ x ∷ [] → trail s (reverse from) ≡ exchanged x s ∷ trail (exchanged x s) (reverse rest)
last_trail s from rest x e = ap (trail s) (ap reverse e ∙ reverse_last rest x)

-- ---- undo and redo

module _ (p q : Standing) (from rest to more : List Exchange) (x y : Exchange) (is_from : from ≡ rest ++ x ∷ []) (is_more : more ≡ to ++ y ∷ []) (is_y : y ≡ flipped x p.state.next)
    (night : q.night ≡ p.night) (state : q.state ≡ exchanged x p.state) (leads : AllLead p.night p.state (reverse from)) where
  now : q ≡ stands p.night (exchanged x p.state)
  now = same_standing q p.night (exchanged x p.state) night state

  behind : more ≡ to ++ flipped x p.state.next ∷ []
  behind = is_more ∙ ap (λ (z : Exchange). to ++ z ∷ []) is_y

  pub went_back : bench_at q rest more ≡ after_undo (bench_at p from to)
  went_back =
      ap (λ (r : Standing). bench_at r rest more) now
      ∙ ap (λ (l : List Exchange). bench_at (stands p.night (exchanged x p.state)) rest l) behind
      ∙ ap (λ (u : List State). one_back rest u) (put_trail p.night p.state x to (last_lead p.night p.state from rest x is_from leads).0)
      ∙ sym (ap (gone_back (bench_at p from to)) (last_trail p.state from rest x is_from))
    where
      one_back : List Exchange → List State → Bench
      one_back l u = record { night = p.night; present = exchanged x p.state; past = trail (exchanged x p.state) (reverse l); undone = u }

  pub went_on : bench_at q more rest ≡ after_redo (bench_at p to from)
  went_on =
      ap (λ (r : Standing). bench_at r more rest) now
      ∙ ap (λ (l : List Exchange). bench_at (stands p.night (exchanged x p.state)) l rest) behind
      ∙ ap (λ (u : List State). one_on rest u) (put_trail p.night p.state x to (last_lead p.night p.state from rest x is_from leads).0)
      ∙ sym (ap (gone_on (bench_at p to from)) (last_trail p.state from rest x is_from))
    where
      one_on : List Exchange → List State → Bench
      one_on l u = record { night = p.night; present = exchanged x p.state; past = u; undone = trail (exchanged x p.state) (reverse l) }

  pub state_now : IsState q.night q.state
  state_now = let l = (last_lead p.night p.state from rest x is_from leads).0 in subst (λ (r : Standing). IsState r.night r.state) (sym now) l.to

  pub rest_leads : AllLead q.night q.state (reverse rest)
  rest_leads = subst (λ (r : Standing). AllLead r.night r.state (reverse rest)) (sym now) (last_lead p.night p.state from rest x is_from leads).1

  pub more_leads : AllLead p.night p.state (reverse to) → AllLead q.night q.state (reverse more)
  more_leads all = subst (λ (r : Standing). AllLead r.night r.state (reverse more)) (sym now)
      (subst (λ (l : List Exchange). AllLead p.night (exchanged x p.state) (reverse l)) (sym behind)
      (put_lead p.night p.state x to (last_lead p.night p.state from rest x is_from leads).0 all))

  pub lengths_same : length rest + length more ≡ length from + length to
  lengths_same = let a : length from ≡ length rest + 1 = ap length is_from ∙ last_length rest x in let b : length more ≡ length to + 1 = ap length is_more
      ∙ last_length to y in omega arith

-- ---- an edit

-- where the exchange of an edit is there, it leads to what the edit makes, and the edit isn't refused
pub planned_leads : (night : Night) (s : State) (e : Edit) (x : Exchange) → IsState night s → planned night s e ≡ Ok x
    → LeadsOn night x s (exchanged x s) × (edit night s e ≡ Ok (exchanged x s))
planned_leads night s e x h is = go (refusal night s e) (planned night s e) (agrees night s h e) refl is
  where
    to_leads : (r : Option MoveError) → Agrees night s (made s e) r (Ok x) → refusal night s e ≡ r → LeadsOn night x s (exchanged x s) × (edit night s e ≡ Ok (exchanged x s))
    to_leads None a f = let to = leads_to night x s (made s e) a in
        (subst (LeadsOn night x s) (sym to) a, ap (λ (o : Option MoveError). edited o (made s e)) f ∙ ap (λ (u : State). edited None u) (sym to))
    to_leads (Some error) a f = absurd a

    go : (r : Option MoveError) (o : Result Exchange MoveError) → Agrees night s (made s e) r o → refusal night s e ≡ r → o ≡ Ok x
        → LeadsOn night x s (exchanged x s) × (edit night s e ≡ Ok (exchanged x s))
    go r o a f g = to_leads r (subst (Agrees night s (made s e) r) g a) f

-- where there is none, the edit is refused for its reason
pub planned_refused : (night : Night) (s : State) (e : Edit) (error : MoveError) → IsState night s → planned night s e ≡ Err error → edit night s e ≡ Err error
planned_refused night s e error h is = go (refusal night s e) (planned night s e) (agrees night s h e) refl is
  where
    to_refused : (r : Option MoveError) → Agrees night s (made s e) r (Err error) → refusal night s e ≡ r → edit night s e ≡ Err error
    to_refused None a f = absurd a
    to_refused (Some other) a f = ap (λ (o : Option MoveError). edited o (made s e)) (f ∙ ap Some a)

    go : (r : Option MoveError) (o : Result Exchange MoveError) → Agrees night s (made s e) r o → refusal night s e ≡ r → o ≡ Err error → edit night s e ≡ Err error
    go r o a f g = to_refused r (subst (Agrees night s (made s e) r) g a) f

module _ (p q : Standing) (past more undone : List Exchange) (x y : Exchange) (e : Edit) (h : IsState p.night p.state) (is : planned p.night p.state e ≡ Ok x)
    (is_more : more ≡ past ++ y ∷ []) (is_y : y ≡ flipped x p.state.next) (night : q.night ≡ p.night) (state : q.state ≡ exchanged x p.state) where
  now_edited : q ≡ stands p.night (exchanged x p.state)
  now_edited = same_standing q p.night (exchanged x p.state) night state

  behind_edit : more ≡ past ++ flipped x p.state.next ∷ []
  behind_edit = is_more ∙ ap (λ (z : Exchange). past ++ z ∷ []) is_y

  pub edit_made : bench_at q more [] ≡ after_edit (bench_at p past undone) e
  edit_made =
      let r = planned_leads p.night p.state e x h is in
      ap (λ (r : Standing). bench_at r more []) now_edited
      ∙ ap (λ (l : List Exchange). bench_at (stands p.night (exchanged x p.state)) l []) behind_edit
      ∙ ap (λ (u : List State). one_made u) (put_trail p.night p.state x past r.0)
      ∙ sym (ap (applied (bench_at p past undone)) r.1)
    where
      one_made : List State → Bench
      one_made u = record { night = p.night; present = exchanged x p.state; past = u; undone = [] }

  pub state_edited : IsState q.night q.state
  state_edited = let l = (planned_leads p.night p.state e x h is).0 in subst (λ (r : Standing). IsState r.night r.state) (sym now_edited) l.to

  pub past_leads : AllLead p.night p.state (reverse past) → AllLead q.night q.state (reverse more)
  past_leads all = subst (λ (r : Standing). AllLead r.night r.state (reverse more)) (sym now_edited)
      (subst (λ (l : List Exchange). AllLead p.night (exchanged x p.state) (reverse l)) (sym behind_edit)
      (put_lead p.night p.state x past (planned_leads p.night p.state e x h is).0 all))

  pub length_edited : length more ≡ length past + 1
  length_edited = ap length is_more ∙ last_length past y
