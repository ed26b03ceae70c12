use Rattle.std.proofs.Common.{◌≡◌, ◌∙◌, List, [], ◌∷◌, ◌++◌, length, reverse, sym, subst, ap, arith}
use Rattle.std.specs.Prelude.{Ok, Err}
use Rattle.shunt_moves.specs.declared.exchange.Exchange.{Exchange}
use Rattle.shunt_moves.specs.defs.Edits.{edit}
use Rattle.shunt_moves.specs.defs.Benches.{Bench, after_edit}
use Rattle.shunt_moves.specs.defs.Exchanges.{exchanged, AllLead}
use Rattle.shunt_moves.proofs.Refusals.{never_both, same_error, on_ok}
use Rattle.shunt_moves.proofs.Walked.{bench_at, planned_leads, planned_refused, edit_made, state_edited, past_leads, length_edited}
use Rattle.shunt_moves.proofs.bench.Workbench.apply.Goals as goal

pub returns-in-Err-clause-refused : goal.returns-in-Err-clause-refused
returns-in-Err-clause-refused c error is = ap Err (same_error _ c.in-Err.error error
    (subst (λ (b : Bench). edit b.night b.present c.args.edit.now ≡ Err c.in-Err.error) c.self.view_is
    (planned_refused c.self.inside.present.night c.self.inside.present.state c.args.edit.now c.in-Err.error c.self.invariant.state (sym c.planned.ensures ∙ c.in-Err.is))) is)

pub returns-in-Err-clause-accepted : goal.returns-in-Err-clause-accepted
returns-in-Err-clause-accepted c next is = absurd (never_both _ next c.in-Err.error is
    (subst (λ (b : Bench). edit b.night b.present c.args.edit.now ≡ Err c.in-Err.error) c.self.view_is
    (planned_refused c.self.inside.present.night c.self.inside.present.state c.args.edit.now c.in-Err.error c.self.invariant.state (sym c.planned.ensures ∙ c.in-Err.is))))

pub returns-then-is_err-clause-refused : goal.returns-then-is_err-clause-refused
returns-then-is_err-clause-refused c error is = absurd (never_both _ (exchanged c.in-Ok.exchange c.self.inside.present.state) error
    (subst (λ (b : Bench). edit b.night b.present c.args.edit.now ≡ Ok (exchanged c.in-Ok.exchange c.self.inside.present.state)) c.self.view_is
    (planned_leads c.self.inside.present.night c.self.inside.present.state c.args.edit.now c.in-Ok.exchange c.self.invariant.state (sym c.planned.ensures ∙ c.in-Ok.is)).1) is)

pub exchange-back-requires : goal.exchange-back-requires
exchange-back-requires c = (
  exchanged c.in-Ok.exchange c.self.inside.present.state,
  (planned_leads c.self.inside.present.night c.self.inside.present.state c.args.edit.now c.in-Ok.exchange c.self.invariant.state (sym c.planned.ensures ∙ c.in-Ok.is)).0,
)

pub invariant_of-self-2 : goal.invariant_of-self-2
invariant_of-self-2 c = record {
  state = state_edited c.self.inside.present c.exchange-back.new.self c.self.inside.past.items c.push.new.exchanges.items c.self.inside.undone.items c.in-Ok.exchange
      c.exchange-back.result c.args.edit.now c.self.invariant.state (sym c.planned.ensures ∙ c.in-Ok.is)
      (c.push.ensures.items ∙ ap (λ (l : List Exchange). l ++ c.exchange-back.result ∷ []) c.reserve.ensures.past) c.exchange-back.ensures.back c.exchange-back.ensures.night
      c.exchange-back.ensures.state;
  past_leads = past_leads c.self.inside.present c.exchange-back.new.self c.self.inside.past.items c.push.new.exchanges.items c.self.inside.undone.items c.in-Ok.exchange
      c.exchange-back.result c.args.edit.now c.self.invariant.state (sym c.planned.ensures ∙ c.in-Ok.is)
      (c.push.ensures.items ∙ ap (λ (l : List Exchange). l ++ c.exchange-back.result ∷ []) c.reserve.ensures.past) c.exchange-back.ensures.back c.exchange-back.ensures.night
      c.exchange-back.ensures.state c.self.invariant.past_leads;
  undone_leads = subst (λ (l : List Exchange). AllLead c.exchange-back.new.self.night c.exchange-back.new.self.state (reverse l)) (sym c.clear.ensures.items) tt;
  past_fits = (let room = on_ok c.reserve.result _ (sym c.is_err.ensures.value ∙ c.if-is_err.false) c.reserve.ensures.past_ok in let n = length_edited c.self.inside.present
      c.exchange-back.new.self c.self.inside.past.items c.push.new.exchanges.items c.self.inside.undone.items c.in-Ok.exchange c.exchange-back.result c.args.edit.now
      c.self.invariant.state (sym c.planned.ensures ∙ c.in-Ok.is) (c.push.ensures.items
      ∙ ap (λ (l : List Exchange). l ++ c.exchange-back.result ∷ []) c.reserve.ensures.past) c.exchange-back.ensures.back c.exchange-back.ensures.night
      c.exchange-back.ensures.state in let none = ap (λ (l : List Exchange). length l) c.clear.ensures.items in omega (arith, c.push.ensures.capacity));
  undone_fits = (let room = on_ok c.reserve.result _ (sym c.is_err.ensures.value ∙ c.if-is_err.false) c.reserve.ensures.undone_ok in let n = length_edited c.self.inside.present
      c.exchange-back.new.self c.self.inside.past.items c.push.new.exchanges.items c.self.inside.undone.items c.in-Ok.exchange c.exchange-back.result c.args.edit.now
      c.self.invariant.state (sym c.planned.ensures ∙ c.in-Ok.is) (c.push.ensures.items
      ∙ ap (λ (l : List Exchange). l ++ c.exchange-back.result ∷ []) c.reserve.ensures.past) c.exchange-back.ensures.back c.exchange-back.ensures.night
      c.exchange-back.ensures.state in let none = ap (λ (l : List Exchange). length l) c.clear.ensures.items in omega (arith, c.clear.ensures.capacity));
}

pub returns-clause-refused : goal.returns-clause-refused
returns-clause-refused c error is = absurd (never_both _ (exchanged c.in-Ok.exchange c.self.inside.present.state) error
    (subst (λ (b : Bench). edit b.night b.present c.args.edit.now ≡ Ok (exchanged c.in-Ok.exchange c.self.inside.present.state)) c.self.view_is
    (planned_leads c.self.inside.present.night c.self.inside.present.state c.args.edit.now c.in-Ok.exchange c.self.invariant.state (sym c.planned.ensures ∙ c.in-Ok.is)).1) is)

pub returns-clause-made : goal.returns-clause-made
returns-clause-made c = ap (λ (l : List Exchange). bench_at c.exchange-back.new.self c.push.new.exchanges.items l) c.clear.ensures.items
    ∙ edit_made c.self.inside.present c.exchange-back.new.self c.self.inside.past.items c.push.new.exchanges.items c.self.inside.undone.items c.in-Ok.exchange
    c.exchange-back.result c.args.edit.now c.self.invariant.state (sym c.planned.ensures ∙ c.in-Ok.is)
    (c.push.ensures.items ∙ ap (λ (l : List Exchange). l ++ c.exchange-back.result ∷ []) c.reserve.ensures.past) c.exchange-back.ensures.back c.exchange-back.ensures.night
    c.exchange-back.ensures.state ∙ ap (λ (b : Bench). after_edit b c.args.edit.now) c.self.view_is
