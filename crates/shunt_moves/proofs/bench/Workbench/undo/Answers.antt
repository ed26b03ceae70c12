use Rattle.std.proofs.Common.{◌∙◌, ap, rules, arith}
use Rattle.shunt_moves.specs.defs.Benches.{after_undo}
use Rattle.shunt_moves.proofs.Walked.{went_back, state_now, rest_leads, more_leads, lengths_same}
use Rattle.shunt_moves.proofs.bench.Workbench.undo.Goals as goal

pub invariant_of-self-2 : goal.invariant_of-self-2
invariant_of-self-2 c = record {
  state = state_now c.self.inside.present c.exchange-back.new.self c.self.inside.past.items c.pop.new.self.items c.self.inside.undone.items c.push.new.exchanges.items
      c.in-Some.exchange c.exchange-back.result (search rules) c.push.ensures.items c.exchange-back.ensures.back c.exchange-back.ensures.night c.exchange-back.ensures.state
      c.self.invariant.past_leads;
  past_leads = rest_leads c.self.inside.present c.exchange-back.new.self c.self.inside.past.items c.pop.new.self.items c.self.inside.undone.items c.push.new.exchanges.items
      c.in-Some.exchange c.exchange-back.result (search rules) c.push.ensures.items c.exchange-back.ensures.back c.exchange-back.ensures.night c.exchange-back.ensures.state
      c.self.invariant.past_leads;
  undone_leads = more_leads c.self.inside.present c.exchange-back.new.self c.self.inside.past.items c.pop.new.self.items c.self.inside.undone.items c.push.new.exchanges.items
      c.in-Some.exchange c.exchange-back.result (search rules) c.push.ensures.items c.exchange-back.ensures.back c.exchange-back.ensures.night c.exchange-back.ensures.state
      c.self.invariant.past_leads c.self.invariant.undone_leads;
  past_fits = (let n = lengths_same c.self.inside.present c.exchange-back.new.self c.self.inside.past.items c.pop.new.self.items c.self.inside.undone.items
      c.push.new.exchanges.items c.in-Some.exchange c.exchange-back.result (search rules) c.push.ensures.items c.exchange-back.ensures.back c.exchange-back.ensures.night
      c.exchange-back.ensures.state c.self.invariant.past_leads in let room = c.self.invariant.past_fits in omega (arith, c.pop.ensures.capacity));
  undone_fits = (let n = lengths_same c.self.inside.present c.exchange-back.new.self c.self.inside.past.items c.pop.new.self.items c.self.inside.undone.items
      c.push.new.exchanges.items c.in-Some.exchange c.exchange-back.result (search rules) c.push.ensures.items c.exchange-back.ensures.back c.exchange-back.ensures.night
      c.exchange-back.ensures.state c.self.invariant.past_leads in let room = c.self.invariant.undone_fits in omega (arith, c.push.ensures.capacity));
}

pub returns-clause-made : goal.returns-clause-made
returns-clause-made c = went_back c.self.inside.present c.exchange-back.new.self c.self.inside.past.items c.pop.new.self.items c.self.inside.undone.items c.push.new.exchanges.items
    c.in-Some.exchange c.exchange-back.result (search rules) c.push.ensures.items c.exchange-back.ensures.back c.exchange-back.ensures.night c.exchange-back.ensures.state
    c.self.invariant.past_leads ∙ ap after_undo c.self.view_is
