use Rattle.std.proofs.Common.{◌∙◌, ap, rules, arith}
use Rattle.shunt_moves.specs.defs.Benches.{after_redo}
use Rattle.shunt_moves.proofs.Walked.{went_on, state_now, rest_leads, more_leads, lengths_same}
use Rattle.shunt_moves.proofs.bench.Workbench.redo.Goals as goal

pub invariant_of-self-2 : goal.invariant_of-self-2
invariant_of-self-2 c = record {
  state = state_now c.self.inside.present c.exchange-back.new.self c.self.inside.undone.items c.pop.new.self.items c.self.inside.past.items c.push.new.exchanges.items
      c.in-Some.exchange c.exchange-back.result (search rules) c.push.ensures.items c.exchange-back.ensures.back c.exchange-back.ensures.night c.exchange-back.ensures.state
      c.self.invariant.undone_leads;
  past_leads = more_leads c.self.inside.present c.exchange-back.new.self c.self.inside.undone.items c.pop.new.self.items c.self.inside.past.items c.push.new.exchanges.items
      c.in-Some.exchange c.exchange-back.result (search rules) c.push.ensures.items c.exchange-back.ensures.back c.exchange-back.ensures.night c.exchange-back.ensures.state
      c.self.invariant.undone_leads c.self.invariant.past_leads;
  undone_leads = rest_leads c.self.inside.present c.exchange-back.new.self c.self.inside.undone.items c.pop.new.self.items c.self.inside.past.items c.push.new.exchanges.items
      c.in-Some.exchange c.exchange-back.result (search rules) c.push.ensures.items c.exchange-back.ensures.back c.exchange-back.ensures.night c.exchange-back.ensures.state
      c.self.invariant.undone_leads;
  past_fits = (let n = lengths_same c.self.inside.present c.exchange-back.new.self c.self.inside.undone.items c.pop.new.self.items c.self.inside.past.items
      c.push.new.exchanges.items c.in-Some.exchange c.exchange-back.result (search rules) c.push.ensures.items c.exchange-back.ensures.back c.exchange-back.ensures.night
      c.exchange-back.ensures.state c.self.invariant.undone_leads in let room = c.self.invariant.past_fits in omega (arith, c.push.ensures.capacity));
  undone_fits = (let n = lengths_same c.self.inside.present c.exchange-back.new.self c.self.inside.undone.items c.pop.new.self.items c.self.inside.past.items
      c.push.new.exchanges.items c.in-Some.exchange c.exchange-back.result (search rules) c.push.ensures.items c.exchange-back.ensures.back c.exchange-back.ensures.night
      c.exchange-back.ensures.state c.self.invariant.undone_leads in let room = c.self.invariant.undone_fits in omega (arith, c.pop.ensures.capacity));
}

pub returns-clause-made : goal.returns-clause-made
returns-clause-made c = went_on c.self.inside.present c.exchange-back.new.self c.self.inside.undone.items c.pop.new.self.items c.self.inside.past.items c.push.new.exchanges.items
    c.in-Some.exchange c.exchange-back.result (search rules) c.push.ensures.items c.exchange-back.ensures.back c.exchange-back.ensures.night c.exchange-back.ensures.state
    c.self.invariant.undone_leads ∙ ap after_redo c.self.view_is
