use Rattle.std.proofs.Common.{◌∙◌, sym, subst, ap}
use Rattle.shunt_instance.specs.defs.Instance.{Night}
use Rattle.shunt_moves.specs.defs.Exchanges.{taken, put}
use Rattle.shunt_moves.proofs.Chains.{MayCome, goes_second, comes_first, comes_second}
use Rattle.shunt_moves.proofs.present.Present.exchange.Goals as goal

pub take-requires-2 : goal.take-requires-2
take-requires-2 c = goes_second c.args.self.now.night c.args.exchange.now c.args.self.now.state c.requires.0 c.requires.1 c.take.new.self.state.blocks c.take.ensures.blocks

pub put-requires : goal.put-requires
put-requires c =
    subst (λ (n : Night). MayCome n c.args.exchange.now.come.first c.take-2.new.self.state.blocks) (sym (c.take-2.ensures.night ∙ c.take.ensures.night))
    (comes_first c.args.self.now.night c.args.exchange.now c.args.self.now.state c.requires.0 c.requires.1 c.take-2.new.self.state.blocks
    (c.take-2.ensures.blocks ∙ ap (taken c.args.exchange.now.gone.second) c.take.ensures.blocks))

pub put-requires-2 : goal.put-requires-2
put-requires-2 c =
    subst (λ (n : Night). MayCome n c.args.exchange.now.come.second c.put.new.self.state.blocks) (sym (c.put.ensures.night ∙ c.take-2.ensures.night ∙ c.take.ensures.night))
    (comes_second c.args.self.now.night c.args.exchange.now c.args.self.now.state c.requires.0 c.requires.1 c.put.new.self.state.blocks
    (c.put.ensures.blocks ∙ ap (put c.args.exchange.now.come.first) (c.take-2.ensures.blocks ∙ ap (taken c.args.exchange.now.gone.second) c.take.ensures.blocks)))
