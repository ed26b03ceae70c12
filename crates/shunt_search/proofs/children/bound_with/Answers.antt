use mir.Syntax.{w64}
use Rattle.std.proofs.Common.{sym, subst}
use Rattle.std.proofs.lemmas.Int.{to_z-of_z}
use Rattle.shunt_prices.specs.defs.Bounds.{IsCasesBound}
use Rattle.shunt_search.specs.defs.Yards.{more_by}
use Rattle.shunt_search.proofs.Nexts.{next_within, next_free}
use Rattle.shunt_search.proofs.children.bound_with.Goals as goal

pub longer_bound-requires-clause-within : goal.longer_bound-requires-clause-within
longer_bound-requires-clause-within c = next_within c.args.instance.now c.args.yard.now.path.blocks c.args.block.now c.requires.next

pub returns : goal.returns
returns c =
    subst (IsCasesBound c.args.instance.now (more_by c.args.yard.now.path.blocks c.args.block.now) c.args.cases.now)
    (sym (to_z-of_z w64 c.longer_bound.result (record { sfits = c.longer_bound.type_inv })))
    (c.longer_bound.ensures c.args.yard.now.path.blocks c.requires.sums (next_free c.args.instance.now c.args.yard.now.path.blocks c.args.block.now c.requires.next))
