use Rattle.std.specs.Prelude.{Option, Some}
use Rattle.std.proofs.Common.{◌≡◌, ℕ, List, length, sym, subst, ap, ◌∙◌, arith}
use Rattle.shunt_proof.specs.declared.records.Node.{Node}
use Rattle.shunt_search.specs.defs.Judges.{version_of}
use Rattle.shunt_search.specs.defs.SearchStates.{IsSearch}
use Rattle.shunt_search.specs.defs.Endings.{IsDone}
use Rattle.shunt_search.proofs.Kept.{of_told_nodes}
use Rattle.shunt_search.proofs.memory_search.kept_nodes.Goals as goal

pub finish-requires-clause-some : goal.finish-requires-clause-some
finish-requires-clause-some c =
    let S = c.in_ok-walk_whole.ensures.search in
    let some = S.walk.some in
    let many = S.many in
    omega (arith, some, many)

pub certificate-requires : goal.certificate-requires
certificate-requires c = (0, 0, c.in_ok-finish.ensures.stage)

pub returns-clause-search : goal.returns-clause-search
returns-clause-search c =
    let s = c.walk_whole.new.search in
    let told : Some c.certificate.result.nodes ≡ Some c.walk_whole.new.recorder.nodes = ap Some c.certificate.ensures.nodes ∙ c.in_ok-finish.ensures.told in
    of_told_nodes (version_of c.args.guide.now.judge) c.args.instance.now c.args.pins.now c.args.guide.now.tree.stock.items c.certificate.result.nodes
    (length c.walk_whole.new.recorder.nodes) c.walk_whole.new.recorder.cases s
    (subst (λ (o : Option (List Node)). IsSearch (version_of c.args.guide.now.judge) c.args.instance.now c.args.pins.now c.args.guide.now.tree.stock.items o
    (length c.walk_whole.new.recorder.nodes) c.walk_whole.new.recorder.cases s.waiting.items s) (sym told) c.in_ok-walk_whole.ensures.search)

pub returns-clause-most : goal.returns-clause-most
returns-clause-most c =
    let same = ap (λ (l : List Node). length l) c.certificate.ensures.nodes in
    let number = c.in_ok-finish.ensures.number in
    let most = c.in_ok-walk_whole.ensures.most in
    omega (arith, same, number, most)

pub returns-clause-done : goal.returns-clause-done
returns-clause-done c =
    let s = c.walk_whole.new.search in
    subst (λ (n : ℕ). IsDone n c.args.nodes s.waiting.items s.known.cost s.low) (sym (ap (λ (l : List Node). length l) c.certificate.ensures.nodes ∙ c.in_ok-finish.ensures.number))
    c.in_ok-walk_whole.ensures.done
