use Rattle.std.specs.Prelude.{Some}
use Rattle.std.proofs.Common.{sym, subst, length}
use Rattle.shunt_proof.specs.declared.records.Version.{Version}
use Rattle.shunt_proof.specs.defs.Certificates.{case_total}
use Rattle.shunt_search.specs.defs.Judges.{version_of}
use Rattle.shunt_search.specs.defs.SearchStates.{IsSearch}
use Rattle.shunt_search.proofs.memory_search.keep_walk.Goals as goal

pub bound_left-bound-requires : goal.bound_left-bound-requires
bound_left-bound-requires c = λ low left.
    let noted = c.in_ok-noted.noted in
    c.searches_end.ensures.natural (version_of c.args.guide.now.judge) c.args.instance.now c.args.pins.now c.args.guide.now.tree.stock.items (Some noted) (length noted)
    (case_total noted) c.kept_nodes.new.search low c.units.ensures.formed c.in_ok-noted.ensures.search left

pub returns-clause-kept : goal.returns-clause-kept
returns-clause-kept c =
    let noted = c.in_ok-noted.noted in
    let s = c.kept_nodes.new.search in
    record {
      stock = c.args.guide.now.tree.stock.items;
      search = subst (λ (v : Version). IsSearch v c.args.instance.now c.args.pins.now c.args.guide.now.tree.stock.items (Some noted) (length noted) (case_total noted)
          s.waiting.items s) (sym c.version.ensures) c.in_ok-noted.ensures.search;
      few = c.in_ok-noted.ensures.most;
      done = c.in_ok-noted.ensures.done;
      left = c.bound_left-bound.ensures;
    }
