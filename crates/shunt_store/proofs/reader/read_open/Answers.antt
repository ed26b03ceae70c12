use Rattle.std.proofs.Common.{rules, arith}
use Rattle.std.proofs.lemmas.Grind.{common_steps}
use Rattle.shunt_store.proofs.Pieces.{told_more, at_most, at_least}
use Rattle.shunt_store.proofs.NotedPieces.{heard_none, heard_more, heard_end, heard_on}
use Rattle.shunt_store.proofs.reader.read_open.Goals as goal

pub pieces-preserved : goal.pieces-preserved
pieces-preserved g c =
    let i = c.pieces.invariant in record {
      few = grind (arith, common_steps);
      taken = grind (arith, common_steps);
      most = at_most _ _ _ _ _ c.read.new.buf _ _ i.most c.in_ok-n.ensures.handed c.in_ok-n.ensures.bound c.in_ok-extend_from_slice.ensures.items;
      least = at_least _ _ _ _ _ c.read.new.buf _ _ i.least c.in_ok-n.ensures.handed c.in_ok-n.ensures.bound c.in_ok-extend_from_slice.ensures.items;
      told = told_more _ _ _ _ c.pieces.bytes.items c.read.new.buf _ _ _ _ i.told i.files i.stage c.in_ok-n.ensures.bytes i.taken c.in_ok-n.ensures.bound
          c.in_ok-extend_from_slice.ensures.items;
      heard = heard_more _ _ _ c.pieces.bytes.items c.read.new.buf _ _ _ i.heard c.in_ok-n.ensures.heard c.in_ok-n.ensures.bound c.in_ok-extend_from_slice.ensures.items;
      stored = search rules;
      stage = search rules;
      files = search rules;
      later = search rules;
    }

pub pieces-init : goal.pieces-init
pieces-init g c = record {
  few = grind (arith, common_steps);
  taken = grind (arith, common_steps);
  most = grind (arith, common_steps);
  least = grind (arith, common_steps);
  told = grind (arith, common_steps);
  stage = search rules;
  heard = heard_none (g.S.Store.heard c.args.store.now) c.new-bytes.result.items (search rules);
  stored = search rules;
  files = search rules;
  later = search rules;
}

pub returns-then-n-eq0-clause-heard : goal.returns-then-n-eq0-clause-heard
returns-then-n-eq0-clause-heard g c = heard_end _ _ _ _ c.read.new.buf c.in_ok-n.n c.pieces.invariant.heard c.in_ok-n.ensures.heard c.if-n-eq0.true

pub returns-then-n-eq0-clause-some_heard : goal.returns-then-n-eq0-clause-some_heard
returns-then-n-eq0-clause-some_heard g c = heard_on _ _ _ c.pieces.bytes.items _ c.pieces.invariant.heard c.in_ok-n.ensures.heard

pub returns-in_err-extend_from_slice-clause-some_heard : goal.returns-in_err-extend_from_slice-clause-some_heard
returns-in_err-extend_from_slice-clause-some_heard g c = heard_on _ _ _ c.pieces.bytes.items _ c.pieces.invariant.heard c.in_ok-n.ensures.heard
