use Rattle.std.proofs.Common.{rules, arith}
use Rattle.std.proofs.lemmas.Grind.{common_steps}
use Rattle.shunt_store.proofs.Texts.{written_more, still_writing}
use Rattle.shunt_store.proofs.writer.append_all.Goals as goal

pub pieces-preserved : goal.pieces-preserved
pieces-preserved g c =
    let i = c.pieces.invariant in
    let stage = written_more c.args.bytes.now c.pieces.at c.in_ok-at.field-0 (g.S.Store.stage c.args.store.now) (g.S.Store.stage c.pieces.store)
    (g.S.Store.stage c.write.new.self) i.stage c.in_ok-at.ensures.bytes in record {
      within = grind (arith, common_steps);
      stage = stage;
      writing = still_writing _ _ _ stage;
      told = search rules;
      heard = search rules;
      stored = search rules;
      taken = search rules;
      later = search rules;
    }
