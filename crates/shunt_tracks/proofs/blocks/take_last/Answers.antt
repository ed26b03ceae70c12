use Rattle.std.proofs.Common.{rules, arith, sym, ap, ◌∙◌, ◌-◌, ◌≡◌, length, Some}
use Rattle.shunt_tracks.specs.defs.Blocks.{blocks_of}
use Rattle.shunt_tracks.proofs.Ends.{last_taken, last_other}
use Rattle.shunt_tracks.proofs.blocks.take_last.Goals as goal

pub returns-then-index-id-clause-blocked : goal.returns-then-index-id-clause-blocked
returns-then-index-id-clause-blocked c =
    let size : c.len-count.result ≡ length c.args.blocks.now.items = search rules in
    last_other c.args.id c.args.blocks.now.items (c.len-count.result - 1) c.index.result.now (let ne = c.if-count-eq0.false in omega arith)
    (λ e. c.if-index-id.true (ap (λ b. b.id) c.index.ensures ∙ e))

pub returns-clause-out : goal.returns-clause-out
returns-clause-out c =
    let size : c.len-count.result ≡ length c.args.blocks.now.items = search rules in
    last_taken c.args.id c.args.blocks.now.items (c.len-count.result - 1) c.index.result.now (let ne = c.if-count-eq0.false in omega arith)
    (sym (ap (λ b. b.id) c.index.ensures) ∙ c.if-index-id.false)
    ∙ ap (λ l. Some (blocks_of l)) (sym c.truncate.ensures.items)
