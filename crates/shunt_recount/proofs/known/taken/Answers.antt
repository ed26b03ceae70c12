use Rattle.std.proofs.Common.{◌≡◌, get_or, sym, subst}
use Rattle.shunt_recount.specs.declared.known.Row.{Row}
use Rattle.shunt_recount.specs.defs.Moments.{AreGains}
use Rattle.shunt_recount.proofs.Rowed.{bare, put, of_row}
use Rattle.shunt_recount.proofs.known.taken.Goals as goal

pub returns-clause-known : goal.returns-clause-known
returns-clause-known c = λ m known. put m c.args.known.now.rows.items c.replace.new.dest c.in-Some.k known
    (subst (λ (r : Row). AreGains m r.end r.room r.gains.items) (sym c.replace.ensures.after)
    (subst (AreGains m c.args.key.end c.args.key.room) (sym c.new-none.ensures.items) (bare m c.args.key.end c.args.key.room)))

pub returns-clause-gains : goal.returns-clause-gains
returns-clause-gains c = λ m known. of_row m c.args.known.now c.args.key c.in-Some.k c.replace.result c.replace.result c.in-Some.ensures known
    (subst (λ (r : Row). r ≡ get_or c.args.known.now.rows.items c.in-Some.k r) (sym c.replace.ensures.value) c.index_mut.ensures.value)
