use Rattle.shunt_recount.proofs.Rowed.{put}
use Rattle.shunt_recount.proofs.known.remember.Goals as goal

pub returns-in-Some : goal.returns-in-Some
returns-in-Some c = λ m known is. put m c.args.known.now.rows.items _ c.in-Some.k known is
