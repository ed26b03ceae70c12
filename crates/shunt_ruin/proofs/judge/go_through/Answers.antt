use Rattle.shunt_ruin.proofs.judge.go_through.Goals as goal

pub stays_of-requires : goal.stays_of-requires
stays_of-requires c = λ k d lt. (c.requires.in_range.each k d lt).within
