use Rattle.std.proofs.Common.{◌<◌, ◌+◌, ◌∷◌, get_or, arith}
use Rattle.std.specs.List.{All}
use Rattle.std.proofs.lemmas.List.Elements.{All-cons}
use Rattle.std.proofs.lemmas.List.Sorted.{All-permutation}
use Rattle.shunt_base.specs.declared.keys.Stay.{Stay}
use Rattle.shunt_tables.proofs.timelines.come.Goals as goal

pub returns-clause-above : goal.returns-clause-above
returns-clause-above c =
    let old : All (λ (s : Stay). s.id < c.args.stay.id + 1) c.args.timelines.now.stays = λ k d lt. let h :
    (get_or c.args.timelines.now.stays k d).id < c.args.stay.id = c.requires.above k d lt in omega arith in
    All-permutation (λ (s : Stay). s.id < c.args.stay.id + 1) (c.args.stay ∷ c.args.timelines.now.stays) c.insert.new.self.stays c.insert.ensures.stays
    (All-cons (λ (s : Stay). s.id < c.args.stay.id + 1) c.args.stay c.args.timelines.now.stays (omega arith) old)
