use Rattle.std.proofs.Common.{rules, List, subst, IsPermutation}
use Rattle.std.proofs.lemmas.List.Sorted.{answers_always, All-permutation}
use Rattle.shunt_picture.specs.declared.track_stays.Standing.{Standing}
use Rattle.shunt_picture.specs.defs.Rows.{standings_on}
use Rattle.shunt_picture.proofs.Within.{IsOfTrains, standings_within}
use Rattle.shunt_picture.proofs.track_stays.sorted_on.Goals as goal

pub returns-clause-order : goal.returns-clause-order
returns-clause-order c = c.in_ok-sort_by_key.ensures.sorted (λ s. s.stay.enter) (answers_always _ _ _ (λ f a r g h. search rules))

pub returns-clause-within : goal.returns-clause-within
returns-clause-within c =
    let night = c.args.instance.now in
    let same = subst (λ (l : List Standing). IsPermutation l c.sort_by_key.new.self.items) c.in_ok-standings.ensures.exact c.sort_by_key.ensures.permutation in
    All-permutation (IsOfTrains night) (standings_on night c.args.track c.args.blocks.now) c.sort_by_key.new.self.items same
    (standings_within night c.args.track c.args.blocks.now c.requires.each)
