use Rattle.std.proofs.Common.{⊎_elim, subst, sym}
use Rattle.std.specs.Prelude.{map}
use Rattle.shunt_lists.specs.defs.Members.{In}
use Rattle.shunt_lists.proofs.Members.{in_from, in_to, in_left, in_right, in_cases, in_map, of_map, filter_from, filter_to, in_flat, of_flat}
use Rattle.shunt_lists.proofs.laws.members.Goals as goal

pub returns-clause-contains : goal.returns-clause-contains
returns-clause-contains c = λ _ xs x. (in_to xs x, in_from xs x)

pub returns-clause-append : goal.returns-clause-append
returns-clause-append c = λ _ xs ys x. (in_cases xs ys x, λ h. ⊎_elim (λ l. in_left xs ys x l) (λ r. in_right xs ys x r) h)

pub returns-clause-map : goal.returns-clause-map
returns-clause-map c = λ _ f xs y. (of_map f xs y, λ h. subst (λ z. In z (map f xs)) (sym h.2) (in_map f xs h.0 h.1))

pub returns-clause-filter : goal.returns-clause-filter
returns-clause-filter c = λ _ p xs x. (filter_from p xs x, λ h. filter_to p xs x h.0 h.1)

pub returns-clause-flat : goal.returns-clause-flat
returns-clause-flat c = λ _ f xs y. (of_flat f xs y, λ h. in_flat f xs h.0 y h.1 h.2)
