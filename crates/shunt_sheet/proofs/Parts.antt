-- The record of an order, by what its parts say.
use Rattle.std.proofs.Common.{◌≡◌, ℕ, List, [], ◌∷◌, ◌++◌, sym, ap, subst, ◌∙◌}
use Rattle.std.specs.Prelude.{Ok, Err, Result}
use Rattle.shunt_rows.specs.declared.fault.RowFault.{RowFault}
use Rattle.shunt_rows.specs.defs.Checks.{Judged, answer, says}
use Rattle.shunt_rows.specs.defs.Checks as judging
use Rattle.shunt_rows.proofs.Joins.{part_ok, part_err}
use Rattle.shunt_instance.specs.declared.records.Station.{Station}
use Rattle.shunt_sheet.specs.declared.records.Order.{Order}
use Rattle.shunt_sheet.specs.declared.reader.StatedMove.{StatedMove}
use Rattle.shunt_sheet.specs.declared.reader.StatedPlace.{StatedPlace}
use Rattle.shunt_sheet.specs.defs.SheetFormat.{start_in, move_in, place_in, order_by, order_in, more_of}

abbrev with_move : Station → List Order → List (List ℕ) → ℕ → StatedMove → Judged Order
with_move s orders row minute m = judging.◌>>=◌ (place_in s orders m row) (λ p. says (order_by minute m p))

abbrev with_start : Station → List Order → List (List ℕ) → ℕ → Judged Order
with_start s orders row minute = judging.◌>>=◌ (move_in orders row) (with_move s orders row minute)

pub start_fails : (n : ℕ) (s : Station) (orders : List Order) (row : List (List ℕ)) (e : RowFault) → answer n (start_in orders row) ≡ Err e
    → answer n (order_in s orders row) ≡ Err e
unfolding order_in
start_fails n s orders row e is = part_err n (start_in orders row) (with_start s orders row) e is

after_start : (n : ℕ) (s : Station) (orders : List Order) (row : List (List ℕ)) (minute : ℕ) → answer n (start_in orders row) ≡ Ok minute
    → answer n (order_in s orders row) ≡ answer n (with_start s orders row minute)
unfolding order_in
after_start n s orders row minute is = part_ok n (start_in orders row) (with_start s orders row) minute is

pub move_fails : (n : ℕ) (s : Station) (orders : List Order) (row : List (List ℕ)) (minute : ℕ) (e : RowFault) → answer n (start_in orders row) ≡ Ok minute
    → answer n (move_in orders row) ≡ Err e → answer n (order_in s orders row) ≡ Err e
move_fails n s orders row minute e start fails = after_start n s orders row minute start ∙ part_err n (move_in orders row) (with_move s orders row minute) e fails

after_move : (n : ℕ) (s : Station) (orders : List Order) (row : List (List ℕ)) (minute : ℕ) (m : StatedMove) → answer n (start_in orders row) ≡ Ok minute
    → answer n (move_in orders row) ≡ Ok m → answer n (order_in s orders row) ≡ answer n (with_move s orders row minute m)
after_move n s orders row minute m start move = after_start n s orders row minute start ∙ part_ok n (move_in orders row) (with_move s orders row minute) m move

pub place_fails : (n : ℕ) (s : Station) (orders : List Order) (row : List (List ℕ)) (minute : ℕ) (m : StatedMove) (e : RowFault) → answer n (start_in orders row) ≡ Ok minute
    → answer n (move_in orders row) ≡ Ok m → answer n (place_in s orders m row) ≡ Err e → answer n (order_in s orders row) ≡ Err e
place_fails n s orders row minute m e start move fails = after_move n s orders row minute m start move
    ∙ part_err n (place_in s orders m row) (λ p. says (order_by minute m p)) e fails

pub order_is : (n : ℕ) (s : Station) (orders : List Order) (row : List (List ℕ)) (minute : ℕ) (m : StatedMove) (p : StatedPlace) → answer n (start_in orders row) ≡ Ok minute
    → answer n (move_in orders row) ≡ Ok m → answer n (place_in s orders m row) ≡ Ok p → answer n (order_in s orders row) ≡ Ok (order_by minute m p)
order_is n s orders row minute m p start move place = after_move n s orders row minute m start move ∙ part_ok n (place_in s orders m row) (λ p. says (order_by minute m p)) p place

-- the same orders, by another word for them
pub seen_as : (n : ℕ) (s : Station) (row : List (List ℕ)) (seen orders : List Order) (r : Result Order RowFault) → seen ≡ orders → r ≡ answer n (order_in s seen row)
    → answer n (order_in s orders row) ≡ r
seen_as n s row seen orders r same is = subst (λ x. answer n (order_in s x row) ≡ r) same (sym is)

pub one_more : (n : ℕ) (s : Station) (orders more : List Order) (row : List (List ℕ)) (o : Order) → answer n (order_in s orders row) ≡ Ok o → more ≡ orders ++ o ∷ []
    → answer n (more_of s orders row) ≡ Ok more
unfolding more_of
one_more n s orders more row o is push = part_ok n (order_in s orders row) (λ o. says (orders ++ o ∷ [])) o is ∙ ap (λ l. Ok l) (sym push)

pub none_more : (n : ℕ) (s : Station) (orders : List Order) (row : List (List ℕ)) (e : RowFault) → answer n (order_in s orders row) ≡ Err e
    → answer n (more_of s orders row) ≡ Err e
unfolding more_of
none_more n s orders row e is = part_err n (order_in s orders row) (λ o. says (orders ++ o ∷ [])) e is
