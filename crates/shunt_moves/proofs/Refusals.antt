-- What an edit's answer is not.
use Rattle.std.proofs.Common.{◌≡◌, false}
use Rattle.std.specs.Prelude.{Result, Ok, Err, OnOk, is_err}
use Rattle.shunt_moves.specs.declared.types.MoveError.{MoveError}
use Rattle.shunt_moves.specs.defs.States.{State}

pub never_both : (o : Result State MoveError) (t : State) (e : MoveError) → o ≡ Ok t → o ≡ Err e → ⊥
never_both o t e a b = cc

pub same_error : (o : Result State MoveError) (e f : MoveError) → o ≡ Err e → o ≡ Err f → e ≡ f
same_error o e f a b = cc

pub on_ok : {X E : Type 0} (r : Result X E) (P : Type 0) → is_err r ≡ false → OnOk r P → P
on_ok (Ok x) P e h = h
on_ok (Err x) P e h = absurd (cc)
