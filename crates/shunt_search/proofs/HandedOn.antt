-- Errors that `?` hands on.
use Rattle.std.specs.Result.{IsErrAnd}
use Rattle.std.proofs.Common.{◌≡◌, Result, Err}
use Rattle.std.proofs.lemmas.Result.{err_from_is_err_and}

pub handed_on : {A B E : Type 0} (r : Result A E) (s : Result B E) (x y : E) → r ≡ Err x → IsErrAnd s (λ f. f ≡ x) → s ≡ Err y → r ≡ Err y
handed_on r s x y was back e = let h = err_from_is_err_and s back in cc (was, h.1, h.2, e)
