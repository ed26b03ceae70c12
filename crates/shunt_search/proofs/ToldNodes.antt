-- What is told goes on to be told.
use Rattle.std.specs.Prelude.{Option, Some, None, Result, Ok, Err, IfSome, IfOk, OnOk}
use Rattle.std.proofs.Common.{◌≡◌, List, sym, subst}
use Rattle.shunt_store.specs.defs.Files.{BothTold}
use Rattle.shunt_proof.specs.declared.records.Node.{Node}
use Rattle.shunt_search.specs.declared.solved.Solved.{Solved}
use Rattle.shunt_search.specs.declared.solved.SolveError.{SolveError}
use Rattle.shunt_search.specs.defs.SearchStates.{TellsOn}

pub tells_same : (o : Option (List Node)) → TellsOn o o
tells_same None = tt
tells_same (Some x) = tt

pub tells_both : (o p : Option (List Node)) (R : List Node → List Node → Type 0) → BothTold o p R → TellsOn o p
tells_both None None R both = tt
tells_both None (Some y) R both = absurd both
tells_both (Some x) None R both = absurd both
tells_both (Some x) (Some y) R both = tt

pub tells_then : (o p q : Option (List Node)) → TellsOn o p → TellsOn p q → TellsOn o q
tells_then None None None first second = tt
tells_then None None (Some z) first second = absurd second
tells_then None (Some y) q first second = absurd first
tells_then (Some x) None q first second = absurd first
tells_then (Some x) (Some y) None first second = absurd second
tells_then (Some x) (Some y) (Some z) first second = tt

-- of what is told at the end this holds, where anything was told before
tells_at_end : (o p q : Option (List Node)) (P : List Node → Type 0) → TellsOn o p → q ≡ p → IfSome p P → BothTold o q (λ old new. P new)
tells_at_end None None q P tells same holds = subst (λ (x : Option (List Node)). BothTold None x (λ old new. P new)) (sym same) tt
tells_at_end None (Some y) q P tells same holds = absurd tells
tells_at_end (Some x) None q P tells same holds = absurd tells
tells_at_end (Some x) (Some y) q P tells same holds = subst (λ (z : Option (List Node)). BothTold (Some x) z (λ old new. P new)) (sym same) holds

pub told_to_end : (r : Result Solved SolveError) (o p q : Option (List Node)) (P : Solved → List Node → Type 0) → TellsOn o p → OnOk r (q ≡ p) → IfOk r (λ s. IfSome p (P s))
    → IfOk r (λ s. BothTold o q (λ old new. P s new))
told_to_end (Ok s) o p q P tells same holds = tells_at_end o p q (P s) tells same holds
told_to_end (Err e) o p q P tells same holds = tt
