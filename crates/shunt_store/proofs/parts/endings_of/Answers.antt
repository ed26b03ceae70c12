use Rattle.std.proofs.Common.{◌≢◌, List, ◌++◌, length, ℕ, None, Some, ap, subst, arith, ◌∙◌}
use Rattle.std.proofs.lemmas.Bool.Decides.{Decides-eqb}
use Rattle.std.proofs.lemmas.Slice.Eq.{strip_suffix_is}
use Rattle.shunt_store.proofs.Endings.{one_more, no_more}
use Rattle.shunt_store.proofs.parts.endings_of.Goals as goal

pub endings-preserved : goal.endings-preserved
endings-preserved c = record {
  name = one_more c.args.name.now c.endings.rest.now c.in-Some.front.now c.endings.many c.endings.invariant.name
      (strip_suffix_is Decides-eqb c.endings.rest.now c.as_bytes.result.now (Some c.in-Some.front) c.in-Some.ensures.cases
      ∙ ap (λ x. c.in-Some.front.now ++ x) c.as_bytes.ensures.value);
  few = omega (arith, c.endings.invariant.few, c.in-Some.ensures.cases.2, ap length c.as_bytes.ensures.value);
}

pub returns-clause-all : goal.returns-clause-all
returns-clause-all c =
    no_more c.args.name.now c.endings.rest.now c.endings.many c.endings.invariant.name
    (subst (λ (p : List ℕ). (front : List ℕ) → c.endings.rest.now ≢ front ++ p) c.as_bytes.ensures.value
    (strip_suffix_is Decides-eqb c.endings.rest.now c.as_bytes.result.now None c.in_default.ensures.cases))
