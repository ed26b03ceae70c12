use Rattle.std.proofs.Common.{ℕ, ◌≤◌, List, arith, string_bytes, take_all, ap, subst, ◌∙◌}
use Rattle.std.proofs.lemmas.Grind.{common_steps}
use Rattle.shunt_store.specs.defs.Parts.{part_endings, EndsWith}
use Rattle.shunt_store.proofs.Endings.{names_more}
use Rattle.shunt_store.proofs.parts.free_endings.Goals as goal

pub loop-name-preserved : goal.loop-name-preserved
loop-name-preserved c = record {
  some = grind (arith, common_steps);
  free = names_more string_bytes c.args.names.now c.loop-name.name-index c.loop-name.free c.max-free.result c.endings_of.result c.name-item.result c.loop-name-test.true
      c.loop-name.invariant.free
      (subst (λ (s : List ℕ). (n : ℕ) → EndsWith s (part_endings n) → n ≤ c.endings_of.result) (c.as_bytes.ensures.value ∙ ap string_bytes c.name-item.is) c.endings_of.ensures.all)
      (grind (arith, common_steps)) (grind (arith, common_steps));
}

pub returns-clause-free : goal.returns-clause-free
returns-clause-free c =
    let h = rw (take_all c.loop-name.name-index c.args.names.now c.loop-name-test.false) at c.loop-name.invariant.free in
    λ k d lt e. omega (arith, h k d lt c.loop-name.free e)
