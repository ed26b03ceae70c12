use Rattle.std.proofs.Common.{◌≡◌, ◌⊎◌, inl, inr, sym, ◌∙◌}
use Rattle.std.specs.Prelude.{◌≢◌}
use Rattle.shunt_base.specs.declared.ids.Side.{Side}
use Rattle.shunt_base.specs.declared.keys.Stay.{Stay}
use Rattle.shunt_base.specs.defs.Keys.{IsBefore}
use Rattle.shunt_stacks.specs.defs.Spans.{IsBy}
use Rattle.shunt_stacks.proofs.laws.nested_stays.Goals as goal

leaves_first : (side : Side) (b c : Stay) → IsBy side c → (IsBefore c.leave b.leave × (c.side_out ≢ c.side_in)) ⊎ (IsBefore b.leave c.leave × (b.side_out ≡ c.side_in))
    → IsBefore b.leave c.leave
leaves_first side b c by (inl h) = absurd (h.1 (by.goes ∙ sym by.comes))
leaves_first side b c by (inr h) = h.0

pub returns : goal.returns
returns c = record {
  crosses = λ side b d track by other. (
    λ h. (h.after, h.during, leaves_first side b d other h.blocked),
    λ h. record { track = track; after = h.0; during = h.1; blocked = inr (h.2, by.goes ∙ sym other.comes) },
  );
}
