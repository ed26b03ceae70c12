use Rattle.std.proofs.Common.{ℕ, List, [], ap, ◌∙◌}
use Rattle.std.specs.Prelude.{max}
use Rattle.shunt_timeline.specs.defs.Holdings.{Holding}
use Rattle.shunt_delay.proofs.bearable_delays.empty_timelines.Goals as goal

pub returns : goal.returns
returns c = c.in_ok-reserve.ensures.ok ∙ ap (λ (h : Holding). record h { spare = max h.spare 400 })
    (c.in_ok-timelines.ensures ∙ ap (λ (ls : List ℕ). record { stays = []; lengths = ls; spare = 0 }) (c.as_slice.ensures.value ∙ c.in_ok-lengths.ensures))
