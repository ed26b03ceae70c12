use Rattle.shunt.proofs.Replayed.{left_state}
use Rattle.shunt.proofs.laws.replay_leaves_a_state.Goals as goal

pub returns : goal.returns
returns c = left_state
