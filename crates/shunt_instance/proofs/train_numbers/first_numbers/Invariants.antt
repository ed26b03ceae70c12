use Rattle.std.proofs.Common.{◌≡◌, ℕ, ◌*◌, ◌<◌, ◌≤◌, length, get_or, take}
use Rattle.shunt_instance.specs.defs.Words.{unit_count}
use Rattle.shunt_instance.proofs.train_numbers.first_numbers.Given as goal

abbrev pub invariant-loop-train : goal.invariant-loop-train
invariant-loop-train l = record {
  few : l.count ≤ 8 * l.train-index;
  count : l.count ≡ unit_count (take l.train-index l.trains);
  size : length l.firsts.items ≡ l.train-index;
  each : (k : ℕ) → k < l.train-index → get_or l.firsts.items k 0 ≡ unit_count (take k l.trains);
}
