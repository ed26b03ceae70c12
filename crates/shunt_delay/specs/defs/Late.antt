-- The night in which one train is late.
use Rattle.std.specs.Prelude.{ℕ, zero, suc, ◌+◌, List, [], ◌∷◌}
use Rattle.shunt_instance.specs.declared.records.Train.{Train}
use Rattle.shunt_instance.specs.defs.Instance.{Night}

-- these trains, of which the one with a number comes that many minutes later
abbrev pub delayed : ℕ → ℕ → List Train → List Train
delayed i d [] = []
delayed zero d (t ∷ trains) = record t { minute = t.minute + d } ∷ trains
delayed (suc i) d (t ∷ trains) = t ∷ delayed i d trains

-- the night in which an arriving train is that many minutes late; all trains, units and positions keep their numbers
abbrev pub late : ℕ → ℕ → Night → Night
late i d night = record night { arrive = delayed i d night.arrive }
