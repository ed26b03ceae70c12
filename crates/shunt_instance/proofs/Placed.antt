-- A train of which nothing has come.
use Rattle.std.proofs.Common.{◌≡◌, ◌+◌, ◌≤◌, [], sym, subst}
use Rattle.std.specs.Prelude.{All, AllPairs}
use Rattle.std.proofs.lemmas.List.Elements.{All-nil}
use Rattle.shunt_lists.proofs.Lists.{no_pairs}
use Rattle.shunt_instance.specs.declared.records.PlacedRun.{PlacedRun}
use Rattle.shunt_instance.specs.declared.records.Station.{Station}
use Rattle.shunt_instance.specs.declared.records.Train.{Train}
use Rattle.shunt_instance.specs.defs.Wellformed.{IsPlacedRun, ArePlaced}

-- one run ends before the other begins
abbrev pub Before : PlacedRun → PlacedRun → Type 0
Before r later = r.first + r.count ≤ later.first

pub none_placed : (s : Station) (t : Train) → t.placed ≡ [] → ArePlaced s t
none_placed s t none = record { each = subst (All (IsPlacedRun s t)) (sym none) (All-nil (IsPlacedRun s t)); apart = subst (AllPairs Before) (sym none) (no_pairs Before) }
