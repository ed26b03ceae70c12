use Rattle.std.proofs.Common.{◌≡◌, ◌+◌, ◌<◌, List, ◌∷◌, ◌++◌, length, sym, ap, subst, ◌∙◌}
use Rattle.std.specs.Prelude.{take, drop}
use Rattle.std.proofs.lemmas.List.{get_or_read}
use Rattle.shunt_instance.specs.declared.records.PlacedRun.{PlacedRun}
use Rattle.shunt_instance.specs.declared.records.Train.{Train}
use Rattle.shunt_instance.specs.defs.Words.{train_at}
use Rattle.shunt_timetable.specs.defs.TimetableFormat.{with_run, with_placed}
use Rattle.shunt_timetable.proofs.PlacedRuns.{by_set, set_names, set_units, set_few}
use Rattle.shunt_timetable.proofs.reader.Trains.place.Goals as goal

-- src/reader.rt:183:5
pub invariant_of-self : goal.invariant_of-self
invariant_of-self c =
    let trains = c.self.inside.trains.items in
    let t = c.index_mut.result.now in
    let within : c.args.k < length trains = subst (λ (l : List Train). c.args.k < length l) (sym c.self.view_is) c.requires in
    let is : t ≡ train_at trains c.args.k = get_or_read trains c.args.k t within c.index_mut.ensures.value _ in (
      c.self.invariant.0 ∙ sym (set_names trains c.args.k _ within (ap (λ (x : Train). x.name) is)),
      c.self.invariant.1 ∙ sym (set_units trains c.args.k _ within (ap (λ (x : Train). length x.units) is)),
      c.self.invariant.2,
      set_few trains c.args.k _ within (ap (λ (x : Train). length x.units) is) c.self.invariant.3,
    )

-- src/reader.rt:183:5
pub returns-clause-added : goal.returns-clause-added
returns-clause-added c =
    let trains = c.self.inside.trains.items in
    let k = c.args.k in
    let t = c.index_mut.result.now in
    let within : k < length trains = subst (λ (l : List Train). k < length l) (sym c.self.view_is) c.requires in
    let is : t ≡ train_at trains k = get_or_read trains k t within c.index_mut.ensures.value _ in
    let seen : c.index.result.now ≡ train_at trains k = get_or_read trains k c.index.result.now within c.index.ensures _ in
    let runs : c.from_vec.result ≡ with_run c.args.run (train_at trains k).placed =
    c.from_vec.ensures ∙ c.in_ok-placed.ensures ∙ ap (with_run c.args.run) (c.as_slice.ensures ∙ ap (λ (x : Train). x.placed) seen) in
    by_set trains k _ within
    ∙ ap (λ (x : Train). take k trains ++ x ∷ drop (k + 1) trains) (ap (λ (x : Train). record x { placed = c.from_vec.result }) is
    ∙ ap (λ (rs : List PlacedRun). record (train_at trains k) { placed = rs }) runs)
    ∙ ap (with_placed k c.args.run) c.self.view_is
