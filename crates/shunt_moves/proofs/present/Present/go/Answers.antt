use Rattle.std.proofs.Common.{◌≡◌, ℕ, ◌+◌, cond, ◌<◌, List, sym, subst, ap, ◌∙◌, arith}
use Rattle.shunt_base.specs.declared.keys.Stay.{Stay}
use Rattle.std.specs.Prelude.{Option, IsTrue}
use Rattle.shunt_lists.specs.defs.Members.{In}
use Rattle.shunt_blocks.specs.declared.records.Block.{Block}
use Rattle.shunt_blocks.specs.declared.records.Shape.{Shape}
use Rattle.shunt_blocks.specs.defs.Shapes.{IsInRange, AreRunsWithin, shape_of, unit_from, position_from}
use Rattle.shunt_audit.specs.defs.Listed.{insert_by_id}
use Rattle.shunt_moves.specs.declared.faults.Faults.{Faults}
use Rattle.shunt_moves.specs.defs.States.{without_block}
use Rattle.shunt_moves.proofs.ByIds.{put_again, gone}
use Rattle.shunt_moves.specs.defs.Kept.{Standing, IsKeptState, Goes, at, is_within}
use Rattle.shunt_moves.proofs.Ready.{some_units, some_places, all_in_range}
use Rattle.shunt_moves.proofs.Departures.{go}
use Rattle.shunt_moves.proofs.present.Present.go.Goals as goal
use Rattle.shunt_lists.proofs.Members.{each_one as of_all}

pub stay-requires : goal.stay-requires
stay-requires c = (of_all (IsInRange c.self.inside.instance.now) c.self.inside.blocks.items c.args.block.now c.self.invariant.0.each
    (subst (λ (p : Standing). In c.args.block.now p.state.blocks) (sym c.self.view_is) c.requires)).within

pub unit_from-requires : goal.unit_from-requires
unit_from-requires c = subst (AreRunsWithin c.self.inside.instance.now) (sym c.shape_of-shape.ensures)
    (of_all (IsInRange c.self.inside.instance.now) c.self.inside.blocks.items c.args.block.now c.self.invariant.0.each
    (subst (λ (p : Standing). In c.args.block.now p.state.blocks) (sym c.self.view_is) c.requires)).within.runs

pub lower-requires-clause-some : goal.lower-requires-clause-some
lower-requires-clause-some c u t =
    let from : c.unit_from.result ≡ unit_from c.self.inside.instance.now (shape_of c.args.block.now) = c.unit_from.ensures.exact
    ∙ ap (unit_from c.self.inside.instance.now) c.shape_of-shape.ensures in
    let count : c.shape_of-shape.result.n ≡ c.args.block.now.n = ap (λ (s : Shape). s.n) c.shape_of-shape.ensures in
    let within = c.unit_from.ensures.within in
    some_units c.self.inside.instance.now c.self.inside.blocks.items c.self.inside.timelines c.self.inside.units c.self.inside.places c.self.inside.faults c.self.invariant.0
    c.args.block.now (subst (λ (p : Standing). In c.args.block.now p.state.blocks) (sym c.self.view_is) c.requires) (omega arith) u
    (subst (λ (n : ℕ). IsTrue (is_within n c.args.block.now.n u)) from t)

pub position_from-requires : goal.position_from-requires
position_from-requires c = subst (AreRunsWithin c.self.inside.instance.now) (sym c.shape_of-shape.ensures)
    (of_all (IsInRange c.self.inside.instance.now) c.self.inside.blocks.items c.args.block.now c.self.invariant.0.each
    (subst (λ (p : Standing). In c.args.block.now p.state.blocks) (sym c.self.view_is) c.requires)).within.runs

pub lower-requires-2-clause-some : goal.lower-requires-2-clause-some
lower-requires-2-clause-some c u t =
    let from : c.position_from.result ≡ position_from c.self.inside.instance.now (shape_of c.args.block.now) = c.position_from.ensures.exact
    ∙ ap (position_from c.self.inside.instance.now) c.shape_of-shape.ensures in
    let count : c.shape_of-shape.result.n ≡ c.args.block.now.n = ap (λ (s : Shape). s.n) c.shape_of-shape.ensures in
    let within = c.position_from.ensures.within in
    some_places c.self.inside.instance.now c.self.inside.blocks.items c.self.inside.timelines c.self.inside.units c.self.inside.places c.self.inside.faults c.self.invariant.0
    c.args.block.now (subst (λ (p : Standing). In c.args.block.now p.state.blocks) (sym c.self.view_is) c.requires) (omega arith) u
    (subst (λ (n : ℕ). IsTrue (is_within n c.args.block.now.n u)) from t)

pub without-self-inside-requires : goal.without-self-inside-requires
without-self-inside-requires c = (of_all (IsInRange c.self.inside.instance.now) c.self.inside.blocks.items c.args.block.now c.self.invariant.0.each
    (subst (λ (p : Standing). In c.args.block.now p.state.blocks) (sym c.self.view_is) c.requires)).within

pub invariant_of-self : goal.invariant_of-self
invariant_of-self c = (
  (let there = (subst (λ (p : Standing). In c.args.block.now p.state.blocks) (sym c.self.view_is) c.requires) in
      let rest = without_block c.args.block.now.id c.self.inside.blocks.items in
      let is : c.self.inside.blocks.items ≡ insert_by_id c.args.block.now rest = sym (put_again c.args.block.now c.self.inside.blocks.items c.self.invariant.0.ascend there) in
      let kept = subst (λ (l : List Block). IsKeptState c.self.inside.instance.now l c.self.inside.timelines c.self.inside.units c.self.inside.places c.self.inside.faults) is
      c.self.invariant.0 in
      let formed = c.stays_of_blocks.ensures.stays c.self.inside.instance.now (insert_by_id c.args.block.now rest) c.station.ensures.formed
      (c.stays_of_blocks.ensures.in_range c.self.inside.instance.now (insert_by_id c.args.block.now rest)
      (all_in_range c.self.inside.instance.now (insert_by_id c.args.block.now rest) c.self.inside.timelines c.self.inside.units c.self.inside.places c.self.inside.faults
      kept)) in
      let held = subst (λ (o : Option Stay). Goes c.args.block.now.id o c.self.inside.timelines c.remove_stay.new.timelines) c.stay.ensures.exact c.remove_stay.ensures in
      let unit : c.unit_from.result ≡ unit_from c.self.inside.instance.now (shape_of c.args.block.now) = c.unit_from.ensures.exact
      ∙ ap (unit_from c.self.inside.instance.now) c.shape_of-shape.ensures in
      let place : c.position_from.result ≡ position_from c.self.inside.instance.now (shape_of c.args.block.now) = c.position_from.ensures.exact
      ∙ ap (position_from c.self.inside.instance.now) c.shape_of-shape.ensures in
      let units = subst (λ (from : ℕ). (u : ℕ) → u < c.self.inside.units.total → at c.lower.new.self.times u + cond (is_within from c.args.block.now.n u) 1 0
      ≡ at c.self.inside.units.times u) unit c.lower.ensures.each in
      let places = subst (λ (from : ℕ). (v : ℕ) → v < c.self.inside.places.total → at c.lower-2.new.self.times v + cond (is_within from c.args.block.now.n v) 1 0
      ≡ at c.self.inside.places.times v) place c.lower-2.ensures.each in
      subst (λ (l : List Block). IsKeptState c.self.inside.instance.now l c.remove_stay.new.timelines c.lower.new.self c.lower-2.new.self c.without-self-inside.result)
      (sym c.remove.ensures.items)
      (subst (λ (g : Faults). IsKeptState c.self.inside.instance.now rest c.remove_stay.new.timelines c.lower.new.self c.lower-2.new.self g) (sym c.without-self-inside.ensures)
      (go c.self.inside.instance.now c.args.block.now rest c.self.inside.timelines c.remove_stay.new.timelines c.self.inside.units c.self.inside.places c.lower.new.self
      c.lower-2.new.self c.self.inside.faults kept (gone c.args.block.now.id c.self.inside.blocks.items) formed held c.lower.ensures.total units c.lower-2.ensures.total
      places))),
  (let room = c.self.invariant.1 in omega (arith, c.remove.ensures.capacity)),
)
