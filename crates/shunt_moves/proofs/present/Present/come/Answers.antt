use Rattle.std.proofs.Common.{◌≡◌, ◌≢◌, ℕ, ◌+◌, cond, ◌<◌, List, length, sym, subst, ap, ◌∙◌, arith}
use Rattle.shunt_base.specs.declared.keys.Stay.{Stay}
use Rattle.std.specs.Prelude.{Option, IfSome, All}
use Rattle.shunt_blocks.specs.declared.records.Block.{Block}
use Rattle.shunt_blocks.specs.defs.Shapes.{IsInRange, shape_of, unit_from, position_from}
use Rattle.shunt_audit.specs.defs.Listed.{insert_by_id}
use Rattle.shunt_moves.specs.declared.faults.Faults.{Faults}
use Rattle.shunt_moves.specs.defs.Kept.{Standing, IsKeptState, Comes, at, is_within}
use Rattle.shunt_moves.proofs.ByIds.{IsNew}
use Rattle.shunt_moves.proofs.KeptBeside.{come, kept_small}
use Rattle.shunt_moves.proofs.Ready.{is_new, few_stays, has_room}
use Rattle.shunt_moves.proofs.present.Present.come.Goals as goal

pub insert-requires-clause-new : goal.insert-requires-clause-new
insert-requires-clause-new c = subst (λ (p : Standing). IsNew c.args.block.now.id p.state.blocks) (sym c.self.view_is) c.requires.new

pub insert-requires-clause-room : goal.insert-requires-clause-room
insert-requires-clause-room c = let few : length c.self.inside.blocks.items < 400 = subst (λ (p : Standing). length p.state.blocks < 400)
    (sym c.self.view_is) c.requires.few in let room = c.self.invariant.1 in omega arith

pub with-self-inside-requires-clause-small : goal.with-self-inside-requires-clause-small
with-self-inside-requires-clause-small c = kept_small c.self.inside.instance.now c.self.inside.blocks.items c.self.inside.timelines c.self.inside.units c.self.inside.places
    c.self.inside.faults c.self.invariant.0

pub insert_stay-requires-clause-new : goal.insert_stay-requires-clause-new
insert_stay-requires-clause-new c =
    subst (λ (o : Option Stay). IfSome o (λ s. All (λ t. t.id ≢ s.id) c.self.inside.timelines.stays)) (sym c.stay.ensures.exact)
    (is_new c.self.inside.instance.now c.self.inside.blocks.items c.self.inside.timelines c.self.inside.units c.self.inside.places c.self.inside.faults c.self.invariant.0
    c.args.block.now (subst (λ (p : Standing). IsNew c.args.block.now.id p.state.blocks) (sym c.self.view_is) c.requires.new))

pub insert_stay-requires-clause-few : goal.insert_stay-requires-clause-few
insert_stay-requires-clause-few c = few_stays c.self.inside.instance.now c.self.inside.blocks.items c.self.inside.timelines c.self.inside.units c.self.inside.places
    c.self.inside.faults c.self.invariant.0 (subst (λ (p : Standing). length p.state.blocks < 400) (sym c.self.view_is) c.requires.few)

pub insert_stay-requires-clause-room : goal.insert_stay-requires-clause-room
insert_stay-requires-clause-room c = has_room c.self.inside.instance.now c.self.inside.blocks.items c.self.inside.timelines c.self.inside.units c.self.inside.places
    c.self.inside.faults c.self.invariant.0 (subst (λ (p : Standing). length p.state.blocks < 400) (sym c.self.view_is) c.requires.few)

pub invariant_of-self : goal.invariant_of-self
invariant_of-self c = (
  (let new = subst (λ (p : Standing). IsNew c.args.block.now.id p.state.blocks) (sym c.self.view_is) c.requires.new in
      let range = subst (λ (p : Standing). IsInRange p.night c.args.block.now) (sym c.self.view_is) c.requires.in_range in
      let few = subst (λ (p : Standing). length p.state.blocks < 400) (sym c.self.view_is) c.requires.few in
      let held = subst (λ (o : Option Stay). Comes o c.self.inside.timelines c.insert_stay.new.timelines) c.stay.ensures.exact c.insert_stay.ensures in
      let unit : c.unit_from.result ≡ unit_from c.self.inside.instance.now (shape_of c.args.block.now) = c.unit_from.ensures.exact
      ∙ ap (unit_from c.self.inside.instance.now) c.shape_of-shape.ensures in
      let place : c.position_from.result ≡ position_from c.self.inside.instance.now (shape_of c.args.block.now) = c.position_from.ensures.exact
      ∙ ap (position_from c.self.inside.instance.now) c.shape_of-shape.ensures in
      let units = subst (λ (from : ℕ). (u : ℕ) → u < c.self.inside.units.total → at c.raise.new.self.times u
      ≡ at c.self.inside.units.times u + cond (is_within from c.args.block.now.n u) 1 0) unit c.raise.ensures.each in
      let places = subst (λ (from : ℕ). (v : ℕ) → v < c.self.inside.places.total → at c.raise-2.new.self.times v
      ≡ at c.self.inside.places.times v + cond (is_within from c.args.block.now.n v) 1 0) place c.raise-2.ensures.each in
      subst (λ (l : List Block). IsKeptState c.self.inside.instance.now l c.insert_stay.new.timelines c.raise.new.self c.raise-2.new.self c.with-self-inside.result)
      (sym c.insert.ensures.items)
      (subst (λ (g : Faults). IsKeptState c.self.inside.instance.now (insert_by_id c.args.block.now c.self.inside.blocks.items) c.insert_stay.new.timelines c.raise.new.self
      c.raise-2.new.self g) (sym c.with-self-inside.ensures.exact)
      (come c.self.inside.instance.now c.args.block.now c.self.inside.blocks.items c.self.inside.timelines c.insert_stay.new.timelines c.self.inside.units c.self.inside.places
      c.raise.new.self c.raise-2.new.self c.self.inside.faults c.self.invariant.0 new range c.with-self-inside.ensures.cost few held c.raise.ensures.total units
      c.raise-2.ensures.total places))),
  (let room = c.self.invariant.1 in omega (arith, c.insert.ensures.capacity)),
)
