use Rattle.std.proofs.Common.{◌≡◌, List, map, sym, subst, ◌∙◌}
use Rattle.std.specs.Prelude.{IfOk}
use Rattle.shunt_base.specs.declared.keys.Stay.{Stay}
use Rattle.shunt_base.specs.defs.Keys.{AreStays}
use Rattle.shunt_stays.specs.defs.Events.{in_order}
use Rattle.shunt_tracks.specs.defs.Dues.{move_of}
use Rattle.shunt_sheet.proofs.orders.dues_in.Goals as goal

pub stays_of-requires : goal.stays_of-requires
stays_of-requires c = λ k d lt. (c.requires.each k d lt).within

pub sorted_dues-requires : goal.sorted_dues-requires
sorted_dues-requires c = subst AreStays (sym (c.deref.ensures.value ∙ c.in_ok-stays.ensures.exact)) c.requires.stays

pub returns : goal.returns
returns c = subst (λ (ss : List Stay). IfOk c.sorted_dues.result (λ v. map move_of v.items ≡ in_order ss))
    (c.deref.ensures.value ∙ c.in_ok-stays.ensures.exact) c.sorted_dues.ensures
