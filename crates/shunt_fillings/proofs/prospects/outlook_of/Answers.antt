use Rattle.std.specs.Prelude.{All, map}
use Rattle.std.specs.List.{AllZip}
use Rattle.std.proofs.Common.{◌≡◌, ◌∙◌, ◌≤◌, ℤ, List, length, ap, sym, subst, arith}
use Rattle.std.proofs.lemmas.Int.{ints}
use Rattle.shunt_base.specs.declared.duals.Case.{Case}
use Rattle.shunt_instance.specs.declared.records.Station.{Station}
use Rattle.shunt_prices.specs.defs.Sums.{sum_z, IsWithin}
use Rattle.shunt_prices.specs.defs.Limits.{case_at}
use Rattle.shunt_stacks.specs.defs.Stacks.{stacks}
use Rattle.shunt_stacks.specs.defs.Fillings.{IsStackGain}
use Rattle.shunt_fillings.specs.declared.prospects.Prospect.{Prospect}
use Rattle.shunt_fillings.specs.defs.Prospects.{IsProspect}
use Rattle.shunt_fillings.proofs.Listed.{zip_long, zip_map, zip_each}
use Rattle.shunt_fillings.proofs.Summed.{total_same}
use Rattle.shunt_fillings.proofs.prospects.outlook_of.Goals as goal
use Rattle.shunt_prices.proofs.Counts.{got, got_is}

pub prospects_in-requires-clause-case : goal.prospects_in-requires-clause-case
prospects_in-requires-clause-case c = got_is c.args.scene.now.instance.now c.args.cases.now c.args.k c.get.result.now c.get.ensures c.requires.there c.requires.cases

pub added_up-requires-clause-few : goal.added_up-requires-clause-few
added_up-requires-clause-few c =
    let s = c.args.scene.now in
    let few : length (stacks s.instance.now.station) ≤ 120 = subst (λ (t : Station). length (stacks t) ≤ 120) c.station.ensures.exact
    (c.stacks_of_stations.ensures.few c.station.result.now c.station.ensures.station) in
    let long = zip_long (IsProspect s.instance.now s.path.now.blocks c.get.result.now) (stacks s.instance.now.station) c.in_ok-stacks.stacks.items c.in_ok-stacks.ensures in
    subst (λ (ps : List Prospect). length ps ≤ 120) (sym c.deref.ensures.value) (omega (arith, few, long))

pub added_up-requires-clause-gains : goal.added_up-requires-clause-gains
added_up-requires-clause-gains c =
    let s = c.args.scene.now in
    subst (All (λ (p : Prospect). IsWithin 319999999999680 p.gain)) (sym c.deref.ensures.value)
    (zip_each (IsProspect s.instance.now s.path.now.blocks c.get.result.now) (λ (p : Prospect). IsWithin 319999999999680 p.gain) (λ x y r. r.small)
    (stacks s.instance.now.station) c.in_ok-stacks.stacks.items c.in_ok-stacks.ensures)

pub returns : goal.returns
returns c =
    let s = c.args.scene.now in
    let night = s.instance.now in
    let path = s.path.now.blocks in
    let items = c.in_ok-stacks.stacks.items in
    let sum = c.case_sum.ensures in
    let less = c.added_up.ensures in
    let gains : c.added_up.result ≡ sum_z (λ (z : ℤ). z) (map (λ (p : Prospect). p.gain) items) = less.exact
    ∙ (ap (sum_z (λ (p : Prospect). p.gain)) c.deref.ensures.value ∙ sym (total_same (λ (p : Prospect). p.gain) items)) in
    let each : AllZip (IsProspect night path (case_at c.args.cases.now c.args.k)) (stacks night.station) items =
    subst (λ (k : Case). AllZip (IsProspect night path k) (stacks night.station) items)
    (sym (got c.args.cases.now c.args.k c.get.result.now c.get.ensures)) c.in_ok-stacks.ensures in
    record {
      each = each;
      sum = record {
        gains = map (λ (p : Prospect). p.gain) items;
        are = zip_map (IsProspect night path (case_at c.args.cases.now c.args.k)) (IsStackGain night path (case_at c.args.cases.now c.args.k)) (λ (p : Prospect). p.gain)
            (λ x y r. r.gain) (stacks night.station) items each;
        is = omega (arith, ints, sum.exact, sum.small.low, sum.small.high, gains, less.small.low, less.small.high);
      };
      small = record {
        low = omega (arith, ints, sum.small.low, sum.small.high, less.small.low, less.small.high);
        high = omega (arith, ints, sum.small.low, sum.small.high, less.small.low, less.small.high);
      };
    }
