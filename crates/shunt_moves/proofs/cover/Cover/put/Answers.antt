use Rattle.std.proofs.Common.{◌≡◌, ◌<◌, ◌≤◌, sym, subst, set, arith}
use Rattle.std.specs.Prelude.{◌==◌, nat_le}
use Rattle.shunt_moves.specs.defs.Kept.{Times, at}
use Rattle.shunt_moves.proofs.Points.{put_bare, put_twice, at_set, at_other, small_sum, count_most}
use Rattle.shunt_moves.proofs.cover.Cover.put.Goals as goal

pub overflow_add-self : goal.overflow_add-self
overflow_add-self c = let small = small_sum c.self.inside.bare c.from.result c.self.inside.total _
    (subst (λ n. n ≤ c.self.inside.total) (sym c.self.invariant.bare_are) (count_most c.self.inside.total (λ u. at c.self.inside.times u == 0))) c.self.invariant.few c.from.ensures
    in omega (arith, small)

pub overflow_sub-self : goal.overflow_sub-self
overflow_sub-self c = (put_bare c.self.inside.times c.self.inside.total c.self.inside.bare c.self.inside.twice c.args.u c.args.times c.self.invariant
    (subst (λ (t : Times). c.args.u < t.total) (sym c.self.view_is) c.requires.within) c.self.told c.from.result c.from-2.result c.from.ensures c.from-2.ensures).below

pub overflow_add-self-2 : goal.overflow_add-self-2
overflow_add-self-2 c = let small = small_sum c.self.inside.twice c.from-3.result c.self.inside.total _
    (subst (λ n. n ≤ c.self.inside.total) (sym c.self.invariant.twice_are) (count_most c.self.inside.total (λ u. nat_le 2 (at c.self.inside.times u)))) c.self.invariant.few
    c.from-3.ensures in omega (arith, small)

pub overflow_sub-self-2 : goal.overflow_sub-self-2
overflow_sub-self-2 c = (put_twice c.self.inside.times c.self.inside.total c.self.inside.bare c.self.inside.twice c.args.u c.args.times c.self.invariant
    (subst (λ (t : Times). c.args.u < t.total) (sym c.self.view_is) c.requires.within) c.self.told c.from-3.result c.from-4.result c.from-3.ensures c.from-4.ensures).below

pub invariant_of-self : goal.invariant_of-self
invariant_of-self c = record {
  few = c.self.invariant.few;
  bare_are = (put_bare c.self.inside.times c.self.inside.total c.self.inside.bare c.self.inside.twice c.args.u c.args.times c.self.invariant
      (subst (λ (t : Times). c.args.u < t.total) (sym c.self.view_is) c.requires.within) c.self.told c.from.result c.from-2.result c.from.ensures c.from-2.ensures).is;
  twice_are = (put_twice c.self.inside.times c.self.inside.total c.self.inside.bare c.self.inside.twice c.args.u c.args.times c.self.invariant
      (subst (λ (t : Times). c.args.u < t.total) (sym c.self.view_is) c.requires.within) c.self.told c.from-3.result c.from-4.result c.from-3.ensures c.from-4.ensures).is;
}

pub returns-clause-one : goal.returns-clause-one
returns-clause-one c = at_set c.self.inside.times c.args.u c.args.times (omega (arith, c.requires.small, c.self.told))

pub returns-clause-others : goal.returns-clause-others
returns-clause-others c v ne = subst (λ (t : Times). at (set c.self.inside.times c.args.u c.args.times) v ≡ at t.times v) c.self.view_is
    (at_other c.self.inside.times c.args.u v c.args.times ne)
