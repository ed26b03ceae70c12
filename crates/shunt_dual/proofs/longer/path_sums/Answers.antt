use mir.Syntax.{w64}
use Rattle.std.proofs.Common.{sym, subst, ◌∙◌, arith}
use Rattle.std.proofs.lemmas.Int.{to_z-of_z}
use Rattle.shunt_prices.specs.defs.Sums.{IsWithin}
use Rattle.shunt_prices.specs.defs.Bounds.{case_sum}
use Rattle.shunt_dual.proofs.Lengthened.{one_more, each_more}
use Rattle.shunt_dual.proofs.longer.path_sums.Goals as goal

pub cases-preserved : goal.cases-preserved
cases-preserved c =
    let h = c.cases.invariant in
    let seen = to_z-of_z w64 c.case_sum.result (record { sfits = c.case_sum.type_inv }) in
    let items = c.in_ok-push.ensures.items in
    record {
      many = let e = h.many in let l = c.in_ok-push.ensures.len in omega (arith, e, l);
      small = one_more (IsWithin 4010000000000000000) c.cases.sums.items c.push.new.self.items _ items h.small
          (subst (IsWithin 4010000000000000000) (sym seen) c.case_sum.ensures.small);
      each = each_more (case_sum c.args.instance.now c.args.path.now.blocks c.args.cases.now) c.cases.k c.cases.sums.items c.push.new.self.items _ items h.many
          (seen ∙ c.case_sum.ensures.exact) h.each;
    }
