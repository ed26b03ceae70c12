use mir.Syntax.{w64}
use Rattle.std.specs.Prelude.{IfOk, is_none}
use Rattle.std.proofs.Common.{◌≡◌, ◌<◌, ◌≤◌, List, length, ap, subst, sym, ◌∙◌, arith}
use Rattle.std.proofs.lemmas.Int.{to_z-of_z}
use Rattle.std.proofs.lemmas.List.Sums.{count_by-le-length}
use Rattle.shunt_blocks.specs.declared.records.Block.{Block}
use Rattle.shunt_instance.specs.defs.Instance.{unit_total}
use Rattle.shunt_prices.specs.defs.Sums.{IsWithin}
use Rattle.shunt_prices.specs.defs.Bounds.{unparked_in}
use Rattle.shunt_proof.specs.declared.records.Node.{Node}
use Rattle.shunt_proof.specs.defs.Nodes.{AreNodes}
use Rattle.shunt_proof.specs.declared.records.Version.TheVariants.{Prices}
use Rattle.shunt_checker.specs.defs.Firsts.{Finds}
use Rattle.shunt_checker.specs.defs.Searches.{IsOneAt}
use Rattle.shunt_checker.specs.defs.Misses.{IsMissed}
use Rattle.shunt_checker.specs.defs.NodeFaults.{EarlierChoice}
use Rattle.shunt_checker.proofs.nodes.missed_by_prices.Goals as goal

pub first_missed-requires-clause-branch : goal.first_missed-requires-clause-branch
first_missed-requires-clause-branch c =
    let night = c.args.instance.now in
    let path = c.args.path.now.blocks in
    let most : length path ≤ unit_total night = c.few_blocks.ensures.most night path (λ k d lt. (c.requires.path.each k d lt).within) c.requires.path.apart in
    let few : length path ≤ 160 = omega (arith, most) in
    let unparked : c.unparked_in-unparked.result ≡ unparked_in path = c.unparked_in-unparked.ensures ∙ ap (λ (bs : List Block). unparked_in bs) c.blocks-2.ensures in
    let fewer : unparked_in path ≤ length path = count_by-le-length (λ (b : Block). is_none b.park) path in
    let first_seen = to_z-of_z w64 c.case_sum-first_sum.result (record { sfits = c.case_sum-first_sum.type_inv }) in
    let last_seen = to_z-of_z w64 c.case_sum-last_sum.result (record { sfits = c.case_sum-last_sum.type_inv }) in
    record {
      path = c.requires.path;
      cases = c.requires.cases;
      last_is = (let value = c.len-last.ensures.value in let some = c.len-last.ensures.some in omega (arith, value, some));
      unparked = unparked;
      few = few;
      few_unparked = omega (arith, unparked, fewer, few);
      first = first_seen ∙ c.case_sum-first_sum.ensures.exact;
      first_small = subst (IsWithin 4010000000000000000) (sym first_seen) c.case_sum-first_sum.ensures.small;
      last = last_seen ∙ c.case_sum-last_sum.ensures.exact;
      last_small = subst (IsWithin 4010000000000000000) (sym last_seen) c.case_sum-last_sum.ensures.small;
      nodes = subst (AreNodes night) (sym c.as_slice.ensures) c.requires.nodes;
      there = subst (λ (ns : List Node). c.args.k < length ns) (sym c.as_slice.ensures) c.requires.there;
      stated = c.requires.bound;
    }

pub returns : goal.returns
returns c =
    subst (λ (ns : List Node). IfOk c.first_missed.result (Finds (IsOneAt c.args.instance.now c.args.path.now.covered
    (IsMissed Prices c.args.instance.now c.args.path.now.blocks c.args.cases.now ns c.args.k c.args.certificate.now.bound) c.args.u) (EarlierChoice c.args.instance.now)))
    c.as_slice.ensures c.first_missed.ensures
