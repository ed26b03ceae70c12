use Rattle.std.proofs.Common.{subst, sym}
use Rattle.shunt_proof.specs.defs.Versions.{IsBoundIn}
use Rattle.shunt_checker.proofs.Seen.{seen_word}
use Rattle.shunt_checker.proofs.NodeFindings.{leaf_judged}
use Rattle.shunt_checker.proofs.nodes.leaf_fault.Goals as goal

pub returns : goal.returns
returns c =
    let night = c.args.instance.now in
    let cert = c.args.certificate.now in
    let path = c.args.path.now.blocks in
    leaf_judged night cert c.args.k path c.args.cases.now c.requires.duals _ (subst (IsBoundIn cert.version night path c.args.cases.now)
    (sym (seen_word c.in_ok-bound.bound c.in_ok-bound.ensures.word)) c.in_ok-bound.ensures.is)
    (λ p cs x y is so. c.bounds_by_version.ensures.one cert.version night p cs x y is so)
    c.requires.kind c.leaf_reason.result c.leaf_reason.ensures.some c.leaf_reason.ensures.none
