use Rattle.std.proofs.Common.{◌∙◌}
use Rattle.shunt_checker.proofs.NodeFindings.{unbroken, is_break, broke}
use Rattle.shunt_checker.proofs.nodes.dual_fault.Goals as goal
use Rattle.shunt_blocks.proofs.Shapes.{on_track as on_option}
use Rattle.shunt_choices.proofs.Trails.{masks_fit}

pub first_break-requires-clause-covered : goal.first_break-requires-clause-covered
first_break-requires-clause-covered c = masks_fit c.args.instance.now c.args.path.now c.covered.result.now c.covered.ensures c.requires.path

pub break_reason-reason-requires-clause-there : goal.break_reason-reason-requires-clause-there
break_reason-reason-requires-clause-there c =
    let is = is_break c.args.instance.now c.args.certificate.now c.args.k c.args.path.now.blocks c.args.cases.now c.requires.duals c.covered.result.now
    (c.covered.ensures ∙ c.requires.path.covered) c.in_ok-broken.broken c.in_ok-broken.ensures c.in-Some.found c.in-Some.is in
    is.there

pub break_reason-reason-requires-clause-within : goal.break_reason-reason-requires-clause-within
break_reason-reason-requires-clause-within c =
    let is = is_break c.args.instance.now c.args.certificate.now c.args.k c.args.path.now.blocks c.args.cases.now c.requires.duals c.covered.result.now
    (c.covered.ensures ∙ c.requires.path.covered) c.in_ok-broken.broken c.in_ok-broken.ensures c.in-Some.found c.in-Some.is in
    is.light.shape.shape.within

pub break_reason-reason-requires-clause-track : goal.break_reason-reason-requires-clause-track
break_reason-reason-requires-clause-track c =
    let is = is_break c.args.instance.now c.args.certificate.now c.args.k c.args.path.now.blocks c.args.cases.now c.requires.duals c.covered.result.now
    (c.covered.ensures ∙ c.requires.path.covered) c.in_ok-broken.broken c.in_ok-broken.ensures c.in-Some.found c.in-Some.is in
    on_option c.args.instance.now c.in-Some.found.offer.shape c.in-Some.found.offer.option is.light.holds.option

pub returns-in_default : goal.returns-in_default
returns-in_default c =
    unbroken c.args.instance.now c.args.certificate.now c.args.k c.args.path.now.blocks c.args.cases.now c.requires.duals c.covered.result.now
    (c.covered.ensures ∙ c.requires.path.covered) c.in_ok-broken.broken c.in_ok-broken.ensures c.in_default.is

pub returns : goal.returns
returns c =
    broke c.args.instance.now c.args.certificate.now c.args.k c.args.path.now.blocks c.args.cases.now c.requires.duals c.covered.result.now
    (c.covered.ensures ∙ c.requires.path.covered) c.in_ok-broken.broken c.in_ok-broken.ensures
    c.requires.kind c.in-Some.found c.break_reason-reason.result c.in-Some.is c.break_reason-reason.ensures
