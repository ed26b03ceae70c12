use Rattle.std.specs.Prelude.{set}
use Rattle.std.proofs.Common.{◌<◌, ◌+◌, ℕ, List, length, ap, subst, sym, ◌∙◌, arith}
use Rattle.std.proofs.lemmas.List.{length-replicate}
use Rattle.shunt_blocks.specs.declared.records.Block.{Block}
use Rattle.shunt_blocks.specs.defs.Pins.{opening_cost}
use Rattle.shunt_proof.specs.defs.Trees.{depth_at}
use Rattle.shunt_checker.specs.declared.walk.Frame.{Frame}
use Rattle.shunt_checker.specs.defs.Walks.{IsWalk}
use Rattle.shunt_checker.proofs.Descents.{first_frames, walked, fault_settled, none_settled}
use Rattle.shunt_checker.proofs.walk.first_fault.Goals as goal

pub loop-k-init : goal.loop-k-init
loop-k-init g c =
    let night = c.args.instance.now in
    let nodes = c.args.certificate.now.nodes in
    record {
      of = c.requires.1.0;
      path = c.requires.1.1.0;
      through = c.requires.1.1.1.1.0;
      each = c.requires.1.1.1.1.1;
      pins = c.requires.1.1.1.0;
      long = length-replicate {A = Frame} 161 (record { node = 0; owner = 0 });
      frames = first_frames night nodes c.requires.0.nodes c.requires.0.some (λ some. c.parents.ensures.root_duals night nodes c.requires.0.nodes some);
      best = c.opening_cost-best.ensures.exact ∙ ap (λ (bs : List Block). opening_cost night bs) c.requires.1.1.0;
      small = c.opening_cost-best.ensures.small;
      sound = λ j lt. absurd (omega (arith, lt));
    }

pub node_fault-requires : goal.node_fault-requires
node_fault-requires g c =
    let lt = c.loop-k-test.true in
    let len = c.len-k-end.ensures in
    (c.requires.0, (omega (arith, lt, len), (c.loop-k.invariant, c.owner_of-owner.ensures)))

pub best_after-after-requires-clause-path : goal.best_after-after-requires-clause-path
best_after-after-requires-clause-path g c =
    let told = none_settled c.args.instance.now g.start c.args.certificate.now c.loop-k.k c.node_fault.new.path c.in_ok-found.found c.in_default.is c.in_ok-found.ensures in
    told.1.of

pub loop-k-preserved : goal.loop-k-preserved
loop-k-preserved g c =
    let night = c.args.instance.now in
    let nodes = c.args.certificate.now.nodes in
    let k = c.loop-k.k in
    let walk = c.loop-k.invariant in
    let told = none_settled night g.start c.args.certificate.now k c.node_fault.new.path c.in_ok-found.found c.in_default.is c.in_ok-found.ensures in
    let lt : depth_at nodes k < length c.loop-k.frames = (let exact = c.depth_at-depth.ensures.exact in let small = c.depth_at-depth.ensures.small in let long = walk.long in omega
    (arith, exact, small, long)) in
    subst (λ (d : ℕ). IsWalk night g.start c.args.certificate.now (k + 1) c.node_fault.new.path
    (set c.loop-k.frames d (record { node = k; owner = c.owner_of-owner.result })) c.best_after-after.result) (sym c.depth_at-depth.ensures.exact)
    (walked night g.start c.args.certificate.now k c.loop-k.path c.node_fault.new.path c.loop-k.frames c.loop-k.best c.best_after-after.result c.owner_of-owner.result walk told.1
    c.owner_of-owner.ensures lt
    c.best_after-after.ensures.exact c.best_after-after.ensures.small told.0)

pub returns-in-Some : goal.returns-in-Some
returns-in-Some g c = record {
  there = (let lt = c.loop-k-test.true in let len = c.len-k-end.ensures in omega (arith, lt, len));
  before = c.loop-k.invariant.sound;
  first = fault_settled c.args.instance.now g.start c.args.certificate.now c.loop-k.k c.node_fault.new.path c.in_ok-found.found c.in-Some.reason c.in-Some.is c.in_ok-found.ensures;
}

pub returns : goal.returns
returns g c = λ j lt. c.loop-k.invariant.sound j (let past = c.loop-k-test.false in let len = c.len-k-end.ensures in omega (arith, lt, past, len))
