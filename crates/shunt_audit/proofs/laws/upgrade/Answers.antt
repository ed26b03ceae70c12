use Rattle.shunt_audit.proofs.Exactly.{exactly}
use Rattle.shunt_audit.proofs.Upgrade.{UpgradeLaws, same_finding}
use Rattle.shunt_audit.proofs.laws.upgrade.Goals as goal

pub returns : goal.returns
returns c =
    let laws : UpgradeLaws = record { types = c.upgrade.ensures.types; route_in = c.upgrade.ensures.route_in; route_out = c.upgrade.ensures.route_out } in
    record {
      finding = λ night blocks f plain h. same_finding laws night blocks f plain h;
      exactly = λ night blocks f plain h.
          let same = same_finding laws night blocks f plain h in
          let listed = exactly night blocks f in
          (λ i. same.1 (listed.0 i), λ x. listed.1 (same.0 x));
    }
