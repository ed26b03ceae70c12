use Rattle.std.specs.List.{AllZip}
use Rattle.std.proofs.Common.{take}
use Rattle.shunt_fillings.specs.defs.Pieces.{all_seen}
use Rattle.shunt_fillings.specs.defs.Prospects.{IsProspect}
use Rattle.shunt_fillings.proofs.prospects.prospects_in.Given as goal

abbrev pub invariant-stacks : goal.invariant-stacks
invariant-stacks l = AllZip (IsProspect l.scene.instance.now l.scene.path.now.blocks l.case) (all_seen (take l.stack-index l.scene.stacks.now)) l.prospects.items
