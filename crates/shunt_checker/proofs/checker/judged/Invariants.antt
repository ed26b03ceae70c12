use Rattle.shunt_checker.proofs.checker.judged.Given as goal

abbrev pub ghost-first_fault : goal.ghost-first_fault
ghost-first_fault a = a.path.blocks
