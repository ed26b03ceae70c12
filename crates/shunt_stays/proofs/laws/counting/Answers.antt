use Rattle.shunt_stays.proofs.Crossings.{no_pairs, no_overs, pairs_permuted, overs_permuted, load_permuted}
use Rattle.shunt_stays.proofs.laws.counting.Goals as goal

pub returns-clause-pairs : goal.returns-clause-pairs
returns-clause-pairs c = no_pairs

pub returns-clause-overs : goal.returns-clause-overs
returns-clause-overs c = no_overs

pub returns-clause-pairs_permuted : goal.returns-clause-pairs_permuted
returns-clause-pairs_permuted c = pairs_permuted

pub returns-clause-overs_permuted : goal.returns-clause-overs_permuted
returns-clause-overs_permuted c = overs_permuted

pub returns-clause-load_permuted : goal.returns-clause-load_permuted
returns-clause-load_permuted c = load_permuted
