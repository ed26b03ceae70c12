use Rattle.shunt_search.proofs.Prepared.{MatchLaws, covered_as, matched_all}
use Rattle.shunt_search.proofs.preparation.ready_starts.Goals as goal

pub returns : goal.returns
returns c =
    let laws : MatchLaws = record { of_rest = c.matchings.ensures.of_rest; as_many = c.as_many_positions.ensures } in
    record {
      covered = λ night pins t of start. covered_as night pins t of start;
      matching = λ night pins t place i usable of start matching. matched_all laws night pins t place i usable of start matching;
    }
