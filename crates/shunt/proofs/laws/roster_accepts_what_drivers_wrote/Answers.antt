use Rattle.shunt.proofs.RosterAccepted.{RosterTexts, accepted}
use Rattle.shunt.proofs.Rostered.{DriverLaws}
use Rattle.shunt.proofs.laws.roster_accepts_what_drivers_wrote.Goals as goal

pub returns : goal.returns
returns c =
    let laws : DriverLaws = record {
      crew = c.stated_values_are_formed.ensures.crew;
      roster = c.stated_values_are_formed.ensures.roster;
      words =
          c.roster_fault_in_words.ensures;
    } in
    let texts : RosterTexts = record { again = c.texts_of_rosters.ensures.again; short = c.texts_of_rosters.ensures.short } in
    accepted laws texts
