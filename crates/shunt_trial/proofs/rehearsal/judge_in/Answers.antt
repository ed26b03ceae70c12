use Rattle.shunt_trial.proofs.Sure.{still_proved, both_told}
use Rattle.shunt_trial.proofs.rehearsal.judge_in.Goals as goal

pub check_in-requires-clause-proved : goal.check_in-requires-clause-proved
check_in-requires-clause-proved c = (c.requires.proved.0, still_proved _ _ _ _ _ _ c.requires.proved.0 c.in_ok-text.ensures.files c.requires.proved.1)

pub returns-clause-told : goal.returns-clause-told
returns-clause-told c = λ x is. both_told _ _ _ _ _ _ (c.in_ok-text.ensures.told x is)
    (c.in_ok-verdict.ensures.told x (still_proved _ _ _ _ _ _ x c.in_ok-text.ensures.files is)) c.deref.ensures.value c.in_ok-extend_from_slice.ensures.items
