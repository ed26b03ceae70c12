use Rattle.shunt_dual.proofs.pair_shares.reach_after.Goals as goal

pub returns-clause-most : goal.returns-clause-most
returns-clause-most c = λ n h. c.room_after-room.ensures.most n h.within
