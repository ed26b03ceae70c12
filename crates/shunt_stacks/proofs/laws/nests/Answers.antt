use Rattle.shunt_stacks.proofs.Best.{up, down, any_number}
use Rattle.shunt_stacks.proofs.Around.{steps, at_fixed, at_none, agreeing}
use Rattle.shunt_stacks.proofs.laws.nests.Goals as goal

pub returns : goal.returns
returns c = record {
  most = λ fixed free spans n x y room own le nest. up fixed free own n x y room spans le nest;
  any_number = λ fixed free n m x y room own le few. any_number fixed free own n m x y room le few;
  steps = λ fixed free n x y room own le. steps fixed free own n x y room le;
  at_fixed = λ fixed free n x y room f own there here lt le. at_fixed fixed free own n x y room f there here lt le;
  at_none = λ fixed free n x y room own bare lt le. at_none fixed free own n x y room bare lt le;
  agree = λ fixed free others more n x y room own apart le agree. agreeing fixed free others more own apart n x y room le agree;
  reached = λ fixed free n x y room own le. down fixed free own n x y room le;
}
