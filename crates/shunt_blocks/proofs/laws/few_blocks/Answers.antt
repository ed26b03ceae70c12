use Rattle.shunt_blocks.proofs.Few.{few_blocks, fewer_blocks}
use Rattle.shunt_blocks.proofs.StaysOf.{firsts_apart}
use Rattle.shunt_blocks.proofs.laws.few_blocks.Goals as goal

pub returns : goal.returns
returns c = record {
  most = λ night blocks within apart. few_blocks night blocks within apart;
  fewer = λ night blocks u within apart lt none. fewer_blocks night blocks u within apart lt none;
  firsts = λ night blocks within apart. firsts_apart night blocks within apart;
}
