use Rattle.shunt_blocks.proofs.Sound.{one_type, in_time, shape_made}
use Rattle.shunt_blocks.proofs.laws.shapes.Goals as goal

pub returns : goal.returns
returns c = record {
  one_type = λ night s h. one_type night s h;
  in_time = λ night s h. in_time night s h;
  made = λ night s h types soon. shape_made night s h types soon;
}
