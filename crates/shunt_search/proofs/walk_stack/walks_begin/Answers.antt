use Rattle.shunt_search.proofs.Arrived.{walk_root, walk_alone}
use Rattle.shunt_search.proofs.walk_stack.walks_begin.Goals as goal

pub returns : goal.returns
returns c = record {
  branch = λ version night start stock floor n best low place waiting fits depth kind own there opening within adds above holds unfinished.
      walk_root version night start stock floor n fits depth best low opening within kind place there own waiting adds above holds unfinished;
  whole = λ version night start stock floor n best low fits depth kind opening cost within covers.
      walk_alone version night start stock floor n fits depth best low opening cost within kind covers;
}
