use Rattle.shunt_search.proofs.NodesBelow.{is_node_of}
use Rattle.shunt_search.proofs.notes.next_nodes.Goals as goal

pub returns : goal.returns
returns c = λ night stock start path t how formed statable there next deep few. is_node_of c.places.ensures.unit night
    (c.instances.ensures.opened night formed) stock start path t how statable there next deep few
