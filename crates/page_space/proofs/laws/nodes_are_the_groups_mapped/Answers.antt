use Rattle.posix_defs.specs.Memory.{places_of}
use Rattle.page_space.proofs.NodeCounts.{nodes_by_places, nodes_of_spaces}
use Rattle.page_space.proofs.laws.nodes_are_the_groups_mapped.Goals as goal

pub returns-clause-one : goal.returns-clause-one
returns-clause-one c = λ h space number frames pid well owns four accounted.
    nodes_by_places h space number (places_of frames pid) well owns four accounted.places accounted.whole

pub returns-clause-all : goal.returns-clause-all
returns-clause-all c = nodes_of_spaces
