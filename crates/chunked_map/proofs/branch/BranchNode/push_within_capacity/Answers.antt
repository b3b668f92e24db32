use Rattle.chunked_map.proofs.branch.BranchNode.push_within_capacity.Goals as goal

pub push_within_capacity-requires-clause-last : goal.push_within_capacity-requires-clause-last
push_within_capacity-requires-clause-last g c = rw c.self.view_is c.requires.last
