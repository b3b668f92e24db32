use Rattle.adj_rib.proofs.routes.Routes.make_buckets.Goals as goal

pub invariant_of-self : goal.invariant_of-self
invariant_of-self c = c.in_ok-self-inside.ensures.slots c.self.inside.bytes.items (rw (← c.as_slice.ensures.value) at c.self.invariant)
