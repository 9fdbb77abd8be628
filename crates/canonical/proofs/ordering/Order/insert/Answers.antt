-- `insert` meets its contract: the edge is left out, or put where `place` says.
use Prim.Native.Nat.{ℕ, ◌<◌}
use Rattle.canonical.proofs.ordering.Inserting.{all_inserted, insert_none, still_rises}
use Rattle.canonical.proofs.ordering.Order.insert.Goals as goal

pub invariant_of-self : goal.invariant_of-self
invariant_of-self c =
    let o = c.args.self.now in
    rw c.insert.ensures.items (record {
      there = all_inserted (λ (i : ℕ). i < o.edges.count) _ _ _ o.there c.requires.0;
      rises = still_rises _ _ _ o.rises _ _ c.in-Some.ensures;
    })

pub returns-in_default-clause-inserted : goal.returns-in_default-clause-inserted
returns-in_default-clause-inserted c = let p = c.in_default.ensures in insert_none _ _ _ c.args.self.now.rises _ p.0 p.1
