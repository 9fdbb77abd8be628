-- Every kept node says where it came from, and so does the zone that met the target.
use Prim.Native.Nat.{ℕ, ◌<◌}
use mathlib.Core.List.{List, [], ◌∷◌, ◌++◌}
use mathlib.Core.Path.{◌≡◌, refl, sym, subst}
use mathlib.Core.Logic.{⊎_elim}
use lib.ListN.{length}
use Rattle.runs.specs.Runs.{System}
use Rattle.reachability.specs.Search.{Result, zone, frac_of, Zones, Came, first_zone, by_edge, Node, Nth, State, reached, ended, first_node}
use Rattle.reachability.specs.Search.{child, offer, nothing, begin, search}
use Rattle.reachability.specs.Laws.{Falls}
use Rattle.reachability.specs.Branches.{Branch, BranchOf, Branches, Arrived, path_of}
use Rattle.reachability.proofs.Lists.{Grown, grown_nth, nth_lt, nth_tail, nth_place}
use Rattle.reachability.proofs.Judged.{offer_kept, offer_met}
use Rattle.reachability.proofs.Later.{offer_falls}
use Rattle.reachability.proofs.Keeps.{Steady, search_keeps}

module _ {Z F : Type 0} (A : System) (O : Zones Z F) (B : F → Type 0) where
  branch_later : {ks ks' : List (Node Z)} (j : ℕ) (k : Node Z) (c : Came) → Grown ks ks' → Branch A O B ks j k c → Branch A O B ks' j k c
  branch_later j k first_zone o h = record { at = h.at; path = h.path; before = h.before; after = h.after; made = h.made; fine = h.fine }
  branch_later j k (by_edge f i) o h = record {
    earlier = h.earlier;
    parent = h.parent;
    kept = grown_nth o f h.parent h.kept;
    edge = h.edge;
    leaves = h.leaves;
    at = h.at;
    path = h.path;
    before = h.before;
    after = h.after;
    made = h.made;
    fine = h.fine;
  }

  branches_snoc : (ks : List (Node Z)) (y : Node Z) → Branches A O B ks → BranchOf A O B ks (length ks) y → Branches A O B (ks ++ (y ∷ []))
  branches_snoc ks y h b j k n =
      let o : Grown ks (ks ++ (y ∷ [])) = record { more = y ∷ []; same = refl } in
      ⊎_elim (λ m. branch_later j k k.came o (h j k m))
      (λ m. branch_later j k k.came o (subst (λ x. BranchOf A O B ks j x) m.1 (subst (λ x. BranchOf A O B ks x y) (sym m.0) b)))
      (nth_place ks y j k n)

  -- ---- of each kind of node
  first_branch : (ks : List (Node Z)) (z : Z) (f g : F) → O.enter f ≡ zone z g → B g
      → BranchOf A O B ks (length ks) (first_node A z)
  first_branch ks z f g e b = record { at = refl; path = refl; before = f; after = g; made = e; fine = b }

  child_branch : (ks : List (Node Z)) (j : ℕ) (k : Node Z) (i : ℕ) (z : Z) (f g : F) → Nth ks j k → i < A.edges → A.from i ≡ k.at
      → O.succ i k.zone f ≡ zone z g → B g → BranchOf A O B ks (length ks) (child A j k i z)
  child_branch ks j k i z f g h l d e b = record {
    earlier = nth_lt ks j k h;
    parent = k;
    kept = h;
    edge = l;
    leaves = d;
    at = refl;
    path = refl;
    before = f;
    after = g;
    made = e;
    fine = b;
  }

  -- the edges that lead to a node are its path
  pub path_is : (ks : List (Node Z)) (j : ℕ) (k : Node Z) (c : Came) → Branch A O B ks j k c → path_of ks c ≡ k.path
  unfolding path_of
  path_is ks j k first_zone b = sym b.path
  path_is ks j k (by_edge f i) b = rw (path_of, nth_tail ks f b.parent b.kept) (sym b.path)

  -- ---- of all, and of the one that met the target: below a bound on the fraction
  module _ (fall : Falls O B) (cap : ℕ) where
    record Branched (q : State Z F) : Type 0 where
      nodes : B q.frac → Branches A O B q.kept
      met : B q.frac → (c : Came) → q.outcome ≡ ended (reached c) → Arrived A O B q.kept c

    offered : (q : State Z F) (c : Z → Node Z) (r : Result Z F) → (B (frac_of r) → Branches A O B q.kept)
        → ((z : Z) (f : F) → r ≡ zone z f → B f → BranchOf A O B q.kept (length q.kept) (c z)) → Branched (offer A O cap q c r)
    offered q c r h b = record {
      nodes = λ x.
          let d : B (frac_of r) = offer_falls A O cap q c r B fall x in
          offer_kept A O cap (Branches A O B) q c r (h d)
          (λ z f e a w l. branches_snoc q.kept (c z) (h d) (b z f e (subst (λ y. B (frac_of y)) e d)));
      met = λ x y o.
          let d : B (frac_of r) = offer_falls A O cap q c r B fall x in
          let m = offer_met A O cap q c r y o in
          subst (λ ks. Arrived A O B ks y) (sym m.same)
          (record {
            node = c m.met;
            came = m.came;
            there = m.there;
            branch = b m.met m.after m.made (subst (λ y. B (frac_of y)) m.made d);
          });
    }

    starts : Branched (begin A O cap)
    starts = offered (nothing A O cap) (first_node A) (O.enter O.top) (λ d j k n. absurd n) (λ z f e b. first_branch [] z O.top f e b)

    goes_on : Steady A O cap Branched
    goes_on = record {
      edge = λ q j k i c n l g h.
          offered q (child A j k i) (O.succ i k.zone q.frac) (λ d. h.nodes (fall.succ i k.zone q.frac d))
          (λ z f e b. child_branch q.kept j k i z q.frac f n l g e b);
    }

    ends : Branched (search A O cap)
    ends = search_keeps A O cap goes_on starts

    -- each kept node came from an older one by an edge of it, with that one's path and this edge, but for the first
    pub branches : B (search A O cap).frac → Branches A O B (search A O cap).kept
    branches = ends.nodes

    -- and so did the zone that met the target
    pub arrived : B (search A O cap).frac → (c : Came) → (search A O cap).outcome ≡ ended (reached c) → Arrived A O B (search A O cap).kept c
    arrived = ends.met
