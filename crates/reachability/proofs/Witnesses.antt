-- The run that is found from its end back is a run along the branch, of the form of document 02, that ends at the target.
use Prim.Native.Nat.{ℕ, zero, suc}
use mathlib.Core.List.{List, [], ◌∷◌, ◌++◌, append_assoc, append-nil}
use mathlib.Core.Path.{◌≡◌, refl, sym, ap, ◌∙◌, subst}
use lib.ListN.{length, length-append}
use native.Mathlib.Omega.{arith}
use Rattle.runs.specs.Runs.{System, Step, wait, jump, jumps, Stand, first, after, last, Steps}
use Rattle.runs.specs.Written.{ByTurns, alone, then}
use Rattle.reachability.specs.Search.{Zones, Came, first_zone, by_edge, Node, reached, ended, search}
use Rattle.reachability.specs.Meaning.{Meaning}
use Rattle.reachability.specs.Laws.{Laws}
use Rattle.reachability.specs.Branches.{Branch, Branches, Arrived, Starts, Jumps, path_of}
use Rattle.reachability.specs.Witnesses.{Witnesses, back_to, last_state, run_to, WitnessLaws, RunAlong}
use Rattle.reachability.proofs.Lists.{All, nth_tail}
use Rattle.reachability.proofs.Robust.{exact_there}
use Rattle.reachability.proofs.Same.{Tight, all_tight}
use Rattle.reachability.proofs.Branches.{path_is, branches, arrived}

module _ {Z F : Type 0} (A : System) (O : Zones Z F) (M : Meaning A Z F) (s e : ℕ) (L : Laws A O M s e) (W : Witnesses A Z)
    (H : WitnessLaws A O M W s e) (ks : List (Node Z)) (B : Branches A O (λ f. M.Exact f s e) ks)
    (T : All (Tight A O M s e) ks) where
  abbrev X : F → Type 0
  X f = M.Exact f s e

  abbrev stand : ℕ → W.S → Stand A.Val
  stand l v = record { at = l; clocks = W.val v }

  -- what follows a wait that ends at l with v: jumps and waits by turns, made from there, along p to the target
  record Follows (l : ℕ) (v : W.S) (p : List ℕ) (xs : List Step) : Type 0 where
    turns : (t : ℕ) → ByTurns (wait t ∷ xs)
    steps : Steps A s e (stand l v) xs
    takes : jumps xs ≡ p
    there : (last A (stand l v) xs).at ≡ A.target

  -- the first zone: one wait, and the run is whole
  first_run : (k : Node Z) (v : W.S) (p : List ℕ) (xs : List Step) (j : ℕ) → Starts A O X ks j k → M.In k.zone s e (W.val v)
      → Follows k.at v p xs → RunAlong A s e (k.path ++ p) (wait (W.since v) ∷ xs)
  first_run k v p xs j b i h =
      let o = L.exact.enter_from s e b.before b.after k.zone (W.val v) b.made b.fine i in
      let t : o.time ≡ W.since v = sym (H.since_is v o.time o.same) in
      let here : after A (first A) (wait (W.since v)) ≡ stand k.at v =
      λ x. record { at = sym b.at x; clocks = (ap (λ y. A.pass y A.origin) (sym t) ∙ o.same) x } in
      record {
        turns = h.turns (W.since v);
        run = (
          o.begins,
          (
            subst (λ y. A.inv s e A.start (A.pass y A.origin)) t o.stays,
            subst (λ y. Steps A s e y xs) (sym here) h.steps,
          ),
        );
        takes = rw b.path h.takes;
        there = subst (λ y. (last A y xs).at ≡ A.target) (sym here) h.there;
      }

  -- one step back
  step_back : (k : Node Z) (v : W.S) (p : List ℕ) (xs : List Step) (j f i : ℕ) (b : Jumps A O X ks j k f i) → M.In k.zone s e (W.val v)
      → Follows k.at v p xs
      → M.In b.parent.zone s e (W.val (W.back i b.parent.zone v).state)
      × Follows b.parent.at (W.back i b.parent.zone v).state (i ∷ p) (jump i ∷ wait (W.back i b.parent.zone v).time ∷ xs)
  step_back k v p xs j f i b n h =
      let y = b.parent in
      let t = T f y b.kept in
      let r = W.back i y.zone v in
      let o = H.leads i y.zone k.zone b.before b.after v b.edge t.shape t.fit b.made b.fine n in
      let here : after A (after A (stand y.at r.state) (jump i)) (wait r.time) ≡ stand k.at v =
      λ x. record { at = sym b.at x; clocks = o.same x } in (
        o.inside,
        record {
          turns = λ u. then u i (h.turns r.time);
          steps = ((b.edge, b.leaves, o.may, o.lands), (o.stays, subst (λ x. Steps A s e x xs) (sym here) h.steps));
          takes = ap (λ l. i ∷ l) h.takes;
          there = subst (λ x. (last A x xs).at ≡ A.target) (sym here) h.there;
        },
      )

  -- all of them
  back_run : (m : ℕ) (k : Node Z) (v : W.S) (p : List ℕ) (xs : List Step) (j : ℕ) (c : Came) → Branch A O X ks j k c
      → length k.path ≡ m → M.In k.zone s e (W.val v) → Follows k.at v p xs → RunAlong A s e (k.path ++ p) (back_to W m ks c v xs)
  unfolding back_to
  back_run zero k v p xs j first_zone b l n h = first_run k v p xs j b n h
  back_run (suc m) k v p xs j first_zone b l n h =
      absurd (omega (arith, rw b.path at l))
  back_run zero k v p xs j (by_edge f i) b l n h =
      absurd (omega (arith, l, rw (b.path, length-append) at l))
  back_run (suc m) k v p xs j (by_edge f i) b l n h =
      let y = b.parent in
      let g = step_back k v p xs j f i b n h in
      let r = W.back i y.zone v in
      let ys : List Step = jump i ∷ wait r.time ∷ xs in
      let d : length y.path ≡ m = omega (arith, rw (b.path, length-append) at l) in
      let t : RunAlong A s e (y.path ++ (i ∷ p)) (back_to W m ks y.came r.state ys) =
      back_run m y r.state (i ∷ p) ys f y.came (B f y b.kept) d g.0 g.1 in
      let u : y.path ++ (i ∷ p) ≡ k.path ++ p = sym (append_assoc y.path (i ∷ []) p) ∙ ap (λ x. x ++ p) (sym b.path) in
      rw (back_to, nth_tail ks f y b.kept) (subst (λ x. RunAlong A s e x (back_to W m ks y.came r.state ys)) u t)

  -- ---- from the zone that met the target
  nothing_more : (l : ℕ) (v : W.S) → l ≡ A.target → Follows l v [] []
  nothing_more l v h = record { turns = λ t. alone t; steps = tt; takes = refl; there = h }

  last_in : (j : ℕ) (k : Node Z) (c : Came) → Branch A O X ks j k c → M.In k.zone s e (W.val (last_state W ks c))
  unfolding last_state
  last_in j k first_zone b =
      let x = L.exact.enter_fit s e b.before b.after k.zone b.made b.fine in
      let q = L.exact.point k.zone (L.shapes.enter b.before b.after k.zone b.made) x in
      let f = L.exact.enter_from s e b.before b.after k.zone q.0 b.made b.fine q.1 in
      let u = L.clocks.none A.origin in
      subst (M.In k.zone s e) (u ∙ sym H.begins)
      (L.inclusion.enter s e b.before b.after k.zone 0 L.error b.made f.begins
      (subst (A.inv s e A.start) (sym u) f.begins))
  last_in j k (by_edge f i) b =
      let y = b.parent in
      let t = T f y b.kept in
      rw (last_state, nth_tail ks f y b.kept)
      (H.lands_in i y.zone k.zone b.before b.after b.edge t.shape t.fit b.made b.fine)

  whole : (c : Came) → Arrived A O X ks c → RunAlong A s e (path_of ks c) (run_to W ks c)
  whole c a =
      let k = a.node in
      let b = subst (Branch A O X ks (length ks) k) a.came a.branch in
      let p : path_of ks c ≡ k.path = path_is A O X ks (length ks) k c b in
      let h = back_run (length (path_of ks c)) k (last_state W ks c) [] [] (length ks) c b (ap length (sym p))
      (last_in (length ks) k c b) (nothing_more k.at (last_state W ks c) a.there) in
      subst (λ x. RunAlong A s e x (run_to W ks c)) (append-nil k.path ∙ sym p) h

-- of a search that reaches: where no fraction shuts s and e out
module _ {Z F : Type 0} (A : System) (O : Zones Z F) (M : Meaning A Z F) (s e : ℕ) (L : Laws A O M s e) (W : Witnesses A Z)
    (H : WitnessLaws A O M W s e) (cap : ℕ) where
  pub run_back : (c : Came) → (search A O cap).outcome ≡ ended (reached c)
      → RunAlong A s e (path_of (search A O cap).kept c) (run_to W (search A O cap).kept c)
  run_back c o =
      let b = exact_there A O M s e L cap in
      whole A O M s e L W H (search A O cap).kept (branches A O (λ f. M.Exact f s e) (L.exact_falls s e) cap b)
      (all_tight A O M s e s e L.shapes L.exact (L.exact_falls s e) cap b) c
      (arrived A O (λ f. M.Exact f s e) (L.exact_falls s e) cap b c o)
