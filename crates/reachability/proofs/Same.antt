-- Sameness: at every error a kept zone has each state that runs along its edges end in; below the exact fraction, no other.
use Prim.Native.Nat.{ℕ, ◌<◌}
use mathlib.Core.List.{List, [], ◌∷◌, ◌++◌}
use mathlib.Core.Path.{◌≡◌, refl, sym, ap, ◌∙◌, subst}
use Rattle.runs.specs.Runs.{System, Step, wait, jump, Stand, first, after, last, Steps, Ends}
use Rattle.reachability.specs.Search.{zone, Zones, Node, first_node, child, search}
use Rattle.reachability.specs.Meaning.{Meaning}
use Rattle.reachability.specs.Laws.{Falls, Clocks, Shapes, Inclusion, ExactLaws}
use Rattle.reachability.proofs.Lists.{All}
use Rattle.reachability.proofs.Paths.{jumps-append, last_append, steps_append, cut, waited}
use Rattle.reachability.proofs.Inherits.{anywhere, Inherited, search_all}

module _ {Z F : Type 0} (A : System) (O : Zones Z F) (M : Meaning A Z F) (s e : ℕ) where
  -- ---- states of runs are in the zone
  pub record Whole (k : Node Z) : Type 0 where
    pub shape : M.Shape k.zone
    pub holds : (v : A.Val) → Ends A s e k.path k.at v → M.In k.zone s e v

  module _ (K : Clocks A) (H : Shapes A O M) (I : Inclusion A O M) (real : M.Error s e) where
    whole_start : (z : Z) (f g : F) → O.enter f ≡ zone z g → Whole (first_node A z)
    whole_start z f g j = record {
      shape = H.enter f g z j;
      holds = λ v n.
          let w = waited A s e K (first A) n.steps n.run.1 n.takes in
          subst (M.In z s e) (ap (λ (x : Stand A.Val). x.clocks) (sym w.ends ∙ n.here))
          (I.enter s e f g z w.time real j n.run.0 (w.stays n.run.0));
    }

    whole_next : (j : ℕ) (k : Node Z) (i : ℕ) (z : Z) (f g : F) → Whole k → i < A.edges → A.from i ≡ k.at → O.succ i k.zone f ≡ zone z g
        → Whole (child A j k i z)
    whole_next n k i z f g h l o j = record {
      shape = H.succ i k.zone z f g l h.shape j;
      holds = λ v n.
          let c = cut A s e (first A) n.steps k.path i n.run.1 n.takes in
          let y = last A (first A) c.before in
          let w = waited A s e K (after A y (jump i)) c.rest c.on c.waits in
          let m : M.In k.zone s e y.clocks =
          h.holds y.clocks
          (record {
            steps = c.before;
            run = (n.run.0, c.steps);
            takes = c.takes;
            here = λ t. record { at = (sym c.may.1 ∙ o) t; clocks = y.clocks };
          }) in
          subst (M.In z s e) (ap (λ (x : Stand A.Val). x.clocks) (sym w.ends ∙ sym c.same ∙ n.here))
          (I.succ s e i k.zone z f g y.clocks w.time real l h.shape j m c.may.2 c.may.3 (w.stays c.may.3));
    }

    pub all_whole : (cap : ℕ) → All Whole (search A O cap).kept
    all_whole cap =
        search_all A O cap (anywhere O)
        (record { start = λ z f g j b a m. whole_start z f g j; next = λ n k i z f g h l o j b a m. whole_next n k i z f g h l o j })
        tt

  -- ---- states of the zone are of runs
  pub record Tight (k : Node Z) : Type 0 where
    pub shape : M.Shape k.zone
    pub fit : M.Fit k.zone s e
    pub ends : (v : A.Val) → M.In k.zone s e v → Ends A s e k.path k.at v

  module _ (s₀ e₀ : ℕ) (H : Shapes A O M) (X : ExactLaws A O M s₀ e₀) where
    pub tight_start : (z : Z) (f g : F) → O.enter f ≡ zone z g → M.Exact g s e → Tight (first_node A z)
    tight_start z f g j b = record {
      shape = H.enter f g z j;
      fit = X.enter_fit s e f g z j b;
      ends = λ v n.
          let o = X.enter_from s e f g z v j b n in
          record {
            steps = wait o.time ∷ [];
            run = (o.begins, (o.stays, tt));
            takes = refl;
            here = λ t. record { at = A.start; clocks = o.same t };
          };
    }

    pub tight_next : (j : ℕ) (k : Node Z) (i : ℕ) (z : Z) (f g : F) → Tight k → i < A.edges → A.from i ≡ k.at → O.succ i k.zone f ≡ zone z g
        → M.Exact g s e → Tight (child A j k i z)
    tight_next n k i z f g h l c j b = record {
      shape = H.succ i k.zone z f g l h.shape j;
      fit = X.succ_fit s e i k.zone z f g l h.shape h.fit j b;
      ends = λ v n.
          let o = X.succ_from s e i k.zone z f g v l h.shape h.fit j b n in
          let r = h.ends o.old o.inside in
          let ys : List Step = jump i ∷ wait o.time ∷ [] in
          let there : Stand A.Val = record { at = k.at; clocks = o.old } in
          let on : Steps A s e there ys = ((l, c, o.may, o.lands), (o.stays, tt)) in
          record {
            steps = r.steps ++ ys;
            run = (r.run.0, steps_append A s e (first A) r.steps ys r.run.1 (subst (λ x. Steps A s e x ys) (sym r.here) on));
            takes = jumps-append r.steps ys ∙ ap (λ q. q ++ (i ∷ [])) r.takes;
            here =
                last_append A (first A) r.steps ys ∙ ap (λ x. last A x ys) r.here ∙ (λ t. record { at = A.to i; clocks = o.same t });
          };
    }

    pub tight : Inherited A O Tight (λ f. M.Exact f s e)
    tight = record { start = λ z f g j b a m. tight_start z f g j b; next = λ n k i z f g h l o j b a m. tight_next n k i z f g h l o j b }

    pub all_tight : Falls O (λ f. M.Exact f s e) → (cap : ℕ) → M.Exact (search A O cap).frac s e → All Tight (search A O cap).kept
    all_tight fall cap = search_all A O cap fall tight
