-- Reached: at `s₀`, `e₀`, which the exact fraction never shuts out, a run along the edges of the zone that met the target stands there.
use Prim.Native.Nat.{ℕ, ◌<◌}
use mathlib.Core.Path.{◌≡◌, ap, ◌∙◌, subst}
use Rattle.runs.specs.Runs.{System, Stand, first, Reaches}
use Rattle.reachability.specs.Search.{Result, zone, frac_of, Zones, Node, Nth, State, reached, going, ended, first_node, child, offer, nothing}
use Rattle.reachability.specs.Search.{Came, begin, search}
use Rattle.reachability.specs.Meaning.{Meaning}
use Rattle.reachability.specs.Laws.{Falls, Shapes, ExactLaws}
use Rattle.reachability.proofs.Lists.{All}
use Rattle.reachability.proofs.Paths.{last_stands}
use Rattle.reachability.proofs.Judged.{offer_met, followed}
use Rattle.reachability.proofs.Later.{offer_falls}
use Rattle.reachability.proofs.Keeps.{search_keeps}
use Rattle.reachability.proofs.Inherits.{begin_all, steady_all}
use Rattle.reachability.proofs.Same.{Tight, tight_start, tight_next, tight}

module _ {Z F : Type 0} (A : System) (O : Zones Z F) (M : Meaning A Z F) (s₀ e₀ : ℕ) (H : Shapes A O M) (X : ExactLaws A O M s₀ e₀)
    (fall : Falls O (λ f. M.Exact f s₀ e₀)) (cap : ℕ) where
  abbrev B : F → Type 0
  B f = M.Exact f s₀ e₀

  abbrev T : Node Z → Type 0
  T = Tight A O M s₀ e₀

  -- below the fraction
  record Reaching (q : State Z F) : Type 0 where
    tights : B q.frac → All T q.kept
    hits : B q.frac → (x : Came) → q.outcome ≡ ended (reached x) → Reaches A s₀ e₀

  offer_hits : (q : State Z F) (c : Z → Node Z) (r : Result Z F) → ((z : Z) (f : F) → r ≡ zone z f → T (c z))
      → (x : Came) → (offer A O cap q c r).outcome ≡ ended (reached x) → Reaches A s₀ e₀
  offer_hits q c r t x o =
      let m = offer_met A O cap q c r x o in
      let h = t m.met m.after m.made in
      let v = X.point (c m.met).zone h.shape h.fit in
      let n = h.ends v.0 v.1 in
      record {
        steps = n.steps;
        run = n.run;
        stands = last_stands A A.target (first A) n.steps (ap (λ (x : Stand A.Val). x.at) n.here ∙ m.there);
      }

  starts : Reaching (begin A O cap)
  starts = record {
    tights = begin_all A O cap fall (tight A O M s₀ e₀ s₀ e₀ H X);
    hits = λ b.
        let r = O.enter O.top in
        let d : B (frac_of r) = offer_falls A O cap (nothing A O cap) (first_node A) r B fall b in
        offer_hits (nothing A O cap) (first_node A) r
        (λ z f e. tight_start A O M s₀ e₀ s₀ e₀ H X z O.top f e (subst (λ x. B (frac_of x)) e d));
  }

  goes_on : (q : State Z F) (j : ℕ) (k : Node Z) (i : ℕ) → q.outcome ≡ going → Nth q.kept j k → i < A.edges → A.from i ≡ k.at → Reaching q
      → Reaching (followed A O cap j k i q)
  goes_on q j k i c n l g h = record {
    tights = (steady_all A O cap fall (tight A O M s₀ e₀ s₀ e₀ H X)).edge q j k i c n l g h.tights;
    hits = λ b.
        let r = O.succ i k.zone q.frac in
        let d : B (frac_of r) = offer_falls A O cap q (child A j k i) r B fall b in
        let y : T k = h.tights (fall.succ i k.zone q.frac d) j k n in
        offer_hits q (child A j k i) r
        (λ z f e. tight_next A O M s₀ e₀ s₀ e₀ H X j k i z q.frac f y l g e (subst (λ x. B (frac_of x)) e d));
  }

  pub reaches : M.Exact (search A O cap).frac s₀ e₀ → (x : Came) → (search A O cap).outcome ≡ ended (reached x) → Reaches A s₀ e₀
  reaches = (search_keeps A O cap (record { edge = goes_on }) starts).hits
