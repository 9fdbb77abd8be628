-- A law of nodes that holds below the fraction: of the first, of each that comes from another, and so of all.
use Prim.Native.Nat.{ℕ, ◌<◌}
use mathlib.Core.Bool.{false}
use mathlib.Core.List.{[]}
use mathlib.Core.Path.{◌≡◌, subst}
use Rattle.runs.specs.Runs.{System}
use Rattle.reachability.specs.Search.{zone, frac_of, Zones, Node, Nth, State, going, first_node, child, nothing, begin, search}
use Rattle.reachability.specs.Laws.{Falls}
use Rattle.reachability.proofs.Lists.{All, all_snoc}
use Rattle.reachability.proofs.Judged.{offer_kept, followed}
use Rattle.reachability.proofs.Later.{offer_falls}
use Rattle.reachability.proofs.Keeps.{Steady, search_keeps}

-- no bound at all
pub anywhere : {Z F : Type 0} (O : Zones Z F) → Falls O (λ f. Unit {0})
anywhere O = record { enter = λ f b. tt; succ = λ i z f b. tt; lowered = λ z y f b. tt }

module _ {Z F : Type 0} (A : System) (O : Zones Z F) where
  pub record Inherited (N : Node Z → Type 0) (B : F → Type 0) : Type 0 where
    pub start : (z : Z) (f g : F) → O.enter f ≡ zone z g → B g → (A.start ≡ A.target → ⊥) → O.big z ≡ false → N (first_node A z)
    pub next : (j : ℕ) (k : Node Z) (i : ℕ) (z : Z) (f g : F) → N k → i < A.edges → A.from i ≡ k.at → O.succ i k.zone f ≡ zone z g → B g
        → (A.to i ≡ A.target → ⊥) → O.big z ≡ false → N (child A j k i z)

  module _ (cap : ℕ) {N : Node Z → Type 0} {B : F → Type 0} (fall : Falls O B) (I : Inherited N B) where
    abbrev Under : State Z F → Type 0
    Under q = B q.frac → All N q.kept

    pub begin_all : B (begin A O cap).frac → All N (begin A O cap).kept
    begin_all b =
        let r = O.enter O.top in
        let c : B (frac_of r) = offer_falls A O cap (nothing A O cap) (first_node A) r B fall b in
        offer_kept A O cap (All N) (nothing A O cap) (first_node A) r (λ j k n. absurd n)
        (λ z f e a w l. all_snoc [] (first_node A z) (λ j k n. absurd n) (I.start z O.top f e (subst (λ x. B (frac_of x)) e c) a w))

    edge_all : (q : State Z F) (j : ℕ) (k : Node Z) (i : ℕ) → q.outcome ≡ going → Nth q.kept j k → i < A.edges → A.from i ≡ k.at
        → Under q → Under (followed A O cap j k i q)
    edge_all q j k i g n l d h b =
        let r = O.succ i k.zone q.frac in
        let c : B (frac_of r) = offer_falls A O cap q (child A j k i) r B fall b in
        let a : All N q.kept = h (fall.succ i k.zone q.frac c) in
        offer_kept A O cap (All N) q (child A j k i) r a
        (λ z f e t w m. all_snoc q.kept (child A j k i z) a (I.next j k i z q.frac f (a j k n) l d e (subst (λ x. B (frac_of x)) e c) t w))

    pub steady_all : Steady A O cap Under
    steady_all = record { edge = edge_all }

    pub search_all : B (search A O cap).frac → All N (search A O cap).kept
    search_all = search_keeps A O cap steady_all begin_all
