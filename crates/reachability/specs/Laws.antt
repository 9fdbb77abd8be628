-- The laws of zones that the search rests on: inclusion at every error, emptiness and containment below the safe fraction, the other inclusion
-- below the exact one.
use Rattle.std.specs.Prelude.{ℕ, ◌+◌, ◌<◌, true, ◌≡◌}
use Rattle.runs.specs.Runs.{System}
use Rattle.reachability.specs.Search.{empty, zone, frac_of, Zones}
use Rattle.reachability.specs.Meaning.{Meaning}

-- a bound on the error that only falls
pub record Falls {Z F : Type 0} (O : Zones Z F) (B : F → Type 0) : Type 0 where
  pub enter : (f : F) → B (frac_of (O.enter f)) → B f
  pub succ : (i : ℕ) (z : Z) (f : F) → B (frac_of (O.succ i z f)) → B f
  pub lowered : (z y : Z) (f : F) → B (O.lowered z y f) → B f

-- waits add up
pub record Clocks (A : System) : Type 0 where
  pub none : (v : A.Val) → A.pass 0 v ≡ v
  pub more : (t u : ℕ) (v : A.Val) → A.pass u (A.pass t v) ≡ A.pass (t + u) v

module _ {Z F : Type 0} (A : System) (O : Zones Z F) (M : Meaning A Z F) where
  -- what every zone has
  pub record Shapes : Type 0 where
    pub enter : (f g : F) (z : Z) → O.enter f ≡ zone z g → M.Shape z
    pub succ : (i : ℕ) (y z : Z) (f g : F) → i < A.edges → M.Shape y → O.succ i y f ≡ zone z g → M.Shape z

  -- what every operation keeps of the running fractions
  pub record Stays (B : F → Type 0) : Type 0 where
    pub top : B O.top
    pub enter : (f : F) → B f → B (frac_of (O.enter f))
    pub succ : (i : ℕ) (z : Z) (f : F) → i < A.edges → M.Shape z → B f → B (frac_of (O.succ i z f))
    pub lowered : (z y : Z) (f : F) → M.Shape z → M.Shape y → O.within z y ≡ true → B f → B (O.lowered z y f)

  -- at every error a zone has each state of the runs that it stands for
  pub record Inclusion : Type 0 where
    pub enter : (s e : ℕ) (f g : F) (z : Z) (t : ℕ) → M.Error s e → O.enter f ≡ zone z g
        → A.inv s e A.start A.origin → A.inv s e A.start (A.pass t A.origin) → M.In z s e (A.pass t A.origin)
    pub succ : (s e i : ℕ) (y z : Z) (f g : F) (v : A.Val) (t : ℕ) → M.Error s e → i < A.edges → M.Shape y → O.succ i y f ≡ zone z g
        → M.In y s e v → A.guard s e i v → A.inv s e (A.to i) (A.reset i v) → A.inv s e (A.to i) (A.pass t (A.reset i v))
        → M.In z s e (A.pass t (A.reset i v))

  -- below the safe fraction what is empty has no state, and what is contained is a subset
  pub record SafeLaws : Type 0 where
    pub enter_none : (s e : ℕ) (f g : F) → O.enter f ≡ empty g → M.Safe g s e → A.inv s e A.start A.origin → ⊥
    pub succ_none : (s e i : ℕ) (y : Z) (f g : F) (v : A.Val) → i < A.edges → M.Shape y → O.succ i y f ≡ empty g → M.Safe g s e
        → M.In y s e v → A.guard s e i v → A.inv s e (A.to i) (A.reset i v) → ⊥
    pub within_in : (s e : ℕ) (z y : Z) (f : F) (v : A.Val) → M.Shape z → M.Shape y → O.within z y ≡ true → M.Safe (O.lowered z y f) s e
        → M.In z s e v → M.In y s e v

  -- a state of the first zone: the start and a wait
  pub record FromStart (s e : ℕ) (v : A.Val) : Type 0 where
    pub time : ℕ
    pub begins : A.inv s e A.start A.origin
    pub stays : A.inv s e A.start (A.pass time A.origin)
    pub same : A.pass time A.origin ≡ v

  -- a state of a successor: a state of the zone, the jump, and a wait
  pub record FromZone (s e i : ℕ) (y : Z) (v : A.Val) : Type 0 where
    pub old : A.Val
    pub time : ℕ
    pub inside : M.In y s e old
    pub may : A.guard s e i old
    pub lands : A.inv s e (A.to i) (A.reset i old)
    pub stays : A.inv s e (A.to i) (A.pass time (A.reset i old))
    pub same : A.pass time (A.reset i old) ≡ v

  -- below the exact fraction every state of a zone is one of a run; at `s₀`, `e₀` each has a state (document 01: at 1 and 0)
  pub record ExactLaws (s₀ e₀ : ℕ) : Type 0 where
    pub enter_fit : (s e : ℕ) (f g : F) (z : Z) → O.enter f ≡ zone z g → M.Exact g s e → M.Fit z s e
    pub succ_fit : (s e i : ℕ) (y z : Z) (f g : F) → i < A.edges → M.Shape y → M.Fit y s e → O.succ i y f ≡ zone z g
        → M.Exact g s e → M.Fit z s e
    pub enter_from : (s e : ℕ) (f g : F) (z : Z) (v : A.Val) → O.enter f ≡ zone z g → M.Exact g s e → M.In z s e v → FromStart s e v
    pub succ_from : (s e i : ℕ) (y z : Z) (f g : F) (v : A.Val) → i < A.edges → M.Shape y → M.Fit y s e → O.succ i y f ≡ zone z g
        → M.Exact g s e → M.In z s e v → FromZone s e i y v
    pub point : (z : Z) → M.Shape z → M.Fit z s₀ e₀ → (v : A.Val) × M.In z s₀ e₀ v

  pub record Laws (s₀ e₀ : ℕ) : Type 0 where
    pub clocks : Clocks A
    pub error : M.Error s₀ e₀
    pub shapes : Shapes
    pub inclusion : Inclusion
    pub safe_falls : (s e : ℕ) → Falls O (λ f. M.Safe f s e)
    pub safe : SafeLaws
    pub exact_falls : (s e : ℕ) → Falls O (λ f. M.Exact f s e)
    pub exact_stays : Stays (λ f. M.Exact f s₀ e₀)
    pub exact : ExactLaws s₀ e₀
