-- What cards of document 01 show of runs: who can cross the table does, and no one else stands at the target.
-- Assumes nothing.
use Prim.Native.Nat.{ℕ, zero, suc, ◌+◌, ◌*◌, ◌≤◌}
use mathlib.Core.Bool.{Bool, true, false, cond}
use mathlib.Core.List.{List, [], ◌∷◌}
use mathlib.Core.Path.{◌≡◌, refl, ap}
use mathlib.Core.Logic.{inr, ⊎_elim}
use native.Mathlib.Omega.{arith}
use Rattle.runs.specs.Limits.{Limits, Holds, Within}
use Rattle.runs.specs.Runs.{System, Step, wait, jump, Stand, Can, Steps, StandsIn, Reaches}
use Rattle.runs.specs.Timed.{Valuation, ticks, later, zeroed, system_for}
use Rattle.runs.specs.Examples.{from_to, from_on, table, astray, Shown}
use Rattle.runs.proofs.Contradictions.{true_false}

-- ---- where no edge can be taken at the start, a run stays there
module _ (A : System) (s e : ℕ) (off : A.start ≡ A.target → ⊥) where
  abbrev home : A.Val → Stand A.Val
  home v = record { at = A.start; clocks = v }

  module _ (shut : (i : ℕ) (v : A.Val) → A.inv s e A.start v → Can A s e (home v) (jump i) → ⊥) where
    stays : (v : A.Val) (xs : List Step) → A.inv s e A.start v → Steps A s e (home v) xs → StandsIn A A.target (home v) xs → ⊥
    stays v [] k h g = off g
    stays v (wait t ∷ xs) k h g = ⊎_elim off (stays (A.pass t v) xs h.0 h.1) g
    stays v (jump i ∷ xs) k h g = shut i v k h.0

    unreached : Reaches A s e → ⊥
    unreached r = stays A.origin r.steps r.run.0 r.run.1 r.stands

-- ---- the only clock
one : {s e y : ℕ} {L : Limits} → L.lo 1 * s ≤ y + e → (L.absent 1 ≡ false → y ≤ L.hi 1 * s + e) → Within s e 1 L (ticks (y ∷ []))
one h g zero p l = absurd (omega arith)
one h g (suc zero) p l = record { least = h; most = g }
one h g (suc (suc x)) p l = absurd (omega arith)

only : {s e : ℕ} {L : Limits} (v : Valuation) → Within s e 1 L (ticks v) → Holds s e L 1 (ticks v 1)
only v h = h 1 (omega arith) (omega arith)

arrives : (r : Bool) (v : Valuation) → ticks (zeroed (λ x. r) 1 v) 1 ≡ cond r 0 (ticks v 1)
unfolding zeroed
arrives true [] = refl
arrives false [] = refl
arrives r (y ∷ v) = refl

-- ---- the table: an edge that may reset, with a guard from m on, to a target with a limit from n
module _ (r : Bool) (m n s e : ℕ) where
  abbrev cross : System
  cross = system_for (table 0 r (from_on m) (from_to 0 5) (from_to n 9))

  crosses : (t : ℕ) → t ≤ 5 * s + e → m * s ≤ t + e → n * s ≤ cond r 0 t + e → cond r 0 t ≤ 9 * s + e → Reaches cross s e
  unfolding later zeroed
  crosses t a b c d =
      let w : cond r 0 (0 + t) ≡ cond r 0 t = ap (cond r 0) (omega arith) in
      record {
        steps = wait t ∷ jump 0 ∷ [];
        run = (
          one (omega arith) (λ h. omega arith),
          (
            one (omega arith) (λ h. omega arith),
            ((omega arith, refl, one (omega arith) (λ h. true_false h), one (omega arith) (λ h. omega arith)), tt),
          ),
        );
        stands = inr (inr refl);
      }

  cannot : ((t : ℕ) → t ≤ 5 * s + e → m * s ≤ t + e → n * s ≤ cond r 0 t + e → ⊥) → Reaches cross s e → ⊥
  cannot none =
      unreached cross s e (λ z. omega arith)
      (λ i v k c. none (ticks v 1) ((only v k).most refl) (only v c.2).least (rw (arrives r v) at (only (zeroed (λ x. r) 1 v) c.3).least))

pub shown : Shown
shown = record {
  a = record {
    below = λ s e l. cannot false 7 0 s e (λ t a b c. omega arith);
    there = crosses false 7 0 1 1 6 (omega arith) (omega arith) (omega arith) (omega arith);
  };
  e = record {
    below = λ s e l r. omega (arith, (only (0 ∷ []) r.run.0).least);
    there = record { steps = []; run = (one (omega arith) (λ h. omega arith), tt); stands = refl };
  };
  f = crosses true 4 0 1 0 4 (omega arith) (omega arith) (omega arith) (omega arith);
  g = record {
    below = λ s e l. cannot true 0 3 s e (λ t a b c. omega arith);
    there = crosses true 0 3 1 3 0 (omega arith) (omega arith) (omega arith) (omega arith);
  };
  stray = λ s e. unreached (system_for astray) s e (λ z. omega arith) (λ i v k c. omega arith);
}
