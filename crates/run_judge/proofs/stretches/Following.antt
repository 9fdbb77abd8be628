-- A step and what follows it: of a wait and of a jump the same.
-- Assumes nothing.
use Prim.Native.Nat.{ℕ}
use mathlib.Core.Path.{◌≡◌, refl, sym, ◌∙◌}
use mathlib.Core.Bool.{Bool, true, false}
use mathlib.Core.List.{List, ◌∷◌}
use lib.IntN.{ℤ}
use Rattle.std.specs.Prelude.{Option, Some, None}
use Rattle.runs.proofs.Contradictions.{true_false}
use Rattle.run_judge.specs.declared.state.State.{State}
use Rattle.run_judge.specs.Judging.{waits_from, jumps_from}
use Rattle.run_judge.specs.Moves.{wait_move, jump_move}
use Rattle.run_judge.specs.Numbers.{capped}

-- numbers that begin with a step are judged by whether it is made and then by what follows
pub record Follows (move : List ℕ → State → ℕ → Option State) (from next : List ℕ → List ℤ → State → Bool) : Type 0 where
  pub law : (b : List ℕ) (z : ℤ) (zs : List ℤ) (q : State) → from b (z ∷ zs) q ≡ elim (move b q (capped z)) [ Some p ↦ next b zs p | None ↦ false ]

pub waits_follow : Follows wait_move waits_from jumps_from
unfolding waits_from
waits_follow = record { law = λ b z zs q. refl }

pub jumps_follow : Follows jump_move jumps_from waits_from
unfolding jumps_from
jumps_follow = record { law = λ b z zs q. refl }

module _ {move : List ℕ → State → ℕ → Option State} {from next : List ℕ → List ℤ → State → Bool} (s : Follows move from next)
    (b : List ℕ) (z : ℤ) (zs : List ℤ) (q : State) where
  pub step_none : move b q (capped z) ≡ None → from b (z ∷ zs) q ≡ false
  step_none e = s.law b z zs q ∙ rw e refl

  pub step_some : {p : State} → move b q (capped z) ≡ Some p → from b (z ∷ zs) q ≡ next b zs p
  step_some e = s.law b z zs q ∙ rw e refl

  -- what passes begins with a step that is made
  pub step_made : from b (z ∷ zs) q ≡ true → (p : State) × (move b q (capped z) ≡ Some p) × (next b zs p ≡ true)
  step_made e = go (move b q (capped z)) refl
    where
      go : (m : Option State) → move b q (capped z) ≡ m → (p : State) × (move b q (capped z) ≡ Some p) × (next b zs p ≡ true)
      go None f = true_false (sym e ∙ step_none f)
      go (Some p) f = (p, f, sym (step_some f) ∙ e)
