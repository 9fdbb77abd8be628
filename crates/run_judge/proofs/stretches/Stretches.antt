-- One law for each way out of a step in a stretch.
-- Assumes nothing.
use Prim.Native.Nat.{ℕ}
use mathlib.Core.Path.{◌≡◌, refl, sym, ◌∙◌}
use mathlib.Core.Bool.{Bool, false}
use mathlib.Core.List.{List, [], ◌∷◌}
use native.Mathlib.Omega.{arith}
use denote.Ref.{Bor}
use lib.Dec.{eqb}
use lib.IntN.{ℤ}
use lib.ListN.{length}
use mir.Syntax.{w64}
use mir.Val.{SFits, to_z, of_z}
use mir.Facts.{to_z-of_z}
use Rattle.std.specs.List.{IsFirstAndRest}
use Rattle.std.specs.Prelude.{Option, Some, None, MatchOption}
use Rattle.automata.specs.Automata.{target}
use Rattle.run_judge.specs.declared.state.State.{State}
use Rattle.run_judge.specs.declared.steps.Ready.{Ready}
use Rattle.run_judge.specs.declared.stretches.Left.{Left}
use Rattle.run_judge.specs.Judging.{waits_from, jumps_from}
use Rattle.run_judge.specs.Numbers.{capped}
use Rattle.run_judge.specs.Steps.{Leads}
use Rattle.run_judge.specs.Stretches.{waits, jumps, Handed}
use Rattle.run_judge.proofs.stretches.Following.{Follows, waits_follow, jumps_follow, step_none, step_some}

-- ---- at the end of the numbers
module _ (l : Left) (h : length l.numbers.now ≡ 0) where
  pub wait_over : false ≡ waits l
  unfolding waits_from
  wait_over = go l.numbers.now h
    where
      go : (zs : List ℤ) → length zs ≡ 0 → false ≡ waits_from l.ready.automaton.now.bytes.now zs l.ready.state
      go [] e = refl
      go (z ∷ zs) e = absurd (omega (arith, e))

  pub jump_over : {t : ℕ} → t ≡ target l.ready.automaton.now.bytes.now → eqb l.ready.state.location t ≡ jumps l
  unfolding jumps_from
  jump_over {t} f = go l.numbers.now h
    where
      go : (zs : List ℤ) → length zs ≡ 0 → eqb l.ready.state.location t ≡ jumps_from l.ready.automaton.now.bytes.now zs l.ready.state
      go [] e = rw f refl
      go (z ∷ zs) e = absurd (omega (arith, e))

-- ---- with the number z, which the code holds as a word
-- what is left, judged by `from`
abbrev pub judged_by : (List ℕ → List ℤ → State → Bool) → Left → Bool
judged_by from l = from l.ready.automaton.now.bytes.now l.numbers.now l.ready.state

module _ {move : List ℕ → State → ℕ → Option State} {from next : List ℕ → List ℤ → State → Bool} (s : Follows move from next)
    (l : Left) {z : ℤ} (h : SFits w64 z) where
  abbrev b : List ℕ
  b = l.ready.automaton.now.bytes.now

  abbrev moved : Option State
  moved = move b l.ready.state (capped (to_z w64 (of_z w64 z)))

  -- a step that is not made
  pub step_over : {zs : List ℤ} → IsFirstAndRest l.numbers.now z zs → moved ≡ None → false ≡ judged_by from l
  step_over {zs} f e = rw f.0 (sym (step_none s b z zs l.ready.state (rw (to_z-of_z h) at e)))

  -- one that is made leaves m, which is shorter
  module _ (m : Left) (f : IsFirstAndRest l.numbers.now z m.numbers.now) (k : Leads b moved (Some m.ready)) where
    follows : judged_by from l ≡ judged_by next m
    follows = rw f.0 (rw k.0 (step_some s b z m.numbers.now l.ready.state (rw (to_z-of_z h) at k.1)))

    pub step_on : (r : Left) (o : Option Bool) → Handed m (judged_by next m) r o → Handed l (judged_by from l) r o
    step_on r o d = rw follows (longer _ o d)
      where
        longer : (t : Bool) (o : Option Bool) → Handed m t r o → Handed l t r o
        longer t None d = (rw k.0 at d.0, omega (arith, d.1, f.1))
        longer t (Some u) d = d

    -- the stretch is at its end, and a wait comes next
    pub step_back : waits m ≡ judged_by next m → Handed l (judged_by from l) m None
    step_back e = (record { automaton = k.0; same = e ∙ sym follows }, omega (arith, f.1))

-- ---- of a wait, and of a jump
module _ (l : Left) {z : ℤ} (h : SFits w64 z) where
  pub wait_no : {zs : List ℤ} → IsFirstAndRest l.numbers.now z zs → moved waits_follow l h ≡ None → false ≡ waits l
  wait_no = step_over waits_follow l h

  pub wait_on : (m : Left) → IsFirstAndRest l.numbers.now z m.numbers.now → Leads (b waits_follow l h) (moved waits_follow l h) (Some m.ready) →
      (r : Left) (o : Option Bool) → Handed m (jumps m) r o → Handed l (waits l) r o
  wait_on = step_on waits_follow l h

  pub jump_on : (m : Left) → IsFirstAndRest l.numbers.now z m.numbers.now → Leads (b jumps_follow l h) (moved jumps_follow l h) (Some m.ready) →
      (r : Left) (o : Option Bool) → Handed m (waits m) r o → Handed l (jumps l) r o
  jump_on = step_on jumps_follow l h

  -- the jump is not made, or the stretch is at its end
  pub jump_back : (o : Option Ready) (zs : Bor (List ℤ)) → IsFirstAndRest l.numbers.now z zs.now →
      Leads (b jumps_follow l h) (moved jumps_follow l h) o →
      MatchOption o (Handed l (jumps l) l (Some false)) (λ r. Handed l (jumps l) (record { ready = r; numbers = zs }) None)
  jump_back None zs f k = step_over jumps_follow l h f k
  jump_back (Some r) zs f k = step_back jumps_follow l h (record { ready = r; numbers = zs }) f k refl

-- ---- the ways out of both at the end of the numbers
pub ruleset ways = (wait_over, jump_over)
