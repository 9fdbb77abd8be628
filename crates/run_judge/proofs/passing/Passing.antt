-- The judge "says yes exactly when the buffer begins with a run of the card in this form, ending at the target".
-- Assumes nothing.
use Prim.Native.Nat.{ℕ, zero, suc, ◌+◌, ◌*◌, ◌≤◌, ◌<◌}
use mathlib.Core.Path.{◌≡◌, refl, sym, ap, ◌∙◌, subst}
use mathlib.Core.Bool.{Bool, true, false, cond}
use mathlib.Core.List.{List, [], ◌∷◌, ◌++◌}
use mathlib.Core.Logic.{◌↔◌}
use native.Mathlib.Omega.{arith}
use borrow.Author.Tests.{eqb-true, eq-eqb, ne_eqb, ltb-false}
use lib.Dec.{ltb, eqb, eqb-suc-zero}
use lib.IntN.{ℤ, pos, negsuc}
use lib.ListN.{length, get_or, take, drop, replicate, length-append, take-append-drop}
use lib.Seq.{length-take-le, take_at}
use Rattle.std.specs.Prelude.{Some, Result, Ok, Err}
use Rattle.runs.specs.Runs.{Stand, Step, wait, jump, jumps, first, last, Can, Steps, Run}
use Rattle.runs.specs.Timed.{Valuation, later, zeroed}
use Rattle.runs.specs.Written.{numbers, ByTurns, alone, then, written}
use Rattle.runs.proofs.Contradictions.{true_false}
use Rattle.automata.specs.Accepted.{Accepted}
use Rattle.automata.specs.Automata.{clocks, locations, start, target, to, resets_of}
use Rattle.automata.specs.Numbers.{number, named}
use Rattle.automata.specs.Refusals.{refusal_of}
use Rattle.automata.specs.Semantics.{system_of}
use Rattle.automata.specs.declared.refusals.Refusal.{Refusal}
use Rattle.automata.proofs.accepting.Accepting.{accepted}
use Rattle.automata.proofs.accepting.Numbering.{above, named_number}
use Rattle.run_judge.specs.declared.state.State.{State}
use Rattle.run_judge.specs.Clocks.{meets_invariant, waited}
use Rattle.run_judge.specs.Judging.{waits_from, jumps_from, begins, passes_to, judgement_of}
use Rattle.run_judge.specs.Moves.{wait_move, jump_move}
use Rattle.run_judge.specs.Numbers.{capped, count_of, announced, Announced}
use Rattle.run_judge.specs.Passing.{Passes}
use Rattle.run_judge.proofs.numbers.Numbers.{capped_fits, count_same}
use Rattle.run_judge.proofs.stretches.Ending.{passes_none, passes_some, started, begins_none, begins_some}
use Rattle.run_judge.proofs.stretches.Following.{waits_follow, jumps_follow, step_some, step_made}
use Rattle.run_judge.proofs.passing.Agreeing.{Agrees, start_agrees}
use Rattle.run_judge.proofs.passing.Telling.{reset_of, wait_tells, jump_tells, wait_made, jump_made, waits_agree, jumps_agree}
use Rattle.run_judge.proofs.passing.Telling.{invariant_means, means_invariant}

-- ---- the form
numbers-length : (xs : List Step) → length (numbers xs) ≡ length xs
numbers-length [] = refl
numbers-length (wait t ∷ xs) = ap suc (numbers-length xs)
numbers-length (jump i ∷ xs) = ap suc (numbers-length xs)

-- "2k + 2 for k jumps": the count is even, and the waits stand at both ends
turns_count : {xs : List Step} → ByTurns xs → length xs + 1 ≡ 2 * length (jumps xs) + 2
turns_count (alone t) = refl
turns_count (then t i k) = let h = turns_count k in omega arith

-- so many numbers are written
pub written-length : {xs : List Step} → ByTurns xs → length (written xs) ≡ 2 * length (jumps xs) + 2
written-length {xs} h = omega (arith, turns_count h, numbers-length xs)

-- ---- the steps
module _ (b : List ℕ) (a : Accepted b) where
  -- the numbers are those of steps by turns from q to the target
  record Told (zs : List ℤ) (q : Stand Valuation) : Type 0 where
    steps : List Step
    is : numbers steps ≡ zs
    turns : ByTurns steps
    made : Steps (system_of b) 1 0 q steps
    there : (last (system_of b) q steps).at ≡ target b

  joined : (z u : ℤ) (zs : List ℤ) (l : ℕ) (v : Valuation) (t i : ℕ) → z ≡ pos t → u ≡ pos i →
      Can (system_of b) 1 0 (record { at = l; clocks = v }) (wait t) → Can (system_of b) 1 0 (record { at = l; clocks = later t v }) (jump i) →
      Told zs (record { at = to b i; clocks = zeroed (resets_of b i) 1 (later t v) }) → Told (z ∷ u ∷ zs) (record { at = l; clocks = v })
  joined z u zs l v t i ez eu w j r = record {
    steps = wait t ∷ jump i ∷ r.steps;
    is = rw (ez, eu) (ap (λ (l : List ℤ). pos t ∷ pos i ∷ l) r.is);
    turns = then t i r.turns;
    made = (w, (j, r.made));
    there = r.there;
  }

  told : (zs : List ℤ) (q : State) (v : Valuation) → Agrees (clocks b) q.clocks v → waits_from b zs q ≡ true →
      Told zs (record { at = q.location; clocks = v })
  unfolding waits_from
  told [] q v y e = true_false (sym e)
  told (z ∷ []) q v y e =
      let s = step_made waits_follow b z [] q e in
      let w = wait_tells b a q v y (capped z) s.1 in
      record {
        steps = wait (capped z) ∷ [];
        is = ap (λ (n : ℤ). n ∷ []) (sym (capped_fits z w.0));
        turns = alone (capped z);
        made = (w.1.can, tt);
        there = sym w.1.location ∙ eqb-true s.0.location (target b) s.2;
      }
  told (z ∷ u ∷ zs) q v y e =
      let i = capped u in
      let s = step_made waits_follow b z (u ∷ zs) q e in
      let w = wait_tells b a q v y (capped z) s.1 in
      let d = step_made jumps_follow b u zs s.0 s.2 in
      let x = later (capped z) v in
      let j = jump_tells b a s.0 x w.1.agrees i d.1 in
      let r = told zs d.0 (zeroed (resets_of b i) 1 x) j.1.agrees d.2 in
      joined z u zs q.location v (capped z) i (capped_fits z w.0) (capped_fits u (omega (arith, j.0, a.complete.edges≤))) w.1.can
      (subst (λ (n : ℕ). Can (system_of b) 1 0 (record { at = n; clocks = x }) (jump i)) w.1.location j.1.can)
      (subst (λ (n : ℕ). Told zs (record { at = n; clocks = zeroed (resets_of b i) 1 x })) j.1.location r)

  -- and back: steps by turns to the target are judged so
  untold : (q : State) (v : Valuation) {xs : List Step} → ByTurns xs → Agrees (clocks b) q.clocks v → q.location < locations b →
      Steps (system_of b) 1 0 (record { at = q.location; clocks = v }) xs →
      (last (system_of b) (record { at = q.location; clocks = v }) xs).at ≡ target b → waits_from b (numbers xs) q ≡ true
  unfolding jumps_from
  untold q v (alone t) y h s e =
      let w = wait_made b a q v y t h s.0 in
      let d : State = record { location = q.location; clocks = waited t (clocks b) q.clocks } in
      let m : wait_move b q (capped (pos t)) ≡ Some d = rw w.0 w.1 in
      step_some waits_follow b (pos t) [] q m ∙ eq-eqb q.location (target b) e
  untold q v (then t i {xs} k) y h s e =
      let w = wait_made b a q v y t h s.0 in
      let d : State = record { location = q.location; clocks = waited t (clocks b) q.clocks } in
      let z = waits_agree b a q.clocks v y q.location t in
      let j = jump_made b a d (later t v) z i s.1.0 in
      let c : State = record { location = to b i; clocks = reset_of b a i d.clocks } in
      let r = untold c (zeroed (resets_of b i) 1 (later t v)) k (jumps_agree b a d.clocks (later t v) z q.location i) (a.to< i s.1.0.0) s.1.1 e in
      let m : wait_move b q (capped (pos t)) ≡ Some d = rw w.0 w.1 in
      let o : jump_move b d (capped (pos i)) ≡ Some c = rw j.0 j.1 in
      step_some waits_follow b (pos t) (pos i ∷ numbers xs) q m ∙ step_some jumps_follow b (pos i) (numbers xs) d o ∙ r

-- ---- the whole buffer, of an automaton that is not turned down
abbrev is_yes : Result Bool Refusal → Bool
is_yes (Ok t) = t
is_yes (Err k) = false

module _ (b : List ℕ) (free : refusal_of b ≡ 0) where
  a : Accepted b
  a = accepted b free

  start_same : Agrees (clocks b) (replicate 8 0) (replicate (clocks b) 0)
  start_same = start_agrees (clocks b) a.complete.clocks≤

  abbrev zeros : State
  zeros = record { location = start b; clocks = replicate 8 0 }

  begins_yes : (zs : List ℤ) → begins b zs ≡ true → (meets_invariant b (start b) (replicate 8 0) ≡ true) × (waits_from b zs zeros ≡ true)
  begins_yes zs e = go (meets_invariant b (start b) (replicate 8 0)) refl
    where
      go : (t : Bool) → meets_invariant b (start b) (replicate 8 0) ≡ t → (t ≡ true) × (waits_from b zs zeros ≡ true)
      go true f = (refl, sym (begins_some b zs (started b f)) ∙ e)
      go false f = true_false (sym e ∙ begins_none b zs (started b f))

  -- a buffer that begins with its count k + 1
  passes_yes : (k : ℕ) (xs : List ℤ) → k ≤ length xs → passes_to b (pos (suc k) ∷ xs) (suc k) ≡ true → Passes b (pos (suc k) ∷ xs)
  unfolding passes_to
  passes_yes k xs h e =
      let s = begins_yes (take k xs) (rw (eqb-suc-zero k) at e) in
      let t = told b a (take k xs) zeros (replicate (clocks b) 0) start_same s.1 in
      let n : suc k ≡ 2 * length (jumps t.steps) + 2 =
      omega (arith, turns_count t.turns, numbers-length t.steps, ap length t.is, length-take-le k xs h) in
      record {
        accepted = free;
        steps = t.steps;
        rest = drop k xs;
        begins = rw (← n) (ap (λ (l : List ℤ). pos (suc k) ∷ l) (sym (rw t.is (take-append-drop k xs))));
        turns = t.turns;
        run = (invariant_means b a _ _ start_same (start b) s.0, t.made);
        there = t.there;
      }

  count_yes : (z : ℤ) (xs : List ℤ) → passes_to b (z ∷ xs) (count_of z (suc (length xs))) ≡ true → Passes b (z ∷ xs)
  unfolding count_of passes_to
  count_yes (pos zero) xs e = go (ltb (suc (length xs)) 0) e
    where
      go : (t : Bool) → passes_to b (pos 0 ∷ xs) (cond t 0 0) ≡ true → Passes b (pos 0 ∷ xs)
      go true f = true_false (sym f)
      go false f = true_false (sym f)
  count_yes (pos (suc k)) xs e = go (ltb (suc (length xs)) (suc k)) refl e
    where
      go : (t : Bool) → ltb (suc (length xs)) (suc k) ≡ t → passes_to b (pos (suc k) ∷ xs) (cond t 0 (suc k)) ≡ true → Passes b (pos (suc k) ∷ xs)
      go true f r = true_false (sym r)
      go false f r = passes_yes k xs (omega (arith, ltb-false (suc (length xs)) (suc k) f)) r
  count_yes (negsuc n) xs e = true_false (sym e)

  said_passes : (r : List ℤ) → passes_to b r (count_of (get_or r 0 (pos 0)) (length r)) ≡ true → Passes b r
  unfolding count_of passes_to
  said_passes [] e = true_false (sym e)
  said_passes (z ∷ xs) e = count_yes z xs e

  -- and back: steps by turns, with their count before them
  passes-back : (xs : List Step) (rest : List ℤ) (z : ℤ) → ByTurns xs → Run (system_of b) 1 0 xs →
      (last (system_of b) (first (system_of b)) xs).at ≡ target b → passes_to b (z ∷ (numbers xs ++ rest)) (suc (length xs)) ≡ true
  unfolding passes_to
  passes-back xs rest z t u e =
      let w = untold b a zeros (replicate (clocks b) 0) t start_same a.start< u.1 e in
      let i = means_invariant b a (replicate 8 0) (replicate (clocks b) 0) start_same (start b) u.0 in
      rw (eqb-suc-zero (length xs)) (rw (take_at (numbers xs) rest (length xs) (numbers-length xs))
      (begins_some b (numbers xs) (started b i) ∙ w))

-- ---- the judgement, by the refusal
module _ (b : List ℕ) (r : List ℤ) where
  pub refused_says : {k : Refusal} → number k ≡ refusal_of b → Err k ≡ judgement_of b r
  unfolding judgement_of
  refused_says {k} e = rw (ne_eqb (refusal_of b) 0 (λ z. absurd (omega (arith, e, above k)))) (ap Err (sym (named_number k) ∙ ap named e))

  pub free_says : refusal_of b ≡ 0 → {end : ℕ} {t : Bool} → end ≡ count_of (get_or r 0 (pos 0)) (length r) → t ≡ passes_to b r end →
      Ok t ≡ judgement_of b r
  unfolding judgement_of
  free_says f e g = rw (eq-eqb (refusal_of b) 0 f) (rw g (rw e refl))

  pub none_says : refusal_of b ≡ 0 → announced r ≡ 0 → Ok false ≡ judgement_of b r
  none_says f e = free_says f refl (passes_none b r (announced r) e)

  pub some_says : refusal_of b ≡ 0 → {zs : List ℤ} {t : Bool} → Announced r zs → t ≡ begins b zs → Ok t ≡ judgement_of b r
  some_says f e g = free_says f refl (g ∙ ap (begins b) e.numbers ∙ passes_some b r (announced r) (λ z. absurd (omega (arith, e.some))))

  judged_passes : judgement_of b r ≡ Ok true → Passes b r
  unfolding judgement_of
  judged_passes = go (eqb (refusal_of b) 0) refl
    where
      go : (t : Bool) → eqb (refusal_of b) 0 ≡ t →
          cond t (Ok (passes_to b r (count_of (get_or r 0 (pos 0)) (length r)))) (Err (named (refusal_of b))) ≡ Ok true → Passes b r
      go true f e = said_passes b (eqb-true (refusal_of b) 0 f) r (ap is_yes e)
      go false f e = true_false (sym (ap is_yes e))

  -- what passes by the definition of runs, the judge passes
  pub passes_judged : Passes b r → judgement_of b r ≡ Ok true
  passes_judged p =
      let xs = p.steps in
      let n : 2 * length (jumps xs) + 2 ≡ suc (length xs) = omega (arith, turns_count p.turns) in
      let k : suc (length xs) ≤ suc (length (numbers xs ++ p.rest)) = omega (arith, length-append (numbers xs) p.rest, numbers-length xs) in
      let c : suc (length xs) ≡ count_of (get_or r 0 (pos 0)) (length r) =
      rw p.begins (rw n (sym (count_same (suc (length xs)) (suc (length (numbers xs ++ p.rest))) k))) in
      let t : true ≡ passes_to b r (suc (length xs)) =
      rw p.begins (rw n (sym (passes-back b p.accepted xs p.rest (pos (suc (length xs))) p.turns p.run p.there))) in
      sym (free_says p.accepted c t)

  pub judged : (judgement_of b r ≡ Ok true) ↔ Passes b r
  judged = (judged_passes, passes_judged)

  -- and so does whoever says what the judge's definition says
  pub says : (j : Result Bool Refusal) → j ≡ judgement_of b r → (j ≡ Ok true) ↔ Passes b r
  says j e = (λ h. judged_passes (sym e ∙ h), λ p. e ∙ passes_judged p)

  -- what passes begins with an even count, from 2 to the length
  pub passes_form : Passes b r → (k : ℕ) × (get_or r 0 (pos 0) ≡ pos (2 * k + 2)) × (2 * k + 2 ≤ length r)
  passes_form p =
      let xs = p.steps in (
        length (jumps xs),
        rw p.begins,
        omega (arith, ap length p.begins, length-append (numbers xs) p.rest, numbers-length xs, turns_count p.turns),
      )
