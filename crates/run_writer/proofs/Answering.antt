-- What the call finds and leaves, by how the search ended: at the target, with room for the run or without, or otherwise.
use Prim.Native.Nat.{ℕ, suc, ◌+◌, ◌*◌, ◌≤◌, ◌<◌}
use mathlib.Core.List.{List, [], ◌++◌}
use mathlib.Core.Path.{◌≡◌, refl, sym, ap, ◌∙◌, subst}
use borrow.Author.Tests.{lt-ltb, le-ltb, eq-eqb, ne_eqb}
use lib.IntN.{ℤ}
use lib.ListN.{length, drop}
use Rattle.std.specs.Prelude.{Err}
use native.Mathlib.Omega.{arith}
use Rattle.automata.specs.Automata.{clocks}
use Rattle.automata.specs.Numbers.{number}
use Rattle.automata.specs.Refusals.{refusal_of}
use Rattle.automata.specs.declared.refusals.Refusal.{Refusal}
use Rattle.automata.specs.declared.refusals.Refusal.TheVariants.{RunTooLong}
use Rattle.automata.specs.Semantics.{system_of}
use Rattle.automata.proofs.accepting.Accepting.{accepted}
use Rattle.reachability.specs.Branches.{Branch, path_of}
use Rattle.reachability.specs.Search.{Outcome, going, ended, reached, refused}
use Rattle.reachability.specs.Witnesses.{RunAlong}
use Rattle.reachability.proofs.Branches.{arrived}
use Rattle.reachability.proofs.Robust.{exact_there}
use Rattle.reachability.proofs.Witnesses.{run_back}
use Rattle.run_judge.specs.Passing.{Passes}
use Rattle.run_judge.proofs.passing.Passing.{written-length, passes_judged}
use Rattle.runs.specs.Written.{written}
use Rattle.search.specs.declared.outcome.Outcome as told
use Rattle.search.specs.declared.outcome.Outcome.TheVariants.{Going, Reached, Refused}
use Rattle.search.specs.Outcomes.{SearchTurn as Turn}
use Rattle.search.specs.Answers.{findings_of, dropped_in, state_findings, state_of, search_findings}
use Rattle.search.specs.Exploring.{Shown}
use Rattle.search.specs.Instance.{zones_of, meaning_of}
use Rattle.search.specs.Outcomes.{came_of, outcome_of, Honest}
use Rattle.search.specs.Store.{capacity_of}
use Rattle.search.proofs.answers.Answers.{found_accepted, not_accepted}
use Rattle.search.proofs.instance.Obeys.{laws}
use Rattle.slots.specs.declared.slot.Origin.{Origin}
use Rattle.run_writer.specs.Branch.{kept_of, Ended, Standing, Stands, jumps_before}
use Rattle.run_writer.specs.Crossing.{witnesses_of}
use Rattle.run_writer.specs.Told.{Tells}
use Rattle.run_writer.specs.Writing.{run_of, outcome_numbers, run_numbers, run_findings, run_buffer}
use Rattle.run_writer.proofs.Witnessing.{witness_laws}
use Rattle.run_writer.proofs.branch.Walking.{jumps_most}

-- ---- by the numbers to be written: there is room for them, or there is none
module _ (b : List ℕ) (amount : ℕ) {ns : List ℤ} (n : run_numbers b amount ≡ ns) where
  pub room_findings : (room : ℕ) → length ns ≤ room → search_findings b amount ≡ run_findings b amount room
  unfolding run_findings
  room_findings room l = rw (run_findings, n, le-ltb room (length ns) l) refl

  pub room_buffer : (r : List ℤ) → length ns ≤ length r → ns ++ drop (length ns) r ≡ run_buffer b amount r
  unfolding run_buffer
  room_buffer r l = rw (run_buffer, n, le-ltb (length r) (length ns) l) refl

  pub short_findings : (room : ℕ) → room < length ns → Err RunTooLong ≡ run_findings b amount room
  unfolding run_findings
  short_findings room l = rw (run_findings, n, lt-ltb room (length ns) l) refl

  pub short_buffer : (r : List ℤ) → length r < length ns → r ≡ run_buffer b amount r
  unfolding run_buffer
  short_buffer r l = rw (run_buffer, n, lt-ltb (length r) (length ns) l) refl

-- refused at reading
pub refused_none : (b : List ℕ) (amount : ℕ) (k : Refusal) → number k ≡ refusal_of b → run_numbers b amount ≡ []
unfolding run_numbers
refused_none b amount k e = rw (run_numbers, ne_eqb (refusal_of b) 0 (not_accepted b k e)) refl

pub refused_tells : (b : List ℕ) (amount : ℕ) (run : List ℤ) (k : Refusal) → Tells b amount run (Err k)
unfolding Tells
refused_tells b amount run k = tt

-- ---- searched
module _ (b : List ℕ) (ok : refusal_of b ≡ 0) (s s' : List ℤ) (t : Turn) (h : Shown (suc (clocks b)) s (state_of b (length s)) s' t) where
  abbrev amount : ℕ
  amount = length s

  numbers_are : {x : Outcome} → (state_of b (length s)).outcome ≡ x → run_numbers b (length s) ≡ outcome_numbers b (state_of b (length s)) x
  unfolding run_numbers
  numbers_are e = rw (run_numbers, eq-eqb (refusal_of b) 0 ok) (ap (outcome_numbers b (state_of b amount)) e)

  findings_are : {x : Outcome} → (state_of b (length s)).outcome ≡ x
      → search_findings b (length s)
      ≡ findings_of x (state_of b (length s)).frac (length (state_of b (length s)).kept) (dropped_in (state_of b (length s)))
  unfolding state_findings
  findings_are e =
      found_accepted b ok amount
      ∙ ap (λ x. findings_of x (state_of b amount).frac (length (state_of b amount).kept) (dropped_in (state_of b amount))) e

  -- ---- it did not meet the target
  module _ (g : (o : Origin) → t.outcome ≡ Reached o → ⊥) where
    missed : (P : Outcome → Type 0) → P going → ((k : ℕ) → P (ended (refused k))) → P (state_of b (length s)).outcome
    unfolding outcome_of
    missed P y n = subst P h.outcome (go t.outcome refl)
      where
        go : (x : told.Outcome Refusal) → t.outcome ≡ x → P (outcome_of x)
        go Going e = y
        go (Reached o) e = absurd (g o e)
        go (Refused k) e = n (number k)

    pub missed_none : run_numbers b (length s) ≡ []
    unfolding outcome_numbers
    missed_none = numbers_are refl ∙ missed (λ x. outcome_numbers b (state_of b (length s)) x ≡ []) refl (λ k. refl)

    pub missed_tells : (run : List ℤ) → Tells b (length s) run (search_findings b (length s))
    unfolding findings_of Tells
    missed_tells run =
        let q = state_of b (length s) in
        rw (findings_are refl) (missed (λ x. Tells b (length s) run (findings_of x q.frac (length q.kept) (dropped_in q))) tt (λ k. tt))

  -- ---- it met the target
  module _ {o : Origin} (g : t.outcome ≡ Reached o) where
    met : (state_of b (length s)).outcome ≡ ended (reached (came_of o))
    unfolding outcome_of
    met = sym h.outcome ∙ ap outcome_of g

    pub stored : Ended b (length s) s'
    stored = record { accepted = accepted b ok; base = s; size = refl; shown = h.store }

    pub stands : Standing b (length s) o
    stands =
        let c = capacity_of (suc (clocks b)) amount in
        let L = laws b (accepted b ok) in
        let a = arrived (system_of b) (zones_of b) (λ f. (meaning_of b).Exact f 1 0) (L.exact_falls 1 0) c
        (exact_there (system_of b) (zones_of b) (meaning_of b) 1 0 L c) (came_of o) met in
        record {
          came = came_of o;
          told = subst Honest g h.honest;
          place = length (kept_of b amount);
          most = omega arith;
          node = a.node;
          branch = subst (Branch (system_of b) (zones_of b) (λ f. (meaning_of b).Exact f 1 0) (kept_of b amount) (length (kept_of b amount)) a.node)
              a.came a.branch;
        }

    -- the walk's store is as long as the one that was lent
    pub stands_there : length s' ≡ length s → Stands b s' o
    stands_there e =
        record { ended = subst (λ n. Ended b n s') (sym e) stored; standing = subst (λ n. Standing b n o) (sym e) stands }

    along : RunAlong (system_of b) 1 0 (path_of (kept_of b (length s)) (came_of o)) (run_of b (state_of b (length s)) (came_of o))
    along =
        run_back (system_of b) (zones_of b) (meaning_of b) 1 0 (laws b (accepted b ok)) (witnesses_of b) (witness_laws b (accepted b ok))
        (capacity_of (suc (clocks b)) amount) (came_of o) met

    abbrev whole : List ℤ
    whole = written (run_of b (state_of b (length s)) (came_of o))

    pub numbers_here : run_numbers b (length s) ≡ written (run_of b (state_of b (length s)) (came_of o))
    unfolding outcome_numbers
    numbers_here = numbers_are met

    module _ {k : ℕ} (ek : k ≡ jumps_before b (length s) o) where
      -- as many numbers as the code counts
      pub long : length (written (run_of b (state_of b (length s)) (came_of o))) ≡ 2 * k + 2
      long = written-length along.turns ∙ ap (λ (p : List ℕ). 2 * length p + 2) along.takes ∙ ap (λ (j : ℕ). 2 * j + 2) (sym ek)

      module _ (r : List ℤ) {r' : List ℤ} (l : 2 * k + 2 ≤ length r)
          (w : r' ≡ written (run_of b (state_of b (length s)) (came_of o)) ++ drop (2 * k + 2) r) where
        pub filled_buffer : r' ≡ run_buffer b (length s) r
        filled_buffer =
            w ∙ ap (λ (i : ℕ). whole ++ drop i r) (sym long) ∙ room_buffer b (length s) numbers_here r (omega (arith, long, l))

        passes : Passes b r'
        passes = record {
          accepted = ok;
          steps = run_of b (state_of b amount) (came_of o);
          rest = drop (2 * k + 2) r;
          begins = w;
          turns = along.turns;
          run = along.run;
          there = along.there;
        }

        pub room_tells : Tells b (length s) r' (search_findings b (length s))
        unfolding findings_of Tells
        room_tells = rw (findings_are met) (record {
          came = came_of o;
          met = met;
          few = jumps_most stored stands;
          count = long ∙ ap (λ (j : ℕ). 2 * j + 2) ek;
          rest = drop (2 * k + 2) r;
          begins = w;
          along = along;
          passes = passes_judged b r' passes;
        })
