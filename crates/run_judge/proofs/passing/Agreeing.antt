-- The judge's clocks, eight to an array, and a run's valuation, one number a clock of the automaton.
-- Assumes nothing.
use Prim.Native.Nat.{ℕ, zero, suc, ◌+◌, ◌≤◌, ◌<◌}
use mathlib.Core.Path.{◌≡◌, refl, sym, ap, ◌∙◌}
use mathlib.Core.Bool.{Bool, true, cond}
use mathlib.Core.List.{List}
use native.Mathlib.Omega.{arith}
use native.Mathlib.Nat.{not-suc-le-zero}
use lib.ListN.{length, get_or, replicate, length-replicate, get_or-replicate}
use Rattle.runs.specs.Limits.{Within}
use Rattle.runs.specs.Timed.{Valuation, ticks, later, zeroed}
use Rattle.runs.proofs.Valuations.{later-length, later_at, zeroed-length, zeroed_at}
use Rattle.automata.specs.Automata.{limits_at}
use Rattle.run_judge.specs.Clocks.{within_at, waited, reset_by}
use Rattle.run_judge.proofs.clocks.Showing.{within_shows, shows_within, changed-length, changed_at, waited_changes, reset_changes}

pub record Agrees (n : ℕ) (c : List ℕ) (v : Valuation) : Type 0 where
  pub size : length c ≡ 8
  pub count : length v ≡ n
  pub same : (x : ℕ) → x < n → get_or c x 0 ≡ get_or v x 0

module _ (n : ℕ) (n≤ : n ≤ 8) where
  pub start_agrees : Agrees n (replicate 8 0) (replicate n 0)
  start_agrees = record {
    size = refl;
    count = length-replicate n 0;
    same = λ x h. get_or-replicate {A = ℕ} 8 x 0 0 (omega arith) ∙ sym (get_or-replicate n x 0 0 h);
  }

  module _ (c : List ℕ) (v : Valuation) (g : Agrees n c v) where
    pub wait_agrees : (t : ℕ) → Agrees n (waited t n c) (later t v)
    wait_agrees t = record {
      size = changed-length (waited_changes t c) n ∙ g.size;
      count = later-length t v ∙ g.count;
      same = λ x h. omega (arith, changed_at (waited_changes t c) n (omega (arith, g.size)) x h, later_at t v x (omega (arith, g.count)), g.same x h);
    }

    -- R counts the clocks from 0, S from 1
    pub reset_agrees : (R S : ℕ → Bool) → ((x : ℕ) → x < n → R x ≡ S (suc x)) → Agrees n (reset_by R n c) (zeroed S 1 v)
    reset_agrees R S e = record {
      size = changed-length (reset_changes R c) n ∙ g.size;
      count = zeroed-length S 1 v ∙ g.count;
      same = λ x h.
          let f : suc x ≡ 1 + x = omega arith in
          changed_at (reset_changes R c) n (omega (arith, g.size)) x h ∙ (λ j. cond ((e x h ∙ ap S f) j) 0 (g.same x h j))
          ∙ sym (zeroed_at S 1 v x (omega (arith, g.count)));
    }

    pub within_means : (b : List ℕ) (at : ℕ) → within_at b at c n ≡ true → Within 1 0 n (limits_at b at) (ticks v)
    unfolding limits_at
    within_means b at w zero p h = absurd (not-suc-le-zero p)
    within_means b at w (suc x) p h =
        let k = within_shows b at c n w x (omega arith) in
        let e = g.same x (omega arith) in
        record { least = omega (arith, k.least, e); most = λ f. omega (arith, k.most f, e) }

    pub means_within : (b : List ℕ) (at : ℕ) → Within 1 0 n (limits_at b at) (ticks v) → within_at b at c n ≡ true
    unfolding limits_at
    means_within b at w =
        shows_within b at c n
        (λ x h.
        let k = w (suc x) (omega arith) (omega arith) in
        record { least = omega (arith, k.least, g.same x h); most = λ f. omega (arith, k.most f, g.same x h) })
