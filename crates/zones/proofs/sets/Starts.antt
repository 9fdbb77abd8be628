-- The first zone, and a zone inside another.
-- Assumes nothing.
use Prim.Native.Nat.{ℕ, zero, suc, ◌+◌, ◌*◌, ◌%◌, ◌<◌, ◌≤◌}
use mathlib.Core.Path.{◌≡◌, refl, ap, ◌∙◌}
use mathlib.Core.Bool.{Bool, true, false, cond}
use borrow.Author.Tests.{ltb-true, ltb-false}
use lib.Dec.{ltb}
use mathlib.Core.List.{List}
use mathlib.Core.Logic.{◌↔◌}
use lib.IntN.{pos}
use lib.Signed.{◌≤ℤ◌}
use native.Mathlib.Omega.{arith}
use native.Mathlib.Nat.{not-suc-le-zero}
use Rattle.zones.specs.declared.pair.Pair.{Pair}
use Rattle.zones.specs.declared.zone.Work.{Work}
use Rattle.zones.proofs.pairs.Integers.{int, eq_read}
use Rattle.zones.specs.Fractions.{lowered_by}
use Rattle.zones.specs.Pairs.{threshold_of}
use Rattle.zones.specs.Zones.{pair_at, entry, first_work}
use Rattle.zones.specs.Containment.{place_of, within, inside_to, inside_below}
use Rattle.zones.specs.Values.{value_of, Below}
use Rattle.zones.specs.Sets.{square_of, Has}
use Rattle.zones.specs.Moves.{Shaped, Low}
use Rattle.zones.proofs.pairs.Choices.{not_less_shows}
use Rattle.zones.proofs.places.Inside.{within_shows, inside_ind}
use Rattle.zones.proofs.places.Places.{first_at, first_size}
use Rattle.zones.proofs.sets.Squares.{in_above, up_to}
use Rattle.zones.proofs.fractions.Thresholds.{zero_value, threshold_sound, lowered_sound, lowered_n, beside_n}

-- ---- the first zone: all clocks at 0
module _ (s e : ℕ) (s> : 0 < s) (c : ℕ) (n≤ : suc c ≤ 9) where
  first-zero : (a b : ℕ) → a < suc c → b < suc c → value_of s e (entry first_work a b) ≡ pos 0
  first-zero a b ha hb = ap (value_of s e) (first_at a b (omega arith) (omega arith)) ∙ zero_value s e

  pub first_shaped : Shaped c first_work
  first_shaped = record { size = first_size; diagonal = λ a ha. first_at a a (omega arith) (omega arith) }

  pub first_low : Low (suc c) (square_of s e first_work)
  first_low a ha = let z = first-zero 0 a (omega arith) ha in omega (arith, int)

  pub first_has : (v : ℕ → ℕ) → Has s e c first_work v ↔ ((a : ℕ) → a < suc c → v a ≡ 0)
  first_has v = (
    λ h a ha. omega (arith, h.start, h.gaps a 0 ha (omega arith), eq_read (first-zero a 0 ha (omega arith))),
    λ h. record { start = h 0 (omega arith); gaps = λ a b ha hb. omega (arith, h a ha, h b hb, eq_read (first-zero a b ha hb)) },
  )

-- ---- a zone inside another: the thresholds of the test are all that is needed
module _ (n : ℕ) (z y : List Pair) (h : within n z y ≡ true) where
  pub inside_proper : 0 < (inside_below n z y).n
  inside_proper =
      inside_ind n z y (λ g. 0 < g.n) (n * 9)
      (λ k g hk hc q. lowered_n g (threshold_of (place_of z k) (place_of y k)) q
      (beside_n (place_of z k) (place_of y k) (within_shows n z y h k hk hc))) (omega arith) (n * 9) (omega arith)

  module _ (s e : ℕ) (s> : 0 < s) where
    -- the thresholds of the first k places
    record Tested (k : ℕ) : Type 0 where
      each : (m : ℕ) → m < k → m % 9 < n → Below s e (threshold_of (place_of z m) (place_of y m))

    next_tested : (k : ℕ) → k < n * 9 → (Below s e (inside_to n k z y) → Tested k) → (t : Bool) → ltb (k % 9) n ≡ t →
        Below s e (cond t (lowered_by (inside_to n k z y) (threshold_of (place_of z k) (place_of y k))) (inside_to n k z y)) → Tested (suc k)
    next_tested k hk ih true q b =
        let c = ltb-true (k % 9) n q in
        let l =
        lowered_sound s e (inside_to n k z y) (threshold_of (place_of z k) (place_of y k)) s>
        (beside_n (place_of z k) (place_of y k) (within_shows n z y h k hk c)) b in
        let i = ih l.0 in
        record { each = up_to (λ m. m % 9 < n → Below s e (threshold_of (place_of z m) (place_of y m))) k i.each (λ x. l.1) }
    next_tested k hk ih false q b =
        let i = ih b in
        record {
          each =
              up_to (λ m. m % 9 < n → Below s e (threshold_of (place_of z m) (place_of y m))) k i.each
              (λ x. absurd (omega (arith, ltb-false (k % 9) n q)));
        }

    tested : (k : ℕ) → k ≤ n * 9 → Below s e (inside_to n k z y) → Tested k
    unfolding inside_to
    tested zero hk b = record { each = λ m hm. absurd (not-suc-le-zero hm) }
    tested (suc k) hk b = next_tested k hk (tested k (omega arith)) (ltb (k % 9) n) refl b

    -- each value of z is no larger than y's
    pub inside_values : n ≤ 9 → Below s e (inside_below n z y) → (a b : ℕ) → a < n → b < n →
        value_of s e (pair_at z a b) ≤ℤ value_of s e (pair_at y a b)
    unfolding pair_at
    inside_values n≤ b i j hi hj =
        let k = i * 9 + j in
        let col : k % 9 ≡ j = omega arith in
        threshold_sound s e (place_of z k) (place_of y k)
        (not_less_shows (place_of z k) (place_of y k) (within_shows n z y h k (omega arith) (omega arith))).0
        ((tested (n * 9) (omega arith) b).each k (omega arith) (omega arith))

pub inside_has : (s e : ℕ) → 0 < s → (c : ℕ) → suc c ≤ 9 → (w u : Work) → within (suc c) w.zone u.zone ≡ true →
    Below s e (inside_below (suc c) w.zone u.zone) → (v : ℕ → ℕ) → Has s e c w v → Has s e c u v
inside_has s e s> c n≤ w u h b v = in_above (suc c) (square_of s e w) (square_of s e u) v (inside_values (suc c) w.zone u.zone h s e s> n≤ b)
