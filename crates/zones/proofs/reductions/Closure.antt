-- A reduced zone that is not empty satisfies the triangle inequality, in the order of pairs.
-- Assumes nothing.
use Rattle.zones.specs.Reductions.{is_empty}
use Prim.Native.Nat.{ℕ, suc, ◌+◌, ◌<◌, ◌≤◌}
use mathlib.Core.Path.{◌≡◌}
use mathlib.Core.Bool.{false}
use mathlib.Core.Logic.{◌⊎◌, inl, inr}
use lib.IntN.{ℤ, pos, ◌+ℤ◌, nat_abs}
use lib.Signed.{◌≤ℤ◌}
use native.Mathlib.Omega.{arith}
use native.Mathlib.Decide.{ℕ_discrete}
use native.Mathlib.Nat.{not-suc-le-zero}
use Rattle.zones.specs.declared.pair.Pair.{Pair}
use Rattle.zones.specs.declared.zone.Work.{Work}
use Rattle.zones.proofs.pairs.Integers.{int, sum_law, neg_law, abs-within}
use Rattle.zones.specs.Pairs.{sum_of}
use Rattle.zones.specs.Zones.{entry}
use Rattle.zones.specs.Reductions.{round_steps, reduce_steps}
use Rattle.zones.proofs.pairs.Choices.{not_less_shows}
use Rattle.zones.proofs.pairs.Order.{◌≼◌, ≼_trans, lex_read, lex_make, sum_at, sum_p, at_least_0, large, smaller_left, smaller_right}
use Rattle.zones.proofs.pairs.Order.{smaller_or}
use Rattle.zones.proofs.reductions.Rounds.{chosen, row_kept, col_kept, RoundDone}
use Rattle.zones.proofs.reductions.Progress.{Alive, along}

-- ---- after a round each entry is no larger than before, nor than the way through k, and is one of the two
module _ (n k : ℕ) (w s : Work) (r : RoundDone n k n w s) (i j : ℕ) (hi : i < n) (hj : j < n) where
  pub round_left : entry s i j ≼ entry w i j
  unfolding chosen
  round_left = rw (r.done i j hi hj) (smaller_left (entry w i j) (sum_of (entry w i k) (entry w k j)))

  pub round_right : entry s i j ≼ sum_of (entry w i k) (entry w k j)
  unfolding chosen
  round_right = rw (r.done i j hi hj) (smaller_right (entry w i j) (sum_of (entry w i k) (entry w k j)))

  pub round_or : (entry s i j ≡ entry w i j) ⊎ (entry s i j ≡ sum_of (entry w i k) (entry w k j))
  unfolding chosen
  round_or = rw (r.done i j hi hj) (smaller_or (entry w i j) (sum_of (entry w i k) (entry w k j)))

-- ---- four ways to go round
to_middle : (x ik kj ia ak : Pair) → x ≼ sum_of ik kj → ik ≼ sum_of ia ak → x ≼ sum_of ia (sum_of ak kj)
to_middle x ik kj ia ak h g =
    large (x.p + ik.p + kj.p + ia.p + ak.p) λ K big.
    lex_make K (omega (arith, sum_p ia (sum_of ak kj), sum_p ak kj))
    (omega (
      arith,
      sum_at K ik kj,
      sum_at K ia ak,
      sum_at K ak kj,
      sum_at K ia (sum_of ak kj),
      lex_read K (omega arith) h,
      lex_read K (omega arith) g,
    ))

from_middle : (x ik kj ka aj : Pair) → x ≼ sum_of ik kj → kj ≼ sum_of ka aj → x ≼ sum_of (sum_of ik ka) aj
from_middle x ik kj ka aj h g =
    large (x.p + ik.p + kj.p + ka.p + aj.p) λ K big.
    lex_make K (omega (arith, sum_p (sum_of ik ka) aj, sum_p ik ka))
    (omega (
      arith,
      sum_at K ik kj,
      sum_at K ka aj,
      sum_at K ik ka,
      sum_at K (sum_of ik ka) aj,
      lex_read K (omega arith) h,
      lex_read K (omega arith) g,
    ))

twice_middle : (x ik kj ka ak kk : Pair) → x ≼ sum_of ik kj → kk ≼ sum_of ka ak → pos 0 ≤ℤ kk.m → x ≼ sum_of (sum_of ik ka) (sum_of ak kj)
twice_middle x ik kj ka ak kk h g d =
    large (x.p + ik.p + kj.p + ka.p + ak.p + kk.p) λ K big.
    lex_make K (omega (arith, sum_p (sum_of ik ka) (sum_of ak kj), sum_p ik ka, sum_p ak kj))
    (omega (
      arith,
      sum_at K ik kj,
      sum_at K ka ak,
      sum_at K ik ka,
      sum_at K ak kj,
      sum_at K (sum_of ik ka) (sum_of ak kj),
      lex_read K (omega arith) h,
      lex_read K (omega arith) g,
      at_least_0 K kk d,
    ))

-- ---- one round more
unfoldable pub Triangle : ℕ → ℕ → Work → Type 0
Triangle n k w = (a i j : ℕ) → a < k → i < n → j < n → entry w i j ≼ sum_of (entry w i a) (entry w a j)

pub round_triangle : (n k : ℕ) (w s : Work) → k < n → pos 0 ≤ℤ (entry w k k).m → RoundDone n k n w s → Triangle n k w → Triangle n (suc k) s
unfolding Triangle
round_triangle n k w s k< d r h a i j ha hi hj = go (ℕ_discrete a k)
  where
    D : ℕ → ℕ → Pair
    D x y = entry w x y

    right : entry s i j ≼ sum_of (D i k) (D k j)
    right = round_right n k w s r i j hi hj

    below : a < k → (entry s i a ≡ D i a) ⊎ (entry s i a ≡ sum_of (D i k) (D k a)) → (entry s a j ≡ D a j) ⊎ (entry s a j ≡ sum_of (D a k) (D k j)) →
        entry s i j ≼ sum_of (entry s i a) (entry s a j)
    below b (inl e) (inl f) = rw (e, f) (≼_trans (round_left n k w s r i j hi hj) (h a i j b hi hj))
    below b (inl e) (inr f) = rw (e, f) (to_middle _ (D i k) (D k j) (D i a) (D a k) right (h a i k b hi k<))
    below b (inr e) (inl f) = rw (e, f) (from_middle _ (D i k) (D k j) (D k a) (D a j) right (h a k j b k< hj))
    below b (inr e) (inr f) = rw (e, f) (twice_middle _ (D i k) (D k j) (D k a) (D a k) (D k k) right (h a k k b k< k<) d)

    go : Dec (a ≡ k) → entry s i j ≼ sum_of (entry s i a) (entry s a j)
    go (yes q) = rw (q, r.done i k hi k<, r.done k j k< hj, col_kept w k d i, row_kept w k d j) right
    go (no q) = below (omega arith) (round_or n k w s r i a hi (omega arith)) (round_or n k w s r a j (omega arith) hj)

-- ---- the whole reduction
pub reduce_triangle : (n : ℕ) (w : Work) → n ≤ 9 → Alive n w → (k : ℕ) → k ≤ n → is_empty (reduce_steps n k w) ≡ false →
    Triangle n k (reduce_steps n k w).work
unfolding Triangle
reduce_triangle n w h s k g e =
    (along n w h s (λ k v. Triangle n k v) (λ a i j ha hi hj. absurd (not-suc-le-zero ha))
    (λ k v k< a b d q. round_triangle n k v (round_steps n k n v) k< (a.diagonal k k<) d q) k g e).1

-- ---- the size of a reduced zone: the bounds above (a, 0) and (0, b) bound every entry both ways
le_m : (a b c : Pair) → a ≼ sum_of b c → a.m ≤ℤ (b.m +ℤ c.m)
unfolding sum_of
le_m a b c h = (not_less_shows a (sum_of b c) h.kept).0

pub reduced_size : (n M : ℕ) (w : Work) → 0 < n → Triangle n n w → ((a : ℕ) → a < n → pos 0 ≤ℤ (entry w a a).m) →
    ((a : ℕ) → a < n → (entry w a 0).m ≤ℤ pos M) → ((b : ℕ) → b < n → (entry w 0 b).m ≤ℤ pos 0) → (i j : ℕ) → i < n → j < n →
    nat_abs (entry w i j).m ≤ M
unfolding Triangle
reduced_size n M w z t d f g i j hi hj =
    let D : ℕ → ℕ → ℤ = λ a b. (entry w a b).m in
    let up_to : (a b : ℕ) → a < n → b < n → D a b ≤ℤ pos M = λ a b ha hb.
    let l = le_m _ (entry w a 0) (entry w 0 b) (t 0 a b z ha hb) in let u = f a ha in let v = g b hb in
    omega (arith, int, sum_law (D a 0) (D 0 b)) in
    let l = le_m _ (entry w i j) (entry w j i) (t j i i hj hi hi) in let u = up_to j i hj hi in let v = d i hi in
    abs-within (D i j) M (up_to i j hi hj) (omega (arith, int, sum_law (D i j) (D j i), neg_law (pos M)))
