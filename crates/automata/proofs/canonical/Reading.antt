-- Two automata whose bytes agree on a stretch have the same numbers and limits there.
-- Assumes nothing.
use Prim.Native.Nat.{ℕ, ◌+◌, ◌-◌, ◌*◌, ◌<◌, ◌≤◌}
use mathlib.Core.List.{List}
use mathlib.Core.Path.{◌≡◌, sym, ap, ◌∙◌, subst}
use lib.Dec.{eqb}
use lib.ListN.{get_or}
use native.Mathlib.Omega.{arith}
use Rattle.encoding.specs.Numbers.{be32_at}
use Rattle.encoding.proofs.Numbers.{be32_same}
use Rattle.runs.specs.Limits.{Within}
use Rattle.automata.specs.Automata.{lo_at, hi_at, no_upper, limits_at}
use Rattle.automata.proofs.canonical.Alike.{Agree}

module _ {b c : List ℕ} {p q size : ℕ} (A : Agree b c p q size) where
  pub byte_same : (k i j : ℕ) → p + k ≡ i → q + k ≡ j → k < size → get_or b i 0 ≡ get_or c j 0
  byte_same k i j e g h = ap (λ (m : ℕ). get_or b m 0) (sym e) ∙ A.byte k h ∙ ap (λ (m : ℕ). get_or c m 0) g

  number_same : (k i j : ℕ) → p + k ≡ i → q + k ≡ j → k + 4 ≤ size → be32_at b i ≡ be32_at c j
  number_same k i j e g h = be32_same b c i j (λ m l. byte_same (k + m) (i + m) (j + m) (omega arith) (omega arith) (omega arith))

  -- the limits of n clocks
  module _ (o i j n : ℕ) (e : p + o ≡ i) (g : q + o ≡ j) (h : o + 8 * n ≤ size) where
    pub lo_same : (x : ℕ) → 0 < x → x ≤ n → lo_at b i x ≡ lo_at c j x
    lo_same x l m = number_same (o + 8 * (x - 1)) (i + 8 * (x - 1)) (j + 8 * (x - 1)) (omega arith) (omega arith) (omega arith)

    pub hi_same : (x : ℕ) → 0 < x → x ≤ n → hi_at b i x ≡ hi_at c j x
    hi_same x l m = number_same (o + 8 * (x - 1) + 4) (i + 8 * (x - 1) + 4) (j + 8 * (x - 1) + 4) (omega arith) (omega arith) (omega arith)

    pub within_same : (s t : ℕ) (v : ℕ → ℕ) → Within s t n (limits_at b i) v → Within s t n (limits_at c j) v
    unfolding limits_at
    within_same s t v w x l m =
        let d = lo_same x l (omega arith) in
        let f = hi_same x l (omega arith) in
        record {
          least = subst (λ (y : ℕ). y * s ≤ v x + t) d (w x l m).least;
          most = λ u. subst (λ (y : ℕ). v x ≤ y * s + t) f ((w x l m).most (ap (λ (y : ℕ). eqb y no_upper) f ∙ u));
        }
