-- The valuation before a reset: from a valuation u of the reset of a reduced square, the least of u b + g(x, b) over the indices b that are not
-- reset is a valuation of the square, and its reset is u.
-- Assumes nothing.
use Prim.Native.Nat.{ℕ, zero, suc, ◌+◌, ◌≤◌, ◌<◌, min}
use mathlib.Core.Path.{◌≡◌, refl, sym, ◌∙◌, subst}
use mathlib.Core.Bool.{Bool, true, false, cond}
use mathlib.Core.List.{List}
use mathlib.Core.Logic.{◌⊎◌, inl, inr, ⊎_elim}
use borrow.Author.Tests.{ltb-true, ltb-false}
use lib.Dec.{ltb}
use lib.IntN.{ℤ}
use native.Mathlib.Omega.{arith}
use Rattle.runs.proofs.Contradictions.{true_false}
use Rattle.zones.specs.declared.pair.Pair.{Pair}
use Rattle.zones.specs.Integers.{up, down}
use Rattle.zones.specs.Moves.{Closed}
use Rattle.zones.specs.Sets.{Square, Gap, In, Put}
use Rattle.zones.specs.Zones.{home}
use Rattle.zones.proofs.pairs.Integers.{le_read, eq_read}
use Rattle.zones.proofs.places.Places.{home_stays, home_goes}
use Rattle.zones.proofs.sets.Squares.{Resets, up_to}
use Rattle.witness.specs.Witnesses.{clocks_of, plus_bound, least_to}
use Rattle.witness.proofs.Waiting.{ms_of}

min-one : (x y : ℕ) → (min x y ≡ x) ⊎ (min x y ≡ y)
min-one x y = go (ltb x y) refl
  where
    go : (t : Bool) → ltb x y ≡ t → (min x y ≡ x) ⊎ (min x y ≡ y)
    go true e = let h = ltb-true x y e in inl (omega arith)
    go false e = let h = ltb-false x y e in inr (omega arith)

module _ (c : ℕ) (R : ℕ → Bool) (R0 : R 0 ≡ false) (g : List Pair) (D' : Square) (r : Resets (suc c) R (ms_of g) D') (z : Closed (suc c) (ms_of g))
    (u : List ℕ) (i : In (suc c) D' (clocks_of u)) where
  -- the gaps of u between indices that are not reset
  kept : (a b : ℕ) → a < suc c → b < suc c → R a ≡ false → R b ≡ false → Gap (ms_of g a b) (clocks_of u a) (clocks_of u b)
  kept a b ha hb ea eb =
      subst (λ (m : ℤ). Gap m (clocks_of u a) (clocks_of u b)) (r a b ha hb ∙ (λ k. ms_of g (home_stays R a ea k) (home_stays R b eb k)))
      (i.gaps a b ha hb)

  -- u b + g(x, b), which is not negative
  abbrev way : ℕ → ℕ → ℕ
  way x b = plus_bound (clocks_of u b) (ms_of g x b)

  whole : (x b : ℕ) → x < suc c → b < suc c → R b ≡ false → way x b + down (ms_of g x b) ≡ clocks_of u b + up (ms_of g x b)
  whole x b hx hb e =
      omega (arith, kept 0 b (omega arith) hb R0 e, i.start, z.triangle 0 b x (omega arith) hb hx, le_read (z.low x hx))

  -- the least is above none of them
  least_below : (x k b : ℕ) → b < suc k → R b ≡ false → least_to u g R x k ≤ way x b
  unfolding least_to
  least_below x zero zero hb e = omega (arith, i.start)
  least_below x zero (suc b) hb e = absurd (omega arith)
  least_below x (suc k) b hb e = go (least_below x k) (R (suc k)) refl
    where
      go : ((y : ℕ) → y < suc k → R y ≡ false → least_to u g R x k ≤ way x y) → (t : Bool) → R (suc k) ≡ t →
          cond t (least_to u g R x k) (min (least_to u g R x k) (way x (suc k))) ≤ way x b
      go h true f = up_to (λ y. R y ≡ false → least_to u g R x k ≤ way x y) (suc k) h (λ q. true_false (sym f ∙ q)) b hb e
      go h false f = up_to (λ y. R y ≡ false → min (least_to u g R x k) (way x (suc k)) ≤ way x y) (suc k)
          (λ y hy q. let l = h y hy q in omega arith) (λ q. omega arith) b hb e

  -- and is one of them
  record Taken (x least : ℕ) : Type 0 where
    at : ℕ
    at< : at < suc c
    free : R at ≡ false
    is : least ≡ way x at

  least_taken : (x k : ℕ) → k < suc c → Taken x (least_to u g R x k)
  unfolding least_to
  least_taken x zero hk = record { at = 0; at< = hk; free = R0; is = omega (arith, i.start) }
  least_taken x (suc k) hk = go (least_taken x k (omega arith)) (R (suc k)) refl
    where
      go : Taken x (least_to u g R x k) → (t : Bool) → R (suc k) ≡ t →
          Taken x (cond t (least_to u g R x k) (min (least_to u g R x k) (way x (suc k))))
      go l true f = l
      go l false f =
          ⊎_elim (λ e. record { at = l.at; at< = l.at<; free = l.free; is = e ∙ l.is })
          (λ e. record { at = suc k; at< = hk; free = f; is = e }) (min-one (least_to u g R x k) (way x (suc k)))

  abbrev old : ℕ → ℕ
  old x = least_to u g R x c

  found : (x : ℕ) → Taken x (old x)
  found x = least_taken x c (omega arith)

  old_start : old 0 ≡ 0
  old_start = omega (arith, least_below 0 c 0 (omega arith) R0, i.start, eq_read (z.diagonal 0 (omega arith)))

  pub reset_in : In (suc c) (ms_of g) (λ x. least_to u g R x c)
  reset_in = record { start = old_start; gaps = gaps }
    where
      gaps : (a b : ℕ) → a < suc c → b < suc c → Gap (ms_of g a b) (old a) (old b)
      gaps a b ha hb =
          let w = found b in
          omega (
            arith,
            least_below a c w.at w.at< w.free,
            whole a w.at ha w.at< w.free,
            w.is,
            whole b w.at hb w.at< w.free,
            z.triangle a w.at b ha w.at< hb,
          )

  pub reset_put : Put (suc c) R (λ x. least_to u g R x c) (clocks_of u)
  reset_put a ha = go (R a) refl
    where
      go : (t : Bool) → R a ≡ t → clocks_of u a ≡ old (home R a)
      go true e =
          let d : Gap (ms_of g 0 0) (clocks_of u a) (clocks_of u 0) =
          subst (λ (m : ℤ). Gap m (clocks_of u a) (clocks_of u 0))
          (r a 0 ha (omega arith) ∙ (λ k. ms_of g (home_goes R a e k) (home_stays R 0 R0 k))) (i.gaps a 0 ha (omega arith)) in
          subst (λ (x : ℕ). clocks_of u a ≡ old x) (sym (home_goes R a e))
          (omega (arith, d, i.start, eq_read (z.diagonal 0 (omega arith)), old_start))
      go false e =
          let w = found a in
          subst (λ (x : ℕ). clocks_of u a ≡ old x) (sym (home_stays R a e))
          (omega (
            arith,
            least_below a c a ha e,
            eq_read (z.diagonal a ha),
            w.is,
            whole a w.at ha w.at< w.free,
            kept a w.at ha w.at< e w.free,
          ))
