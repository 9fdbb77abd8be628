-- The diagonal: an entry is (0, 0), or it has m below 0 and, below the running fraction, a value below 0; and what the safe fraction is lowered by.
-- Assumes nothing.
use Prim.Native.Nat.{ℕ, zero, suc, ◌<◌, ◌≤◌}
use mathlib.Core.Path.{◌≡◌, refl, ap, subst}
use mathlib.Core.Bool.{Bool, true, false, cond}
use mathlib.Core.Logic.{◌⊎◌, inl, inr, ⊎_elim}
use native.Mathlib.Decide.{ℕ_discrete}
use native.Mathlib.Nat.{not-suc-le-zero}
use lib.ListN.{length}
use lib.IntN.{pos}
use lib.Signed.{◌≤ℤ◌, ◌<ℤ◌, lt_z}
use native.Mathlib.Omega.{arith}
use Rattle.zones.specs.declared.fraction.Fraction.{Fraction}
use Rattle.zones.specs.declared.pair.Pair.{Pair}
use Rattle.zones.specs.declared.zone.Work.{Work}
use Rattle.zones.specs.Integers.{up, down}
use Rattle.zones.proofs.pairs.Integers.{int, le_read, lt_read, eq_read, lt_z_true, lt_z_false}
use Rattle.zones.specs.Fractions.{lowered_by}
use Rattle.zones.specs.Pairs.{zero_pair, is_less, threshold_of, smaller_of}
use Rattle.zones.specs.Reductions.{empty_below}
use Rattle.zones.specs.Zones.{entry, lower_at}
use Rattle.zones.specs.Values.{value_of, Below}
use Rattle.zones.specs.Sets.{In, square_of}
use Rattle.zones.proofs.pairs.Choices.{less_shows, smaller_cases}
use Rattle.zones.proofs.sets.Lowering.{lower_limits}
use Rattle.zones.proofs.places.Places.{lower_place}
use Rattle.zones.proofs.fractions.Thresholds.{zero_value, threshold_n, threshold_strict, threshold_back, smaller_sound}
use Rattle.zones.proofs.fractions.Thresholds.{lowered_n, lowered_sound, lowered_below}

-- what is smaller than (0, 0) has m below 0
less_zero : (q : Pair) → is_less q zero_pair ≡ true → q.m <ℤ pos 0
less_zero q e = (less_shows q zero_pair e).1 (omega arith)

-- the threshold of a pair with m below 0 against (0, 0) is not 0
beside_zero : (q : Pair) → q.m <ℤ pos 0 → 0 < (threshold_of q zero_pair).n
beside_zero q m = threshold_n q zero_pair (λ l. m)

pub safe_n : (n : ℕ) (w : Work) → 0 < (empty_below n w).n
unfolding empty_below
safe_n zero w = omega arith
safe_n (suc n) w = go (safe_n n w) (lt_z (entry w n n).m (pos 0)) refl
  where
    go : 0 < (empty_below n w).n → (b : Bool) → lt_z (entry w n n).m (pos 0) ≡ b →
        0 < (cond b (lowered_by (empty_below n w) (threshold_of (entry w n n) zero_pair)) (empty_below n w)).n
    go k true f = lowered_n (empty_below n w) (threshold_of (entry w n n) zero_pair) k (beside_zero (entry w n n) (lt_z_true _ _ f))
    go k false f = k

new_threshold : (d q : Pair) → is_less q d ≡ true → (smaller_of d q).threshold ≡ threshold_of q d
unfolding smaller_of
new_threshold d q e = rw e

module _ (s e : ℕ) (s> : 0 < s) where
  pub record Negative (f : Fraction) (q : Pair) : Type 0 where
    pub m : q.m <ℤ pos 0
    pub value : Below s e f → value_of s e q <ℤ pos 0

  abbrev pub Sign : Fraction → Pair → Type 0
  Sign f q = (q ≡ zero_pair) ⊎ Negative f q

  abbrev pub Signs : ℕ → Work → Type 0
  Signs n w = (a : ℕ) → a < n → Sign w.fraction (entry w a a)

  -- one comparison; f' is the running fraction after it
  sign_next : (f f' : Fraction) (d q : Pair) → (Below s e f' → Below s e f × Below s e (smaller_of d q).threshold) → Sign f d →
      Sign f' (smaller_of d q).pair
  sign_next f f' d q b (inl z) = smaller_cases d q (λ c. Sign f' c.pair) (λ h. inr (new h)) (λ h. inl z)
    where
      new : is_less q d ≡ true → Negative f' q
      new h =
          let m = less_zero q (subst (λ (x : Pair). is_less q x ≡ true) z h) in
          record {
            m = m;
            value = λ t.
                let k =
                threshold_strict s e s> q zero_pair m
                (subst (λ (x : Pair). Below s e (threshold_of q x)) z (subst (Below s e) (new_threshold d q h) (b t).1)) in
                let o = zero_value s e in
                omega (arith, int);
          }
  sign_next f f' d q b (inr g) = inr (record {
    m = smaller_cases d q (λ c. c.pair.m <ℤ pos 0) (λ h. let k = (less_shows q d h).0 in let l = g.m in omega (arith, int)) (λ h. g.m);
    value = λ t. let x = (smaller_sound s e d q (b t).1).0 in let y = g.value (b t).0 in omega (arith, int);
  })

  pub lower_signs : (n : ℕ) → n ≤ 9 → (w : Work) (i j : ℕ) (q : Pair) → length w.zone ≡ 81 → i < n → j < n → Signs n w → Signs n (lower_at i j q w)
  lower_signs n n≤ w i j q size i< j< h a ha =
      lower_place w i j q size (omega arith) (omega arith) (λ a b p. a ≡ b → Sign (lower_at i j q w).fraction p)
      (λ g. sign_next w.fraction (lower_at i j q w).fraction (entry w i j) q (lower_limits s e s> w i j q)
      (subst (λ (x : ℕ). Sign w.fraction (entry w i x)) g (h i i<)))
      a a (omega arith) (λ g. ⊎_elim inl (λ k. inr (record { m = k.m; value = λ t. k.value (lower_limits s e s> w i j q t).0 })) (h a ha)) refl

  -- ---- what the safe fraction is lowered by
  -- each threshold against (0, 0) is one of them
  below_each : (n : ℕ) (w : Work) → Below s e (empty_below n w) → (a : ℕ) → a < n → (entry w a a).m <ℤ pos 0 →
      Below s e (threshold_of (entry w a a) zero_pair)
  unfolding empty_below
  below_each zero w t a ha m = absurd (not-suc-le-zero ha)
  below_each (suc n) w t a ha m = go (below_each n w) (lt_z (entry w n n).m (pos 0)) refl t (ℕ_discrete a n)
    where
      go : (Below s e (empty_below n w) → (a : ℕ) → a < n → (entry w a a).m <ℤ pos 0 → Below s e (threshold_of (entry w a a) zero_pair)) →
          (b : Bool) → lt_z (entry w n n).m (pos 0) ≡ b →
          Below s e (cond b (lowered_by (empty_below n w) (threshold_of (entry w n n) zero_pair)) (empty_below n w)) → Dec (a ≡ n) →
          Below s e (threshold_of (entry w a a) zero_pair)
      go ih true f t d =
          let l = lowered_sound s e (empty_below n w) (threshold_of (entry w n n) zero_pair) s> (beside_zero (entry w n n) (lt_z_true _ _ f)) t in
          elim d [ yes q ↦ rw q l.1 | no q ↦ ih l.0 a (omega arith) m ]
      go ih false f t (yes q) = let z = lt_z_false (entry w n n).m (pos 0) f in let k = subst (λ (x : ℕ). (entry w x x).m <ℤ pos 0) q m in
          absurd (omega (arith, le_read z, lt_read k))
      go ih false f t (no q) = ih t a (omega arith) m

  -- a zone with a diagonal pair below 0 has no valuation below them
  pub negative_none : (n : ℕ) (w : Work) (a : ℕ) → a < n → (entry w a a).m <ℤ pos 0 → Below s e (empty_below n w) → (v : ℕ → ℕ) →
      In n (square_of s e w) v → ⊥
  negative_none n w a ha m t v i =
      let k = threshold_strict s e s> (entry w a a) zero_pair m (below_each n w t a ha m) in
      omega (arith, lt_read k, eq_read (zero_value s e), i.gaps a a ha ha)

  -- and what is below the running fraction is below them: the comparison that made a diagonal pair lowered it by as much
  pub signs_below : (n m : ℕ) (w : Work) → m ≤ n → Signs n w → Below s e w.fraction → Below s e (empty_below m w)
  unfolding empty_below
  signs_below n zero w hm h t = omega (arith, s>)
  signs_below n (suc m) w hm h t = go (signs_below n m w (omega arith) h t) (lt_z (entry w m m).m (pos 0)) refl (h m hm)
    where
      go : Below s e (empty_below m w) → (b : Bool) → lt_z (entry w m m).m (pos 0) ≡ b → Sign w.fraction (entry w m m) →
          Below s e (cond b (lowered_by (empty_below m w) (threshold_of (entry w m m) zero_pair)) (empty_below m w))
      go k false f d = k
      go k true f (inl z) =
          let l = lt_z_true (entry w m m).m (pos 0) f in
          absurd (omega (arith, lt_read l, ap (λ (q : Pair). up q.m) z, ap (λ (q : Pair). down q.m) z))
      go k true f (inr d) = lowered_below s e (empty_below m w) (threshold_of (entry w m m) zero_pair) k
          (let a = d.m in let b = d.value t in let o = zero_value s e in
          threshold_back s e s> (entry w m m) zero_pair (omega (arith, int)) (omega (arith, int)))

  -- a diagonal entry whose m is not below 0 is (0, 0)
  pub sign_zero : (f : Fraction) (q : Pair) → Sign f q → pos 0 ≤ℤ q.m → q ≡ zero_pair
  sign_zero f q (inl z) h = z
  sign_zero f q (inr k) h = let z : ⊥ = omega (arith, lt_read k.m, le_read h) in absurd z
