-- After column 0 of a settled zone was raised, its reduction changes column 0 alone, and the zone is not empty.
-- Assumes nothing.
use Rattle.std.specs.Prelude.{None}
use Prim.Native.Nat.{ℕ, zero, suc, ◌+◌, ◌<◌, ◌≤◌}
use mathlib.Core.Path.{◌≡◌, refl, sym, ap, ◌∙◌, subst}
use mathlib.Core.Bool.{false}
use mathlib.Core.Logic.{⊎_elim}
use lib.IntN.{pos}
use lib.Signed.{◌≤ℤ◌}
use native.Mathlib.Numerals.{add-one}
use native.Mathlib.Omega.{arith}
use native.Mathlib.Decide.{ℕ_discrete}
use Rattle.zones.specs.declared.pair.Pair.{Pair}
use Rattle.zones.specs.declared.zone.Work.{Work}
use Rattle.zones.proofs.pairs.Integers.{int, eq_read, sum_law}
use Rattle.zones.specs.Pairs.{sum_of, is_less}
use Rattle.zones.specs.Zones.{entry, lower_at}
use Rattle.zones.specs.Reductions.{relaxed, row_steps, round_steps, non_empty, reduce_steps}
use Rattle.zones.specs.Values.{value_of, Below}
use Rattle.zones.specs.Settled.{Settled, Raised}
use Rattle.zones.proofs.sets.Lowering.{lower_limits}
use Rattle.zones.proofs.pairs.Order.{◌≼◌, ≼_refl, ≼_trans, ≼-sum, smaller_or}
use Rattle.zones.proofs.places.Places.{lower_size, lower_at_lem, lower_off}
use Rattle.zones.proofs.reductions.Progress.{seen_in, seen_all, after_round}
use Rattle.zones.proofs.reductions.Rounds.{col_still}
use Rattle.zones.proofs.settled.Settled.{way_at_most, relaxed-follows}
use Rattle.zones.proofs.fractions.Thresholds.{value_sum}

module _ (n : ℕ) (n≤ : n ≤ 9) (w : Work) (h : Settled n w) where
  module _ (v : Work) (r : Raised n w v) where
    -- no entry is below the settled one
    over : (a b : ℕ) → a < n → b < n → entry w a b ≼ entry v a b
    over a zero ha hb = record { kept = r.above a ha }
    over a (suc b) ha hb = subst (λ (x : Pair). entry w a (suc b) ≼ x) (sym (r.same a (suc b) ha hb (omega arith))) (≼_refl (entry w a (suc b)))

    module _ (s e : ℕ) (s> : 0 < s) (t : Below s e v.fraction) where
      above : (a b : ℕ) → a < n → b < n → value_of s e (entry w a b) ≤ℤ value_of s e (entry v a b)
      above a zero ha hb = r.values s e s> t a ha
      above a (suc b) ha hb =
          subst (λ (x : Pair). value_of s e (entry w a (suc b)) ≤ℤ value_of s e x) (sym (r.same a (suc b) ha hb (omega arith))) (omega (arith, int))

      -- nor a way
      way_above : (k i j : ℕ) → k < n → i < n → j < n → value_of s e (entry w i j) ≤ℤ value_of s e (sum_of (entry v i k) (entry v k j))
      way_above k i j hk hi hj =
          let x = way_at_most s e (entry w i j) (entry w i k) (entry w k j) (h.values s e s> (r.before s e s> t) k i j hk hi hj) in
          let a = above i k hi hk in
          let b = above k j hk hj in
          omega (
            arith,
            int,
            eq_read (value_sum s e (entry w i k) (entry w k j)),
            eq_read (value_sum s e (entry v i k) (entry v k j)),
            sum_law (value_of s e (entry w i k)) (value_of s e (entry w k j)),
            sum_law (value_of s e (entry v i k)) (value_of s e (entry v k j)),
          )

    way_over : (k i j : ℕ) → k < n → i < n → j < n → entry w i j ≼ sum_of (entry v i k) (entry v k j)
    way_over k i j hk hi hj = ≼_trans (record { kept = h.pairs k i j hk hi hj }) (≼-sum (over i k hi hk) (over k j hk hj))

    -- an entry that was not raised stays
    stays : (k i j : ℕ) → k < n → i < n → j < n → entry v i j ≡ entry w i j → relaxed k i j v ≡ v
    stays k i j hk hi hj e =
        relaxed-follows v k i j (subst (λ (x : Pair). is_less (sum_of (entry v i k) (entry v k j)) x ≡ false) (sym e) (way_over k i j hk hi hj).kept)
        (λ s f s> t. subst (λ (x : Pair). value_of s f x ≤ℤ value_of s f (sum_of (entry v i k) (entry v k j))) (sym e)
        (way_above s f s> t k i j hk hi hj))

    -- one in column 0 stays at or above the settled one
    pub column_step : (k i : ℕ) → k < n → i < n → Raised n w (relaxed k i 0 v)
    unfolding relaxed
    column_step k i hk hi = record {
      size = lower_size v i 0 q r.size;
      same = λ a b ha hb pb. lower_off v i 0 q r.size a b (omega arith) (omega arith) (λ x y. omega arith) ∙ r.same a b ha hb pb;
      zero = at_zero (ℕ_discrete i 0);
      above = λ a ha. place (λ x p. is_less p (entry w x 0) ≡ false) a (r.above a ha) (way_over k i 0 hk hi (omega arith)).kept (ℕ_discrete a i);
      before = λ s e s> t. r.before s e s> (lower_limits s e s> v i 0 q t).0;
      values = λ s e s> t a ha.
          let u = (lower_limits s e s> v i 0 q t).0 in
          place (λ x p. value_of s e (entry w x 0) ≤ℤ value_of s e p) a (r.values s e s> u a ha)
          (way_above s e s> u k i 0 hk hi (omega arith)) (ℕ_discrete a i);
    }
      where
        q : Pair
        q = sum_of (entry v i k) (entry v k 0)

        place : (P : ℕ → Pair → Type 0) (a : ℕ) → P a (entry v a 0) → P i (sum_of (entry v i k) (entry v k 0)) → Dec (a ≡ i) →
            P a (entry (lower_at i 0 (sum_of (entry v i k) (entry v k 0)) v) a 0)
        place P a x y (yes z) =
            subst (λ (c : ℕ). P c (entry (lower_at i 0 q v) c 0)) (sym z) (subst (P i) (sym (lower_at_lem v i 0 q r.size (omega arith) (omega arith)))
            (⊎_elim (λ f. subst (P i) (sym f) (subst (λ (c : ℕ). P c (entry v c 0)) z x)) (λ f. subst (P i) (sym f) y) (smaller_or (entry v i 0) q)))
        place P a x y (no z) = subst (P a) (sym (lower_off v i 0 q r.size a 0 (omega arith) (omega arith) (λ f g. z f))) x

        at_zero : Dec (i ≡ 0) → entry (lower_at i 0 (sum_of (entry v i k) (entry v k 0)) v) 0 0 ≡ entry w 0 0
        at_zero (yes z) =
            let e : entry v i 0 ≡ entry w i 0 = subst (λ (c : ℕ). entry v c 0 ≡ entry w c 0) (sym z) r.zero in
            ap (λ (u : Work). entry u 0 0) (stays k i 0 hk hi (omega arith) e) ∙ r.zero
        at_zero (no z) = lower_off v i 0 q r.size 0 0 (omega arith) (omega arith) (λ f g. z (sym f)) ∙ r.zero

    -- no diagonal entry is below 0
    pub column_diagonal : (a : ℕ) → a < n → pos 0 ≤ℤ (entry v a a).m
    column_diagonal a ha = omega (arith, int, ap (λ (q : Pair). q.m) (back a ha ∙ h.diagonal a ha))
      where
        back : (a : ℕ) → a < n → entry v a a ≡ entry w a a
        back zero ha = r.zero
        back (suc a) ha = r.same (suc a) (suc a) ha ha (omega arith)

  -- ---- a whole row is its comparison in column 0
  column_row : (v : Work) → Raised n w v → (k i : ℕ) → k < n → i < n → (j : ℕ) → j < n → row_steps k i (suc j) v ≡ relaxed k i 0 v
  unfolding row_steps
  column_row v r k i hk hi zero hj = refl
  column_row v r k i hk hi (suc j) hj =
      let u = relaxed k i 0 v in
      let o = column_step v r k i hk hi in
      ap (relaxed k i (suc j)) (column_row v r k i hk hi j (omega arith)) ∙ stays u o k i (suc j) hk hi hj (o.same i (suc j) hi hj (omega arith))

  whole_row : (v : Work) → Raised n w v → (k i : ℕ) → k < n → i < n → row_steps k i n v ≡ relaxed k i 0 v
  whole_row v r k i hk hi = go n refl
    where
      go : (m : ℕ) → m ≡ n → row_steps k i m v ≡ relaxed k i 0 v
      go zero e = let z : ⊥ = omega arith in absurd z
      go (suc j) e = column_row v r k i hk hi j (omega arith)

  -- ---- middle index 0 changes nothing, and no middle index changes row 0
  zero_round : (v : Work) → Raised n w v → 0 < n → (i : ℕ) → i ≤ n → round_steps n 0 i v ≡ v
  unfolding round_steps
  zero_round v r p zero hi = refl
  zero_round v r p (suc i) hi =
      ap (row_steps 0 i n) (zero_round v r p i (omega arith)) ∙ whole_row v r 0 i p hi ∙ col_still v 0 (column_diagonal v r 0 p) i

  pub zero_row : (v : Work) → Raised n w v → (k : ℕ) → k < n → v ≡ round_steps n k 1 v
  unfolding round_steps
  zero_row v r k hk = sym (whole_row v r k 0 hk (omega arith) ∙ stays v r k 0 0 hk (omega arith) (omega arith) r.zero)

  -- ---- as the code counts
  pub column_first : (v : Work) → Raised n w v → 0 < n → reduce_steps n 1 v ≡ non_empty v
  unfolding reduce_steps
  column_first v r p = after_round n 0 v (sym (zero_round v r p n (omega arith))) (sym (seen_all n v (column_diagonal v r)))

  pub column_next : (v u : Work) → Raised n w u → (k i : ℕ) → k < n → i < n → u ≡ round_steps n k i v → relaxed k i 0 u ≡ round_steps n k (i + 1) v
  unfolding round_steps
  column_next v u r k i hk hi e = rw add-one (sym (whole_row u r k i hk hi) ∙ ap (row_steps k i n) e)

  pub column_live : (v : Work) → Raised n w v → None ≡ seen_in n v
  column_live v r = sym (seen_all n v (column_diagonal v r))
