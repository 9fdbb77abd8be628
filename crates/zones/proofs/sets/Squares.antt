-- Squares of integers as sets of valuations. The two inclusions stand apart: the one out of the square needs it reduced, the one into it does not.
-- Assumes nothing.
use Prim.Native.Nat.{ℕ, zero, suc, ◌+◌, ◌-◌, ◌≤◌, ◌<◌}
use mathlib.Core.Path.{◌≡◌, refl, sym, ap, ◌∙◌, subst}
use mathlib.Core.Bool.{Bool, true, false, not}
use mathlib.Core.Logic.{◌⊎◌, inl, inr, ⊎_elim}
use native.Mathlib.Omega.{arith}
use native.Mathlib.Decide.{ℕ_discrete}
use native.Mathlib.Nat.{not-suc-le-zero}
use lib.IntN.{ℤ, pos, ◌+ℤ◌, ◌-ℤ◌}
use lib.Signed.{◌≤ℤ◌, ◌<ℤ◌}
use Rattle.zones.specs.Integers.{up, down}
use Rattle.zones.proofs.pairs.Integers.{int, le_read, eq_read, sum_law, minus_law, one_side, lt_or_le}
use Rattle.zones.specs.Zones.{home}
use Rattle.zones.specs.Sets.{Square, Gap, In, Put, Waits}
use Rattle.zones.specs.Moves.{Way, Closed}
use Rattle.runs.proofs.Contradictions.{true_false}
use Rattle.zones.proofs.places.Places.{home_stays, home_goes, home_below}

-- D' is D after a reset of R
abbrev pub Resets : ℕ → (ℕ → Bool) → Square → Square → Type 0
Resets n R D D' = (a b : ℕ) → a < n → b < n → D' a b ≡ D (home R a) (home R b)

-- D' is D with each (x, 0) put to h x
pub record Raises (n : ℕ) (h : ℕ → ℤ) (D D' : Square) : Type 0 where
  pub column : (x : ℕ) → 0 < x → x < n → D' x 0 ≡ h x
  pub rest : (a b : ℕ) → a < n → b < n → (0 < a → 0 < b) → D' a b ≡ D a b

abbrev pub Under : ℕ → (ℕ → ℤ) → (ℕ → ℕ) → Type 0
Under n h v = (x : ℕ) → 0 < x → x < n → pos (v x) ≤ℤ h x

-- ---- Gap and Way are the orders of integers
pub gap_make : (z : ℤ) (x y : ℕ) → (pos x -ℤ pos y) ≤ℤ z → Gap z x y
gap_make z x y h = omega (arith, le_read h, minus_law (pos x) (pos y))

pub gap_read : (z : ℤ) (x y : ℕ) → Gap z x y → (pos x -ℤ pos y) ≤ℤ z
gap_read z x y h = omega (arith, int, minus_law (pos x) (pos y))

pub way_make : (x y z : ℤ) → x ≤ℤ (y +ℤ z) → Way x y z
way_make x y z h = omega (arith, le_read h, sum_law y z)

pub way_read : (x y z : ℤ) → Way x y z → x ≤ℤ (y +ℤ z)
way_read x y z h = omega (arith, int, sum_law y z)

-- only the indices below n count, and a valuation stays where each entry is no smaller
pub in_same : (n : ℕ) (D : Square) (u v : ℕ → ℕ) → 0 < n → ((a : ℕ) → a < n → v a ≡ u a) → In n D u → In n D v
in_same n D u v z e h = record {
  start = omega (arith, e 0 z, h.start);
  gaps = λ a b ha hb. omega (arith, e a ha, e b hb, h.gaps a b ha hb);
}

pub in_above : (n : ℕ) (D E : Square) (v : ℕ → ℕ) → ((a b : ℕ) → a < n → b < n → D a b ≤ℤ E a b) → In n D v → In n E v
in_above n D E v e h = record {
  start = h.start;
  gaps = λ a b ha hb. omega (arith, le_read (e a b ha hb), h.gaps a b ha hb);
}

-- ---- the least of an integer function over the indices below n that pass a test which 0 passes, with an index where it is taken
pub record Least (n : ℕ) (t : ℕ → Bool) (f : ℕ → ℤ) : Type 0 where
  pub at : ℕ
  pub at< : at < n
  pub passes : t at ≡ true
  pub least : (b : ℕ) → b < n → t b ≡ true → f at ≤ℤ f b

-- what holds below n and at n holds below n + 1
pub up_to : (P : ℕ → Type 0) (n : ℕ) → ((b : ℕ) → b < n → P b) → P n → (b : ℕ) → b < suc n → P b
up_to P n f p b h = go (ℕ_discrete b n)
  where
    go : Dec (b ≡ n) → P b
    go (yes e) = subst P (sym e) p
    go (no e) = f b (omega arith)

module _ (t : ℕ → Bool) (f : ℕ → ℤ) where
  same : (n : ℕ) (l : Least n t f) → (t n ≡ true → f l.at ≤ℤ f n) → Least (suc n) t f
  same n l h = record {
    at = l.at;
    at< = omega (arith, l.at<);
    passes = l.passes;
    least = up_to (λ b. t b ≡ true → f l.at ≤ℤ f b) n l.least h;
  }

  last : (n : ℕ) (l : Least n t f) → t n ≡ true → f n ≤ℤ f l.at → Least (suc n) t f
  last n l e h = record {
    at = n;
    at< = omega arith;
    passes = e;
    least = up_to (λ b. t b ≡ true → f n ≤ℤ f b) n (λ b hb q. let k = l.least b hb q in omega (arith, int)) (λ q. omega (arith, int));
  }

  next : (n : ℕ) → Least n t f → (c : Bool) → t n ≡ c → Least (suc n) t f
  next n l false e = same n l (λ q. true_false (sym q ∙ e))
  next n l true e = go (lt_or_le (f n) (f l.at))
    where
      go : (f n <ℤ f l.at) ⊎ (f l.at ≤ℤ f n) → Least (suc n) t f
      go (inl h) = last n l e (omega (arith, int))
      go (inr h) = same n l (λ q. h)

  pub least_of : t 0 ≡ true → (n : ℕ) → 0 < n → Least n t f
  least_of z zero h = absurd (not-suc-le-zero h)
  least_of z (suc zero) h =
      record {
        at = 0;
        at< = omega arith;
        passes = z;
        least = up_to (λ b. t b ≡ true → f 0 ≤ℤ f b) 0 (λ b hb. absurd (not-suc-le-zero hb)) (λ q. omega (arith, int));
      }
  least_of z (suc (suc n)) h = next (suc n) (least_of z (suc n) (omega arith)) (t (suc n)) refl

-- ---- one round of a reduction: closure through the indices below k becomes closure through those up to k
-- each entry of D' is the smaller of D's and the way through k
pub record Round (n k : ℕ) (D D' : Square) : Type 0 where
  pub left : (a b : ℕ) → a < n → b < n → D' a b ≤ℤ D a b
  pub right : (a b : ℕ) → a < n → b < n → D' a b ≤ℤ (D a k +ℤ D k b)
  pub one : (a b : ℕ) → a < n → b < n → (D' a b ≡ D a b) ⊎ (D' a b ≡ D a k +ℤ D k b)

abbrev pub Through : ℕ → ℕ → Square → Type 0
Through n k D = (a : ℕ) → a < k → (i j : ℕ) → i < n → j < n → Way (D i j) (D i a) (D a j)

pub round_through : (n k : ℕ) (D D' : Square) → k < n → pos 0 ≤ℤ D k k → Round n k D D' → Through n k D → Through n (suc k) D'
round_through n k D D' k< d r t =
    up_to (λ a. (i j : ℕ) → i < n → j < n → Way (D' i j) (D' i a) (D' a j)) k
    (λ a ha i j hi hj. old a ha i j hi hj (r.one i a hi (omega arith)) (r.one a j (omega arith) hj)) new
  where
    right : (i j : ℕ) → i < n → j < n → Way (D' i j) (D i k) (D k j)
    right i j hi hj = omega (arith, le_read (r.right i j hi hj), sum_law (D i k) (D k j))

    old : (a : ℕ) → a < k → (i j : ℕ) → i < n → j < n → (D' i a ≡ D i a) ⊎ (D' i a ≡ D i k +ℤ D k a) → (D' a j ≡ D a j) ⊎ (D' a j ≡ D a k +ℤ D k j) →
        Way (D' i j) (D' i a) (D' a j)
    old a ha i j hi hj (inl e) (inl f) = omega (arith, eq_read e, eq_read f, le_read (r.left i j hi hj), t a ha i j hi hj)
    old a ha i j hi hj (inl e) (inr f) = omega (arith, eq_read e, eq_read f, sum_law (D a k) (D k j), right i j hi hj, t a ha i k hi k<)
    old a ha i j hi hj (inr e) (inl f) = omega (arith, eq_read e, eq_read f, sum_law (D i k) (D k a), right i j hi hj, t a ha k j k< hj)
    old a ha i j hi hj (inr e) (inr f) =
        omega (arith, eq_read e, eq_read f, sum_law (D i k) (D k a), sum_law (D a k) (D k j), right i j hi hj, t a ha k k k< k<, le_read d)

    column : (i : ℕ) → i < n → D i k ≤ℤ D' i k
    column i hi = ⊎_elim (λ e. omega (arith, int)) (λ e. omega (arith, int, sum_law (D i k) (D k k))) (r.one i k hi k<)

    row : (j : ℕ) → j < n → D k j ≤ℤ D' k j
    row j hj = ⊎_elim (λ e. omega (arith, int)) (λ e. omega (arith, int, sum_law (D k k) (D k j))) (r.one k j k< hj)

    new : (i j : ℕ) → i < n → j < n → Way (D' i j) (D' i k) (D' k j)
    new i j hi hj = omega (arith, right i j hi hj, le_read (column i hi), le_read (row j hj))

-- an integer that is at least 0 has nothing below
nothing_below : (z : ℤ) → down z ≤ up z → down z ≡ 0
nothing_below z h = ⊎_elim (λ e. omega arith) (λ e. e) (one_side z)

-- ---- a point
pub point : (n : ℕ) (D : Square) → 0 < n → Closed n D → In n D (λ a. down (D 0 a) - up (D 0 a))
point n D z c = record {
  start = omega (arith, eq_read (c.diagonal 0 z));
  gaps = λ a b ha hb. omega (arith, c.triangle 0 b a z hb ha, le_read (c.low a ha), le_read (c.low b hb));
}

-- ---- reset
module _ (n : ℕ) (R : ℕ → Bool) (n> : 0 < n) (R0 : R 0 ≡ false) (D D' : Square) (r : Resets n R D D') where
  pub reset_into : (v v' : ℕ → ℕ) → In n D v → Put n R v v' → In n D' v'
  reset_into v v' h p = record {
    start = p 0 n> ∙ ap v (home_stays R 0 R0) ∙ h.start;
    gaps = λ a b ha hb.
        subst (λ (z : ℤ). Gap z (v' a) (v' b)) (sym (r a b ha hb))
        (omega (arith, p a ha, p b hb, h.gaps (home R a) (home R b) (home_below R n a ha) (home_below R n b hb)));
  }

  pub reset_closed : Closed n D → Closed n D'
  reset_closed c = record {
    diagonal = λ a ha. r a a ha ha ∙ c.diagonal (home R a) (home_below R n a ha);
    triangle = λ a b k ha hb hk.
        omega (
          arith,
          eq_read (r a b ha hb),
          eq_read (r a k ha hk),
          eq_read (r k b hk hb),
          c.triangle (home R a) (home R b) (home R k) (home_below R n a ha) (home_below R n b hb) (home_below R n k hk),
        );
    low =
        λ a ha. subst (λ (z : ℤ). z ≤ℤ pos 0) (sym (r 0 a n> ha ∙ (λ i. D (home_stays R 0 R0 i) (home R a))))
        (c.low (home R a) (home_below R n a ha));
  }

  module _ (c : Closed n D) (v' : ℕ → ℕ) (h : In n D' v') where
    free : (b : ℕ) → not (R b) ≡ true → R b ≡ false
    free b = go (R b)
      where
        go : (t : Bool) → not t ≡ true → t ≡ false
        go true e = sym e
        go false e = refl

    -- the gaps of v' between indices that are not reset
    kept : (a b : ℕ) → a < n → b < n → R a ≡ false → R b ≡ false → Gap (D a b) (v' a) (v' b)
    kept a b ha hb ea eb =
        subst (λ (z : ℤ). Gap z (v' a) (v' b)) (r a b ha hb ∙ (λ i. D (home_stays R a ea i) (home_stays R b eb i))) (h.gaps a b ha hb)

    way : (a : ℕ) → Least n (λ b. not (R b)) (λ b. pos (v' b) +ℤ D a b)
    way a = least_of (λ b. not (R b)) (λ b. pos (v' b) +ℤ D a b) (ap not R0) n n>

    -- the least of v' b + D a b over the indices b that are not reset
    before : ℕ → ℕ
    before a = up (pos (v' (way a).at) +ℤ D a (way a).at)

    taken : (a : ℕ) → a < n → before a + down (D a (way a).at) ≡ v' (way a).at + up (D a (way a).at)
    unfolding before
    taken a ha =
        let j = (way a).at in
        let hj = (way a).at< in
        let g = kept 0 j n> hj R0 (free j (way a).passes) in
        let s = sum_law (pos (v' j)) (D a j) in
        let z = nothing_below (pos (v' j) +ℤ D a j) (omega (arith, s, g, h.start, c.triangle 0 j a n> hj ha, le_read (c.low a ha))) in
        omega (arith, s, z)

    least : (a b : ℕ) → a < n → b < n → R b ≡ false → before a + down (D a b) ≤ v' b + up (D a b)
    least a b ha hb e =
        let j = (way a).at in
        omega (arith, taken a ha, le_read ((way a).least b hb (ap not e)), sum_law (pos (v' j)) (D a j), sum_law (pos (v' b)) (D a b))

    pub reset_from : (v : ℕ → ℕ) × In n D v × Put n R v v'
    reset_from =
        (before, record { start = omega (arith, least 0 0 n> n> R0, eq_read (c.diagonal 0 n>), h.start); gaps = gaps }, λ a ha. put a ha (R a) refl)
      where
        gaps : (a b : ℕ) → a < n → b < n → Gap (D a b) (before a) (before b)
        gaps a b ha hb =
            let j = (way b).at in
            omega (arith, least a j ha (way b).at< (free j (way b).passes), taken b hb, c.triangle a j b ha (way b).at< hb)

        put : (a : ℕ) → a < n → (t : Bool) → R a ≡ t → v' a ≡ before (home R a)
        put a ha true e =
            let g : Gap (D 0 0) (v' a) (v' 0) =
            subst (λ (z : ℤ). Gap z (v' a) (v' 0)) (r a 0 ha n> ∙ (λ i. D (home_goes R a e i) (home_stays R 0 R0 i))) (h.gaps a 0 ha n>) in
            subst (λ (x : ℕ). v' a ≡ before x) (sym (home_goes R a e)) (omega (arith, g, h.start, eq_read (c.diagonal 0 n>), least 0 0 n> n> R0))
        put a ha false e =
            let j = (way a).at in
            subst (λ (x : ℕ). v' a ≡ before x) (sym (home_stays R a e))
            (omega (arith, least a a ha ha e, eq_read (c.diagonal a ha), taken a ha, kept a j ha (way a).at< e (free j (way a).passes)))

-- ---- wait
nothing_above : (z : ℤ) → up z ≤ down z → up z ≡ 0
nothing_above z h = ⊎_elim (λ e. e) (λ e. omega arith) (one_side z)

module _ (n : ℕ) (n> : 0 < n) (h : ℕ → ℤ) (D D' : Square) (r : Raises n h D D') where
  pub wait_into : (v v' : ℕ → ℕ) (t : ℕ) → In n D v → Waits n t v v' → Under n h v' → In n D' v'
  wait_into v v' t i w u = record { start = w.start; gaps = gaps }
    where
      gaps : (a b : ℕ) → a < n → b < n → Gap (D' a b) (v' a) (v' b)
      gaps zero zero ha hb = omega (arith, eq_read (r.rest 0 0 n> n> (λ z. z)), i.start, w.start, i.gaps 0 0 n> n>)
      gaps zero (suc b) ha hb =
          omega (
            arith,
            eq_read (r.rest 0 (suc b) n> hb (λ z. omega arith)),
            i.start,
            w.start,
            w.later (suc b) (omega arith) hb,
            i.gaps 0 (suc b) n> hb,
          )
      gaps (suc a) zero ha hb = omega (arith, eq_read (r.column (suc a) (omega arith) ha), le_read (u (suc a) (omega arith) ha))
      gaps (suc a) (suc b) ha hb =
          omega (
            arith,
            eq_read (r.rest (suc a) (suc b) ha hb (λ z. omega arith)),
            w.later (suc a) (omega arith) ha,
            w.later (suc b) (omega arith) hb,
            i.gaps (suc a) (suc b) ha hb,
          )

  module _ (c : Closed n D) (v' : ℕ → ℕ) (i : In n D' v') where
    late : Least n (λ b. true) (λ x. D x 0 -ℤ pos (v' x))
    late = least_of (λ b. true) (λ x. D x 0 -ℤ pos (v' x)) refl n n>

    -- the greatest of v' x less D x 0
    time : ℕ
    time = down (D late.at 0 -ℤ pos (v' late.at))

    ends : time + up (D late.at 0) ≡ v' late.at + down (D late.at 0)
    unfolding time
    ends =
        let j = late.at in
        let m = minus_law (D j 0) (pos (v' j)) in
        let z =
        nothing_above (D j 0 -ℤ pos (v' j))
        (omega (arith, le_read (late.least 0 n> refl), minus_law (D 0 0) (pos (v' 0)), eq_read (c.diagonal 0 n>), i.start)) in
        omega (arith, m, z)

    latest : (x : ℕ) → x < n → v' x + down (D x 0) ≤ time + up (D x 0)
    latest x hx =
        let j = late.at in
        omega (arith, ends, le_read (late.least x hx refl), minus_law (D j 0) (pos (v' j)), minus_law (D x 0) (pos (v' x)))

    enough : (y : ℕ) → 0 < y → y < n → (time + down (D 0 y) ≤ v' y + up (D 0 y)) × (time ≤ v' y)
    enough y py hy =
        let j = late.at in
        let hj = late.at< in
        omega (arith, ends, eq_read (r.rest j y hj hy (λ z. py)), i.gaps j y hj hy, c.triangle j y 0 hj hy n>, le_read (c.low y hy))

    pub wait_from : (v : ℕ → ℕ) × (t : ℕ) × In n D v × Waits n t v v' × Under n h v'
    wait_from = (
      λ x. v' x - time,
      time,
      record { start = omega (arith, i.start); gaps = gaps },
      record { start = i.start; later = λ x px hx. omega (arith, enough x px hx) },
      λ x px hx. omega (arith, int, eq_read (r.column x px hx), i.gaps x 0 hx n>, i.start),
    )
      where
        gaps : (a b : ℕ) → a < n → b < n → Gap (D a b) (v' a - time) (v' b - time)
        gaps zero zero ha hb = omega (arith, eq_read (c.diagonal 0 n>), i.start)
        gaps zero (suc b) ha hb = omega (arith, enough (suc b) (omega arith) hb, i.start)
        gaps (suc a) zero ha hb = omega (arith, latest (suc a) ha, enough (suc a) (omega arith) ha)
        gaps (suc a) (suc b) ha hb =
            omega (
              arith,
              enough (suc a) (omega arith) ha,
              enough (suc b) (omega arith) hb,
              eq_read (r.rest (suc a) (suc b) ha hb (λ z. omega arith)),
              i.gaps (suc a) (suc b) ha hb,
            )
