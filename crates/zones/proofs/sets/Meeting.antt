-- Meeting limits, as sets.
-- Assumes nothing.
use Prim.Native.Nat.{ℕ, zero, suc, ◌+◌, ◌*◌, ◌<◌, ◌≤◌}
use mathlib.Core.Path.{◌≡◌, refl, sym, ap, subst}
use mathlib.Core.Bool.{Bool, true, false}
use lib.ListN.{length}
use lib.IntN.{pos}
use native.Mathlib.Omega.{arith}
use Rattle.zones.specs.declared.pair.Pair.{Pair}
use Rattle.zones.specs.declared.zone.Work.{Work}
use Rattle.zones.specs.Integers.{up, down}
use Rattle.zones.proofs.pairs.Integers.{int, le_read, neg_law}
use Rattle.zones.specs.Pairs.{zero_pair, at_most, at_least}
use Rattle.runs.specs.Limits.{Limits, Holds, Within}
use Rattle.zones.specs.Zones.{entry, lower_at, meet_upper, meet_clock, meet_limits}
use Rattle.zones.specs.Values.{value_of, Below}
use Rattle.zones.specs.Sets.{In, square_of, Has}
use Rattle.zones.specs.Moves.{Shaped, Low}
use Rattle.zones.proofs.sets.Lowering.{lower_proper, Falls, falls_refl, falls_trans, falls_in, lower_falls, lower_to, lower_keeps}
use Rattle.zones.proofs.places.Places.{lower_size, lower_place}
use Rattle.zones.proofs.sets.Squares.{up_to}
use Rattle.zones.proofs.fractions.Thresholds.{value_law}

-- the upper limit of clock x
abbrev capped : Limits → ℕ → Work → Work
capped L x w = meet_upper x (L.hi x) (L.absent x) w

capped_free : (L : Limits) (x : ℕ) (w : Work) → L.absent x ≡ true → capped L x w ≡ w
unfolding meet_upper
capped_free L x w e = rw e

capped_most : (L : Limits) (x : ℕ) (w : Work) → L.absent x ≡ false → capped L x w ≡ lower_at x 0 (at_most (L.hi x)) w
unfolding meet_upper
capped_most L x w e = rw e

-- what each limit's step keeps, meeting the limits keeps
module _ (n : ℕ) (L : Limits) (Q : Work → Type 0)
    (f : (x : ℕ) → 0 < x → x < n → L.absent x ≡ false → (w : Work) → length w.zone ≡ 81 → Q w → Q (lower_at x 0 (at_most (L.hi x)) w))
    (g : (x : ℕ) → 0 < x → x < n → (w : Work) → length w.zone ≡ 81 → Q w → Q (lower_at 0 x (at_least (L.lo x)) w)) where
  capped_ind : (x : ℕ) → 0 < x → x < n → (w : Work) → length w.zone ≡ 81 → Q w → (length (capped L x w).zone ≡ 81) × Q (capped L x w)
  capped_ind x px hx w size q = go (L.absent x) refl
    where
      go : (t : Bool) → L.absent x ≡ t → (length (capped L x w).zone ≡ 81) × Q (capped L x w)
      go true e = rw (capped_free L x w e) (size, q)
      go false e = rw (capped_most L x w e) (lower_size w x 0 (at_most (L.hi x)) size, f x px hx e w size q)

  pub met_ind : (w : Work) → length w.zone ≡ 81 → Q w → (c : ℕ) → c < n → (length (meet_limits L c w).zone ≡ 81) × Q (meet_limits L c w)
  unfolding meet_limits meet_clock
  met_ind w size q zero h = (size, q)
  met_ind w size q (suc x) h =
      let i = met_ind w size q x (omega arith) in
      let k = capped_ind (suc x) (omega arith) h (meet_limits L x w) i.0 i.1 in (
        lower_size (capped L (suc x) (meet_limits L x w)) 0 (suc x) (at_least (L.lo (suc x))) k.0,
        g (suc x) (omega arith) h (capped L (suc x) (meet_limits L x w)) k.0 k.1,
      )

pub met_proper : (c : ℕ) (L : Limits) (w : Work) → length w.zone ≡ 81 → 0 < w.fraction.n → 0 < (meet_limits L c w).fraction.n
met_proper c L w size h =
    (met_ind (suc c) L (λ v. 0 < v.fraction.n) (λ x px hx o v z p. lower_proper x 0 _ v p) (λ x px hx v z p. lower_proper 0 x _ v p) w size h c
    (omega arith)).1

module _ (s e : ℕ) (s> : 0 < s) where
  pub most_value : (h : ℕ) → up (value_of s e (at_most h)) ≡ h * s + e + down (value_of s e (at_most h))
  most_value h = omega (arith, value_law s e (at_most h))

  pub least_value : (l : ℕ) → up (value_of s e (at_least l)) + l * s ≡ e + down (value_of s e (at_least l))
  least_value l = omega (arith, value_law s e (at_least l), ap (λ (n : ℕ). n * s) (neg_law (pos l)).0, ap (λ (n : ℕ). n * s) (neg_law (pos l)).1)

  module _ (n : ℕ) (n≤ : n ≤ 9) (L : Limits) where
    lower_zero : (i j : ℕ) (q : Pair) → (i ≡ j → ⊥) → i < n → j < n → (w : Work) → length w.zone ≡ 81 →
        ((a : ℕ) → a < n → entry w a a ≡ zero_pair) → (a : ℕ) → a < n → entry (lower_at i j q w) a a ≡ zero_pair
    lower_zero i j q f hi hj w size h a ha =
        lower_place w i j q size (omega arith) (omega arith) (λ a b p. a ≡ b → p ≡ zero_pair) (λ z. absurd (f z)) a a (omega arith) (λ z. h a ha) refl

    module _ (w : Work) (size : length w.zone ≡ 81) (c : ℕ) (c< : c < n) where
      pub met_falls : Falls s e s> n w (meet_limits L c w)
      met_falls = (met_ind n L (Falls s e s> n w)
          (λ x px hx o v z q. falls_trans s e s> n w v _ q (lower_falls s e s> n n≤ v x 0 _ z hx (omega arith)))
          (λ x px hx v z q. falls_trans s e s> n w v _ q (lower_falls s e s> n n≤ v 0 x _ z (omega arith) hx)) w size (falls_refl s e s> n w) c c<).1

      pub met_zero : ((a : ℕ) → a < n → entry w a a ≡ zero_pair) →
          (length (meet_limits L c w).zone ≡ 81) × ((a : ℕ) → a < n → entry (meet_limits L c w) a a ≡ zero_pair)
      met_zero h = met_ind n L (λ v. (a : ℕ) → a < n → entry v a a ≡ zero_pair)
          (λ x px hx o. lower_zero x 0 _ (λ z. omega arith) hx (omega arith))
          (λ x px hx. lower_zero 0 x _ (λ z. omega arith) (omega arith) hx) w size h c c<

      -- no threshold is needed for what stays in
      pub met_into : (v : ℕ → ℕ) → In n (square_of s e w) v → ((x : ℕ) → 0 < x → x < n → Holds s e L x (v x)) →
          In n (square_of s e (meet_limits L c w)) v
      met_into v i h = (met_ind n L (λ u. In n (square_of s e u) v)
          (λ x px hx o u z q. lower_keeps s e s> n n≤ u x 0 _ z hx (omega arith) v q (omega (arith, most_value (L.hi x), (h x px hx).most o)))
          (λ x px hx u z q. lower_keeps s e s> n n≤ u 0 x _ z (omega arith) hx v q
          (omega (arith, i.start, least_value (L.lo x), (h x px hx).least))) w size i c c<).1

    -- one clock
    module _ (x : ℕ) (px : 0 < x) (hx : x < n) (w : Work) (size : length w.zone ≡ 81) where
      capped_falls : (length (capped L x w).zone ≡ 81) × Falls s e s> n w (capped L x w)
      capped_falls = go (L.absent x) refl
        where
          go : (t : Bool) → L.absent x ≡ t → (length (capped L x w).zone ≡ 81) × Falls s e s> n w (capped L x w)
          go true o = rw (capped_free L x w o) (size, falls_refl s e s> n w)
          go false o =
              rw (capped_most L x w o)
              (lower_size w x 0 (at_most (L.hi x)) size, lower_falls s e s> n n≤ w x 0 (at_most (L.hi x)) size hx (omega arith))

      capped-from : L.absent x ≡ false → Below s e (capped L x w).fraction → (v : ℕ → ℕ) → In n (square_of s e (capped L x w)) v →
          v x ≤ L.hi x * s + e
      capped-from o =
          subst (λ (u : Work). Below s e u.fraction → (v : ℕ → ℕ) → In n (square_of s e u) v → v x ≤ L.hi x * s + e) (sym (capped_most L x w o))
          (λ t v i. omega (
            arith,
            i.start,
            i.gaps x 0 hx (omega arith),
            le_read (lower_to s e s> n n≤ w x 0 (at_most (L.hi x)) size hx (omega arith) t),
            most_value (L.hi x),
          ))

    -- below the running fraction, what is in holds the limits
    pub met_from : (w : Work) → length w.zone ≡ 81 → (c : ℕ) → c < n → Below s e (meet_limits L c w).fraction → (v : ℕ → ℕ) →
        In n (square_of s e (meet_limits L c w)) v → (x : ℕ) → x < suc c → 0 < x → Holds s e L x (v x)
    unfolding meet_limits meet_clock
    met_from w size zero c< t v i = λ x hx px. let z : ⊥ = omega arith in absurd z
    met_from w size (suc x) c< t v i =
        let u = meet_limits L x w in
        let zu = (met_ind n L (λ v. Work) (λ x px hx o v z q. v) (λ x px hx v z q. v) w size w x (omega arith)).0 in
        let k = capped_falls (suc x) (omega arith) c< u zu in
        let m = capped L (suc x) u in
        let q = at_least (L.lo (suc x)) in
        let f = lower_falls s e s> n n≤ m 0 (suc x) q k.0 (omega arith) c< in
        let im = falls_in s e s> n m (lower_at 0 (suc x) q m) v f t i in
        let tm = f.before t in
        up_to (λ y. 0 < y → Holds s e L y (v y)) (suc x)
        (met_from w size x (omega arith) (k.1.before tm) v (falls_in s e s> n u m v k.1 tm im))
        (λ p. record {
          least =
              omega (
                arith,
                i.start,
                i.gaps 0 (suc x) (omega arith) c<,
                le_read (lower_to s e s> n n≤ m 0 (suc x) q k.0 (omega arith) c< t),
                least_value (L.lo (suc x)),
              );
          most = λ o. capped-from (suc x) (omega arith) c< u zu o tm v im;
        })

-- ---- all clocks of a zone
module _ (s e : ℕ) (s> : 0 < s) (c : ℕ) (n≤ : suc c ≤ 9) (L : Limits) (w : Work) (g : Shaped c w) where
  falls : Falls s e s> (suc c) w (meet_limits L c w)
  falls = met_falls s e s> (suc c) n≤ L w g.size c (omega arith)

  pub meet_shaped : Shaped c (meet_limits L c w)
  meet_shaped = let z = met_zero s e s> (suc c) n≤ L w g.size c (omega arith) g.diagonal in record { size = z.0; diagonal = z.1 }

  pub meet_before : Below s e (meet_limits L c w).fraction → Below s e w.fraction
  meet_before = falls.before

  pub meet_low : Below s e (meet_limits L c w).fraction → Low (suc c) (square_of s e w) → Low (suc c) (square_of s e (meet_limits L c w))
  meet_low t l a ha = let x = falls.values t 0 a (omega arith) ha in let y = l a ha in omega (arith, int)

  pub meet_into : (v : ℕ → ℕ) → Has s e c w v → Within s e c L v → Has s e c (meet_limits L c w) v
  meet_into = met_into s e s> (suc c) n≤ L w g.size c (omega arith)

  pub meet_from : Below s e (meet_limits L c w).fraction → (v : ℕ → ℕ) → Has s e c (meet_limits L c w) v → Has s e c w v × Within s e c L v
  meet_from t v i =
      (falls_in s e s> (suc c) w (meet_limits L c w) v falls t i, λ x px hx. met_from s e s> (suc c) n≤ L w g.size c (omega arith) t v i x hx px)
