-- What stands at each place of a square after an operation that sets places.
-- Assumes nothing.
use Prim.Native.Nat.{ℕ, zero, suc, ◌+◌, ◌*◌, ◌/◌, ◌%◌, ◌<◌, ◌≤◌}
use mathlib.Core.Path.{◌≡◌, refl, sym, ap, ◌∙◌}
use mathlib.Core.Bool.{Bool, true, false, cond}
use mathlib.Core.List.{List}
use mathlib.Core.Logic.{◌⊎◌, ⊎_elim}
use lib.ListN.{length, get_or, set, length-set, length-replicate, get_or-replicate}
use lib.Seq.{get_or-set_same, get_or-set_other, set-get_or}
use native.Mathlib.Omega.{arith}
use native.Mathlib.Decide.{ℕ_discrete, dec_lt}
use native.Mathlib.Nat.{not-suc-le-zero}
use Rattle.zones.specs.declared.pair.Pair.{Pair}
use Rattle.zones.specs.declared.zone.Work.{Work}
use Rattle.zones.specs.Pairs.{zero_pair, at_most, smaller_of}
use Rattle.runs.specs.Limits.{Limits}
use Rattle.zones.specs.Zones.{pair_at, entry, first_work, lower_at, raise_limits, home, reset_places, reset_of}

-- ---- one place set
module _ (z : List Pair) (i j : ℕ) (q : Pair) (j< : j < 9) where
  pub set_at : i * 9 + j < length z → pair_at (set z (i * 9 + j) q) i j ≡ q
  unfolding pair_at
  set_at h = get_or-set_same z (i * 9 + j) q zero_pair h

  pub set_off : (a b : ℕ) → b < 9 → (a ≡ i → b ≡ j → ⊥) → pair_at (set z (i * 9 + j) q) a b ≡ pair_at z a b
  unfolding pair_at
  set_off a b hb f = get_or-set_other z (i * 9 + j) (a * 9 + b) q zero_pair (λ e. f (omega arith) (omega arith))

-- ---- the first zone
pub first_at : (a b : ℕ) → a < 9 → b < 9 → entry first_work a b ≡ zero_pair
unfolding first_work pair_at
first_at a b ha hb = get_or-replicate 81 (a * 9 + b) zero_pair zero_pair (omega arith)

pub first_size : length first_work.zone ≡ 81
unfolding first_work
first_size = length-replicate 81 zero_pair

-- ---- one comparison
module _ (w : Work) (i j : ℕ) (q : Pair) (size : length w.zone ≡ 81) where
  pub lower_size : length (lower_at i j q w).zone ≡ 81
  unfolding lower_at
  lower_size = length-set w.zone (i * 9 + j) (smaller_of (entry w i j) q).pair ∙ size

  pub lower_at_lem : i < 9 → j < 9 → entry (lower_at i j q w) i j ≡ (smaller_of (entry w i j) q).pair
  unfolding lower_at
  lower_at_lem hi hj = set_at w.zone i j (smaller_of (entry w i j) q).pair hj (omega arith)

  pub lower_off : (a b : ℕ) → b < 9 → j < 9 → (a ≡ i → b ≡ j → ⊥) → entry (lower_at i j q w) a b ≡ entry w a b
  unfolding lower_at
  lower_off a b hb hj f = set_off w.zone i j (smaller_of (entry w i j) q).pair hj a b hb f

  -- what holds of the entry that is lowered and of every other holds of each
  pub lower_place : i < 9 → j < 9 → (P : ℕ → ℕ → Pair → Type 0) → P i j (smaller_of (entry w i j) q).pair → (a b : ℕ) → b < 9 → P a b (entry w a b) →
      P a b (entry (lower_at i j q w) a b)
  lower_place hi hj P p a b hb o = go (ℕ_discrete a i) (ℕ_discrete b j)
    where
      off : (a ≡ i → b ≡ j → ⊥) → P a b (entry (lower_at i j q w) a b)
      off g = rw (lower_off a b hb hj g) o

      go : Dec (a ≡ i) → Dec (b ≡ j) → P a b (entry (lower_at i j q w) a b)
      go (yes y) (yes z) = rw (y, z, lower_at_lem hi hj) p
      go (yes y) (no z) = off (λ g k. z k)
      go (no y) z = off (λ g k. y g)

-- ---- each (clock, 0) put to (hi, 1): whatever loop makes it, this is all that the theory uses
pub record RaisedBy (c : ℕ) (L : Limits) (w w' : Work) : Type 0 where
  pub size : length w'.zone ≡ 81
  pub fraction : w'.fraction ≡ w.fraction
  pub column : (x : ℕ) → 0 < x → x < suc c → entry w' x 0 ≡ at_most (L.hi x)
  pub rest : (a b : ℕ) → b < 9 → (0 < a → a < suc c → 0 < b) → entry w' a b ≡ entry w a b

raised_next : (L : Limits) (c : ℕ) (w u : Work) → suc c < 9 → RaisedBy c L w u →
    RaisedBy (suc c) L w (record { zone = set u.zone (suc c * 9 + 0) (at_most (L.hi (suc c))); fraction = u.fraction })
raised_next L c w u h r = record {
  size = length-set u.zone (suc c * 9 + 0) q ∙ r.size;
  fraction = r.fraction;
  column = λ x px hx. at x px hx (ℕ_discrete x (suc c));
  rest = λ a b hb f. set_off u.zone (suc c) 0 q (omega arith) a b hb (λ e g. absurd (omega (arith, f (omega arith) (omega arith))))
      ∙ r.rest a b hb (λ p g. f p (omega arith));
}
  where
    q : Pair
    q = at_most (L.hi (suc c))

    at : (x : ℕ) → 0 < x → x < suc (suc c) → Dec (x ≡ suc c) → pair_at (set u.zone (suc c * 9 + 0) (at_most (L.hi (suc c)))) x 0 ≡ at_most (L.hi x)
    at x px hx (yes e) = rw e (set_at u.zone (suc c) 0 q (omega arith) (omega (arith, r.size)))
    at x px hx (no f) = set_off u.zone (suc c) 0 q (omega arith) x 0 (omega arith) (λ e g. f e) ∙ r.column x px (omega arith)

pub raised_by : (L : Limits) (w : Work) → length w.zone ≡ 81 → (c : ℕ) → c < 9 → RaisedBy c L w (raise_limits L c w)
unfolding raise_limits
raised_by L w size zero h = record { size = size; fraction = refl; column = λ x px hx. absurd (omega arith); rest = λ a b hb f. refl }
raised_by L w size (suc c) h = raised_next L c w (raise_limits L c w) h (raised_by L w size c (omega arith))

-- ---- reset
module _ (R : ℕ → Bool) where
  pub home_stays : (a : ℕ) → R a ≡ false → home R a ≡ a
  unfolding home
  home_stays a e = rw e

  pub home_goes : (a : ℕ) → R a ≡ true → home R a ≡ 0
  unfolding home
  home_goes a e = rw e

  pub home-zero : home R 0 ≡ 0
  unfolding home
  home-zero = go (R 0)
    where
      go : (c : Bool) → ◌≡◌ {A = ℕ} (cond c 0 0) 0
      go true = refl
      go false = refl

  pub home_below : (n a : ℕ) → a < n → home R a < n
  unfolding home
  home_below n a h = go (R a)
    where
      go : (c : Bool) → cond c 0 a < n
      go true = omega arith
      go false = h

  home_again : (a : ℕ) → home R (home R a) ≡ home R a
  home_again a = go (R a) refl
    where
      go : (c : Bool) → R a ≡ c → home R (home R a) ≡ home R a
      go true e = rw (home_goes a e) home-zero
      go false e = ap (home R) (home_stays a e)

pub record ResetBy (n : ℕ) (R : ℕ → Bool) (w w' : Work) : Type 0 where
  pub size : length w'.zone ≡ 81
  pub fraction : w'.fraction ≡ w.fraction
  pub at : (a b : ℕ) → a < n → b < 9 → entry w' a b ≡ entry w (home R a) (home R b)

-- the first k places of y have their home's entry, and the others are as they were
record PlacesDone (R : ℕ → Bool) (y : List Pair) (k : ℕ) (z : List Pair) : Type 0 where
  size : length z ≡ 81
  done : (m : ℕ) → m < k → get_or z m zero_pair ≡ pair_at y (home R (m / 9)) (home R (m % 9))
  rest : (m : ℕ) → k ≤ m → get_or z m zero_pair ≡ get_or y m zero_pair

places_next : (R : ℕ → Bool) (y : List Pair) (k : ℕ) (u : List Pair) → k < 81 → PlacesDone R y k u →
    PlacesDone R y (suc k) (set u k (pair_at y (home R (k / 9)) (home R (k % 9))))
places_next R y k u h d = record {
  size = length-set u k q ∙ d.size;
  done = λ m hm. at m hm (ℕ_discrete m k);
  rest = λ m hm. get_or-set_other u k m q zero_pair (λ e. omega arith) ∙ d.rest m (omega arith);
}
  where
    q : Pair
    q = pair_at y (home R (k / 9)) (home R (k % 9))

    at : (m : ℕ) → m < suc k → Dec (m ≡ k) →
        get_or (set u k (pair_at y (home R (k / 9)) (home R (k % 9)))) m zero_pair ≡ pair_at y (home R (m / 9)) (home R (m % 9))
    at m hm (yes e) = rw e (get_or-set_same u k q zero_pair (omega (arith, d.size)))
    at m hm (no f) = get_or-set_other u k m q zero_pair f ∙ d.done m (omega arith)

places_done : (R : ℕ → Bool) (y : List Pair) → length y ≡ 81 → (k : ℕ) → k ≤ 81 → PlacesDone R y k (reset_places R y k y)
unfolding reset_places
places_done R y size zero h = record { size = size; done = λ m hm. absurd (not-suc-le-zero hm); rest = λ m hm. refl }
places_done R y size (suc k) h = places_next R y k (reset_places R y k y) h (places_done R y size k (omega arith))

pub reset_by_lem : (n : ℕ) → n ≤ 9 → (R : ℕ → Bool) (w : Work) → length w.zone ≡ 81 → ResetBy n R w (reset_of n R w)
unfolding reset_of pair_at
reset_by_lem n n≤ R w size = record { size = d.size; fraction = refl; at = at }
  where
    d : PlacesDone R w.zone (n * 9) (reset_places R w.zone (n * 9) w.zone)
    d = places_done R w.zone size (n * 9) (omega arith)

    at : (a b : ℕ) → a < n → b < 9 → entry (reset_of n R w) a b ≡ entry w (home R a) (home R b)
    at a b ha hb =
        let x : (a * 9 + b) / 9 ≡ a = omega arith in
        let y : (a * 9 + b) % 9 ≡ b = omega arith in
        d.done (a * 9 + b) (omega arith) ∙ (λ i. entry w (home R (x i)) (home R (y i)))

-- the entry of two homes is its own home's, so it stays as it was, passed or not
home-kept : (R : ℕ → Bool) (y : List Pair) → length y ≡ 81 → (k : ℕ) → k ≤ 81 → (a b : ℕ) → a < 9 → b < 9 →
    pair_at (reset_places R y k y) (home R a) (home R b) ≡ pair_at y (home R a) (home R b)
unfolding pair_at
home-kept R y size k h a b ha hb = go (dec_lt (home R a * 9 + home R b) k)
  where
    d : PlacesDone R y k (reset_places R y k y)
    d = places_done R y size k h

    go : Dec (home R a * 9 + home R b < k) → pair_at (reset_places R y k y) (home R a) (home R b) ≡ pair_at y (home R a) (home R b)
    go (yes l) =
        let row : (home R a * 9 + home R b) / 9 ≡ home R a = omega (arith, home_below R 9 b hb) in
        let column : (home R a * 9 + home R b) % 9 ≡ home R b = omega (arith, home_below R 9 b hb) in
        d.done (home R a * 9 + home R b) l ∙ (λ i. pair_at y ((ap (home R) row ∙ home_again R a) i) ((ap (home R) column ∙ home_again R b) i))
    go (no l) = d.rest (home R a * 9 + home R b) (omega arith)

-- one place more, as the code counts it
pub home_is : (R : ℕ → Bool) (i : ℕ) {a : ℕ} → ((R i ≡ true) × (a ≡ 0)) ⊎ ((R i ≡ false) × (a ≡ i)) → (i < 9 → a < 9) × (a ≡ home R i)
home_is R i =
    ⊎_elim (λ x. ((λ h. omega (arith, x.1)), x.1 ∙ sym (home_goes R i x.0))) (λ x. ((λ h. omega (arith, x.1)), x.1 ∙ sym (home_stays R i x.0)))

pub reset_next : (R : ℕ → Bool) (y : List Pair) (i j : ℕ) → length y ≡ 81 → i < 9 → j < 9 → {u : List Pair} {a b : ℕ} →
    u ≡ reset_places R y (i * 9 + j) y → a ≡ home R i → b ≡ home R j →
    set u (i * 9 + j) (get_or u (a * 9 + b) zero_pair) ≡ reset_places R y (i * 9 + (j + 1)) y
unfolding reset_places pair_at
reset_next R y i j size hi hj e f g =
    let k = i * 9 + j in
    let row : k / 9 ≡ i = omega arith in
    let column : k % 9 ≡ j = omega arith in
    let last : i * 9 + (j + 1) ≡ suc k = omega arith in
    let kept = home-kept R y size k (omega arith) i j (omega arith) (omega arith) in
    rw last
    ((λ t. set (e t) k (get_or (e t) (f t * 9 + g t) zero_pair)) ∙ ap (set (reset_places R y k y) k) kept
    ∙ (λ t. set (reset_places R y k y) k (get_or y (home R (sym row t) * 9 + home R (sym column t)) zero_pair)))

pub reset_as : (R : ℕ → Bool) (y : List Pair) {k k' : ℕ} {u : List Pair} → k ≡ k' → u ≡ reset_places R y k y → u ≡ reset_places R y k' y
reset_as R y e f = f ∙ ap (λ (k : ℕ). reset_places R y k y) e

pub reset_all : (n : ℕ) (R : ℕ → Bool) (w : Work) {k : ℕ} {u : Work} → k ≡ n * 9 →
    u.zone ≡ reset_places R w.zone k w.zone → u.fraction ≡ w.fraction → u ≡ reset_of n R w
unfolding reset_of
reset_all n R w e f g = λ i. record { zone = (f ∙ ap (λ (x : ℕ). reset_places R w.zone x w.zone) e) i; fraction = g i }

-- a reset of no clock
places_none : (R : ℕ → Bool) → ((a : ℕ) → R a ≡ false) → (y : List Pair) (k : ℕ) → reset_places R y k y ≡ y
unfolding reset_places pair_at
places_none R none y zero = refl
places_none R none y (suc k) =
    let here : home R (k / 9) * 9 + home R (k % 9) ≡ k = omega (arith, home_stays R (k / 9) (none (k / 9)), home_stays R (k % 9) (none (k % 9))) in
    (λ i. set (places_none R none y k i) k (get_or y (here i) zero_pair)) ∙ set-get_or y k zero_pair

pub reset_none : (n : ℕ) (R : ℕ → Bool) → ((a : ℕ) → R a ≡ false) → (w : Work) → reset_of n R w ≡ w
unfolding reset_of
reset_none n R none w = λ i. record { zone = places_none R none w.zone (n * 9) i; fraction = w.fraction }
