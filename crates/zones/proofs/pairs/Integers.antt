-- Linear arithmetic over ℤ, by omega. An integer z is `up z` less `down z`, of which one is 0.
-- `omega (arith, int, sum_law x y, ..)` proves an order or an equation of integers: the set `int` turns each ≤ℤ, <ℤ and ≡ in reach, and the
-- goal, into one of naturals. The list names each sum, negation and multiple that occurs.
-- Assumes nothing.
use Prim.Native.Nat.{ℕ, zero, suc, ◌+◌, ◌*◌, ◌^◌, ◌≤◌, ◌<◌}
use mathlib.Core.Path.{◌≡◌, refl, sym, ap, subst}
use mathlib.Core.Bool.{Bool, true, false, not, cond}
use mathlib.Core.Logic.{◌⊎◌, inl, inr, ⊎_elim}
use native.Mathlib.Omega.{arith}
use lib.Dec.{T, ltb, leb→le, le→leb, ltb→lt, lt→ltb, nltb→le}
use lib.IntN.{ℤ, pos, negsuc, neg_ℤ, nat_abs, sub_ℕ, ◌+ℤ◌, ◌-ℤ◌, ◌*ℤ◌}
use lib.Signed.{◌≤ℤ◌, ◌<ℤ◌, mag, le_z, lt_z, lt_z_no}
use mir.Syntax.{Width}
use mir.Val.{SFits, hbits}
use Rattle.zones.specs.Integers.{up, down}

-- one of the two is 0: the only fact of them that is not linear
pub one_side : (z : ℤ) → (up z ≡ 0) ⊎ (down z ≡ 0)
one_side (pos n) = inr refl
one_side (negsuc n) = inl refl

cond_ind : (c : Bool) (x y : ℤ) (P : ℤ → Type 0) → (T c → P x) → (T (not c) → P y) → P (cond c x y)
cond_ind true x y P f g = f tt
cond_ind false x y P f g = g tt

sub_law : (a b : ℕ) → (up (sub_ℕ a b) + b ≡ a + down (sub_ℕ a b)) × (up (sub_ℕ a b) ≤ a) × (down (sub_ℕ a b) ≤ b)
sub_law a b =
    cond_ind (ltb a b) _ _ (λ z. (up z + b ≡ a + down z) × (up z ≤ a) × (down z ≤ b)) (λ t. omega (arith, ltb→lt a b t))
    (λ t. omega (arith, nltb→le a b t))

-- what a sum's parts are: the equation, and that neither part is above the sum of the summands' parts
pub record Sum (x y z : ℤ) : Type 0 where
  pub even : up z + (down x + down y) ≡ (up x + up y) + down z
  pub high : up z ≤ up x + up y
  pub low : down z ≤ down x + down y

pub sum_law : (x y : ℤ) → Sum x y (x +ℤ y)
sum_law (pos a) (pos b) = omega arith
sum_law (pos a) (negsuc b) = omega (arith, sub_law a (suc b))
sum_law (negsuc a) (pos b) = omega (arith, sub_law b (suc a))
sum_law (negsuc a) (negsuc b) = omega arith

pub neg-up : (x : ℤ) → up (neg_ℤ x) ≡ down x
neg-up (pos zero) = refl
neg-up (pos (suc n)) = refl
neg-up (negsuc n) = refl

pub neg-down : (x : ℤ) → down (neg_ℤ x) ≡ up x
neg-down (pos zero) = refl
neg-down (pos (suc n)) = refl
neg-down (negsuc n) = refl

pub neg_law : (x : ℤ) → (up (neg_ℤ x) ≡ down x) × (down (neg_ℤ x) ≡ up x)
neg_law x = (neg-up x, neg-down x)

-- the same for a difference
pub record Minus (x y z : ℤ) : Type 0 where
  pub even : up z + (down x + up y) ≡ (up x + down y) + down z
  pub high : up z ≤ up x + down y
  pub low : down z ≤ down x + up y

pub minus_law : (x y : ℤ) → Minus x y (x -ℤ y)
minus_law x y = omega (arith, sum_law x (neg_ℤ y), neg-up y, neg-down y)

neg_pos : (n : ℕ) → (up (neg_ℤ (pos n)) ≡ 0) × (down (neg_ℤ (pos n)) ≡ n)
neg_pos zero = (refl, refl)
neg_pos (suc n) = (refl, refl)

-- a multiple by a natural
pub times_law : (x : ℤ) (k : ℕ) → (up (x *ℤ pos k) ≡ up x * k) × (down (x *ℤ pos k) ≡ down x * k)
times_law (pos a) k = (refl, omega arith)
times_law (negsuc a) k = (omega (arith, neg_pos (suc a * k)), (neg_pos (suc a * k)).1)

-- ---- the orders, both ways
le_down : (x y : ℤ) → T (le_z x y) → up x + down y ≤ up y + down x
le_down (pos a) (pos b) h = omega (arith, leb→le a b h)
le_down (pos a) (negsuc b) h = absurd h
le_down (negsuc a) (pos b) h = omega arith
le_down (negsuc a) (negsuc b) h = omega (arith, leb→le b a h)

le_up : (x y : ℤ) → up x + down y ≤ up y + down x → T (le_z x y)
le_up (pos a) (pos b) h = le→leb a b (omega arith)
le_up (pos a) (negsuc b) h = let z : ⊥ = omega arith in absurd z
le_up (negsuc a) (pos b) h = tt
le_up (negsuc a) (negsuc b) h = le→leb b a (omega arith)

lt-down : (x y : ℤ) → T (lt_z x y) → up x + down y < up y + down x
lt-down (pos a) (pos b) h = omega (arith, ltb→lt a b h)
lt-down (pos a) (negsuc b) h = absurd h
lt-down (negsuc a) (pos b) h = omega arith
lt-down (negsuc a) (negsuc b) h = omega (arith, ltb→lt b a h)

lt_up : (x y : ℤ) → up x + down y < up y + down x → T (lt_z x y)
lt_up (pos a) (pos b) h = lt→ltb a b (omega arith)
lt_up (pos a) (negsuc b) h = let z : ⊥ = omega arith in absurd z
lt_up (negsuc a) (pos b) h = tt
lt_up (negsuc a) (negsuc b) h = lt→ltb b a (omega arith)

eq_up : (x y : ℤ) → up x + down y ≡ up y + down x → x ≡ y
eq_up (pos a) (pos b) h = let e : a ≡ b = omega arith in ap pos e
eq_up (pos a) (negsuc b) h = let z : ⊥ = omega arith in absurd z
eq_up (negsuc a) (pos b) h = let z : ⊥ = omega arith in absurd z
eq_up (negsuc a) (negsuc b) h = let e : a ≡ b = omega arith in ap negsuc e

-- the rules of `int`: each reads an order or an equation of integers, or makes one
pub le_read : {x y : ℤ} → x ≤ℤ y → up x + down y ≤ up y + down x
le_read {x} {y} h = le_down x y h.le

pub le_make : (x y : ℤ) → up x + down y ≤ up y + down x → x ≤ℤ y
le_make x y h = record { le = le_up x y h }

pub lt_read : {x y : ℤ} → x <ℤ y → up x + down y < up y + down x
lt_read {x} {y} h = lt-down x y h.lt

pub lt_make : (x y : ℤ) → up x + down y < up y + down x → x <ℤ y
lt_make x y h = record { lt = lt_up x y h }

pub eq_read : {x y : ℤ} → x ≡ y → up x + down y ≡ up y + down x
eq_read {x} {y} e = omega (arith, ap up e, ap down e)

pub eq_make : (x y : ℤ) → up x + down y ≡ up y + down x → x ≡ y
eq_make x y h = eq_up x y h

pub ruleset int = (le_read, le_make, lt_read, lt_make, eq_read, eq_make)

-- ---- size
pub abs_law : (z : ℤ) → nat_abs z ≡ up z + down z
abs_law (pos n) = omega arith
abs_law (negsuc n) = omega arith

pub mag_law : (z : ℤ) → mag z ≤ up z + down z
mag_law (pos n) = omega arith
mag_law (negsuc n) = omega arith

-- that an integer fits, from a bound of its absolute value
pub abs_fits : (w : Width) (z : ℤ) → nat_abs z < 2 ^ hbits w → SFits w z
abs_fits w z h = record { sfits = omega (arith, mag_law z, abs_law z) }

-- ---- a test's value, and the order
pub lt_z_true : (x y : ℤ) → lt_z x y ≡ true → x <ℤ y
lt_z_true x y e = record { lt = subst T (sym e) tt }

pub lt_z_false : (x y : ℤ) → lt_z x y ≡ false → y ≤ℤ x
lt_z_false x y e = lt_z_no (subst (λ (b : Bool). T (not b)) (sym e) tt)

is_false : (t : Bool) → (T t → ⊥) → t ≡ false
is_false true h = absurd (h tt)
is_false false h = refl

pub le_lt_z : (x y : ℤ) → y ≤ℤ x → lt_z x y ≡ false
le_lt_z x y h = is_false (lt_z x y) (λ t. omega (arith, le_read h, lt-down x y t))

pub lt_or_le : (x y : ℤ) → (x <ℤ y) ⊎ (y ≤ℤ x)
lt_or_le x y = go (lt_z x y) refl
  where
    go : (b : Bool) → lt_z x y ≡ b → (x <ℤ y) ⊎ (y ≤ℤ x)
    go true e = inl (lt_z_true x y e)
    go false e = inr (lt_z_false x y e)

-- the gap between two integers
pub abs_gap : (x y : ℤ) → x ≤ℤ y → nat_abs (y -ℤ x) + (up x + down y) ≡ up y + down x
abs_gap x y h =
    ⊎_elim (λ e. omega (arith, le_read h, minus_law y x, abs_law (y -ℤ x))) (λ e. omega (arith, minus_law y x, abs_law (y -ℤ x))) (one_side (y -ℤ x))

-- an absolute value, from a bound of the integer and of its negation's
pub abs-within : (z : ℤ) (M : ℕ) → z ≤ℤ pos M → neg_ℤ (pos M) ≤ℤ z → nat_abs z ≤ M
abs-within z M h g = ⊎_elim (λ e. omega (arith, le_read g, neg_law (pos M), abs_law z)) (λ e. omega (arith, le_read h, abs_law z)) (one_side z)
