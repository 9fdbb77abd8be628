-- The clocks of a reset byte.
-- Assumes nothing.
use Prim.Native.Nat.{ℕ, zero, suc, ◌+◌, ◌/◌, ◌^◌, ◌<◌, ◌≤◌}
use denote.Param.Members.{Mut}
use mathlib.Core.Path.{◌≡◌, refl, sym, ap, subst, ◌∙◌}
use mathlib.Core.Bool.{Bool, false}
use mathlib.Core.List.{List}
use lib.ListN.{length, get_or, replicate, get_or-replicate, length-replicate, get_or-eq_default}
use native.Mathlib.Decide.{dec_lt}
use native.Mathlib.Nat.{zero-add, add-zero, div-eq_of_lt, lt_of_lt_of_le, pow-le-pow_right, le_of_suc-le-suc, not-suc-le-zero}
use native.Mathlib.Omega.{arith}
use Rattle.std.specs.Array.{IsFromFnResultFrom, IsFromFnResult}
use Rattle.std.specs.Fn.{Called}
use Rattle.std.proofs.lemmas.List.{ext_get_or}
use Rattle.automata.specs.Automata.{reset_byte, in_byte, firsts, reset_set, resets_of}

pub reset_zero : (s : List ℕ) (i : ℕ) → resets_of s i 0 ≡ false
unfolding resets_of in_byte
reset_zero s i = refl

-- a byte below 2 ^ n has no clock above n
pub no_bit : (b n x : ℕ) → b < 2 ^ n → n < x → in_byte b x ≡ false
unfolding in_byte
no_bit b n zero h g = refl
no_bit b n (suc x) h g =
    let q : b / 2 ^ x ≡ 0 = div-eq_of_lt (lt_of_lt_of_le h (pow-le-pow_right {n = 2} (omega arith) {i = n} {j = x} (omega arith))) in
    rw q

firsts_at : (n : ℕ) (f : ℕ → Bool) (x : ℕ) → x < n → get_or (firsts n f) x false ≡ f x
unfolding firsts
firsts_at zero f x h = absurd (not-suc-le-zero h)
firsts_at (suc n) f zero h = refl
firsts_at (suc n) f (suc x) h = firsts_at n (λ x. f (suc x)) x (le_of_suc-le-suc h)

length_firsts : (n : ℕ) (f : ℕ → Bool) → length (firsts n f) ≡ n
unfolding firsts
length_firsts zero f = refl
length_firsts (suc n) f = ap suc (length_firsts n (λ x. f (suc x)))

-- what std's `from_fn` gives of a function that stays as it is
module _ {F : Type 0} {g : Mut F (ℕ × Unit {0}) Bool} {f : F} {h : ℕ → Bool}
    (calls : (x : ℕ) (b : Bool) (q : F) → Called g f (x, tt) b q → (q ≡ f) × (b ≡ h x)) where
  each_at : (ys : List Bool) (p : F) (i n : ℕ) → p ≡ f → IsFromFnResultFrom g p ys i n → (k : ℕ) → k < n → get_or ys (i + k) false ≡ h (i + k)
  each_at ys p i zero e r k l = absurd (not-suc-le-zero l)
  each_at ys p i (suc n) e (q, y, at, call, rest) zero l = rw (add-zero i) (at.1 false ∙ (calls i y q (subst (λ p. Called g p (i, tt) y q) e call)).1)
  each_at ys p i (suc n) e (q, y, at, call, rest) (suc k) l =
      let next : i + suc k ≡ i + 1 + k = omega arith in
      rw next (each_at ys q (i + 1) n (calls i y q (subst (λ p. Called g p (i, tt) y q) e call)).0 rest k (le_of_suc-le-suc l))

  pub firsts_from : (ys : List Bool) (n : ℕ) → IsFromFnResult g f ys n → ys ≡ firsts n h
  firsts_from ys n r =
      ext_get_or false ys (firsts n h) (r.long ∙ sym (length_firsts n h))
      (λ k l. let b : k < n = omega (arith, r.long) in rw zero-add at (each_at ys f 0 n refl r.each k b) ∙ sym (firsts_at n h k b))

-- what `reset_set` gives, read at a clock
pub resets_at : (s : List ℕ) (i x : ℕ) → x < 9 → get_or (reset_set (reset_byte s i)) x false ≡ resets_of s i x
unfolding reset_set resets_of
resets_at s i = firsts_at 9 (in_byte (reset_byte s i))

-- a list of nine that marks no clock
pub none_reset : (x : ℕ) → get_or (replicate 9 false) x false ≡ false
none_reset x = go (dec_lt x 9)
  where
    go : Dec (x < 9) → get_or (replicate 9 false) x false ≡ false
    go (yes h) = get_or-replicate 9 x false false h
    go (no h) =
        let long : length (replicate 9 false) ≤ x = omega (arith, length-replicate 9 false) in
        get_or-eq_default (replicate 9 false) false long
