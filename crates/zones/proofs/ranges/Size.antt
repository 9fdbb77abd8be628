-- The numbers of a reduction grow by addition and not by doubling. After k middle indices a zone that is not empty has p at most (k + 1) ×
-- P and m at least −(k + 1) × C, where P and C bound them at the start; m never rises.
-- Each entry has a set of middle indices through which it goes: `Through`. Where an entry is lowered by the middle index k, the sets of its
-- two parts have no index in common, or else the way round by that index would be a loop below 0.
-- Assumes nothing.
use Rattle.zones.specs.Reductions.{is_empty}
use Prim.Native.Nat.{ℕ, zero, suc, ◌+◌, ◌<◌, ◌≤◌}
use mathlib.Core.Path.{◌≡◌, refl, sym, ◌∙◌}
use mathlib.Core.Bool.{Bool, true, false, cond, ◌||◌}
use mathlib.Core.Logic.{⊎_elim}
use borrow.Author.Tests.{lt-ltb, le-ltb}
use lib.Dec.{ltb}
use lib.IntN.{pos}
use lib.Signed.{◌≤ℤ◌}
use native.Mathlib.Omega.{arith}
use native.Mathlib.Decide.{ℕ_discrete}
use native.Mathlib.Nat.{not-suc-le-zero, mul-le-mul_right}
use Rattle.zones.specs.declared.pair.Pair.{Pair}
use Rattle.zones.specs.declared.zone.Work.{Work}
use Rattle.zones.specs.Integers.{up, down}
use Rattle.zones.proofs.pairs.Integers.{le_read, sum_law, one_side}
use Rattle.zones.specs.Pairs.{sum_of, is_less}
use Rattle.zones.specs.Ranges.{Spread}
use Rattle.zones.specs.Zones.{entry}
use Rattle.zones.specs.Reductions.{round_steps, reduce_steps}
use Rattle.runs.proofs.Contradictions.{true_false}
use Rattle.zones.proofs.pairs.Choices.{not_less_shows, smaller_cases}
use Rattle.zones.proofs.pairs.Order.{◌≼◌, ≼_refl, lex_read, lex_make, lex_lt, sum_at, sum_p, at_least_0, large}
use Rattle.zones.proofs.reductions.Rounds.{chosen, row_kept, col_kept, RoundDone}
use Rattle.zones.proofs.reductions.Progress.{Alive, along}
use Rattle.zones.proofs.reductions.Closure.{Triangle, round_triangle, round_left, round_right}

-- ---- sets of indices
bit : Bool → ℕ
bit true = 1
bit false = 0

-- how many below k
pub count : (ℕ → Bool) → ℕ → ℕ
count S zero = 0
count S (suc k) = bit (S k) + count S k

bit≤ : (t : Bool) → bit t ≤ 1
unfolding bit
bit≤ true = omega arith
bit≤ false = omega arith

count≤ : (S : ℕ → Bool) (k : ℕ) → count S k ≤ k
unfolding count
count≤ S zero = omega arith
count≤ S (suc k) = omega (arith, bit≤ (S k), count≤ S k)

bit_or : (s t : Bool) → (s ≡ true → t ≡ true → ⊥) → bit s + bit t ≤ bit (s || t)
unfolding bit
bit_or true true f = absurd (f refl refl)
bit_or true false f = omega arith
bit_or false t f = omega arith

count_or : (S U : ℕ → Bool) (k : ℕ) → ((v : ℕ) → v < k → S v ≡ true → U v ≡ true → ⊥) → count S k + count U k ≤ count (λ v. S v || U v) k
unfolding count
count_or S U zero f = omega arith
count_or S U (suc k) f = omega (arith, bit_or (S k) (U k) (f k (omega arith)), count_or S U k (λ v h. f v (omega arith)))

-- S below k, and t at k
with : ℕ → Bool → (ℕ → Bool) → ℕ → Bool
with k t S v = cond (ltb v k) (S v) t

with-below : (k : ℕ) (t : Bool) (S : ℕ → Bool) (v : ℕ) → v < k → with k t S v ≡ S v
unfolding with
with-below k t S v h = rw (lt-ltb v k h)

with_at : (k : ℕ) (t : Bool) (S : ℕ → Bool) → with k t S k ≡ t
unfolding with
with_at k t S = rw (le-ltb k k (omega arith))

count_with : (k : ℕ) (t : Bool) (S : ℕ → Bool) (j : ℕ) → j ≤ k → count (with k t S) j ≡ count S j
unfolding count
count_with k t S zero h = refl
count_with k t S (suc j) h = rw (with-below k t S j h, count_with k t S j (omega arith))

count_next : (k : ℕ) (t : Bool) (S : ℕ → Bool) → count (with k t S) (suc k) ≡ bit t + count S k
unfolding count
count_next k t S = rw (with_at k t S, count_with k t S k (omega arith))

count_kept : (k : ℕ) (S : ℕ → Bool) → count (with k false S) (suc k) ≡ count S k
unfolding bit
count_kept k S = omega (arith, count_next k false S)

-- ---- orders of pairs
by_first : (a x b y z t : Pair) → a ≼ x → b ≼ sum_of y z → sum_of x y ≼ t → sum_of a b ≼ sum_of t z
by_first a x b y z t f g h =
    large (a.p + x.p + b.p + y.p + z.p + t.p) λ K big.
    lex_make K (omega (arith, sum_p t z))
    (omega (
      arith,
      sum_at K a b,
      sum_at K t z,
      sum_at K y z,
      sum_at K x y,
      lex_read K (omega arith) f,
      lex_read K (omega arith) g,
      lex_read K (omega (arith, sum_p x y)) h,
    ))

by_second : (a t y b x u : Pair) → a ≼ sum_of t y → b ≼ x → sum_of y x ≼ u → sum_of a b ≼ sum_of t u
by_second a t y b x u f g h =
    large (a.p + x.p + b.p + y.p + u.p + t.p) λ K big.
    lex_make K (omega (arith, sum_p t u))
    (omega (
      arith,
      sum_at K a b,
      sum_at K t u,
      sum_at K t y,
      sum_at K y x,
      lex_read K (omega arith) f,
      lex_read K (omega arith) g,
      lex_read K (omega (arith, sum_p y x)) h,
    ))

by_both : (a x b y t : Pair) → a ≼ x → b ≼ y → sum_of x y ≼ t → sum_of a b ≼ t
by_both a x b y t f g h =
    large (a.p + x.p + b.p + y.p + t.p) λ K big.
    lex_make K (omega arith)
    (omega (arith, sum_at K a b, sum_at K x y, lex_read K (omega arith) f, lex_read K (omega arith) g, lex_read K (omega (arith, sum_p x y)) h))

-- a loop through v that is not below 0
no_loop : (ij iv vj ik kj vk kv vv : Pair) → sum_of iv vk ≼ ik → sum_of kv vj ≼ kj → ij ≼ sum_of iv vj → vv ≼ sum_of vk kv → pos 0 ≤ℤ vv.m →
    is_less (sum_of ik kj) ij ≡ true → ⊥
no_loop ij iv vj ik kj vk kv vv f g h l d e =
    large (ij.p + iv.p + vj.p + ik.p + kj.p + vk.p + kv.p + vv.p) λ K big.
    omega (
      arith,
      sum_at K iv vk,
      sum_at K kv vj,
      sum_at K iv vj,
      sum_at K vk kv,
      sum_at K ik kj,
      lex_read K (omega (arith, sum_p iv vk)) f,
      lex_read K (omega (arith, sum_p kv vj)) g,
      lex_read K (omega arith) h,
      lex_read K (omega arith) l,
      at_least_0 K vv d,
      (lex_lt K (omega (arith, sum_p ik kj)) e).1,
    )

pub sum-up : (a b : Pair) → up (sum_of a b).m ≤ up a.m + up b.m
unfolding sum_of
sum-up a b = (sum_law a.m b.m).high

pub sum-down : (a b : Pair) → down (sum_of a b).m ≤ down a.m + down b.m
unfolding sum_of
sum-down a b = (sum_law a.m b.m).low

fallen : (C : ℕ) (a b : Pair) → a ≼ b → up b.m ≤ C → up a.m ≤ C
fallen C a b h l =
    let m = (not_less_shows a b h.kept).0 in
    ⊎_elim (λ e. omega arith) (λ e. omega (arith, le_read m)) (one_side a.m)

-- ---- what each entry goes through
pub record Through (C P k : ℕ) (w : Work) (i j : ℕ) : Type 0 where
  pub by : ℕ → Bool
  pub spread : Spread C P (count by k + 1) (entry w i j)
  pub parts : (v : ℕ) → v < k → by v ≡ true → sum_of (entry w i v) (entry w v j) ≼ entry w i j

module _ (C P n k : ℕ) (w s : Work) (k< : k < n) (dk : pos 0 ≤ℤ (entry w k k).m) (ds : (a : ℕ) → a < n → pos 0 ≤ℤ (entry s a a).m)
    (r : RoundDone n k n w s) (tri : Triangle n k w) (thr : (i j : ℕ) → i < n → j < n → Through C P k w i j) where
  abbrev D : ℕ → ℕ → Pair
  D x y = entry w x y

  left : (i j : ℕ) → i < n → j < n → entry s i j ≼ D i j
  left = round_left n k w s r

  right : (i j : ℕ) → i < n → j < n → entry s i j ≼ sum_of (D i k) (D k j)
  right = round_right n k w s r

  at_k : (i : ℕ) → i < n → entry s i k ≡ D i k
  at_k i hi = r.done i k hi k< ∙ col_kept w k dk i

  k_at : (j : ℕ) → j < n → entry s k j ≡ D k j
  k_at j hj = r.done k j k< hj ∙ row_kept w k dk j

  module _ (i j : ℕ) (hi : i < n) (hj : j < n) where
    apart : is_less (sum_of (D i k) (D k j)) (D i j) ≡ true → (v : ℕ) → v < k → (thr i k hi k<).by v ≡ true → (thr k j k< hj).by v ≡ true → ⊥
    unfolding Triangle
    apart e v hv f g =
        no_loop (D i j) (D i v) (D v j) (D i k) (D k j) (D v k) (D k v) (entry s v v)
        ((thr i k hi k<).parts v hv f) ((thr k j k< hj).parts v hv g) (tri v i j hv hi hj) (right v v (omega arith) (omega arith))
        (ds v (omega arith)) e

    lowered : is_less (sum_of (D i k) (D k j)) (D i j) ≡ true → entry s i j ≡ sum_of (D i k) (D k j) → Through C P (suc k) s i j
    unfolding bit
    lowered e q = record { by = with k true or; spread = spread; parts = parts }
      where
        S : ℕ → Bool
        S = (thr i k hi k<).by

        U : ℕ → Bool
        U = (thr k j k< hj).by

        or : ℕ → Bool
        or v = S v || U v

        spread : Spread C P (count (with k true (λ v. S v || U v)) (suc k) + 1) (entry s i j)
        spread =
            let x = (thr i k hi k<).spread in
            let y = (thr k j k< hj).spread in
            let few = count_or S U k (apart e) in
            rw (count_next k true (λ v. S v || U v)) (record {
              high = fallen C _ (D i j) (left i j hi hj) (thr i j hi hj).spread.high;
              deep = rw q (omega (arith, sum-down (D i k) (D k j), x.deep, y.deep, mul-le-mul_right C few));
              p = rw q (omega (arith, sum_p (D i k) (D k j), x.p, y.p, mul-le-mul_right P few));
            })

        inside : (v : ℕ) → v < k → (a b : Bool) → S v ≡ a → U v ≡ b → a || b ≡ true → sum_of (entry s i v) (entry s v j) ≼ sum_of (D i k) (D k j)
        inside v hv true b f g h =
            by_first (entry s i v) (D i v) (entry s v j) (D v k) (D k j) (D i k) (left i v hi (omega arith)) (right v j (omega arith) hj)
            ((thr i k hi k<).parts v hv f)
        inside v hv false true f g h =
            by_second (entry s i v) (D i k) (D k v) (entry s v j) (D v j) (D k j) (right i v hi (omega arith)) (left v j (omega arith) hj)
            ((thr k j k< hj).parts v hv g)
        inside v hv false false f g h = true_false (sym h)

        go : (v : ℕ) → v < suc k → with k true (λ v. S v || U v) v ≡ true → Dec (v ≡ k) → sum_of (entry s i v) (entry s v j) ≼ sum_of (D i k) (D k j)
        go v hv f (yes z) = rw (z, at_k i hi, k_at j hj) (≼_refl (sum_of (D i k) (D k j)))
        go v hv f (no z) = inside v (omega arith) (S v) (U v) refl refl (sym (with-below k true (λ v. S v || U v) v (omega arith)) ∙ f)

        parts : (v : ℕ) → v < suc k → with k true (λ v. S v || U v) v ≡ true → sum_of (entry s i v) (entry s v j) ≼ entry s i j
        parts v hv f = rw q (go v hv f (ℕ_discrete v k))

    kept : entry s i j ≡ D i j → Through C P (suc k) s i j
    kept q = record { by = with k false S; spread = rw (q, count_kept k S) (thr i j hi hj).spread; parts = parts }
      where
        S : ℕ → Bool
        S = (thr i j hi hj).by

        go : (v : ℕ) → v < suc k → with k false S v ≡ true → Dec (v ≡ k) → sum_of (entry s i v) (entry s v j) ≼ D i j
        go v hv f (yes z) = true_false (sym (rw z at f) ∙ with_at k false S)
        go v hv f (no z) =
            by_both (entry s i v) (D i v) (entry s v j) (D v j) (D i j) (left i v hi (omega arith)) (left v j (omega arith) hj)
            ((thr i j hi hj).parts v (omega arith) (sym (with-below k false S v (omega arith)) ∙ f))

        parts : (v : ℕ) → v < suc k → with k false S v ≡ true → sum_of (entry s i v) (entry s v j) ≼ entry s i j
        parts v hv f = rw q (go v hv f (ℕ_discrete v k))

    pub round_through : Through C P (suc k) s i j
    unfolding chosen
    round_through =
        smaller_cases (D i j) (sum_of (D i k) (D k j)) (λ c. entry s i j ≡ c.pair → Through C P (suc k) s i j) (λ e q. lowered e q) (λ e q. kept q)
        (r.done i j hi hj)

-- of more entries
pub spread_more : (C P : ℕ) {K L : ℕ} {a : Pair} → Spread C P K a → K ≤ L → Spread C P L a
spread_more C P h l = record { high = h.high; deep = omega (arith, h.deep, mul-le-mul_right C l); p = omega (arith, h.p, mul-le-mul_right P l) }

-- ---- the whole reduction
pub record Grown (C P n k : ℕ) (w : Work) : Type 0 where
  pub triangle : Triangle n k w
  pub through : (i j : ℕ) → i < n → j < n → Through C P k w i j

start_grown : (C P n : ℕ) (w : Work) → ((i j : ℕ) → i < n → j < n → Spread C P 1 (entry w i j)) → Grown C P n 0 w
unfolding Triangle count
start_grown C P n w b = record {
  triangle = λ a i j ha hi hj. absurd (not-suc-le-zero ha);
  through =
      λ i j hi hj. record {
        by = λ v. false;
        spread = b i j hi hj;
        parts = λ v hv f. absurd (not-suc-le-zero hv);
      };
}

grown_next : (C P n k : ℕ) (v : Work) → k < n → Alive n v → Alive n (round_steps n k n v) → RoundDone n k n v (round_steps n k n v)
    → Grown C P n k v →
    Grown C P n (suc k) (round_steps n k n v)
grown_next C P n k v k< a b d t = record {
  triangle = round_triangle n k v (round_steps n k n v) k< (a.diagonal k k<) d t.triangle;
  through = round_through C P n k v (round_steps n k n v) k< (a.diagonal k k<) b.diagonal d t.triangle t.through;
}

pub reduce_spread : (C P n : ℕ) (w : Work) → n ≤ 9 → Alive n w → ((i j : ℕ) → i < n → j < n → Spread C P 1 (entry w i j)) →
    (k : ℕ) → k ≤ n → is_empty (reduce_steps n k w) ≡ false → (i j : ℕ) → i < n → j < n → Spread C P (k + 1) (entry (reduce_steps n k w).work i j)
reduce_spread C P n w h s b k g e i j hi hj =
    let t = (along n w h s (λ k v. Grown C P n k v) (start_grown C P n w b) (λ k v k< a b d q. grown_next C P n k v k< a b d q) k g e).1 in
    let u = t.through i j hi hj in
    spread_more C P u.spread (omega (arith, count≤ u.by k))
