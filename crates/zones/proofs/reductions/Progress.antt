-- The reduction: where it stops, and what holds along it while the zone is not empty.
-- Assumes nothing.
use Prim.Native.Nat.{ℕ, zero, suc, ◌+◌, ◌<◌, ◌≤◌}
use mathlib.Core.Path.{◌≡◌, refl, sym, ap, ◌∙◌, subst}
use mathlib.Core.Bool.{Bool, true, false, cond}
use lib.ListN.{length}
use lib.IntN.{pos}
use lib.Signed.{◌≤ℤ◌, lt_z}
use native.Mathlib.Numerals.{add-one}
use native.Mathlib.Omega.{arith}
use native.Mathlib.Decide.{ℕ_discrete, le_ind}
use native.Mathlib.Nat.{not-suc-le-zero}
use Rattle.zones.specs.declared.fraction.Fraction.{Fraction}
use Rattle.zones.specs.declared.pair.Pair.{Pair}
use Rattle.std.specs.Prelude.{Option, None, Some, is_some}
use Rattle.std.specs.Option.{unwrap_or}
use Rattle.zones.specs.declared.reduction.Reduced.{Reduced}
use Rattle.zones.specs.declared.zone.Work.{Work}
use Rattle.zones.proofs.pairs.Integers.{int, lt_z_false, le_lt_z}
use Rattle.zones.specs.Fractions.{no_limit, lowered_by}
use Rattle.zones.specs.Pairs.{zero_pair, threshold_of}
use Rattle.zones.specs.Zones.{entry}
use Rattle.zones.specs.Reductions.{round_steps, empty_in, empty_below, seen_with, non_empty, is_empty, safe_of, after_middle, reduce_steps}
use Rattle.runs.proofs.Contradictions.{true_false}
use Rattle.zones.proofs.reductions.Rounds.{RoundDone, round_done}

-- a zone that is not empty has no diagonal entry below 0
pub diagonals : (n : ℕ) (w : Work) → empty_in n w ≡ false → (a : ℕ) → a < n → pos 0 ≤ℤ (entry w a a).m
unfolding empty_in
diagonals zero w e a h = absurd (not-suc-le-zero h)
diagonals (suc n) w e a h = go (λ f g. diagonals n w f a g) (lt_z (entry w n n).m (pos 0)) refl e (ℕ_discrete a n)
  where
    go : (empty_in n w ≡ false → a < n → pos 0 ≤ℤ (entry w a a).m) → (t : Bool) →
        lt_z (entry w n n).m (pos 0) ≡ t → cond t true (empty_in n w) ≡ false → Dec (a ≡ n) → pos 0 ≤ℤ (entry w a a).m
    go ih true f g d = true_false g
    go ih false f g (yes q) = rw q (lt_z_false (entry w n n).m (pos 0) f)
    go ih false f g (no q) = ih g (omega arith)

pub live_all : (n : ℕ) (w : Work) → ((a : ℕ) → a < n → pos 0 ≤ℤ (entry w a a).m) → empty_in n w ≡ false
unfolding empty_in
live_all zero w h = refl
live_all (suc n) w h = rw (le_lt_z (entry w n n).m (pos 0) (h n (omega arith))) (live_all n w (λ a ha. h a (omega arith)))

-- and nothing lowers the safe fraction
pub safe_all : (n : ℕ) (w : Work) → ((a : ℕ) → a < n → pos 0 ≤ℤ (entry w a a).m) → empty_below n w ≡ no_limit
unfolding empty_below
safe_all zero w h = refl
safe_all (suc n) w h = rw (le_lt_z (entry w n n).m (pos 0) (h n (omega arith))) (safe_all n w (λ a ha. h a (omega arith)))

-- ---- what the diagonal shows
-- of the first i pairs
abbrev pub seen_in : ℕ → Work → Option Fraction
seen_in i w = cond (empty_in i w) (Some (empty_below i w)) None

-- a zone whose diagonal shows s
abbrev pub leaves : Work → Option Fraction → Reduced
leaves w s = record { work = w; emptied = s }

pub seen_empty : (i : ℕ) (w : Work) → is_some (seen_in i w) ≡ empty_in i w
seen_empty i w = go (empty_in i w)
  where
    go : (t : Bool) → is_some (cond t (Some (empty_below i w)) None) ≡ t
    go true = refl
    go false = refl

pub seen_safe : (i : ℕ) (w : Work) → unwrap_or (seen_in i w) no_limit ≡ empty_below i w
seen_safe i w = go (empty_in i w) refl
  where
    go : (t : Bool) → empty_in i w ≡ t → unwrap_or (cond t (Some (empty_below i w)) None) no_limit ≡ empty_below i w
    go true e = refl
    go false e = sym (safe_all i w (diagonals i w e))

pub seen_none : (w : Work) → None ≡ seen_in 0 w
unfolding empty_in
seen_none w = refl

pub seen_next : (i : ℕ) (w : Work) → seen_with (entry w i i) (seen_in i w) ≡ seen_in (suc i) w
unfolding empty_in empty_below seen_with
seen_next i w = go (lt_z (entry w i i).m (pos 0))
  where
    f : Fraction
    f = threshold_of (entry w i i) zero_pair

    go : (t : Bool) → cond t (Some (lowered_by (unwrap_or (seen_in i w) no_limit) f)) (seen_in i w)
        ≡ cond (cond t true (empty_in i w)) (Some (cond t (lowered_by (empty_below i w) f) (empty_below i w))) None
    go true = ap (λ (g : Fraction). Some (lowered_by g f)) (seen_safe i w)
    go false = refl

-- one pair more, as the code has it
module _ (q : Pair) (s : Option Fraction) where
  pub seen_below : lt_z q.m (pos 0) ≡ true → {t f : Fraction} → t ≡ threshold_of q zero_pair → f ≡ lowered_by (unwrap_or s no_limit) t →
      Some f ≡ seen_with q s
  unfolding seen_with
  seen_below e g h = rw e (ap Some (h ∙ ap (lowered_by _) g))

  pub seen_above : lt_z q.m (pos 0) ≡ false → s ≡ seen_with q s
  unfolding seen_with
  seen_above e = rw e refl

-- what the diagonal of a zone that is not empty shows
pub seen_all : (n : ℕ) (w : Work) → ((a : ℕ) → a < n → pos 0 ≤ℤ (entry w a a).m) → seen_in n w ≡ None
seen_all n w h = rw (live_all n w h) refl

-- ---- where it stops
pub after_live : (n k : ℕ) (r : Reduced) → is_empty r ≡ false →
    after_middle n k r ≡ leaves (round_steps n k n r.work) (seen_in n (round_steps n k n r.work))
unfolding after_middle
after_live n k r e = rw e

-- the same from a zone that is not empty: u after the round, and s what its diagonal shows
pub after_round : (n k : ℕ) (w : Work) {u : Work} {s : Option Fraction} → u ≡ round_steps n k n w → s ≡ seen_in n u →
    after_middle n k (non_empty w) ≡ leaves u s
after_round n k w g h = after_live n k (non_empty w) refl ∙ ap (λ (u : Work). leaves u (seen_in n u)) (sym g) ∙ ap (leaves _) (sym h)

pub after_empty : (n k : ℕ) (r : Reduced) → is_empty r ≡ true → after_middle n k r ≡ r
unfolding after_middle
after_empty n k r e = rw e

-- what holds of an empty zone, and of one that is not empty after its round, holds after the middle index
pub after_cases : (n k : ℕ) (r : Reduced) (P : Reduced → Type 0) → (is_empty r ≡ true → P r) →
    (is_empty r ≡ false → P (leaves (round_steps n k n r.work) (seen_in n (round_steps n k n r.work)))) → P (after_middle n k r)
after_cases n k r P f g = go (is_empty r) refl
  where
    go : (t : Bool) → is_empty r ≡ t → P (after_middle n k r)
    go true e = subst P (sym (after_empty n k r e)) (f e)
    go false e = subst P (sym (after_live n k r e)) (g e)

pub live_before : (n k : ℕ) (r : Reduced) → is_empty (after_middle n k r) ≡ false → is_empty r ≡ false
live_before n k r = after_cases n k r (λ x. is_empty x ≡ false → is_empty r ≡ false) (λ f e. e) (λ f e. f)

pub stays : (n k : ℕ) (w : Work) → is_empty (reduce_steps n k w) ≡ true → (j : ℕ) → k ≤ j → reduce_steps n j w ≡ reduce_steps n k w
unfolding reduce_steps
stays n k w e = le_ind (λ (j : ℕ). reduce_steps n j w ≡ reduce_steps n k w) refl
    (λ j h q. after_empty n j (reduce_steps n j w) (ap is_empty q ∙ e) ∙ q)

-- while it is not empty, nothing lowers the safe fraction
pub live_safe : (n k : ℕ) (w : Work) → is_empty (reduce_steps n k w) ≡ false → safe_of (reduce_steps n k w) ≡ no_limit
unfolding reduce_steps
live_safe n zero w e = refl
live_safe n (suc k) w e =
    let r = reduce_steps n k w in
    let v = round_steps n k n r.work in
    let a = after_live n k r (live_before n k r e) in
    ap safe_of a ∙ seen_safe n v ∙ safe_all n v (diagonals n v (sym (seen_empty n v) ∙ sym (ap is_empty a) ∙ e))

-- ---- the zone while it is not empty
pub record Alive (n : ℕ) (w : Work) : Type 0 where
  pub size : length w.zone ≡ 81
  pub diagonal : (a : ℕ) → a < n → pos 0 ≤ℤ (entry w a a).m

-- one whose diagonal is (0, 0)
pub zero_alive : (n : ℕ) (w : Work) → length w.zone ≡ 81 → ((a : ℕ) → a < n → entry w a a ≡ zero_pair) → Alive n w
zero_alive n w size d = record { size = size; diagonal = λ a ha. omega (arith, int, ap (λ (q : Pair). q.m) (d a ha)) }

pub alive_round : (n k : ℕ) (w : Work) → n ≤ 9 → k < n → Alive n w → (i : ℕ) → i ≤ n → RoundDone n k i w (round_steps n k i w)
alive_round n k w h g l i = round_done w n k h g (l.diagonal k g) l.size i

-- what holds of the zone at the start, and after each round that leaves it not empty, holds while it is not empty
module _ (n : ℕ) (w : Work) (n≤ : n ≤ 9) (start : Alive n w) where
  pub along : (Q : ℕ → Work → Type 0) → Q 0 w →
      ((k : ℕ) (v : Work) → k < n → Alive n v → Alive n (round_steps n k n v) → RoundDone n k n v (round_steps n k n v) → Q k v →
      Q (suc k) (round_steps n k n v)) →
      (k : ℕ) → k ≤ n → is_empty (reduce_steps n k w) ≡ false → Alive n (reduce_steps n k w).work × Q k (reduce_steps n k w).work
  unfolding reduce_steps
  along Q q f zero h e = (start, q)
  along Q q f (suc k) h e =
      let r = reduce_steps n k w in
      let g = live_before n k r e in
      let i = along Q q f k (omega arith) g in
      let a = after_live n k r g in
      let d = alive_round n k r.work n≤ h i.0 n (omega arith) in
      let z : Alive n (round_steps n k n r.work) =
      record { size = d.size; diagonal = diagonals n (round_steps n k n r.work) (sym (seen_empty n _) ∙ sym (ap is_empty a) ∙ e) } in
      subst (λ (x : Reduced). Alive n x.work × Q (suc k) x.work) (sym a) (z, f k r.work h i.0 z d i.1)

pub is_none : (s : Option Fraction) → is_some s ≡ false → s ≡ None
is_none None f = refl
is_none (Some x) f = true_false f

-- ---- as the code counts: w is the zone after k middle indices, and d what its diagonal shows
module _ (n k : ℕ) (w₀ w : Work) (d : Option Fraction) (e : reduce_steps n k w₀ ≡ leaves w d) where
  pub reduced_end : k ≡ n → leaves w d ≡ reduce_steps n n w₀
  reduced_end h = sym e ∙ ap (λ (x : ℕ). reduce_steps n x w₀) h

  pub reduced_stop : is_some d ≡ true → k ≤ n → leaves w d ≡ reduce_steps n n w₀
  reduced_stop f h = sym (stays n k w₀ (ap is_empty e ∙ f) n h ∙ e)

  -- the diagonal is looked at anew from what a zone that is not empty shows
  pub seen_live : is_some d ≡ false → d ≡ seen_in 0 w
  seen_live f = is_none d f ∙ seen_none w

-- and v the zone after one more
module _ (n k : ℕ) (w₀ w : Work) (e : reduce_steps n k w₀ ≡ non_empty w) (v : Work) (g : v ≡ round_steps n k n w)
    {s : Option Fraction} (h : s ≡ seen_in n v) where
  pub reduced_next : reduce_steps n (k + 1) w₀ ≡ leaves v s
  unfolding reduce_steps
  reduced_next = rw add-one (ap (after_middle n k) e ∙ after_round n k w g h)

  pub stopped_next : is_some s ≡ true → k < n → leaves v s ≡ reduce_steps n n w₀
  stopped_next f l = reduced_stop n (k + 1) w₀ v s reduced_next f (omega arith)
