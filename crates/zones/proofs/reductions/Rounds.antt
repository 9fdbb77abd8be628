-- In place is at once: where the middle index's diagonal entry is not below 0, a round in document 01's order leaves at each place the
-- smaller of what stood there and the way through the middle index, as both were when the round began.
-- Assumes nothing.
use Prim.Native.Nat.{ℕ, zero, suc, ◌+◌, ◌*◌, ◌<◌, ◌≤◌}
use mathlib.Core.Path.{◌≡◌, refl, sym, ap, ◌∙◌, subst}
use mathlib.Core.Bool.{false}
use mathlib.Core.List.{List}
use lib.ListN.{length, get_or, set}
use lib.Seq.{set-get_or}
use lib.IntN.{pos}
use lib.Signed.{◌≤ℤ◌}
use native.Mathlib.Numerals.{add-one}
use native.Mathlib.Omega.{arith}
use native.Mathlib.Decide.{dec_lt, ℕ_discrete}
use native.Mathlib.Nat.{not-suc-le-zero}
use Rattle.zones.specs.declared.fraction.Fraction.{Fraction}
use Rattle.zones.specs.declared.pair.Pair.{Pair}
use Rattle.zones.specs.declared.pair.Choice.{Choice}
use Rattle.zones.specs.declared.zone.Work.{Work}
use Rattle.zones.specs.Fractions.{lowered_by}
use Rattle.zones.specs.Pairs.{zero_pair, sum_of, is_less, smaller_of, threshold_of}
use Rattle.zones.specs.Zones.{pair_at, entry, lower_at}
use Rattle.zones.specs.Reductions.{relaxed, row_steps, round_steps}
use Rattle.zones.proofs.pairs.Choices.{threshold_none, smaller_old, smaller_stays, lowered_none}
use Rattle.zones.proofs.pairs.Order.{◌≼◌, lex_make, sum_at, sum_p, at_least_0, large, smaller_kept}
use Rattle.zones.proofs.places.Places.{lower_size, lower_at_lem, lower_off}

-- the comparison of entry (i, j) with the way through k
unfoldable pub chosen : ℕ → ℕ → ℕ → Work → Choice
chosen k i j w = smaller_of (entry w i j) (sum_of (entry w i k) (entry w k j))

-- ---- one step
module _ (w : Work) (k i j : ℕ) (size : length w.zone ≡ 81) where
  relaxed_size : length (relaxed k i j w).zone ≡ 81
  unfolding relaxed
  relaxed_size = lower_size w i j (sum_of (entry w i k) (entry w k j)) size

  relaxed_at : i < 9 → j < 9 → entry (relaxed k i j w) i j ≡ (chosen k i j w).pair
  unfolding relaxed chosen
  relaxed_at = lower_at_lem w i j (sum_of (entry w i k) (entry w k j)) size

  relaxed_off : (a b : ℕ) → b < 9 → j < 9 → (a ≡ i → b ≡ j → ⊥) → entry (relaxed k i j w) a b ≡ entry w a b
  unfolding relaxed
  relaxed_off = lower_off w i j (sum_of (entry w i k) (entry w k j)) size

-- as the code makes it
pub relaxed_is : (w : Work) (k i j : ℕ) (x : Pair) (ch : Choice) (f : Fraction) →
    x ≡ sum_of (entry w i k) (entry w k j) → ch ≡ smaller_of (entry w i j) x → f ≡ lowered_by w.fraction ch.threshold →
    record { zone = set w.zone (i * 9 + j) ch.pair; fraction = f } ≡ relaxed k i j w
unfolding relaxed lower_at
relaxed_is w k i j x ch f e g h =
    let e' : ch ≡ smaller_of (entry w i j) (sum_of (entry w i k) (entry w k j)) = g ∙ ap (smaller_of (entry w i j)) e in
    let h' = h ∙ ap (λ (c : Choice). lowered_by w.fraction c.threshold) e' in
    λ t. record { zone = set w.zone (i * 9 + j) (e' t).pair; fraction = h' t }

-- the same in column 0, whose place in row a is a * 9
abbrev pub first_of : List Pair → ℕ → Pair
first_of z a = get_or z (a * 9) zero_pair

pub first_is : (z : List Pair) (a : ℕ) → first_of z a ≡ pair_at z a 0
unfolding pair_at
first_is z a = let e : a * 9 ≡ a * 9 + 0 = omega arith in ap (λ (x : ℕ). get_or z x zero_pair) e

pub column_is : (w : Work) (k i : ℕ) (x : Pair) (ch : Choice) (f : Fraction) →
    x ≡ sum_of (entry w i k) (first_of w.zone k) → ch ≡ smaller_of (first_of w.zone i) x → f ≡ lowered_by w.fraction ch.threshold →
    record { zone = set w.zone (i * 9) ch.pair; fraction = f } ≡ relaxed k i 0 w
column_is w k i x ch f e g h =
    let p : i * 9 ≡ i * 9 + 0 = omega arith in
    ap (λ (a : ℕ). record { zone = set w.zone a ch.pair; fraction = f }) p
    ∙ relaxed_is w k i 0 x ch f (rw (first_is _ _) at e) (rw (first_is _ _) at g) h

-- where the way x through k is not the smaller, the square stays
module _ (w : Work) (k i j : ℕ) (x : Pair) (f : Fraction) (e : x ≡ sum_of (entry w i k) (entry w k j)) where
  pub relaxed_old : is_less x (entry w i j) ≡ false → f ≡ lowered_by w.fraction (threshold_of (entry w i j) x) →
      record { zone = w.zone; fraction = f } ≡ relaxed k i j w
  unfolding pair_at
  relaxed_old l g =
      ap (λ (z : List Pair). record { zone = z; fraction = f }) (sym (set-get_or w.zone (i * 9 + j) zero_pair))
      ∙ relaxed_is w k i j x _ f e (smaller_old (entry w i j) x _ l refl) g

  -- as the code sees it: the pair chosen is not below the one there
  pub relaxed_stays : (ch : Choice) → ch ≡ smaller_of (entry w i j) x → f ≡ lowered_by w.fraction ch.threshold →
      is_less ch.pair (entry w i j) ≡ false → record { zone = w.zone; fraction = f } ≡ relaxed k i j w
  relaxed_stays ch g h l =
      let o = smaller_stays (entry w i j) x (subst (λ (c : Choice). is_less c.pair (entry w i j) ≡ false) g l) in
      relaxed_old o (h ∙ ap (λ (c : Choice). lowered_by w.fraction c.threshold) (g ∙ sym (smaller_old (entry w i j) x _ o refl)))

-- a comparison without a threshold that the entry there wins changes nothing
still_step : (w : Work) (k i j : ℕ) → entry w i j ≼ sum_of (entry w i k) (entry w k j) → (entry w i j).p ≤ (sum_of (entry w i k) (entry w k j)).p →
    relaxed k i j w ≡ w
still_step w k i j l p =
    let x = sum_of (entry w i k) (entry w k j) in
    sym (relaxed_old w k i j x w.fraction refl l.kept
    (lowered_none w.fraction (threshold_of (entry w i j) x) (sym (ap (λ (g : Fraction). g.d) (threshold_none (entry w i j) x p)))))

-- ---- the middle index's row and column stay
module _ (w : Work) (k : ℕ) (diagonal : pos 0 ≤ℤ (entry w k k).m) where
  row_order : (b : ℕ) → entry w k b ≼ sum_of (entry w k k) (entry w k b)
  row_order b =
      let d = entry w k k in
      let x = entry w k b in
      large (d.p + x.p) λ K big. lex_make K (omega (arith, sum_p d x)) (omega (arith, sum_at K d x, at_least_0 K d diagonal))

  col_order : (a : ℕ) → entry w a k ≼ sum_of (entry w a k) (entry w k k)
  col_order a =
      let d = entry w k k in
      let x = entry w a k in
      large (d.p + x.p) λ K big. lex_make K (omega (arith, sum_p x d)) (omega (arith, sum_at K x d, at_least_0 K d diagonal))

  pub row_kept : (b : ℕ) → (chosen k k b w).pair ≡ entry w k b
  unfolding chosen
  row_kept b = ap (λ (c : Choice). c.pair) (smaller_kept (entry w k b) (sum_of (entry w k k) (entry w k b)) (row_order b))

  pub col_kept : (a : ℕ) → (chosen k a k w).pair ≡ entry w a k
  unfolding chosen
  col_kept a = ap (λ (c : Choice). c.pair) (smaller_kept (entry w a k) (sum_of (entry w a k) (entry w k k)) (col_order a))

  -- nor does the fraction change: the way by the diagonal has no smaller count
  row_still : (b : ℕ) → relaxed k k b w ≡ w
  row_still b = still_step w k k b (row_order b) (omega (arith, sum_p (entry w k k) (entry w k b)))

  pub col_still : (a : ℕ) → relaxed k a k w ≡ w
  col_still a = still_step w k a k (col_order a) (omega (arith, sum_p (entry w a k) (entry w k k)))

  row_stays : (j : ℕ) → row_steps k k j w ≡ w
  unfolding row_steps
  row_stays zero = refl
  row_stays (suc j) = ap (relaxed k k j) (row_stays j) ∙ row_still j

-- ---- the first j steps of row i
pub record RowDone (k i j : ℕ) (w s : Work) : Type 0 where
  pub size : length s.zone ≡ 81
  pub done : (b : ℕ) → b < j → entry s i b ≡ (chosen k i b w).pair
  pub rest : (a b : ℕ) → b < 9 → (a ≡ i → b < j → ⊥) → entry s a b ≡ entry w a b

module _ (w : Work) (k i : ℕ) (k< : k < 9) (i< : i < 9) (diagonal : pos 0 ≤ℤ (entry w k k).m) where
  -- what a step reads is as it was
  module _ (j : ℕ) (j< : j < 9) (s : Work) (d : RowDone k i j w s) where
    pub reads_at : entry s i j ≡ entry w i j
    reads_at = d.rest i j j< (λ e h. omega arith)

    pub reads_from : entry s k j ≡ entry w k j
    reads_from = d.rest k j j< (λ e h. omega arith)

    pub reads_to : entry s i k ≡ entry w i k
    reads_to = go (dec_lt k j)
      where
        go : Dec (k < j) → entry s i k ≡ entry w i k
        go (yes h) = d.done k h ∙ col_kept w k diagonal i
        go (no f) = d.rest i k k< (λ e h. f h)

    pub row_same : chosen k i j s ≡ chosen k i j w
    unfolding chosen
    row_same = rw (reads_at, reads_to, reads_from)

    row_step : RowDone k i (suc j) w (relaxed k i j s)
    row_step = record {
      size = relaxed_size s k i j d.size;
      done = λ b h. go b h (ℕ_discrete b j);
      rest = λ a b hb f. relaxed_off s k i j d.size a b hb j< (λ e g. f e (omega arith)) ∙ d.rest a b hb (λ e g. f e (omega arith));
    }
      where
        go : (b : ℕ) → b < suc j → Dec (b ≡ j) → entry (relaxed k i j s) i b ≡ (chosen k i b w).pair
        go b h (yes e) =
            subst (λ (x : ℕ). entry (relaxed k i j s) i x ≡ (chosen k i x w).pair) (sym e)
            (relaxed_at s k i j d.size i< j< ∙ ap (λ (c : Choice). c.pair) row_same)
        go b h (no f) = relaxed_off s k i j d.size i b (omega arith) j< (λ e g. f g) ∙ d.done b (omega arith)

  pub row_done : length w.zone ≡ 81 → (j : ℕ) → j ≤ 9 → RowDone k i j w (row_steps k i j w)
  unfolding row_steps
  row_done size zero h = record { size = size; done = λ b g. absurd (not-suc-le-zero g); rest = λ a b hb f. refl }
  row_done size (suc j) h = row_step j h (row_steps k i j w) (row_done size j (omega arith))

-- one more step, as the code counts it
pub row_next : (k i j : ℕ) (w : Work) → relaxed k i j (row_steps k i j w) ≡ row_steps k i (j + 1) w
unfolding row_steps
row_next k i j w = rw add-one

-- the first i rows, each with n columns
pub record RoundDone (n k i : ℕ) (w s : Work) : Type 0 where
  pub size : length s.zone ≡ 81
  pub done : (a b : ℕ) → a < i → b < n → entry s a b ≡ (chosen k a b w).pair
  pub rest : (a b : ℕ) → b < 9 → (a < i → b < n → ⊥) → entry s a b ≡ entry w a b

module _ (w : Work) (n k : ℕ) (n≤ : n ≤ 9) (k< : k < n) (diagonal : pos 0 ≤ℤ (entry w k k).m) where
  module _ (i : ℕ) (i< : i ≤ n) (s : Work) (d : RoundDone n k i w s) where
    -- the middle index's row is as it was
    pub middle : (b : ℕ) → b < n → entry s k b ≡ entry w k b
    middle b hb = go (dec_lt k i)
      where
        go : Dec (k < i) → entry s k b ≡ entry w k b
        go (yes h) = d.done k b h hb ∙ row_kept w k diagonal b
        go (no f) = d.rest k b (omega arith) (λ g z. f g)

    pub still : pos 0 ≤ℤ (entry s k k).m
    still = rw (middle k k<) diagonal

    pub round_same : (b : ℕ) → b < n → chosen k i b s ≡ chosen k i b w
    unfolding chosen
    round_same b hb = rw (d.rest i b (omega arith) (λ h g. omega arith), d.rest i k (omega arith) (λ h g. omega arith), middle b hb)

    pub round_step : (t : Work) → RowDone k i n s t → RoundDone n k (suc i) w t
    round_step t r = record {
      size = r.size;
      done = λ a b h hb. go a b h hb (ℕ_discrete a i);
      rest = λ a b hb f. r.rest a b hb (λ e g. f (omega arith) g) ∙ d.rest a b hb (λ h g. f (omega arith) g);
    }
      where
        go : (a b : ℕ) → a < suc i → b < n → Dec (a ≡ i) → entry t a b ≡ (chosen k a b w).pair
        go a b h hb (yes e) =
            subst (λ (x : ℕ). entry t x b ≡ (chosen k x b w).pair) (sym e) (r.done b hb ∙ ap (λ (c : Choice). c.pair) (round_same b hb))
        go a b h hb (no f) = r.rest a b (omega arith) (λ e g. f e) ∙ d.done a b (omega arith) hb

  pub round_done : length w.zone ≡ 81 → (i : ℕ) → i ≤ n → RoundDone n k i w (round_steps n k i w)
  unfolding round_steps
  round_done size zero h = record { size = size; done = λ a b x y. absurd (not-suc-le-zero x); rest = λ a b x y. refl }
  round_done size (suc i) h =
      let s = round_steps n k i w in
      let d = round_done size i (omega arith) in
      round_step i (omega arith) s d (row_steps k i n s) (row_done s k i (omega arith) (omega arith) (still i (omega arith) s d) d.size n n≤)

-- a whole row, and a whole round, as the code counts them
pub row_all : (n k i : ℕ) (w : Work) {j : ℕ} {u v : Work} → j ≡ n → u ≡ row_steps k i j v → v ≡ round_steps n k i w → u ≡ round_steps n k (i + 1) w
unfolding round_steps
row_all n k i w {v = v} e f g = rw add-one (f ∙ ap (λ (x : ℕ). row_steps k i x v) e ∙ ap (row_steps k i n) g)

-- row k itself
pub row_skip : (n k i : ℕ) (w : Work) {u : Work} → n ≤ 9 → k < n → i ≡ k → pos 0 ≤ℤ (entry w k k).m → length w.zone ≡ 81 → u ≡ round_steps n k i w →
    u ≡ round_steps n k (i + 1) w
unfolding round_steps
row_skip n k i w n≤ k< e d size g =
    let s = round_steps n k i w in
    let t : pos 0 ≤ℤ (entry s k k).m = still w n k n≤ k< d i (omega arith) s (round_done w n k n≤ k< d size i (omega arith)) in
    rw add-one (g ∙ sym (ap (λ (x : ℕ). row_steps k x n s) e ∙ row_stays s k t n))

pub round_all : (n k : ℕ) (w : Work) {i : ℕ} {v : Work} → i ≡ n → v ≡ round_steps n k i w → v ≡ round_steps n k n w
round_all n k w e f = f ∙ ap (λ (x : ℕ). round_steps n k x w) e
