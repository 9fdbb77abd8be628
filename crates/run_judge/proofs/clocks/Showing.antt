-- What the tests and the steps of the clocks show, clock by clock.
-- Assumes nothing.
use Prim.Native.Nat.{ℕ, zero, suc, ◌+◌, ◌≤◌, ◌<◌}
use mathlib.Core.Path.{◌≡◌, refl, sym, ap, ◌∙◌, subst}
use mathlib.Core.Bool.{Bool, true, false, cond}
use mathlib.Core.List.{List, ◌++◌}
use mathlib.Core.Logic.{◌↔◌, ◌⊎◌, inl, inr, ⊎_elim}
use native.Mathlib.Omega.{arith}
use native.Mathlib.Numerals.{add-one}
use native.Mathlib.Decide.{ℕ_discrete}
use native.Mathlib.Nat.{not-suc-le-zero}
use borrow.Author.Tests.{ltb-false, leb-true, le-leb, le-ltb}
use lib.Dec.{ltb, leb, eqb}
use lib.ListN.{length, get_or, set, take, drop, length-set, take-append-drop}
use lib.Seq.{get_or-set_same, get_or-set_other, get_or-take, set-append_left, length-take-le}
use Rattle.std.proofs.Common.{Fits, w64}
use Rattle.runs.specs.Limits.{scale}
use Rattle.runs.proofs.Contradictions.{true_false}
use Rattle.automata.specs.Automata.{lo_at, hi_at, no_upper}
use Rattle.run_judge.specs.Clocks.{holds, within_at, waited, reset_by, LowLent}

-- ---- one limit
pub record Held (lo hi y : ℕ) : Type 0 where
  pub least : lo ≤ y
  pub most : eqb hi no_upper ≡ false → y ≤ hi

holds_shows : (lo hi y : ℕ) → holds lo hi y ≡ true → Held lo hi y
unfolding holds
holds_shows lo hi y = go (ltb y lo) refl (eqb hi no_upper) refl
  where
    go : (t : Bool) → ltb y lo ≡ t → (u : Bool) → eqb hi no_upper ≡ u → cond t false (cond u true (leb y hi)) ≡ true → Held lo hi y
    go true e u f h = true_false (sym h)
    go false e true f h = record { least = ltb-false y lo e; most = λ g. true_false (sym f ∙ g) }
    go false e false f h = record { least = ltb-false y lo e; most = λ g. leb-true y hi h }

shows_holds : (lo hi y : ℕ) → Held lo hi y → holds lo hi y ≡ true
unfolding holds
shows_holds lo hi y h = rw (le-ltb y lo h.least) (go (eqb hi no_upper) refl)
  where
    go : (u : Bool) → eqb hi no_upper ≡ u → cond u true (leb y hi) ≡ true
    go true f = refl
    go false f = le-leb y hi (h.most f)

-- ---- all limits; clock x counts from 0
abbrev pub HeldAt : List ℕ → ℕ → List ℕ → ℕ → Type 0
HeldAt b at c x = Held (lo_at b at (suc x)) (hi_at b at (suc x)) (get_or c x 0)

-- what holds below n and at n holds below n + 1
up_to : (P : ℕ → Type 0) (n : ℕ) → ((k : ℕ) → k < n → P k) → P n → (k : ℕ) → k < suc n → P k
up_to P n f p k h = go (ℕ_discrete k n)
  where
    go : Dec (k ≡ n) → P k
    go (yes e) = subst P (sym e) p
    go (no e) = f k (omega arith)

module _ (b : List ℕ) (at : ℕ) (c : List ℕ) where
  pub within_shows : (k : ℕ) → within_at b at c k ≡ true → (x : ℕ) → x < k → HeldAt b at c x
  unfolding within_at
  within_shows zero e x h = absurd (not-suc-le-zero h)
  within_shows (suc k) e y l = go (within_shows k) (holds (lo_at b at (suc k)) (hi_at b at (suc k)) (get_or c k 0)) refl e y l
    where
      go : (within_at b at c k ≡ true → (x : ℕ) → x < k → HeldAt b at c x) → (t : Bool) →
          holds (lo_at b at (suc k)) (hi_at b at (suc k)) (get_or c k 0) ≡ t →
          cond t (within_at b at c k) false ≡ true → (x : ℕ) → x < suc k → HeldAt b at c x
      go r true f g = up_to (HeldAt b at c) k (r g) (holds_shows _ _ _ f)
      go r false f g = true_false (sym g)

  pub shows_within : (k : ℕ) → ((x : ℕ) → x < k → HeldAt b at c x) → within_at b at c k ≡ true
  unfolding within_at
  shows_within zero h = refl
  shows_within (suc k) h = rw (shows_holds _ _ _ (h k (omega arith))) (shows_within k (λ x l. h x (omega arith)))

  -- so a test of them all is the definition's
  pub all_within : (k : ℕ) {r : Bool} →
      (r ≡ true) ↔ ((x : ℕ) → x < k → holds (lo_at b at (x + 1)) (hi_at b at (x + 1)) (get_or c x 0) ≡ true) → r ≡ within_at b at c k
  all_within k {r} e = go r (within_at b at c k)
      (λ f. shows_within k (λ x h. holds_shows _ _ _ (rw add-one at (e.0 f x h))))
      (λ w. e.1 (λ x h. let i = within_shows k w x h in rw add-one (shows_holds _ _ _ i)))
    where
      go : (r t : Bool) → (r ≡ true → t ≡ true) → (t ≡ true → r ≡ true) → r ≡ t
      go true t f g = sym (f refl)
      go false true f g = g refl
      go false false f g = refl

-- ---- clocks that change upwards
-- D k is c after its first k clocks have changed, clock x to v x
pub record Changes (c : List ℕ) (v : ℕ → ℕ) (D : ℕ → List ℕ) : Type 0 where
  pub none : D 0 ≡ c
  pub next : (k : ℕ) → (D (suc k) ≡ set (D k) k (v k)) ⊎ ((D (suc k) ≡ D k) × (v k ≡ get_or c k 0))

module _ {c : List ℕ} {v : ℕ → ℕ} {D : ℕ → List ℕ} (s : Changes c v D) where
  pub changed-length : (k : ℕ) → length (D k) ≡ length c
  changed-length zero = rw s.none refl
  changed-length (suc k) = ⊎_elim (λ e. rw e (simp length-set (changed-length k))) (λ e. rw e.0 (changed-length k)) (s.next k)

  other : (k x : ℕ) → (x ≡ k → ⊥) → get_or (D (suc k)) x 0 ≡ get_or (D k) x 0
  other k x h = ⊎_elim (λ e. rw e (get_or-set_other (D k) k x (v k) 0 h)) (λ e. rw e.0 refl) (s.next k)

  pub changed_past : (k x : ℕ) → k ≤ x → get_or (D k) x 0 ≡ get_or c x 0
  changed_past zero x h = rw s.none refl
  changed_past (suc k) x h = other k x (λ e. omega arith) ∙ changed_past k x (omega arith)

  pub changed_at : (k : ℕ) → k ≤ length c → (x : ℕ) → x < k → get_or (D k) x 0 ≡ v x
  changed_at zero h x l = absurd (not-suc-le-zero l)
  changed_at (suc k) h y m =
      up_to (λ x. get_or (D (suc k)) x 0 ≡ v x) k (λ x l. other k x (λ e. omega arith) ∙ changed_at k (omega arith) x l)
      (⊎_elim (λ e. rw e (get_or-set_same (D k) k (v k) 0 (omega (arith, changed-length k))))
      (λ e. rw e.0 (changed_past k k (omega arith) ∙ sym e.1)) (s.next k)) y m

-- those of a wait
pub waited_changes : (t : ℕ) (c : List ℕ) → Changes c (λ x. get_or c x 0 + t) (λ k. waited t k c)
unfolding waited
waited_changes t c = record { none = refl; next = λ k. inl refl }

-- those of a reset
pub reset_changes : (R : ℕ → Bool) (c : List ℕ) → Changes c (λ x. cond (R x) 0 (get_or c x 0)) (λ k. reset_by R k c)
unfolding reset_by
reset_changes R c = record { none = refl; next = λ k. go k (reset_by R k c) (R k) }
  where
    go : (k : ℕ) (d : List ℕ) (t : Bool) → (cond t (set d k 0) d ≡ set d k (cond t 0 (get_or c k 0)))
        ⊎ ((cond t (set d k 0) d ≡ d) × (cond t 0 (get_or c k 0) ≡ get_or c k 0))
    go k d true = inl refl
    go k d false = inr (refl, refl)

-- ---- one turn of the code's loops
pub waited_next : (t k : ℕ) (c d : List ℕ) → d ≡ waited t k c → set d k (get_or d k 0 + t) ≡ waited t (k + 1) c
unfolding waited
waited_next t k c d e = let f : k ≤ k = omega arith in rw add-one (rw e (rw (changed_past (waited_changes t c) k k f) refl))

module _ (R : ℕ → Bool) (k : ℕ) (c d : List ℕ) (e : d ≡ reset_by R k c) where
  pub reset_put : R k ≡ true → set d k 0 ≡ reset_by R (k + 1) c
  unfolding reset_by
  reset_put h = rw add-one (rw (h, e))

  pub reset_kept : R k ≡ false → d ≡ reset_by R (k + 1) c
  unfolding reset_by
  reset_kept h = rw add-one (rw (h, e))

-- the ways through a turn of a reset
pub ruleset reset_turns = (reset_put, reset_kept)

-- a clock that the wait has not come to is as low as it was, so its sum fits
pub waited_fits : (t k : ℕ) (c d : List ℕ) → d ≡ waited t k c → k < length d → LowLent c → t ≤ scale → Fits w64 (get_or d k 0 + t)
waited_fits t k c d e h low small =
    let s = waited_changes t c in
    let same : get_or d k 0 ≡ get_or c k 0 = ap (λ (l : List ℕ). get_or l k 0) e ∙ changed_past s k k (omega arith) in
    let l : length d ≡ length c = ap length e ∙ changed-length s k in
    omega (arith, same, low k (omega (arith, l, h)))

-- a turn of a wait
pub ruleset wait_turns = (waited_next, waited_fits)

-- ---- the clocks of an automaton are lent from the front of eight
module _ (n : ℕ) (c : List ℕ) (h : n ≤ length c) where
  waited_front : (t k : ℕ) → k ≤ n → waited t k (take n c) ++ drop n c ≡ waited t k c
  unfolding waited
  waited_front t zero l = take-append-drop n c
  waited_front t (suc k) l =
      sym (set-append_left (waited t k (take n c)) (drop n c) k _
      (omega (arith, changed-length (waited_changes t (take n c)) k, length-take-le n c h)))
      ∙ rw (get_or-take n c k 0 l, waited_front t k (omega arith)) refl

  pub lent_waited : (t : ℕ) (d : List ℕ) → d ≡ waited t (length (take n c)) (take n c) → d ++ drop n c ≡ waited t n c
  lent_waited t d e = rw (e, length-take-le n c h) (waited_front t n (omega arith))

  reset_front : (R : ℕ → Bool) (k : ℕ) → k ≤ n → reset_by R k (take n c) ++ drop n c ≡ reset_by R k c
  unfolding reset_by
  reset_front R zero l = take-append-drop n c
  reset_front R (suc k) l = go (R k) (reset_front R k (omega arith))
    where
      go : (t : Bool) → reset_by R k (take n c) ++ drop n c ≡ reset_by R k c
          → cond t (set (reset_by R k (take n c)) k 0) (reset_by R k (take n c)) ++ drop n c ≡ cond t (set (reset_by R k c) k 0) (reset_by R k c)
      go false e = e
      go true e =
          sym (set-append_left (reset_by R k (take n c)) (drop n c) k 0
          (omega (arith, changed-length (reset_changes R (take n c)) k, length-take-le n c h)))
          ∙ ap (λ (l : List ℕ). set l k 0) e

  pub lent_reset : (R : ℕ → Bool) (d : List ℕ) → d ≡ reset_by R (length (take n c)) (take n c) → d ++ drop n c ≡ reset_by R n c
  lent_reset R d e = rw (e, length-take-le n c h) (reset_front R n (omega arith))
