-- Entering a location and following an edge, as sets.
-- Assumes nothing.
use Rattle.zones.specs.Reductions.{is_empty}
use Prim.Native.Nat.{ℕ, suc, ◌<◌, ◌≤◌}
use mathlib.Core.Path.{◌≡◌, refl, subst}
use mathlib.Core.Bool.{Bool, false}
use native.Mathlib.Omega.{arith}
use Rattle.zones.specs.declared.zone.Work.{Work}
use Rattle.runs.specs.Limits.{Limits, Within}
use Rattle.zones.specs.Zones.{raise_limits, reset_of}
use Rattle.zones.specs.Reductions.{non_empty, reduce_steps}
use Rattle.zones.specs.Successors.{and_then, meet_of, enter_of, follow_of}
use Rattle.zones.specs.Sets.{square_of, Has, Put, Waits, Enters, Follows}
use Rattle.zones.specs.Moves.{Closed, Shaped, Low, Includes, Exact}
use Rattle.zones.proofs.sets.Moving.{Rel, Then, Later, includes_then, exact_then, includes_same, exact_same, meet_includes, meet_exact}
use Rattle.zones.proofs.sets.Moving.{reset_includes, reset_exact, raise_includes, raise_exact}
use Rattle.zones.proofs.places.Places.{reset_by_lem, RaisedBy, raised_by}
use Rattle.zones.proofs.sets.Squares.{point}

module _ (s e : ℕ) (s> : 0 < s) (c : ℕ) (n≤ : suc c ≤ 9) (I : Limits) (present : (x : ℕ) → 0 < x → x < suc c → I.absent x ≡ false) where
  -- ---- entering stands for an arrival and a wait
  arrive : Rel
  arrive = Then (λ v u. (u ≡ v) × Within s e c I v) (Later s e c I)

  arrive_enters : (v v' : ℕ → ℕ) → arrive v v' → Enters s e c I v v'
  unfolding arrive
  arrive_enters v v' q =
      let a = q.1.1 in
      let o : Waits (suc c) q.2.0 v v' = subst (λ (x : ℕ → ℕ). Waits (suc c) q.2.0 x v') q.1.0 q.2.1 in
      record {
        wait = q.2.0;
        arrived = a;
        waited = o;
        still = λ x px hx. record { least = omega (arith, (a x px hx).least, o.later x px hx); most = λ z. q.2.2 x px hx };
      }

  enters_arrive : (v v' : ℕ → ℕ) → Enters s e c I v v' → arrive v v'
  unfolding arrive
  enters_arrive v v' q = (v, (refl, q.arrived), (q.wait, q.waited, λ x px hx. (q.still x px hx).most (present x px hx)))

  module _ (w : Work) (g : Shaped c w) where
    met : Includes s e c (λ v u. (u ≡ v) × Within s e c I v) w (meet_of c I w)
    met = meet_includes s e s> c n≤ w g I

    raised : (l : is_empty (meet_of c I w) ≡ false) → RaisedBy c I (meet_of c I w).work (raise_limits I c (meet_of c I w).work)
    raised l = raised_by I (meet_of c I w).work (met.shaped l).size c (omega arith)

    waited : (l : is_empty (meet_of c I w) ≡ false) →
        Includes s e c (Later s e c I) (meet_of c I w).work (reduce_steps (suc c) (suc c) (raise_limits I c (meet_of c I w).work))
    waited l = raise_includes s e s> c n≤ (meet_of c I w).work (met.shaped l) I _ (raised l)

    pub enter_includes : Includes s e c (Enters s e c I) w (enter_of c I w)
    unfolding enter_of arrive
    enter_includes =
        includes_same s e c arrive (Enters s e c I) w (enter_of c I w) enters_arrive
        (includes_then s e c (λ v u. (u ≡ v) × Within s e c I v) (Later s e c I) w (meet_of c I w)
        (λ v. reduce_steps (suc c) (suc c) (raise_limits I c v)) met waited)

    pub enter_exact : Low (suc c) (square_of s e w) → Exact s e c (Enters s e c I) w (enter_of c I w)
    unfolding enter_of arrive
    enter_exact low =
        let x = meet_exact s e s> c n≤ w g I low in
        exact_same s e c arrive (Enters s e c I) w (enter_of c I w) arrive_enters
        (exact_then s e c (λ v u. (u ≡ v) × Within s e c I v) (Later s e c I) w (meet_of c I w)
        (λ v. reduce_steps (suc c) (suc c) (raise_limits I c v)) x
        (λ l. ((waited l).before, λ t. raise_exact s e s> c n≤ (meet_of c I w).work (met.shaped l) I _ (raised l) (x.closed l t))))

  -- ---- following an edge stands for its guard, its reset, and entering
  module _ (G : Limits) (R : ℕ → Bool) (R0 : R 0 ≡ false) where
    jump : Rel
    jump = Then (λ v u. (u ≡ v) × Within s e c G v) (Then (Put (suc c) R) (Enters s e c I))

    jump_follows : (v v' : ℕ → ℕ) → jump v v' → Follows s e c G R I v v'
    unfolding jump
    jump_follows v v' q = record {
      after = q.2.0;
      guard = q.1.1;
      put = subst (λ (x : ℕ → ℕ). Put (suc c) R x q.2.0) q.1.0 q.2.1;
      enters = q.2.2;
    }

    follows_jump : (v v' : ℕ → ℕ) → Follows s e c G R I v v' → jump v v'
    unfolding jump
    follows_jump v v' q = (v, (refl, q.guard), (q.after, q.put, q.enters))

    module _ (u : Work) (y : Shaped c u) where
      put : Includes s e c (Put (suc c) R) u (non_empty (reset_of (suc c) R u))
      put = reset_includes s e s> c n≤ u y R R0 (reset_of (suc c) R u) (reset_by_lem (suc c) n≤ R u y.size)

      next_includes : Includes s e c (Then (Put (suc c) R) (Enters s e c I)) u (enter_of c I (reset_of (suc c) R u))
      unfolding and_then
      next_includes =
          includes_then s e c (Put (suc c) R) (Enters s e c I) u (non_empty (reset_of (suc c) R u)) (enter_of c I) put
          (λ l. enter_includes (reset_of (suc c) R u) (put.shaped refl))

      next_exact : Closed (suc c) (square_of s e u) → Exact s e c (Then (Put (suc c) R) (Enters s e c I)) u (enter_of c I (reset_of (suc c) R u))
      unfolding and_then
      next_exact z =
          let x = reset_exact s e s> c n≤ u y R R0 (reset_of (suc c) R u) (reset_by_lem (suc c) n≤ R u y.size) z in
          exact_then s e c (Put (suc c) R) (Enters s e c I) u (non_empty (reset_of (suc c) R u)) (enter_of c I) x
          (λ l. (
            (enter_includes (reset_of (suc c) R u) (put.shaped refl)).before,
            λ t. enter_exact (reset_of (suc c) R u) (put.shaped refl) (x.closed refl t).low,
          ))

    module _ (w : Work) (g : Shaped c w) where
      guarded : Includes s e c (λ v u. (u ≡ v) × Within s e c G v) w (meet_of c G w)
      guarded = meet_includes s e s> c n≤ w g G

      pub follow_includes : Includes s e c (Follows s e c G R I) w (follow_of c G R I w)
      unfolding follow_of jump
      follow_includes =
          includes_same s e c jump (Follows s e c G R I) w (follow_of c G R I w) follows_jump
          (includes_then s e c (λ v u. (u ≡ v) × Within s e c G v) (Then (Put (suc c) R) (Enters s e c I)) w (meet_of c G w)
          (λ v. enter_of c I (reset_of (suc c) R v)) guarded
          (λ l. next_includes (meet_of c G w).work (guarded.shaped l)))

      pub follow_exact : Low (suc c) (square_of s e w) → Exact s e c (Follows s e c G R I) w (follow_of c G R I w)
      unfolding follow_of jump
      follow_exact low =
          let x = meet_exact s e s> c n≤ w g G low in
          exact_same s e c jump (Follows s e c G R I) w (follow_of c G R I w) jump_follows
          (exact_then s e c (λ v u. (u ≡ v) × Within s e c G v) (Then (Put (suc c) R) (Enters s e c I)) w (meet_of c G w)
          (λ v. enter_of c I (reset_of (suc c) R v)) x
          (λ l. (
            (next_includes (meet_of c G w).work (guarded.shaped l)).before,
            λ t. next_exact (meet_of c G w).work (guarded.shaped l) (x.closed l t),
          )))

-- ---- a reduced zone has a state, in whole ticks
pub closed_point : (s e c : ℕ) (w : Work) → Closed (suc c) (square_of s e w) → (v : ℕ → ℕ) × Has s e c w v
closed_point s e c w z = (_, point (suc c) (square_of s e w) (omega arith) z)
