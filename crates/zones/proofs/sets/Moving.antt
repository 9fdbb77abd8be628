-- Operations one after the other, and the three that the others are made of: limits are met, clocks are reset, time passes.
-- Assumes nothing.
use Rattle.zones.specs.Reductions.{is_empty}
use Prim.Native.Nat.{ℕ, suc, ◌+◌, ◌*◌, ◌<◌, ◌≤◌}
use mathlib.Core.Path.{◌≡◌, refl, sym, ap, ◌∙◌, subst}
use mathlib.Core.Bool.{Bool, true, false}
use lib.IntN.{ℤ, pos}
use lib.Signed.{◌≤ℤ◌}
use native.Mathlib.Omega.{arith}
use Rattle.zones.specs.declared.fraction.Fraction.{Fraction}
use Rattle.zones.specs.declared.pair.Pair.{Pair}
use Rattle.zones.specs.declared.reduction.Reduced.{Reduced}
use Rattle.zones.specs.declared.zone.Work.{Work}
use Rattle.zones.proofs.pairs.Integers.{int, le_read}
use Rattle.zones.specs.Pairs.{at_most}
use Rattle.runs.specs.Limits.{Limits, Within}
use Rattle.zones.specs.Zones.{home, meet_limits}
use Rattle.zones.specs.Reductions.{non_empty, reduce_steps}
use Rattle.zones.specs.Successors.{and_then, meet_of}
use Rattle.zones.specs.Values.{value_of, Below}
use Rattle.zones.specs.Sets.{square_of, Has, Put, Waits}
use Rattle.zones.specs.Moves.{Closed, Shaped, Low, Includes, Exact}
use Rattle.runs.proofs.Contradictions.{true_false}
use Rattle.zones.proofs.sets.Closing.{reduce_some, reduce_into, reduce_from, reduce_before, reduce_tighter, reduce_live}
use Rattle.zones.proofs.sets.Closing.{reduce_shaped, reduce_closed}
use Rattle.zones.proofs.sets.Meeting.{most_value, met_proper, meet_shaped, meet_before, meet_low, meet_into, meet_from}
use Rattle.zones.proofs.places.Places.{ResetBy, RaisedBy, home_below}
use Rattle.zones.proofs.sets.Squares.{Resets, Raises, reset_into, reset_from, reset_closed, wait_into, wait_from}
use Rattle.zones.proofs.sets.Steps.{reduce_proper}

-- ---- reset and raising, at an error e/s
module _ (s e c : ℕ) (n≤ : suc c ≤ 9) (R : ℕ → Bool) (w w' : Work) (r : ResetBy (suc c) R w w') where
  reset_resets : Resets (suc c) R (square_of s e w) (square_of s e w')
  reset_resets a b ha hb = ap (value_of s e) (r.at a b ha (omega arith))

  reset_shaped : Shaped c w → Shaped c w'
  reset_shaped g = record { size = r.size; diagonal = λ a ha. r.at a a ha (omega arith) ∙ g.diagonal (home R a) (home_below R (suc c) a ha) }

module _ (s e c : ℕ) (n≤ : suc c ≤ 9) (L : Limits) (w w' : Work) (r : RaisedBy c L w w') where
  raise_raises : Raises (suc c) (λ x. value_of s e (at_most (L.hi x))) (square_of s e w) (square_of s e w')
  raise_raises = record {
    column = λ x px hx. ap (value_of s e) (r.column x px hx);
    rest = λ a b ha hb h. ap (value_of s e) (r.rest a b (omega arith) (λ p q. h p));
  }

  raise_shaped : Shaped c w → Shaped c w'
  raise_shaped g = record { size = r.size; diagonal = λ a ha. r.rest a a (omega arith) (λ p q. p) ∙ g.diagonal a ha }

  raise_low : Low (suc c) (square_of s e w) → Low (suc c) (square_of s e w')
  raise_low l a ha = subst (λ (q : Pair). value_of s e q ≤ℤ pos 0) (sym (r.rest 0 a (omega arith) (λ p q. omega arith))) (l a ha)

abbrev pub Rel : Type 1
Rel = (ℕ → ℕ) → (ℕ → ℕ) → Type 0

-- ---- one after the other
abbrev pub Then : Rel → Rel → Rel
Then S T v v'' = (v' : ℕ → ℕ) × S v v' × T v' v''

-- a wait after which no clock is above its upper limit
abbrev pub Later : ℕ → ℕ → ℕ → Limits → Rel
Later s e c L v v' = (t : ℕ) × Waits (suc c) t v v' × ((x : ℕ) → 0 < x → x < suc c → v' x ≤ L.hi x * s + e)

pub then_empty : (r : Reduced) (f : Work → Reduced) → is_empty r ≡ true → and_then r f ≡ r
unfolding and_then
then_empty r f e = rw e

pub then_live : (r : Reduced) (f : Work → Reduced) → is_empty r ≡ false → and_then r f ≡ f r.work
unfolding and_then
then_live r f e = rw e

module _ (s e c : ℕ) where
  pub includes_then : (S T : Rel) (w : Work) (r : Reduced) (f : Work → Reduced) → Includes s e c S w r →
      (is_empty r ≡ false → Includes s e c T r.work (f r.work)) → Includes s e c (Then S T) w (and_then r f)
  includes_then S T w r f m k = go (is_empty r) refl
    where
      go : (t : Bool) → is_empty r ≡ t → Includes s e c (Then S T) w (and_then r f)
      go true q = rw (then_empty r f q) (record {
        before = m.before;
        proper = m.proper;
        shaped = m.shaped;
        into = λ l v v' h g. true_false (sym q ∙ l);
        live = λ t v v' h g. m.live t v g.0 h g.1;
        tighter = m.tighter;
        some = m.some;
      })
      go false q =
          let n = k q in
          rw (then_live r f q) (record {
            before = λ t. m.before (n.before t);
            proper = λ p. n.proper (m.proper p);
            shaped = n.shaped;
            into = λ l v v' h g. n.into l g.0 v' (m.into q v g.0 h g.1) g.2;
            live = λ t v v' h g. n.live t g.0 v' (m.into q v g.0 h g.1) g.2;
            tighter = n.tighter;
            some = n.some;
          })

  pub exact_then : (S T : Rel) (w : Work) (r : Reduced) (f : Work → Reduced) → Exact s e c S w r →
      (is_empty r ≡ false →
      (Below s e (f r.work).work.fraction → Below s e r.work.fraction) ×
      (Below s e r.work.fraction → Exact s e c T r.work (f r.work))) → Exact s e c (Then S T) w (and_then r f)
  exact_then S T w r f m k = go (is_empty r) refl
    where
      go : (t : Bool) → is_empty r ≡ t → Exact s e c (Then S T) w (and_then r f)
      go true q = rw (then_empty r f q) (record { closed = m.closed; from = λ l t v' h. true_false (sym q ∙ l) })
      go false q =
          let n = k q in
          rw (then_live r f q) (record {
            closed = λ l t. (n.1 (n.0 t)).closed l t;
            from = λ l t v' h.
                let x = (n.1 (n.0 t)).from l t v' h in
                let y = m.from q (n.0 t) x.0 x.1 in
                (y.0, y.1, (x.0, y.2, x.2));
          })

  pub includes_same : (S T : Rel) (w : Work) (r : Reduced) → ((v v' : ℕ → ℕ) → T v v' → S v v') → Includes s e c S w r → Includes s e c T w r
  includes_same S T w r g m = record {
    before = m.before;
    proper = m.proper;
    shaped = m.shaped;
    into = λ l v v' h q. m.into l v v' h (g v v' q);
    live = λ t v v' h q. m.live t v v' h (g v v' q);
    tighter = m.tighter;
    some = m.some;
  }

  pub exact_same : (S T : Rel) (w : Work) (r : Reduced) → ((v v' : ℕ → ℕ) → S v v' → T v v') → Exact s e c S w r → Exact s e c T w r
  exact_same S T w r f m = record { closed = m.closed; from = λ l t v' h. let x = m.from l t v' h in (x.0, x.1, f x.0 v' x.2) }

-- ---- the three operations
module _ (s e : ℕ) (s> : 0 < s) (c : ℕ) (n≤ : suc c ≤ 9) (w : Work) (g : Shaped c w) where
  -- limits are met, and the zone is reduced
  abbrev pub Stays : Limits → Rel
  Stays L v v' = (v' ≡ v) × Within s e c L v

  pub meet_includes : (L : Limits) → Includes s e c (Stays L) w (meet_of c L w)
  unfolding meet_of
  meet_includes L =
      let m = meet_shaped s e s> c n≤ L w g in
      let u = meet_limits L c w in
      record {
        before = λ t. meet_before s e s> c n≤ L w g (reduce_before s e s> c n≤ u m t);
        proper = λ p. reduce_proper (suc c) u m.size (met_proper c L w g.size p);
        shaped = reduce_shaped s e s> c n≤ u m;
        into = λ l v v' h q. rw q.0 (reduce_into s e s> c n≤ u m v (meet_into s e s> c n≤ L w g v h q.1));
        live = λ t v v' h q. reduce_live s e s> c n≤ u m t v (meet_into s e s> c n≤ L w g v h q.1);
        tighter = reduce_tighter s e s> c n≤ u m;
        some = reduce_some (suc c) u;
      }

  pub meet_exact : (L : Limits) → Low (suc c) (square_of s e w) → Exact s e c (Stays L) w (meet_of c L w)
  unfolding meet_of
  meet_exact L low =
      let m = meet_shaped s e s> c n≤ L w g in
      let u = meet_limits L c w in
      record {
        closed = λ l t. reduce_closed s e s> c n≤ u m l t (meet_low s e s> c n≤ L w g (reduce_before s e s> c n≤ u m t) low);
        from = λ l t v' h.
            let x = meet_from s e s> c n≤ L w g (reduce_before s e s> c n≤ u m t) v' (reduce_from s e s> c n≤ u m t v' h) in
            (v', x.0, (refl, x.1));
      }

  -- clocks are reset
  module _ (R : ℕ → Bool) (R0 : R 0 ≡ false) (w' : Work) (b : ResetBy (suc c) R w w') where
    pub reset_includes : Includes s e c (Put (suc c) R) w (non_empty w')
    reset_includes = record {
      before = subst (Below s e) b.fraction;
      proper = subst (λ (f : Fraction). 0 < f.n) (sym b.fraction);
      shaped = λ l. reset_shaped s e c n≤ R w w' b g;
      into = λ l v v' h q. reset_into (suc c) R (omega arith) R0 (square_of s e w) (square_of s e w') (reset_resets s e c n≤ R w w' b) v v' h q;
      live = λ t v v' h q. refl;
      tighter = λ t. omega (arith, s>);
      some = omega arith;
    }

    pub reset_exact : Closed (suc c) (square_of s e w) → Exact s e c (Put (suc c) R) w (non_empty w')
    reset_exact z =
        let r = reset_resets s e c n≤ R w w' b in
        record {
          closed = λ l t. reset_closed (suc c) R (omega arith) R0 (square_of s e w) (square_of s e w') r z;
          from = λ l t v' h. reset_from (suc c) R (omega arith) R0 (square_of s e w) (square_of s e w') r z v' h;
        }

  -- time passes, and no clock goes above its limit
  module _ (L : Limits) (u : Work) (b : RaisedBy c L w u) where
    m : Shaped c u
    m = raise_shaped s e c n≤ L w u b g

    h : ℕ → ℤ
    h x = value_of s e (at_most (L.hi x))

    r : Raises (suc c) (λ x. value_of s e (at_most (L.hi x))) (square_of s e w) (square_of s e u)
    r = raise_raises s e c n≤ L w u b

    into : (v v' : ℕ → ℕ) → Has s e c w v → Later s e c L v v' → Has s e c u v'
    unfolding h
    into v v' i q =
        wait_into (suc c) (omega arith) h (square_of s e w) (square_of s e u) r v v' q.0 i q.1
        (λ x px hx. omega (arith, int, q.2 x px hx, most_value s e s> (L.hi x)))

    pub raise_includes : Includes s e c (Later s e c L) w (reduce_steps (suc c) (suc c) u)
    raise_includes = record {
      before = λ t. subst (Below s e) b.fraction (reduce_before s e s> c n≤ u m t);
      proper = λ p. reduce_proper (suc c) u m.size (subst (λ (f : Fraction). 0 < f.n) (sym b.fraction) p);
      shaped = reduce_shaped s e s> c n≤ u m;
      into = λ l v v' i q. reduce_into s e s> c n≤ u m v' (into v v' i q);
      live = λ t v v' i q. reduce_live s e s> c n≤ u m t v' (into v v' i q);
      tighter = reduce_tighter s e s> c n≤ u m;
      some = reduce_some (suc c) u;
    }

    pub raise_exact : Closed (suc c) (square_of s e w) → Exact s e c (Later s e c L) w (reduce_steps (suc c) (suc c) u)
    unfolding h
    raise_exact z = record {
      closed = λ l t. reduce_closed s e s> c n≤ u m l t (raise_low s e c n≤ L w u b z.low);
      from = λ l t v' i.
          let x = wait_from (suc c) (omega arith) h (square_of s e w) (square_of s e u) r z v' (reduce_from s e s> c n≤ u m t v' i) in
          (x.0, x.2, (x.1, x.3, λ y py hy. omega (arith, le_read (x.4 y py hy), most_value s e s> (L.hi y))));
    }
