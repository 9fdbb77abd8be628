-- Holds: below the safe fraction every state of every run is in a kept zone. The exact laws are not used.
use Prim.Native.Nat.{ℕ, zero, suc, ◌+◌, ◌≤◌, ◌<◌}
use mathlib.Core.List.{List, [], ◌∷◌}
use mathlib.Core.Path.{◌≡◌, refl, sym, ◌∙◌, subst}
use mathlib.Core.Logic.{⊎_elim}
use lib.ListN.{length}
use native.Mathlib.Omega.{arith}
use native.Mathlib.Decide.{ℕ_discrete, dec_lt}
use Rattle.runs.specs.Runs.{System, Step, wait, jump, Stand, first, after, Steps, StandsIn, Reaches}
use Rattle.reachability.specs.Search.{Result, empty, zone, Zones, Node, Nth, State, going, child, first_node, offer, follow, expand, take_from}
use Rattle.reachability.specs.Search.{nothing, begin, search}
use Rattle.reachability.specs.Meaning.{Meaning}
use Rattle.reachability.specs.Laws.{Falls, Clocks, Shapes, Inclusion, SafeLaws}
use Rattle.reachability.proofs.Lists.{All, nth_last, nth_one, nth_lt, drop_none, grown_back}
use Rattle.reachability.proofs.Judged.{ended_going, Judged, was_target, was_inside, was_big, was_kept, was_full, judged, find_inside, followed}
use Rattle.reachability.proofs.Judged.{dropping-kept, dropping_frac, follow_on, take_cases}
use Rattle.reachability.proofs.Later.{Later, earlier_all, later_going, later_nth, follow_later, expand_later, take-later}
use Rattle.reachability.proofs.Keeps.{begin_room, expand_room}
use Rattle.reachability.proofs.Shaped.{Sound, all_sound_lem}

module _ {Z F : Type 0} (A : System) (O : Zones Z F) (M : Meaning A Z F) (K : Clocks A) (H : Shapes A O M) (I : Inclusion A O M) (L : SafeLaws A O M)
    (s e : ℕ) (real : M.Error s e) (fall : Falls O (λ f. M.Safe f s e)) (cap : ℕ) where
  abbrev B : F → Type 0
  B f = M.Safe f s e

  -- v is in z and stays there, however long it waits within the invariant of l
  record Keeps (l : ℕ) (z : Z) (v : A.Val) : Type 0 where
    at : (t : ℕ) → A.inv s e l (A.pass t v) → M.In z s e (A.pass t v)

  keeps_now : (l : ℕ) (z : Z) (v : A.Val) → Keeps l z v → A.inv s e l v → M.In z s e v
  keeps_now l z v h = subst (λ u. A.inv s e l u → M.In z s e u) (K.none v) (h.at 0)

  keeps_wait : (l : ℕ) (z : Z) (v : A.Val) (t : ℕ) → Keeps l z v → Keeps l z (A.pass t v)
  keeps_wait l z v t h = record { at = λ u. subst (λ w. A.inv s e l w → M.In z s e w) (sym (K.more t u v)) (h.at (t + u)) }

  record Covers (ks : List (Node Z)) (l : ℕ) (v : A.Val) : Type 0 where
    place : ℕ
    node : Node Z
    kept : Nth ks place node
    at : node.at ≡ l
    keeps : Keeps l node.zone v

  later_covers : {q q' : State Z F} {l : ℕ} {v : A.Val} → Later O q q' → Covers q.kept l v → Covers q'.kept l v
  later_covers h c =
      record { place = c.place; node = c.node; kept = later_nth h c.place c.node c.kept; at = c.at; keeps = c.keeps }

  -- a state that goes on below the fraction
  record Good (q : State Z F) : Type 0 where
    sound : All (Sound A O M) q.kept
    goes : q.outcome ≡ going
    safe : B q.frac

  earlier : {q q' : State Z F} → Later O q q' → Good q' → Good q
  earlier h g = record { sound = earlier_all h g.sound; goes = later_going h g.goes; safe = h.falls B fall g.safe }

  judged_covers : {q : State Z F} {k : Node Z} {f : F} {q' : State Z F} (l : ℕ) (v : A.Val) → Judged A O cap q k f q' → All (Sound A O M) q.kept
      → q'.outcome ≡ going → B q'.frac → k.at ≡ l → M.Shape k.zone → Keeps l k.zone v → Covers q'.kept l v
  judged_covers l v (was_target d) a c b x w h = ended_going c
  judged_covers {q} {k = k} {f = f} l v (was_inside y d g) a c b x w h =
      let i = find_inside A O q.kept k.at k.zone y g in
      let d : B (O.lowered k.zone y.zone f) = rw dropping_frac at b in
      record {
        place = i.place;
        node = y;
        kept = rw dropping-kept i.kept;
        at = i.at ∙ x;
        keeps = record {
          at = λ t n. L.within_in s e k.zone y.zone f (A.pass t v) w (a i.place y i.kept).shape i.holds d (h.at t n);
        };
      }
  judged_covers l v (was_big d g i) a c b x w h = ended_going c
  judged_covers {q} {k = k} l v (was_kept d g i j) a c b x w h =
      record { place = length q.kept; node = k; kept = nth_last q.kept k; at = x; keeps = h }
  judged_covers l v (was_full d g i j) a c b x w h = ended_going c

  -- v has entered l: the result is not empty, and its zone keeps v
  record Enters (c : Z → Node Z) (r : Result Z F) (l : ℕ) (v : A.Val) : Type 0 where
    at : (z : Z) → (c z).at ≡ l
    some : (f : F) → r ≡ empty f → B f → ⊥
    shape : (z : Z) (f : F) → r ≡ zone z f → M.Shape (c z).zone
    keeps : (z : Z) (f : F) → r ≡ zone z f → Keeps l (c z).zone v

  offer_covers : (q : State Z F) (c : Z → Node Z) (r : Result Z F) (l : ℕ) (v : A.Val) → All (Sound A O M) q.kept → Good (offer A O cap q c r)
      → Enters c r l v → Covers (offer A O cap q c r).kept l v
  unfolding offer
  offer_covers q c (empty f) l v a g h = absurd (h.some f refl g.safe)
  offer_covers q c (zone z f) l v a g h =
      judged_covers l v (judged A O cap q (c z) f) a g.goes g.safe (h.at z) (h.shape z f refl) (h.keeps z f refl)

  -- the edge i of k has been followed
  record Done (ks : List (Node Z)) (k : Node Z) (i : ℕ) : Type 0 where
    covers : (v : A.Val) → M.In k.zone s e v → A.guard s e i v → A.inv s e (A.to i) (A.reset i v)
        → Covers ks (A.to i) (A.reset i v)

  later_done : {q q' : State Z F} {k : Node Z} {i : ℕ} → Later O q q' → Done q.kept k i → Done q'.kept k i
  later_done h d = record { covers = λ v a b c. later_covers h (d.covers v a b c) }

  follow_done : (j : ℕ) (k : Node Z) (i : ℕ) (q : State Z F) → i < A.edges → M.Shape k.zone → A.from i ≡ k.at → Good (follow A O cap j k i q)
      → Done (follow A O cap j k i q).kept k i
  follow_done j k i q l h g o =
      let p = earlier (follow_later A O cap j k i q) o in
      let d : follow A O cap j k i q ≡ followed A O cap j k i q = follow_on A O cap j k i q p.goes g in
      subst (λ (x : State Z F). Done x.kept k i) (sym d)
      (record {
        covers = λ v m u w.
            offer_covers q (child A j k i) (O.succ i k.zone q.frac) (A.to i) (A.reset i v) p.sound (subst Good d o)
            (record {
              at = λ z. refl;
              some = λ f j y. L.succ_none s e i k.zone q.frac f v l h j y m u w;
              shape = λ z f j. H.succ i k.zone z q.frac f l h j;
              keeps = λ z f j. record { at = λ t x. I.succ s e i k.zone z q.frac f v t real l h j m u w x };
            });
      })

  expand_done : (j : ℕ) (k : Node Z) (m i : ℕ) (q : State Z F) → M.Shape k.zone → Good (expand A O cap j k m i q)
      → (x : ℕ) → i ≤ x → x < i + m → x < A.edges → A.from x ≡ k.at → Done (expand A O cap j k m i q).kept k x
  unfolding expand
  expand_done j k zero i q h o x l u w g = absurd (omega arith)
  expand_done j k (suc m) i q h o x l u w g =
      let q₁ = follow A O cap j k i q in
      let t = expand_later A O cap j k m (suc i) q₁ in
      elim (ℕ_discrete i x) [
        | yes y ↦ later_done t (subst (Done q₁.kept k) y (follow_done j k i q (omega arith) h (rw y g) (earlier t o)))
        | no n ↦ expand_done j k m (suc i) q₁ h o x (omega arith) (omega arith) w g
      ]

  -- every edge of k has
  record AllDone (ks : List (Node Z)) (k : Node Z) : Type 0 where
    done : (x : ℕ) → x < A.edges → A.from x ≡ k.at → Done ks k x

  take_done : (left next : ℕ) (q : State Z F) → left + next ≡ cap → length q.kept ≤ cap
      → ((j : ℕ) (k : Node Z) → j < next → Nth q.kept j k → AllDone q.kept k)
      → Good (take_from A O cap left next q) → All (AllDone (take_from A O cap left next q).kept) (take_from A O cap left next q).kept
  unfolding take_from
  take_done zero next q f r d = λ g j k n. d j k (omega (arith, nth_lt q.kept j k n)) n
  take_done (suc left) next q f r d =
      take_cases A O cap (λ (x : State Z F). Good x → All (AllDone x.kept) x.kept) left next q
      (λ o g j k n. d j k (omega (arith, drop_none q.kept next o, nth_lt q.kept j k n)) n)
      (λ k n g.
      let q₁ = expand A O cap next k A.edges 0 q in
      let o : Good q₁ = earlier (take-later A O cap left (suc next) q₁) g in
      let u : Later O q q₁ = expand_later A O cap next k A.edges 0 q in
      let m : Nth q₁.kept next k = later_nth u next k n in
      let here : AllDone q₁.kept k = record {
        done = λ x l g. expand_done next k A.edges 0 q (o.sound next k m).shape o x (omega arith) (omega arith) l g;
      } in
      take_done left (suc next) q₁ (omega arith) (expand_room A O cap next k q n r)
      (λ j y l h. elim (dec_lt j next) [
        | yes w ↦
            (let old = d j y w (grown_back u.grown j y (omega (arith, nth_lt q.kept next k n)) h) in
            record { done = λ x v g. later_done u (old.done x v g) })
        | no w ↦
            subst (AllDone q₁.kept) (nth_one q₁.kept next k y m (subst (λ i. Nth q₁.kept i y) (omega arith) h)) here
      ])
      g)

  -- ---- no run stands in the target
  module _ (c : (search A O cap).outcome ≡ going) (b : M.Safe (search A O cap).frac s e) where
    abbrev ks : List (Node Z)
    ks = (search A O cap).kept

    good : Good (search A O cap)
    good = record { sound = all_sound_lem A O M H cap; goes = c; safe = b }

    started : A.inv s e A.start A.origin → Covers ks A.start A.origin
    unfolding search
    started h =
        let t = take-later A O cap cap 0 (begin A O cap) in
        later_covers t
        (offer_covers (nothing A O cap) (first_node A) (O.enter O.top) A.start A.origin (λ j k n. absurd n) (earlier t good)
        (record {
          at = λ z. refl;
          some = λ f j y. L.enter_none s e O.top f j y h;
          shape = λ z f j. H.enter O.top f z j;
          keeps = λ z f j. record { at = λ t x. I.enter s e O.top f z t real j h x };
        }))

    all_done : All (AllDone ks) ks
    unfolding search
    all_done = take_done cap 0 (begin A O cap) (omega arith) (begin_room A O cap) (λ j k l n. absurd (omega arith)) good

    off_target : {l : ℕ} {v : A.Val} → Covers ks l v → l ≡ A.target → ⊥
    off_target h g = (all_sound_lem A O M H cap h.place h.node h.kept).away (h.at ∙ g)

    covered : (x : Stand A.Val) (xs : List Step) → A.inv s e x.at x.clocks → Covers ks x.at x.clocks
        → Steps A s e x xs → StandsIn A A.target x xs → ⊥
    covered x [] i v h g = off_target v g
    covered x (wait t ∷ xs) i v h g =
        let w = keeps_wait x.at v.node.zone x.clocks t v.keeps in
        ⊎_elim (off_target v)
        (covered (after A x (wait t)) xs h.0 (record { place = v.place; node = v.node; kept = v.kept; at = v.at; keeps = w }) h.1) g
    covered x (jump n ∷ xs) i v h g =
        let d = (all_done v.place v.node v.kept).done n h.0.0 (h.0.1 ∙ sym v.at) in
        let m = keeps_now x.at v.node.zone x.clocks v.keeps i in
        ⊎_elim (off_target v) (covered (after A x (jump n)) xs h.0.3 (d.covers x.clocks m h.0.2 h.0.3) h.1) g

    pub unreached : Reaches A s e → ⊥
    unreached r = covered (first A) r.steps r.run.0 (started r.run.0) r.run.1 r.stands
