-- What every kept node has, at any error; and what every operation keeps of the fractions, the search keeps.
use Prim.Native.Nat.{ℕ, ◌<◌}
use mathlib.Core.Path.{◌≡◌, subst}
use Rattle.runs.specs.Runs.{System}
use Rattle.reachability.specs.Search.{Result, zone, frac_of, Zones, Node, Nth, State, going, first_node, child, offer, nothing, search}
use Rattle.reachability.specs.Meaning.{Meaning}
use Rattle.reachability.specs.Laws.{Shapes, Stays}
use Rattle.reachability.proofs.Lists.{All}
use Rattle.reachability.proofs.Judged.{offer_frac, followed}
use Rattle.reachability.proofs.Keeps.{search_keeps}
use Rattle.reachability.proofs.Inherits.{anywhere, Inherited, begin_all, steady_all, search_all}

module _ {Z F : Type 0} (A : System) (O : Zones Z F) (M : Meaning A Z F) where
  pub record Sound (k : Node Z) : Type 0 where
    pub away : k.at ≡ A.target → ⊥
    pub shape : M.Shape k.zone

  module _ (H : Shapes A O M) (cap : ℕ) where
    sound : Inherited A O Sound (λ f. Unit {0})
    sound = record {
      start = λ z f g e b a m. record { away = a; shape = H.enter f g z e };
      next = λ j k i z f g h l c e b a m. record { away = a; shape = H.succ i k.zone z f g l h.shape e };
    }

    pub all_sound_lem : All Sound (search A O cap).kept
    all_sound_lem = search_all A O cap (anywhere O) sound tt

    -- ---- the fractions
    module _ {B : F → Type 0} (stay : Stays A O M B) where
      record Staying (q : State Z F) : Type 0 where
        sounds : Unit {0} → All Sound q.kept
        fine : B q.frac

      offer_fine : (q : State Z F) (c : Z → Node Z) (r : Result Z F) → All Sound q.kept
          → ((z : Z) (f : F) → r ≡ zone z f → M.Shape (c z).zone) → B (frac_of r) → B (offer A O cap q c r).frac
      offer_fine q c r a w b =
          offer_frac A O cap B q c r b
          (λ z f y e i. stay.lowered (c z).zone y.zone f (w z f e) (a i.place y i.kept).shape i.holds (subst (λ x. B (frac_of x)) e b))

      goes_on : (q : State Z F) (j : ℕ) (k : Node Z) (i : ℕ) → q.outcome ≡ going → Nth q.kept j k → i < A.edges → A.from i ≡ k.at
          → Staying q → Staying (followed A O cap j k i q)
      goes_on q j k i c n l g h =
          let a = h.sounds tt in
          let w = (a j k n).shape in
          record {
            sounds = (steady_all A O cap (anywhere O) sound).edge q j k i c n l g h.sounds;
            fine = offer_fine q (child A j k i) (O.succ i k.zone q.frac) a
                (λ z f e. H.succ i k.zone z q.frac f l w e) (stay.succ i k.zone q.frac l w h.fine);
          }

      ends : Staying (search A O cap)
      ends =
          search_keeps A O cap (record { edge = goes_on })
          (record {
            sounds = begin_all A O cap (anywhere O) sound;
            fine = offer_fine (nothing A O cap) (first_node A) (O.enter O.top) (λ j k n. absurd n)
                (λ z f e. H.enter O.top f z e) (stay.enter O.top stay.top);
          })

      pub search_stays : B (search A O cap).frac
      search_stays = ends.fine
