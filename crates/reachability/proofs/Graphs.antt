-- The laws can be met: graphs whose edges are open or shut meet them.
use Prim.Native.Nat.{ℕ}
use mathlib.Core.Bool.{Bool, true, false}
use mathlib.Core.Path.{◌≡◌, refl}
use native.Mathlib.Omega.{arith}
use Rattle.reachability.specs.Search.{empty, zone}
use Rattle.reachability.specs.Laws.{Laws}
use Rattle.reachability.specs.Accounts.{Regardless}
use Rattle.reachability.specs.Graphs.{passes, graph, points, meaning}

zone_empty : {z f g : Unit {0}} → zone z f ≡ empty g → ⊥
zone_empty e = let z : ◌≡◌ {A = ℕ} 0 1 = cc in omega arith

shut : (b : Bool) (g : Unit {0}) → b ≡ true → passes b ≡ empty g → ⊥
shut b g h e = zone_empty (rw h at e)

opened : (b : Bool) (z g : Unit {0}) → passes b ≡ zone z g → b ≡ true
opened true z g e = refl
opened false z g e = cc

pub regardless : (edges : ℕ) (from to : ℕ → ℕ) (start target : ℕ) (isOpen : ℕ → Bool) → Regardless (points edges from to start target isOpen)
regardless edges from to start target isOpen = record { succ = λ i z f g. refl }

module _ (edges : ℕ) (from to : ℕ → ℕ) (start target : ℕ) (isOpen : ℕ → Bool) (s₀ e₀ : ℕ) where
  pub laws : Laws (graph edges from to start target isOpen) (points edges from to start target isOpen)
      (meaning edges from to start target isOpen) s₀ e₀
  laws = record {
    clocks = record { none = λ v. refl; more = λ t u v. refl };
    error = tt;
    shapes = record { enter = λ f g z j. tt; succ = λ i y z f g l h j. tt };
    inclusion = record { enter = λ s e f g z t r j h k. tt; succ = λ s e i y z f g v t r l h j m u w x. tt };
    safe_falls = λ s e. record { enter = λ f b. tt; succ = λ i z f b. tt; lowered = λ z y f b. tt };
    safe = record {
      enter_none = λ s e f g j b h. zone_empty j;
      succ_none = λ s e i y f g v l h j b m u w. shut (isOpen i) g u j;
      within_in = λ s e z y f v h k j b m. tt;
    };
    exact_falls = λ s e. record { enter = λ f b. tt; succ = λ i z f b. tt; lowered = λ z y f b. tt };
    exact_stays = record { top = tt; enter = λ f b. tt; succ = λ i z f l h b. tt; lowered = λ z y f h k j b. tt };
    exact = record {
      enter_fit = λ s e f g z j b. tt;
      succ_fit = λ s e i y z f g l h k j b. tt;
      enter_from = λ s e f g z v j b m. record { time = 0; begins = tt; stays = tt; same = refl };
      succ_from = λ s e i y z f g v l h k j b m.
          record { old = tt; time = 0; inside = tt; may = opened (isOpen i) z g j; lands = tt; stays = tt; same = refl };
      point = λ z h k. (tt, tt);
    };
  }
