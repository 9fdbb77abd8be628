-- An edge's number put in its place among the others.
-- Assumes nothing.
use Prim.Native.Nat.{ℕ, ◌-◌, ◌<◌, ◌≤◌}
use mathlib.Core.Bool.{true, false}
use mathlib.Core.List.{List, ◌∷◌, ◌++◌, map-append}
use mathlib.Core.Path.{◌≡◌, refl, sym, ap, ◌∙◌}
use lib.ListN.{length, get_or, take, drop, length-map, get_or-map}
use native.Mathlib.Omega.{arith}
use Rattle.std.specs.List.{All, insert}
use Rattle.std.proofs.lemmas.List.{take-map, drop-map}
use Rattle.std.proofs.lemmas.List.Edits.{length-insert}
use Rattle.std.proofs.lemmas.List.Elements.{All-append, All-cons, All-take, All-drop}
use Rattle.order.specs.Edges.{Edge, bytes_less, rising}
use Rattle.order.specs.Laid.{nth_edge, numbered}
use Rattle.order.proofs.Rising.{Rising, rises, rises_so}
use Rattle.order.proofs.Inserting.{insert_rises}
use Rattle.order.proofs.Splitting.{insert_here, insert_there}
use Rattle.canonical.specs.Numbers.{Belongs, Positioned, Inserted}

pub all_inserted : (P : ℕ → Type 0) (ns : List ℕ) (k x : ℕ) → All P ns → P x → All P (insert ns k x)
all_inserted P ns k x w p = All-append P _ _ (All-take P k ns w) (All-cons P x _ p (All-drop P k ns w))

module _ (size : ℕ) (s : List ℕ) (ns : List ℕ) (r : rising (numbered size s ns) ≡ true) (x k : ℕ) where
  abbrev listed : List Edge
  listed = numbered size s ns

  edges_rise : Rising listed
  edges_rise = rises listed r

  pub put_numbered : numbered size s (insert ns k x) ≡ take k listed ++ (nth_edge size s x ∷ drop k listed)
  put_numbered =
      let f = nth_edge size s in
      map-append f (take k ns) (x ∷ drop k ns) ∙ (λ i. sym (take-map f k ns) i ++ (f x ∷ sym (drop-map f k ns) i))

  module _ (b : Belongs size s ns (length ns) x k) where
    less_before : 0 < k → bytes_less (get_or listed (k - 1) (nth_edge size s 0)) (nth_edge size s x) ≡ true
    less_before h = ap (λ (y : Edge). bytes_less y (nth_edge size s x)) (get_or-map (nth_edge size s) ns (k - 1) 0) ∙ b.before h

    here : get_or listed k (nth_edge size s 0) ≡ nth_edge size s (get_or ns k 0)
    here = get_or-map (nth_edge size s) ns k 0

    within-edges : k ≤ length listed
    within-edges = omega (arith, b.inside, length-map ns (nth_edge size s))

  -- its bytes are there: neither of the two is less
  pub insert_none : Positioned size s ns (length ns) x k false → Inserted size s ns x ns
  insert_none p =
      let b = p.belongs in
      let t = p.there refl in record {
        more = omega arith;
        edges = sym (insert_there listed k (nth_edge size s x) (nth_edge size s 0) edges_rise (within-edges b) (less_before b)
            (omega (arith, t.0, length-map ns (nth_edge size s)))
            (ap (λ (z : Edge). bytes_less z (nth_edge size s x)) (here b) ∙ b.behind t.0)
            (ap (bytes_less (nth_edge size s x)) (here b) ∙ t.1));
      }

  -- they are not
  module _ (p : Positioned size s ns (length ns) x k true) where
    pub insert_put : Inserted size s ns x (insert ns k x)
    insert_put =
        let b = p.belongs in record {
          more = omega (arith, length-insert ns k x b.inside);
          edges = put_numbered ∙ sym (insert_here listed k (nth_edge size s x) (nth_edge size s 0) edges_rise (within-edges b) (less_before b)
              (λ g. let m : k < length ns = omega (arith, length-map ns (nth_edge size s)) in
              ap (bytes_less (nth_edge size s x)) (here b) ∙ p.fresh refl m));
        }

    pub still_rises : rising (numbered size s (insert ns k x)) ≡ true
    still_rises = rw insert_put.edges (rises_so _ (insert_rises (nth_edge size s x) listed edges_rise))
