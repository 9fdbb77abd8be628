-- An automaton is its own form exactly where its edges rise.
-- Assumes nothing.
use Prim.Native.Nat.{ℕ, ◌+◌, ◌*◌, ◌≤◌}
use mathlib.Core.Bool.{true}
use mathlib.Core.List.{List, [], ◌∷◌, ◌++◌}
use mathlib.Core.Logic.{◌↔◌}
use mathlib.Core.Path.{◌≡◌, sym, ap, ◌∙◌}
use lib.ListN.{length, get_or, take, drop, take-append-drop, length-drop}
use lib.Seq.{take_all, drop-cons, drop-drop}
use native.Mathlib.Omega.{arith}
use Rattle.encoding.specs.Numbers.{be16_at, be32_at, be16, be32}
use Rattle.order.specs.Laid.{joined}
use Rattle.order.proofs.Laid.{from-joined}
use Rattle.order.proofs.Sorted.{sorted-rising, rising-sorted}
use Rattle.automata.specs.Accepted.{Accepted}
use Rattle.automata.specs.Automata.{length_field, edges, edge_in}
use Rattle.automata.specs.Canonical.{edge_size, invariants_size, drawn, in_order, ordered, canonical_of}
use Rattle.automata.specs.Forms.{Bytes}
use Rattle.encoding.proofs.Numbers.{be16_own, be32_own}
use Rattle.automata.proofs.canonical.Shape.{many_drawn, form_drawn}

-- the bytes of an automaton by its parts
parts : (b : List ℕ) → 11 ≤ length b → b ≡ (get_or b 0 0 ∷ get_or b 1 0 ∷ get_or b 2 0 ∷ get_or b 3 0 ∷ []) ++ (take 5 (drop 4 b)
    ++ ((get_or b 9 0 ∷ get_or b 10 0 ∷ []) ++ (take (invariants_size b) (drop 11 b) ++ drop (11 + invariants_size b) b)))
parts b h =
    drop-cons b 0 0 (omega arith)
    ∙ ap (λ (l : List ℕ). get_or b 0 0 ∷ l) (drop-cons b 1 0 (omega arith)
    ∙ ap (λ (l : List ℕ). get_or b 1 0 ∷ l) (drop-cons b 2 0 (omega arith)
    ∙ ap (λ (l : List ℕ). get_or b 2 0 ∷ l) (drop-cons b 3 0 (omega arith)
    ∙ ap (λ (l : List ℕ). get_or b 3 0 ∷ l) (sym (take-append-drop 5 (drop 4 b))
    ∙ ap (λ (l : List ℕ). take 5 (drop 4 b) ++ l) (drop-drop 5 4 b
    ∙ drop-cons b 9 0 (omega arith)
    ∙ ap (λ (l : List ℕ). get_or b 9 0 ∷ l) (drop-cons b 10 0 (omega arith)
    ∙ ap (λ (l : List ℕ). get_or b 10 0 ∷ l) (sym (take-append-drop (invariants_size b) (drop 11 b))
    ∙ ap (λ (l : List ℕ). take (invariants_size b) (drop 11 b) ++ l) (drop-drop (invariants_size b) 11 b))))))))

module _ (b : List ℕ) (a : Accepted b) where
  drawn-rest : joined (drawn b) ≡ drop (11 + invariants_size b) b
  unfolding edge_in
  drawn-rest =
      from-joined (edge_size b) b (11 + invariants_size b) (edges b)
      ∙ take_all (edges b * edge_size b) (drop (11 + invariants_size b) b)
      (omega (arith, length-drop (11 + invariants_size b) b, a.complete.size))

  drawn-length : 11 + invariants_size b + length (drawn b) * edge_size b ≡ length_field b
  unfolding edge_in
  drawn-length = ap (λ (n : ℕ). 11 + invariants_size b + n * edge_size b) (many_drawn b) ∙ sym a.complete.size ∙ sym a.field

  rises_own : Bytes b → in_order b ≡ true → canonical_of b ≡ b
  unfolding canonical_of in_order be32_at be16_at
  rises_own y r =
      let o : ordered b ≡ drawn b = (rising-sorted (drawn b)).0 r in
      let four = be32_own (get_or b 0 0) (get_or b 1 0) (get_or b 2 0) (get_or b 3 0) (y.byte 0) (y.byte 1) (y.byte 2) (y.byte 3) in
      let length-bytes = ap be32 drawn-length ∙ four in
      let count-bytes = ap be16 (many_drawn b) ∙ be16_own (get_or b 9 0) (get_or b 10 0) (y.byte 9) (y.byte 10) in
      (λ t. be32 (11 + invariants_size b + length (o t) * edge_size b)
      ++ (take 5 (drop 4 b) ++ (be16 (length (o t)) ++ (take (invariants_size b) (drop 11 b) ++ joined (o t)))))
      ∙ (λ t. length-bytes t ++ (take 5 (drop 4 b) ++ (count-bytes t ++ (take (invariants_size b) (drop 11 b) ++ drawn-rest t))))
      ∙ sym (parts b a.complete.head)

  pub rises : in_order (canonical_of b) ≡ true
  unfolding in_order
  rises = rw (form_drawn b a.complete) (sorted-rising (drawn b))

  -- what soundness of a cache tests, in one pass
  pub decided : Bytes b → in_order b ≡ true ↔ canonical_of b ≡ b
  decided y = (rises_own y, (λ e. sym (ap in_order e) ∙ rises))
