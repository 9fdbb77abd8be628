-- The counts of an automaton, as its head has them and as it has them when it is opened.
-- Assumes nothing.
use Prim.Native.Nat.{ℕ, suc, ◌+◌, ◌≤◌}
use mathlib.Core.List.{List}
use mathlib.Core.Path.{◌≡◌, ap}
use native.Mathlib.Omega.{arith}
use Rattle.automata.specs.Accepted.{Accepted}
use Rattle.automata.specs.Automata.{clocks}
use Rattle.automata.specs.Opened.{Counted, head_of}
use Rattle.automata.specs.declared.fields.Head.{Head}

pub counted : {s : List ℕ} {h : Head} → h ≡ head_of s → Counted s h.clocks h.locations h.edges
counted e = record {
  clocks≡ = ap (λ (h : Head). h.clocks) e;
  locations≡ = ap (λ (h : Head). h.locations) e;
  edges≡ = ap (λ (h : Head). h.edges) e;
}

module _ {s : List ℕ} {n m e : ℕ} (k : Counted s n m e) where
  -- the number of indices
  pub size≡ : n + 1 ≡ suc (clocks s)
  size≡ = omega (arith, k.clocks≡)

  pub few_clocks : Accepted s → n ≤ 8
  few_clocks a = omega (arith, k.clocks≡, a.complete.clocks≤)
