-- The demands on a search, from the laws of zones.
use Prim.Native.Nat.{ℕ}
use mathlib.Core.Path.{◌≡◌}
use Rattle.runs.specs.Runs.{System, Reaches}
use Rattle.reachability.specs.Search.{Came, Zones, reached, going, ended, search}
use Rattle.reachability.specs.Meaning.{Meaning, SameSet, Contains}
use Rattle.reachability.specs.Laws.{Laws, Stays}
use Rattle.reachability.proofs.Lists.{All}
use Rattle.reachability.proofs.Shaped.{search_stays}
use Rattle.reachability.proofs.Cover.{unreached}
use Rattle.reachability.proofs.Same.{all_whole, all_tight}
use Rattle.reachability.proofs.Reached.{reaches}

module _ {Z F : Type 0} (A : System) (O : Zones Z F) (M : Meaning A Z F) (s₀ e₀ : ℕ) (L : Laws A O M s₀ e₀) (cap : ℕ) where
  -- "a kept zone contains the exact set": at every error, however the search ended
  pub contains : (s e : ℕ) → M.Error s e → All (Contains A M s e) (search A O cap).kept
  contains s e real j k n = (all_whole A O M s e L.clocks L.shapes L.inclusion real cap j k n).holds

  -- below the exact fraction it is the exact set
  pub same : (s e : ℕ) → M.Error s e → M.Exact (search A O cap).frac s e → All (SameSet A M s e) (search A O cap).kept
  same s e real b j k n v = (
    (all_tight A O M s e s₀ e₀ L.shapes L.exact (L.exact_falls s e) cap b j k n).ends v,
    contains s e real j k n v,
  )

  -- what every operation keeps of the fractions holds at the end, however the search ended
  pub stays : {B : F → Type 0} → Stays A O M B → B (search A O cap).frac
  stays = search_stays A O M L.shapes cap

  -- so the exact fraction never shuts out s₀ and e₀
  pub exact_there : M.Exact (search A O cap).frac s₀ e₀
  exact_there = stays L.exact_stays

  -- where the target is reached, a run reaches it
  pub reached_hits : (x : Came) → (search A O cap).outcome ≡ ended (reached x) → Reaches A s₀ e₀
  reached_hits = reaches A O M s₀ e₀ L.shapes L.exact (L.exact_falls s₀ e₀) cap exact_there

  -- where nothing is left to take, none does below the safe fraction
  pub holds : (search A O cap).outcome ≡ going → (s e : ℕ) → M.Error s e → M.Safe (search A O cap).frac s e → Reaches A s e → ⊥
  holds c s e real =
      unreached A O M L.clocks L.shapes L.inclusion L.safe s e real (L.safe_falls s e) cap c
