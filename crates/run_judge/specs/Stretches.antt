-- A run judged in stretches: what holds where one ends.
use Rattle.std.specs.Prelude.{ℕ, ◌<◌, ◌≡◌, Bool, List, length, Option, MatchOption}
use Rattle.run_judge.specs.declared.stretches.Left.{Left}
use Rattle.run_judge.specs.Judging.{waits_from, jumps_from}

-- what is left to judge comes to: with a wait first, with a jump first
abbrev pub waits : Left → Bool
waits l = waits_from l.ready.automaton.now.bytes.now l.numbers.now l.ready.state

abbrev pub jumps : Left → Bool
jumps l = jumps_from l.ready.automaton.now.bytes.now l.numbers.now l.ready.state

-- what is left of the automaton b comes to t
pub record Rest (b : List ℕ) (t : Bool) (l : Left) : Type 0 where
  pub automaton : l.ready.automaton.now.bytes.now ≡ b
  pub same : waits l ≡ t

-- a stretch over l that was to come to t and left m: it comes to t, or what is left does, and that is fewer numbers
abbrev pub Handed : Left → Bool → Left → Option Bool → Type 0
Handed l t m o = MatchOption o (Rest l.ready.automaton.now.bytes.now t m × (length m.numbers.now < length l.numbers.now)) (λ u. u ≡ t)
