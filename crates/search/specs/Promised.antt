-- All that the search promises of what it finds beside the equations: what a caller may build on.
use Rattle.std.specs.Prelude.{ℕ, List, Result}
use Rattle.automata.specs.declared.refusals.Refusal.{Refusal}
use Rattle.search.specs.declared.verdict.Findings.{Findings}
use Rattle.search.specs.Answers.{answer_in}
use Rattle.search.specs.Demands.{Robust, KeptExact, KeptContains, Ordered}
use Rattle.search.specs.Given.{Given, Beside, AddsUp, LastingFindings}

pub record Promised (b : List ℕ) (amount : ℕ) (r : Result Findings Refusal) : Type 0 where
  pub robust : Robust b (answer_in r)
  pub exact : KeptExact b amount
  pub contains : KeptContains b amount
  pub ordered : Ordered b amount
  pub given : Given b (answer_in r)
  pub beside : Beside r
  pub adds_up : AddsUp b amount r
  pub lasting : LastingFindings b r
