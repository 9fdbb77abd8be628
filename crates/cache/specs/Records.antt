-- A record's bytes, in any layout L: what is read of them, which are sound, and what is written.
use Rattle.std.specs.Prelude.{ℕ, ◌+◌, ◌≤◌, ◌≡◌, Bool, cond, ◌&&◌, List, ◌∷◌, ◌++◌, leb, length, get_or, drop}
use Rattle.encoding.specs.Numbers.{be32_at, be32}
use Rattle.automata.specs.Canonical.{is_canonical}
use Rattle.search.specs.declared.verdict.Answer.{Answer}
use Rattle.search.specs.declared.verdict.Numbers.{Numbers}
use Rattle.search.specs.Verdicts.{numbers_of, verdict_of, sound_numbers}
use Rattle.cache.specs.declared.layout.Layout.{Layout}
use Rattle.cache.specs.Layouts.{longest}

-- ---- reading: the fields of a record's bytes, all of them and no more
abbrev pub record_numbers : Layout → List ℕ → Numbers
record_numbers L r = record { kind = get_or r L.kind 0; n = be32_at r L.n; d = be32_at r L.d }

abbrev pub record_zones : Layout → List ℕ → ℕ
record_zones L r = be32_at r L.zones

-- document 01's card
abbrev pub record_automaton : Layout → List ℕ → List ℕ
record_automaton L r = drop L.head r

-- the length of the record that the bytes begin with, 0 where they begin with none
unfoldable pub measured : Layout → List ℕ → ℕ
measured L s = cond (leb L.head (be32_at s 0) && leb (be32_at s 0) (length s)) (be32_at s 0) 0

-- they begin with a record of n bytes
pub record Begins (L : Layout) (s : List ℕ) (n : ℕ) : Type 0 where
  pub is : measured L s ≡ n
  pub least : L.head ≤ n
  pub most : n ≤ length s

-- ---- what it says
-- its numbers are those of a verdict, and its automaton is "free of 1 to 8" and its own form
unfoldable pub sound_record : Layout → List ℕ → Bool
sound_record L r = sound_numbers (record_numbers L r) && is_canonical (record_automaton L r)

abbrev pub filed_as : Layout → List ℕ → Answer
filed_as L r = record { verdict = verdict_of (record_numbers L r); zones = record_zones L r }

-- ---- writing
unfoldable pub number_bytes : Numbers → List ℕ
number_bytes x = x.kind ∷ (be32 x.n ++ be32 x.d)

unfoldable pub record_of : Layout → Numbers → ℕ → List ℕ → List ℕ
record_of L x zones b = be32 (L.head + length b) ++ (number_bytes x ++ (be32 zones ++ b))

-- the record of an answer
abbrev pub answer_record : Layout → Answer → List ℕ → List ℕ
answer_record L a b = record_of L (numbers_of a.verdict) a.zones b

-- each number fits the bytes that it is given
pub record NumbersFit (x : Numbers) : Type 0 where
  pub n_fits : x.n ≤ longest
  pub d_fits : x.d ≤ longest

pub record Fits (L : Layout) (x : Numbers) (zones : ℕ) (b : List ℕ) : Type 0 where
  pub size_fits : L.head + length b ≤ longest
  pub numbers_fit : NumbersFit x
  pub zones_fit : zones ≤ longest

abbrev pub AnswerFits : Layout → Answer → List ℕ → Type 0
AnswerFits L a b = Fits L (numbers_of a.verdict) a.zones b
