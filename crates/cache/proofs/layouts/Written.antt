-- What is written is read back: a number of four bytes, and a record in any layout.
-- Assumes nothing.
use Prim.Native.Nat.{ℕ, ◌+◌, ◌≤◌}
use mathlib.Core.Bool.{true, ◌&&◌}
use mathlib.Core.List.{List, [], ◌∷◌, ◌++◌}
use mathlib.Core.Path.{◌≡◌, sym, ap, ◌∙◌}
use lib.ListN.{length, drop}
use lib.Seq.{drop_at, get_or_at, get_or-drop}
use native.Mathlib.Nat.{zero-add}
use native.Mathlib.Omega.{arith}
use Rattle.encoding.specs.Numbers.{be32_at, be32}
use Rattle.encoding.proofs.Numbers.{be32_same, be32-back}
use Rattle.automata.specs.Canonical.{is_canonical}
use Rattle.std.specs.Prelude.{Ok}
use Rattle.search.specs.declared.verdict.Answer.{Answer}
use Rattle.search.specs.declared.verdict.Numbers.{Numbers}
use Rattle.search.specs.Given.{Given}
use Rattle.search.specs.Verdicts.{numbers_of, verdict_of, sound_numbers}
use Rattle.search.proofs.answers.Numbers.{numbers-back, numbers_are_sound, numbers-short}
use Rattle.cache.specs.declared.layout.Layout.{Layout}
use Rattle.cache.specs.Layouts.{Laid, longest}
use Rattle.cache.specs.Records.{record_numbers, record_zones, record_automaton, measured, sound_record, filed_as, number_bytes, record_of}
use Rattle.cache.specs.Records.{answer_record, Fits, AnswerFits}
use Rattle.cache.proofs.layouts.Measured.{measured_field}

-- ---- a number of four bytes
-- read behind p
be32-drop : (at : ℕ) (s : List ℕ) → be32_at s at ≡ be32_at (drop at s) 0
be32-drop at s = be32_same s (drop at s) at 0 (λ k h. rw zero-add (sym (get_or-drop at s k 0)))

be32_behind : (p : List ℕ) (x : ℕ) (rest : List ℕ) (at : ℕ) → length p ≡ at → x ≤ longest → be32_at (p ++ (be32 x ++ rest)) at ≡ x
be32_behind p x rest at e h =
    be32-drop at (p ++ (be32 x ++ rest)) ∙ ap (λ (s : List ℕ). be32_at s 0) (drop_at p (be32 x ++ rest) at e) ∙ be32-back x rest (omega arith)

-- ---- the fields of a record: each behind those before it
module _ {L : Layout} (laid : Laid L) (x : Numbers) (zones : ℕ) (b : List ℕ) where
  abbrev whole : List ℕ
  whole = record_of L x zones b

  abbrev size : List ℕ
  size = be32 (L.head + length b)

  pub written_length : length whole ≡ L.head + length b
  unfolding record_of number_bytes be32
  written_length = omega (arith, laid)

  pub written_automaton : record_automaton L whole ≡ b
  unfolding record_of number_bytes be32
  written_automaton = drop_at (size ++ (number_bytes x ++ be32 zones)) b L.head (omega (arith, laid))

  module _ (fits : Fits L x zones b) where
    pub written-measured : measured L whole ≡ length whole
    unfolding record_of
    written-measured = measured_field L whole (length whole)
        (be32-back (L.head + length b) (number_bytes x ++ (be32 zones ++ b)) (omega (arith, fits.size_fits)) ∙ sym written_length)
        (omega (arith, written_length)) (omega arith)

    written-numbers : record_numbers L whole ≡ x
    unfolding record_of number_bytes be32
    written-numbers = λ i. record {
      kind = get_or_at size x.kind (be32 x.n ++ (be32 x.d ++ (be32 zones ++ b))) 0 L.kind (omega (arith, laid)) i;
      n = be32_behind (size ++ (x.kind ∷ [])) x.n (be32 x.d ++ (be32 zones ++ b)) L.n (omega (arith, laid)) fits.numbers_fit.n_fits i;
      d = be32_behind (size ++ (x.kind ∷ be32 x.n)) x.d (be32 zones ++ b) L.d (omega (arith, laid)) fits.numbers_fit.d_fits i;
    }

    written_zones : record_zones L whole ≡ zones
    unfolding record_of number_bytes be32
    written_zones = be32_behind (size ++ number_bytes x) zones b L.zones (omega (arith, laid)) fits.zones_fit

-- ---- a verdict that is given out
pub given_fits : {L : Layout} (b : List ℕ) (a : Answer) → Given b (Ok a) → L.head + length b ≤ longest → AnswerFits L a b
given_fits b a g h =
    let s = numbers-short b a.verdict a.zones g in
    record { size_fits = h; numbers_fit = record { n_fits = omega arith; d_fits = omega arith }; zones_fit = omega arith }

module _ {L : Layout} (laid : Laid L) (b : List ℕ) (a : Answer) (g : Given b (Ok a)) (short : L.head + length b ≤ longest) where
  abbrev x : Numbers
  x = numbers_of a.verdict

  fits : AnswerFits L a b
  fits = given_fits b a g short

  numbers : record_numbers L (answer_record L a b) ≡ x
  numbers = written-numbers laid x a.zones b fits

  pub filed-back : filed_as L (answer_record L a b) ≡ a
  filed-back = λ i. record {
    verdict = (ap verdict_of numbers ∙ numbers-back b a.verdict a.zones g) i;
    zones = written_zones laid x a.zones b fits i;
  }

  pub record_sound : is_canonical b ≡ true → sound_record L (answer_record L a b) ≡ true
  unfolding sound_record
  record_sound ok =
      (λ i. sound_numbers (numbers i) && is_canonical (written_automaton laid x a.zones b i)) ∙ rw (numbers_are_sound b a.verdict a.zones g, ok)
