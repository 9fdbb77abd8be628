-- Card A consulted, drawn once and with its edge twice: computed from the definitions of a cache and from the search's own example of card A.
-- Assumes nothing.
use mathlib.Core.Bool.{true}
use mathlib.Core.Path.{◌≡◌, refl, ap}
use Rattle.encoding.specs.Numbers.{be16_at, be32_at, be16, be32}
use Rattle.encoding.specs.Bytes.{same_bytes}
use Rattle.order.specs.Edges.{bytes_less, rising, insert_edge, sorted}
use Rattle.order.specs.Laid.{edge_bytes, edges_from, joined}
use Rattle.automata.specs.Automata.{edge_in, firsts, guard_of, in_byte, invariant_in, invariant_of, limits_at, reset_set, resets_of}
use Rattle.automata.specs.Canonical.{is_canonical, in_order, canonical_of}
use Rattle.automata.specs.Refusals.{out_of_range_at, refusal_of, some}
use Rattle.canonical.specs.Writing.{form_refusal}
use Rattle.std.specs.Prelude.{Ok, Err}
use Rattle.automata.specs.declared.refusals.Refusal.TheVariants.{StoreFull}
use Rattle.search.specs.declared.verdict.Holding.TheVariants.{Below}
use Rattle.search.specs.declared.verdict.Verdict.TheVariants.{Holds}
use Rattle.search.specs.Answers.{answer_in, search_answer}
use Rattle.search.specs.Verdicts.{holding_of, numbers_of, verdict_of, sound_numbers}
use Rattle.search.proofs.answers.Examples as search
use Rattle.search.proofs.answers.Given.{promised}
use Rattle.search.proofs.answers.Numbers.{numbers_are_sound}
use Rattle.encoding.specs.Placing.{placed}
use Rattle.cache.specs.Versions.{version1}
use Rattle.cache.specs.Records.{measured, sound_record, number_bytes, record_of}
use Rattle.cache.specs.Lookups.{look_up}
use Rattle.cache.specs.Caches.{split, records_in, total, all_sound, sound_records, distinct, sound_header, sound_as}
use Rattle.cache.specs.Consulting.{look_up_as, full, appended, filing, answer_to, consult_answer_as, searched, consult_cache_as}
use Rattle.cache.specs.Drawn.{consult_answer, consult_cache}
use Rattle.cache.specs.Examples.{automaton_a, empty, holds, AllRight, examples}

-- the search's case I: card A with stores of 10 and of 11 numbers
answer_10 : search_answer automaton_a 10 ≡ Err StoreFull
unfolding answer_in
answer_10 = ap answer_in (search.all_right).1.1.1.1.1.1.1.1.1.1.0.0

answer_11 : search_answer automaton_a 11 ≡ Ok holds
unfolding answer_in
answer_11 = ap answer_in (search.all_right).1.1.1.1.1.1.1.1.1.1.1.0.0

-- 1/1 is in lowest terms, as all that the search gives out
lowest : sound_numbers (record { kind = 1; n = 1; d = 1 }) ≡ true
unfolding numbers_of
lowest = numbers_are_sound automaton_a (Holds (Below (record { n = 1; d = 1 }))) 1 (rw answer_11 at (promised automaton_a 11).given)

pub all_right : AllRight examples
unfolding be16_at be32_at edge_in firsts guard_of in_byte invariant_in invariant_of limits_at out_of_range_at refusal_of reset_set resets_of some
    be16 be32 same_bytes bytes_less rising insert_edge sorted edge_bytes edges_from joined in_order canonical_of form_refusal
    holding_of numbers_of verdict_of placed measured is_canonical sound_record number_bytes record_of look_up split records_in
    total
    all_sound sound_records distinct sound_header sound_as look_up_as full appended filing answer_to consult_answer_as searched consult_cache_as
    consult_answer consult_cache
all_right = (
  (answer_11, ap (filing version1 (empty 58) automaton_a) answer_11),
  (
    (answer_11, ap (filing version1 (empty 55) automaton_a) answer_11),
    (
      (answer_10, ap (filing version1 (empty 58) automaton_a) answer_10),
      (
        (refl, refl),
        (
          (rw lowest refl, rw lowest refl),
          (
            (rw lowest refl, rw lowest refl),
            (
              (refl, refl),
              (
                (refl, refl),
                ((rw lowest refl, rw lowest refl), ((rw lowest refl, rw lowest refl), tt)),
              ),
            ),
          ),
        ),
      ),
    ),
  ),
)
