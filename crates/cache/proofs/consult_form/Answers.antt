-- `consult_form` meets its contract: the filed verdict, the search's, or 11.
use Rattle.std.proofs.Common.{arith}
use Rattle.std.proofs.lemmas.Grind.{common_steps}
use Rattle.std.proofs.lemmas.Result.{err_from_is_err_and}
use Rattle.cache.specs.Caches.{sound_as, sound_header}
use Rattle.cache.specs.Consulting.{look_up_as, answer_to, consult_answer_as, searched, consult_cache_as, consult_store_as}
use Rattle.cache.proofs.consult_form.Goals as goal

pub returns-in_err-answer : goal.returns-in_err-answer
unfolding answer_to consult_answer_as searched consult_cache_as consult_store_as
returns-in_err-answer c =
    let p = err_from_is_err_and c.from_residual.result c.from_residual.ensures.1 in
    rw (p.1, p.2) (grind (arith, common_steps))

-- where the automaton is absent the cache is sound
pub search_and_file-requires : goal.search_and_file-requires
unfolding look_up_as sound_as sound_header
search_and_file-requires c = record { laid = c.version_1.ensures.laid; used_fits = grind (arith, common_steps) }

pub returns-in-Some : goal.returns-in-Some
unfolding answer_to consult_answer_as searched consult_cache_as consult_store_as
returns-in-Some c = grind (arith, common_steps)

pub returns-in-None : goal.returns-in-None
unfolding answer_to consult_answer_as searched consult_cache_as consult_store_as
returns-in-None c = grind (arith, common_steps)
