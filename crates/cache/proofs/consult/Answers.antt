-- `consult` meets its contract: what comes of the form that was written, or the writer's refusal.
use Prim.Native.Nat.{ℕ}
use mathlib.Core.Path.{sym, ap, ◌∙◌}
use lib.ListN.{length}
use Rattle.std.specs.Prelude.{Err}
use Rattle.std.proofs.lemmas.Result.{err_from_is_err_and}
use Rattle.automata.specs.Numbers.{named}
use Rattle.automata.proofs.accepting.Numbering.{named_number}
use Rattle.cache.specs.Versions.{version1}
use Rattle.cache.specs.Consulting.{consult_answer_as, consult_cache_as, consult_store_as}
use Rattle.cache.specs.Drawn.{consult_answer, consult_cache, consult_store}
use Rattle.cache.proofs.consulting.Meeting.{of_written, of_refused}
use Rattle.cache.proofs.growing.Carried.{carried_by}
use Rattle.cache.proofs.consult.Goals as goal

pub returns-in_err-length : goal.returns-in_err-length
unfolding consult_answer consult_cache consult_store
returns-in_err-length c =
    let a = c.args in
    let w = c.write_canonical.ensures in
    let p = err_from_is_err_and c.from_residual.result c.from_residual.ensures.1 in
    let is = c.in_err-length.was in
    let n = length a.store.now in
    let answer = ap Err (sym (named_number _))
    ∙ of_refused _ _ w.value (λ f. consult_answer_as version1 a.cache.now f n) (λ (k : ℕ). Err (named k)) is in
    let cache = of_refused _ _ w.value (λ f. consult_cache_as version1 a.cache.now f n) (λ _. a.cache.now) is in
    let store = of_refused _ _ w.value (λ f. consult_store_as version1 a.cache.now f a.store.now) (λ _. a.store.now) is in
    rw (p.1, p.2) (record {
      value = answer;
      cache_after = cache;
      form_after = w.form_after;
      store_after = store;
      carried = carried_by _ _ _ _ answer cache store;
    })

pub returns : goal.returns
unfolding consult_answer consult_cache consult_store
returns c =
    let a = c.args in
    let w = c.write_canonical.ensures in
    let m = c.consult_form.ensures in
    let is = c.in_ok-length.was in
    let n = length a.store.now in
    let answer = m.value
    ∙ of_written _ _ w.value (λ f. consult_answer_as version1 a.cache.now f n) (λ (k : ℕ). Err (named k)) is w.form_after in
    let cache = m.cache_after ∙ of_written _ _ w.value (λ f. consult_cache_as version1 a.cache.now f n) (λ _. a.cache.now) is w.form_after in
    let store = m.store_after
    ∙ of_written _ _ w.value (λ f. consult_store_as version1 a.cache.now f a.store.now) (λ _. a.store.now) is w.form_after in
    record {
      value = answer;
      cache_after = cache;
      form_after = w.form_after;
      store_after = store;
      carried = carried_by _ _ _ _ answer cache store;
    }
