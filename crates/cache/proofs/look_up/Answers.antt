-- `look_up` meets its contract: what is said of the form that was written, or the writer's refusal.
use Prim.Native.Nat.{ℕ}
use mathlib.Core.Path.{sym, ap, ◌∙◌}
use Rattle.std.specs.Prelude.{Err}
use Rattle.std.proofs.lemmas.Result.{err_from_is_err_and}
use Rattle.automata.specs.Numbers.{named}
use Rattle.automata.proofs.accepting.Numbering.{named_number}
use Rattle.cache.specs.Versions.{version1}
use Rattle.cache.specs.Consulting.{look_up_as}
use Rattle.cache.specs.Drawn.{look_up_in}
use Rattle.cache.proofs.consulting.Meeting.{of_written, of_refused}
use Rattle.cache.proofs.look_up.Goals as goal

pub returns-in_err-length-clause-value : goal.returns-in_err-length-clause-value
unfolding look_up_in
returns-in_err-length-clause-value c =
    let p = err_from_is_err_and c.from_residual.result c.from_residual.ensures.1 in
    rw (p.1, p.2)
    (ap Err (sym (named_number _))
    ∙ of_refused _ _ c.write_canonical.ensures.value (look_up_as version1 c.args.cache.now) (λ (k : ℕ). Err (named k)) c.in_err-length.was)

pub returns-clause-value : goal.returns-clause-value
unfolding look_up_in
returns-clause-value c =
    let w = c.write_canonical.ensures in
    c.look_up_form.ensures
    ∙ of_written _ _ w.value (look_up_as version1 c.args.cache.now) (λ (k : ℕ). Err (named k)) c.in_ok-length.was w.form_after
