-- `write_form` meets its contract: the edges right behind what stands before them.
use mathlib.Core.Path.{refl}
use lib.ListN.{length}
use native.Mathlib.Omega.{arith}
use Rattle.canonical.proofs.writing.Parts.{asks_front, total_is, form_put}
use Rattle.canonical.proofs.writing.write_form.Goals as goal

pub write_front-requires : goal.write_front-requires
write_front-requires c =
    let a = c.args in
    let t = c.requires.total_value in
    let asked = asks_front a.automaton.now a.order.now c.requires.sorted (length a.form.now) t.0 c.len-count.ensures.value t.1 in
    record { at_fits = asked.0; total_bound = asked.1 }

pub write_edges-requires : goal.write_edges-requires
write_edges-requires c = let a = c.args in omega (arith, total_is a.automaton.now a.order.now c.requires.sorted refl)

pub returns : goal.returns
returns c =
    let a = c.args in
    form_put a.automaton.now a.order.now c.requires.sorted a.form.now c.requires.total_value.0 c.len-count.ensures.value
    c.write_front.ensures c.write_edges.ensures
