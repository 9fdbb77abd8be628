-- `next` meets its contract: the record that the bytes begin with, then the rest of the bytes.
use mathlib.Core.Path.{refl, sym, ap}
use lib.ListN.{length, take-append-drop}
use native.Mathlib.Omega.{arith}
use Rattle.cache.proofs.records.Splitting.{records_begun}
use Rattle.cache.proofs.records.RecordsIterator.next.Goals as goal

pub returns-clause-steps : goal.returns-clause-steps
returns-clause-steps c =
    let w = c.args.self.now in
    let parts = c.split_at.ensures in
    record {
      layout = refl;
      rest_layout = refl;
      bytes = rw (parts.front, parts.back) (sym (take-append-drop _ _));
      records = records_begun w.layout w.laid w.bytes.now c.in_ok-length.ensures parts.front parts.back;
    }

pub returns-clause-goes : goal.returns-clause-goes
returns-clause-goes c =
    let w = c.args.self.now in
    let parts = c.split_at.ensures in
    let more = records_begun w.layout w.laid w.bytes.now c.in_ok-length.ensures parts.front parts.back in
    record { on = λ f. (tt, tt, omega (arith, ap length more)); keeps = tt; rests = λ f. tt }
