-- `append` meets its contract: what the writer leaves in the part lent to it, then the used length.
use Prim.Native.Nat.{ℕ, ◌+◌}
use mathlib.Core.Path.{sym, ap, ◌∙◌}
use Rattle.encoding.specs.Numbers.{be32}
use Rattle.encoding.specs.Placing.{placed}
use Rattle.cache.specs.Entries.{entry_numbers, entry_record}
use Rattle.cache.specs.Consulting.{appended}
use Rattle.encoding.proofs.Placed.{lent_placed}
use Rattle.cache.proofs.layouts.Written.{written_length}
use Rattle.cache.proofs.append.Goals as goal

pub returns : goal.returns
unfolding appended
returns c =
    let cache = c.args.cache.now in
    let e = c.args.entry.now in
    let r = entry_record e in
    let used = c.used-used in
    let size = c.length.ensures ∙ sym (written_length e.laid (entry_numbers e) e.answer.zones e.automaton.now) in
    let next = c.bytes_of.ensures ∙ ap be32 (λ i. used.ensures.value i + size i) in
    let behind = lent_placed cache r used.result c.write.ensures ∙ ap (λ (n : ℕ). placed n r cache) used.ensures.value in
    c.put.ensures ∙ (λ i. placed 0 (next i) (behind i))
