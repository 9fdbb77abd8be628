-- A record that is filed, as the code has it.
use Rattle.std.specs.Prelude.{ℕ, ◌+◌, List, length}
use Rattle.search.specs.declared.verdict.Numbers.{Numbers}
use Rattle.search.specs.Verdicts.{numbers_of}
use Rattle.cache.specs.declared.record.Entry.{Entry}
use Rattle.cache.specs.Records.{answer_record}

abbrev pub entry_length : Entry → ℕ
entry_length e = e.layout.head + length e.automaton.now

abbrev pub entry_numbers : Entry → Numbers
entry_numbers e = numbers_of e.answer.verdict

-- its bytes
abbrev pub entry_record : Entry → List ℕ
entry_record e = answer_record e.layout e.answer e.automaton.now
