-- Whether the edges rise: std's `all` over the second and those behind it.
use mathlib.Core.Path.{refl, ◌∙◌}
use Rattle.std.proofs.Common.{rules, tests}
use Rattle.std.proofs.lemmas.Iterator.{YieldsList-from_range}
use Rattle.std.proofs.lemmas.Iterator.Search.{all_from_yields_List}
use Rattle.canonical.proofs.edges.Rising.{more, all_more}
use Rattle.canonical.proofs.edges.Edges.is_rising.Goals as goal

pub returns : goal.returns
returns c =
    let e = c.args.self.now in
    all_from_yields_List (more e.size e.bytes.now) _ _ c.all.result c.all.ensures.ran (YieldsList-from_range 1 e.count _ refl refl)
    (λ x b q k. search (rules, tests))
    ∙ all_more e.size e.bytes.now e.count
