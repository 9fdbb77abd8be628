-- `make_empty` meets its contract: too few bytes, or the header of an empty cache.
use mathlib.Core.List.{[], ◌∷◌}
use mathlib.Core.Path.{ap, ◌∙◌}
use native.Mathlib.Omega.{arith}
use Rattle.encoding.specs.Numbers.{be32}
use Rattle.cache.specs.declared.layout.Layout.{Layout}
use Rattle.cache.specs.Layouts.{header_length, version_at}
use Rattle.cache.specs.Versions.{version1}
use Rattle.cache.specs.Consulting.{empty_header}
use Rattle.encoding.proofs.Placed.{goes_on}
use Rattle.cache.proofs.consulting.Asking.{empty-made}
use Rattle.cache.proofs.make_empty.Goals as goal

pub returns-clause-cache_after : goal.returns-clause-cache_after
unfolding empty_header be32
returns-clause-cache_after c =
    let a = c.args in
    let one = rw c.bytes_of.ensures at c.put.ensures in
    let version = ap (λ (L : Layout). L.version ∷ []) c.version_1.ensures.value in
    let two = goes_on a.cache.now (be32 header_length) (version1.version ∷ []) 0 version_at (omega arith) (omega arith) in
    two one version c.put-2.ensures ∙ (empty-made version1 a.cache.now (omega arith)).1
