-- What is copied of the input is its front.
use Rattle.std.proofs.Common.{rules, ◌≡◌, IfSome, Option, Some, None, List, [], ℕ, take, ap}
use Rattle.std.specs.Option.{option_map}
use Rattle.std.specs.Io.KnownBytes.{Appends}
use Rattle.robustness.proofs.read_front.Goals as goal

-- what is copied is the front of what is known
front : (known input : Option (List ℕ)) (limit most : ℕ) (old got : List ℕ) → known ≡ input → limit ≡ most → old ≡ []
    → IfSome (option_map (take limit) known) (Appends (Some old) (Some got)) → IfSome input (λ all. got ≡ take most all)
front known None limit most old got e f k h = tt
front known (Some all) limit most old got e f k h = search rules

pub returns : goal.returns
returns g c =
    front _ _ _ _ _ _ (ap (λ r. g.R.Read.remaining r.now) c.take.ensures.inner) c.take.ensures.limit c.requires (c.in_ok-copy.ensures.bytes)
