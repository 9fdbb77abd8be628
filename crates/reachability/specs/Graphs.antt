-- Graphs whose edges are open or shut, as systems with one valuation: zones that have no numbers at all, and what they mean.
use Rattle.std.specs.Prelude.{ℕ, Bool, true, false, ◌≡◌}
use Rattle.runs.specs.Runs.{System}
use Rattle.reachability.specs.Search.{Result, empty, zone, Zones}
use Rattle.reachability.specs.Meaning.{Meaning}

abbrev pub passes : Bool → Result (Unit {0}) (Unit {0})
passes true = zone tt tt
passes false = empty tt

module _ (edges : ℕ) (from to : ℕ → ℕ) (start target : ℕ) (isOpen : ℕ → Bool) where
  abbrev pub graph : System
  graph = record {
    edges = edges;
    from = from;
    to = to;
    start = start;
    target = target;
    Val = Unit {0};
    origin = tt;
    pass = λ t v. v;
    reset = λ i v. v;
    guard = λ s e i v. isOpen i ≡ true;
    inv = λ s e l v. Unit {0};
  }

  abbrev pub points : Zones (Unit {0}) (Unit {0})
  points = record {
    top = tt;
    enter = λ f. zone tt tt;
    succ = λ i z f. passes (isOpen i);
    within = λ z y. true;
    equal = λ z y. true;
    lowered = λ z y f. tt;
    big = λ z. false;
  }

  abbrev pub meaning : Meaning graph (Unit {0}) (Unit {0})
  meaning = record {
    Error = λ s e. Unit {0};
    In = λ z s e v. Unit {0};
    Shape = λ z. Unit {0};
    Fit = λ z s e. Unit {0};
    Safe = λ f s e. Unit {0};
    Exact = λ f s e. Unit {0};
  }
