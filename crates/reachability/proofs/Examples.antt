-- The searches of a small machine, computed.
use mathlib.Core.Path.{refl}
use Rattle.reachability.specs.Search.{dropping, find, judge, offer, follow, expand, take_from, search}
use Rattle.reachability.specs.Accounts.{along, from}
use Rattle.reachability.specs.Examples.{Shown}

pub shown : Shown
unfolding dropping find judge offer follow expand take_from search along from
shown = record {
  holds = refl;
  full = refl;
  met = refl;
  nothing = refl;
  target = refl;
  inside = refl;
  again = refl;
  big = refl;
  all = refl;
  empties = refl;
}
