-- Searches of a small machine whose zones are numbers: what each comes to, with its kept zones, their paths, and the fraction.
use Rattle.std.specs.Prelude.{ℕ, zero, suc, ◌+◌, ◌-◌, ◌*◌, List, [], ◌∷◌, ◌++◌, ◌≡◌, get_or, ltb, leb, eqb}
use Rattle.runs.specs.Runs.{System}
use Rattle.reachability.specs.Search.{Result, empty, zone, Zones, Came, first_zone, by_edge, Node, State, Outcome, going, ended}
use Rattle.reachability.specs.Search.{reached, refused, judge, search}
use Rattle.reachability.specs.Accounts.{one, one_if_empty, entered}

-- edges 0 to 3 leave location 0, for 1, 1, 1 and 0; edge 4 leads from 1 to 2
abbrev pub machine : ℕ → System
machine target = record {
  edges = 5;
  from = λ i. get_or (0 ∷ 0 ∷ 0 ∷ 0 ∷ 1 ∷ []) i 0;
  to = λ i. get_or (1 ∷ 1 ∷ 1 ∷ 0 ∷ 2 ∷ []) i 0;
  start = 0;
  target = target;
  Val = Unit {0};
  origin = tt;
  pass = λ t v. v;
  reset = λ i v. v;
  guard = λ s e i v. Unit {0};
  inv = λ s e l v. Unit {0};
}

-- a zone is a number, 0 for an empty one; it is within a larger one
abbrev pub made : ℕ → ℕ → Result ℕ ℕ
made zero f = empty f
made (suc n) f = zone (suc n) f

-- in the place of the fraction a number falls: by 1 with each zone made, and by ten times what contains another
abbrev pub numbers : ℕ → (ℕ → ℕ → ℕ) → Zones ℕ ℕ
numbers first step = record {
  top = 1000;
  enter = λ f. made first (f - 1);
  succ = λ i z f. made (step i z) (f - 1);
  within = λ z y. leb z y;
  equal = λ z y. eqb z y;
  lowered = λ z y f. f - 10 * y;
  big = λ z. ltb 50 z;
}

-- edge 2 makes a zone within those of edges 0 and 1, edge 3 an empty one
abbrev pub small : Zones ℕ ℕ
small = numbers 1 (λ i z. get_or (5 ∷ 7 ∷ 4 ∷ 0 ∷ (z + 1) ∷ []) i 0)

abbrev pub node : ℕ → ℕ → Came → List ℕ → Node ℕ
node l z c p = record { at = l; zone = z; came = c; path = p }

-- with the zones dropped as again and as inside
abbrev pub state : List (Node ℕ) → ℕ → ℕ → ℕ → Outcome → State ℕ ℕ
state ks f again inside o = record { kept = ks; frac = f; outcome = o; again = again; inside = inside }

abbrev pub three : List (Node ℕ)
three = node 0 1 first_zone [] ∷ node 1 5 (by_edge 0 0) (0 ∷ []) ∷ node 1 7 (by_edge 0 1) (1 ∷ []) ∷ []

abbrev pub four : List (Node ℕ)
four = three ++ (node 2 6 (by_edge 1 4) (0 ∷ 4 ∷ []) ∷ [])

abbrev pub five : List (Node ℕ)
five = three ++ (node 2 6 (by_edge 1 4) (0 ∷ 4 ∷ []) ∷ node 2 8 (by_edge 2 4) (1 ∷ 4 ∷ []) ∷ [])

abbrev pub kept : List (Node ℕ)
kept = node 2 60 first_zone [] ∷ []

pub record Shown : Type 0 where
  -- oldest first, each once, edges in order; 4 is dropped within 5, the oldest that contains it
  pub holds : search (machine 9) small 5 ≡ state five 943 0 1 going
  pub full : search (machine 9) small 4 ≡ state four 943 0 1 (ended (refused 10))
  -- at once: what is left is not taken
  pub met : search (machine 2) small 5 ≡ state three 944 0 1 (ended (reached (by_edge 1 4)))
  -- an empty zone is dropped, at the target too, and is counted as neither
  pub nothing : search (machine 0) (numbers 0 (λ i z. 1)) 0 ≡ state [] 999 0 0 going
  -- the target, then a kept zone that contains it, then 9, then 10
  pub target : judge (machine 2) small 1 (state kept 999 4 2 going) (node 2 55 (by_edge 3 4) []) 998
      ≡ state kept 998 4 2 (ended (reached (by_edge 3 4)))
  pub inside : judge (machine 9) small 1 (state kept 999 4 2 going) (node 2 55 (by_edge 3 4) []) 998 ≡ state kept 398 4 3 going
  pub again : judge (machine 9) small 1 (state kept 999 4 2 going) (node 2 60 (by_edge 3 4) []) 998 ≡ state kept 398 5 2 going
  pub big : judge (machine 9) small 1 (state kept 999 4 2 going) (node 3 55 (by_edge 3 4) []) 998 ≡ state kept 998 4 2 (ended (refused 9))
  -- of seven zones that have entered, the first, four from the first node and one from each of the two at 1, one is empty: five kept, one dropped
  pub all : entered (machine 9) small 1000 one five ≡ 7
  pub empties : entered (machine 9) small 1000 one_if_empty five ≡ 1
