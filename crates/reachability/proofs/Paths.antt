-- Runs joined and cut.
use Prim.Native.Nat.{ℕ, ◌+◌}
use mathlib.Core.List.{List, [], ◌∷◌, ◌++◌}
use mathlib.Core.Logic.{inr}
use mathlib.Core.Path.{◌≡◌, refl, sym, ap, ◌∙◌, subst}
use Rattle.runs.specs.Runs.{System, Step, wait, jump, jumps, Stand, after, last, Can, Steps, StandsIn}
use Rattle.reachability.specs.Laws.{Clocks}
use Rattle.reachability.proofs.Lists.{nil_cons}

pub jumps-append : (xs ys : List Step) → jumps (xs ++ ys) ≡ jumps xs ++ jumps ys
jumps-append [] ys = refl
jumps-append (wait t ∷ xs) ys = jumps-append xs ys
jumps-append (jump i ∷ xs) ys = ap (λ l. i ∷ l) (jumps-append xs ys)

module _ (A : System) where
  pub last_append : (x : Stand A.Val) (xs ys : List Step) → last A x (xs ++ ys) ≡ last A (last A x xs) ys
  last_append x [] ys = refl
  last_append x (y ∷ xs) ys = last_append (after A x y) xs ys

  -- a run that ends at the target stands there
  pub last_stands : (l : ℕ) (x : Stand A.Val) (xs : List Step) → (last A x xs).at ≡ l → StandsIn A l x xs
  last_stands l x [] h = h
  last_stands l x (y ∷ xs) h = inr (last_stands l (after A x y) xs h)

  module _ (s e : ℕ) where
    pub steps_append : (x : Stand A.Val) (xs ys : List Step) → Steps A s e x xs → Steps A s e (last A x xs) ys → Steps A s e x (xs ++ ys)
    steps_append x [] ys h g = g
    steps_append x (y ∷ xs) ys h g = (h.0, steps_append (after A x y) xs ys h.1 g)

    -- steps that take p and then i, cut at the last jump
    pub record Cut (x : Stand A.Val) (xs : List Step) (p : List ℕ) (i : ℕ) : Type 0 where
      pub before : List Step
      pub takes : jumps before ≡ p
      pub steps : Steps A s e x before
      pub may : Can A s e (last A x before) (jump i)
      pub rest : List Step
      pub waits : jumps rest ≡ []
      pub on : Steps A s e (after A (last A x before) (jump i)) rest
      pub same : last A x xs ≡ last A (after A (last A x before) (jump i)) rest

    -- one step more before
    longer : {x : Stand A.Val} {y : Step} {xs : List Step} {p r : List ℕ} {i : ℕ} → Can A s e x y → Cut (after A x y) xs p i
        → ((ys : List Step) → jumps ys ≡ p → jumps (y ∷ ys) ≡ r) → Cut x (y ∷ xs) r i
    longer {y = y} h c t = record {
      before = y ∷ c.before;
      takes = t c.before c.takes;
      steps = (h, c.steps);
      may = c.may;
      rest = c.rest;
      waits = c.waits;
      on = c.on;
      same = c.same;
    }

    pub cut : (x : Stand A.Val) (xs : List Step) (p : List ℕ) (i : ℕ) → Steps A s e x xs → jumps xs ≡ p ++ (i ∷ []) → Cut x xs p i
    cut x [] [] i h g = absurd (nil_cons g)
    cut x [] (k ∷ p) i h g = absurd (nil_cons g)
    cut x (wait t ∷ xs) p i h g = longer h.0 (cut (after A x (wait t)) xs p i h.1 g) (λ ys e. e)
    cut x (jump j ∷ xs) [] i h g =
        let z : jumps xs ≡ [] = cc in
        subst (Cut x (jump j ∷ xs) []) (cc)
        (record { before = []; takes = refl; steps = tt; may = h.0; rest = xs; waits = z; on = h.1; same = refl })
    cut x (jump j ∷ xs) (k ∷ p) i h g = longer h.0 (cut (after A x (jump j)) xs p i h.1 (cc)) (λ ys e. cc)

    -- steps that take no edge are one wait
    pub record Waited (x : Stand A.Val) (xs : List Step) : Type 0 where
      pub time : ℕ
      pub ends : last A x xs ≡ after A x (wait time)
      pub stays : A.inv s e x.at x.clocks → A.inv s e x.at (A.pass time x.clocks)

    pub waited : Clocks A → (x : Stand A.Val) (xs : List Step) → Steps A s e x xs → jumps xs ≡ [] → Waited x xs
    waited K x [] h g =
        let m = sym (K.none x.clocks) in
        record { time = 0; ends = λ i. record { at = x.at; clocks = m i }; stays = subst (A.inv s e x.at) m }
    waited K x (wait t ∷ xs) h g =
        let w = waited K (after A x (wait t)) xs h.1 g in
        let m = K.more t w.time x.clocks in
        record {
          time = t + w.time;
          ends = w.ends ∙ (λ i. record { at = x.at; clocks = m i });
          stays = λ v. subst (A.inv s e x.at) m (w.stays h.0);
        }
    waited K x (jump j ∷ xs) h g = absurd (nil_cons (sym g))
