-- What a grown cache has filed of a form is the search's: demand 3 holds of it, and it is the answer at every store size that lets the search
-- finish.
-- Assumes nothing.
use Prim.Native.Nat.{ℕ}
use mathlib.Core.Bool.{Bool, true, false, cond}
use mathlib.Core.List.{List}
use mathlib.Core.Path.{◌≡◌, refl, sym, subst}
use Rattle.encoding.specs.Bytes.{same_bytes}
use Rattle.encoding.proofs.Equality.{same_equal}
use Rattle.automata.specs.Canonical.{canonical_of}
use Rattle.canonical.proofs.Answers.{Writing, written, refused, writing}
use Rattle.std.specs.Prelude.{Option, Some, None, Result, Ok, Err}
use Rattle.automata.specs.declared.refusals.Refusal.{Refusal}
use Rattle.search.specs.declared.verdict.Answer.{Answer}
use Rattle.search.specs.Demands.{Robust}
use Rattle.search.specs.Given.{Lasting}
use Rattle.search.proofs.answers.Given.{lasting, promised}
use Rattle.cache.specs.Versions.{version1}
use Rattle.cache.specs.Lookups.{look_up, is_absent}
use Rattle.cache.specs.Caches.{records_of}
use Rattle.cache.specs.Consulting.{look_up_as}
use Rattle.cache.specs.Drawn.{consult_cache}
use Rattle.cache.specs.Growing.{Grown, emptied, consulted, lent_again}
use Rattle.cache.proofs.caches.Fronts.{lent_records}
use Rattle.cache.proofs.consulting.Ways.{answered, Way, told, turned_down, stopped, filed, way}
use Rattle.cache.proofs.consulting.Filing.{empty_records, filed_there}
use Rattle.cache.proofs.consulting.Drawn.{leaves_form, leaves-refused}
use Rattle.cache.proofs.growing.Back.{laid, grown_sound}

-- ---- what is filed is the search's
-- of a verdict; nothing of the rest
abbrev Kept : List ℕ → Option Answer → Type 0
Kept b (Some a) = Robust b (Ok a) × Lasting b (Ok a)
Kept b None = Unit {0}

either : (x : List ℕ) (t : Bool) (l k : Option Answer) → Kept x l → Kept x k → Kept x (cond t l k)
either x true l k h g = h
either x false l k h g = g

kept_under : (b x : List ℕ) (a : Answer) → Kept b (Some a) → (t : Bool) → same_bytes b x ≡ t → Kept x (cond t (Some a) None)
kept_under b x a h true e = subst (λ (y : List ℕ). Kept y (Some a)) (same_equal b x e) h
kept_under b x a h false e = tt

way_kept : (c b : List ℕ) (amount : ℕ) (x : List ℕ) → Kept x (look_up version1 (records_of version1 c) x) → {r : Result Answer Refusal} {c' : List ℕ}
    → Way version1 c b amount r c' → Kept x (look_up version1 (records_of version1 c') x)
way_kept c b amount x h (told a s f) = h
way_kept c b amount x h (turned_down k f) = h
way_kept c b amount x h (stopped k s f) = h
way_kept c b amount x h (filed a s f e) =
    let p = promised b amount in
    let old = look_up version1 (records_of version1 c) x in
    let new : Kept b (Some a) = (subst (Robust b) e p.robust, subst (Lasting b) e (lasting b amount)) in
    rw (filed_there laid c b amount a s f e x) (either x (is_absent old) _ old (kept_under b x a new (same_bytes b x) refl) h)

consult_kept : (c b : List ℕ) (room amount : ℕ) (x : List ℕ) → Kept x (look_up version1 (records_of version1 c) x)
    → Kept x (look_up version1 (records_of version1 (consult_cache c b room amount)) x)
consult_kept c b room amount x h = go (writing b room)
  where
    KeptIn : List ℕ → Type 0
    KeptIn y = Kept x (look_up version1 (records_of version1 y) x)

    go : Writing b room → KeptIn (consult_cache c b room amount)
    go (written z) = subst KeptIn (sym (leaves_form c b room z amount))
        (way_kept c (canonical_of b) amount x h (way version1 c (canonical_of b) amount))
    go (refused n) = subst KeptIn (sym (leaves-refused c b room n amount)) h

grown_kept : (c : List ℕ) → Grown c → (x : List ℕ) → Kept x (look_up version1 (records_of version1 c) x)
unfolding look_up
grown_kept _ (emptied c h) x = rw (empty_records version1 c h) tt
grown_kept _ (consulted c b room amount g) x = consult_kept c b room amount x (grown_kept c g x)
grown_kept _ (lent_again c rest g) x = rw (lent_records version1 c (grown_sound c g) rest) (grown_kept c g x)

pub grown_filed : (c b : List ℕ) (a : Answer) → Grown c → look_up version1 (records_of version1 c) b ≡ Some a → Robust b (Ok a) × Lasting b (Ok a)
grown_filed c b a g e = subst (Kept b) e (grown_kept c g b)

-- ---- what consulting any cache promises of a form that is not filed
pub absent_robust : (c b : List ℕ) (amount : ℕ) → look_up_as version1 c b ≡ Ok None → {r : Result Answer Refusal} {c' : List ℕ}
    → Way version1 c b amount r c' → Robust b r
unfolding Robust
absent_robust c b amount h (told a s f) =
    cc (answered version1 c b (Some a) s)
absent_robust c b amount h (turned_down k f) = tt
absent_robust c b amount h (stopped k s f) = tt
absent_robust c b amount h (filed a s f e) = subst (Robust b) e (promised b amount).robust

-- ---- what consulting a grown cache promises of a form
module _ (c b : List ℕ) (amount : ℕ) (g : Grown c) where
  pub way_robust : {r : Result Answer Refusal} {c' : List ℕ} → Way version1 c b amount r c' → Robust b r
  unfolding Robust
  way_robust (told a s f) = (grown_filed c b a g s.there).0
  way_robust (turned_down k f) = tt
  way_robust (stopped k s f) = tt
  way_robust (filed a s f e) = subst (Robust b) e (promised b amount).robust

  -- a refusal is not said to last: 12 is none of the search's
  abbrev pub Lasts : Result Answer Refusal → Type 0
  Lasts (Ok a) = Lasting b (Ok a)
  Lasts (Err k) = Unit {0}

  pub way_lasting : {r : Result Answer Refusal} {c' : List ℕ} → Way version1 c b amount r c' → Lasts r
  way_lasting (told a s f) = (grown_filed c b a g s.there).1
  way_lasting (turned_down k f) = tt
  way_lasting (stopped k s f) = tt
  way_lasting (filed a s f e) = subst (Lasting b) e (lasting b amount)
