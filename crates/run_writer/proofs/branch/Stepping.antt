-- One turn of the walk: the slot that an origin names is in the store, and its own origin is one jump nearer to the start.
use Prim.Native.Nat.{ℕ, suc, ◌+◌, ◌-◌, ◌*◌, ◌≤◌, ◌<◌}
use mathlib.Core.Bool.{true}
use mathlib.Core.List.{List}
use mathlib.Core.Path.{◌≡◌, sym, ap, ◌∙◌, subst}
use lib.IntN.{ℤ, pos}
use lib.ListN.{length, get_or, drop, take}
use lib.Signed.{◌≤ℤ◌}
use native.Mathlib.Omega.{arith}
use Rattle.automata.specs.Automata.{clocks}
use Rattle.reachability.specs.Branches.{path_of}
use Rattle.reachability.specs.Search.{Came, first_zone}
use Rattle.search.specs.Outcomes.{came_of}
use Rattle.run_writer.specs.declared.branch.Branch.{Branch}
use Rattle.run_writer.specs.Walks.{jumps_left}
use Rattle.search.specs.Exploring.{SoundNode, SoundZone}
use Rattle.search.specs.Instance.{ZoneNode}
use Rattle.search.specs.Store.{origin_of, most_slots}
use Rattle.search.proofs.exploration.Judging.{read_counts, read_zone}
use Rattle.search.proofs.exploration.Stores.{lent_length}
use Rattle.slots.specs.declared.slot.Origin.{Origin}
use Rattle.slots.specs.Slots.{slot_length, p_at, is_along, slot_origin}
use Rattle.zones.specs.Integers.{up}
use Rattle.run_writer.specs.Crossing.{zone_in}
use Rattle.run_writer.specs.Branch.{kept_of, Ended, Standing, jumps_before}
use Rattle.run_writer.proofs.branch.Walking.{left_of, left_at, left_is, sound, slot_of, slot_inside, origin_at, standing, Along, along}
use Rattle.run_writer.proofs.branch.Walking.{few, parent_is, one_more, jumps_most}

module _ {b : List ℕ} {amount : ℕ} {s : List ℤ} (e : Ended b amount s) {o : Origin} (st : Standing b amount o) (h : is_along o ≡ true) where
  abbrev a : Along st
  a = along st h

  -- the zone that it came from
  abbrev pub source : ZoneNode
  source = (along st h).jumps.parent

  -- ---- its origin
  module _ {o' : Origin} (eo : o' ≡ origin_of source.came) where
    pub next : Standing b amount o'
    next = subst (Standing b amount) (sym eo) (standing e a.parent source a.jumps.kept)

    pub nearer : left_of o' < left_of o
    nearer = omega (arith, left_is st a, ap left_of eo, left_at e a.parent source a.jumps.kept)

    pub fewer : jumps_before b amount o ≡ suc (jumps_before b amount o')
    fewer = one_more st a e ∙ ap (λ x. suc (jumps_before b amount x)) (sym eo)

  -- ---- its zone
  source_sound : SoundNode b source
  source_sound = (sound e).nodes a.parent source a.jumps.kept

  pub sound_zone : SoundZone b source.zone
  sound_zone = record { ranged = source_sound.ranged; framed = source_sound.framed }

  -- ---- as the code reads them
  module _ {slot stride : ℕ} (es : slot ≡ up o.parent) (ed : stride ≡ slot_length (suc (clocks b))) where
    abbrev lent : List ℤ
    lent = take (length s - slot * stride) (drop (slot * stride) s)

    at≡ : slot * stride ≡ a.parent * slot_length (suc (clocks b))
    at≡ = (λ i. (es ∙ parent_is st a) i * ed i)

    pub inside : slot * stride + slot_length (suc (clocks b)) ≤ length s
    inside = slot_inside e a.parent source a.jumps.kept at≡

    pub asks_slot : slot_length (suc (clocks b)) ≤ length (take (length s - slot * stride) (drop (slot * stride) s))
    asks_slot = omega (arith, lent_length s (slot * stride), inside)

    pub reads_origin : {r : Origin} → r ≡ slot_origin (take (length s - slot * stride) (drop (slot * stride) s)) → r ≡ origin_of source.came
    reads_origin f = f ∙ origin_at e a.parent source a.jumps.kept at≡

    pub reads_counts : (t : ℕ) → t < suc (clocks b) * suc (clocks b) →
        pos 0 ≤ℤ get_or (take (length s - slot * stride) (drop (slot * stride) s)) (p_at t) (pos 0)
    reads_counts = read_counts b e.accepted s a.parent (slot * stride) source at≡ (slot_of e a.parent source a.jumps.kept)

    pub reads_zone : zone_in b (take (length s - slot * stride) (drop (slot * stride) s)) ≡ source.zone
    reads_zone =
        read_zone b e.accepted s a.parent (slot * stride) source at≡ (slot_of e a.parent source a.jumps.kept) source_sound

pub jumps_few : {b : List ℕ} {amount : ℕ} {s : List ℤ} → Ended b amount s → {o : Origin} → Standing b amount o →
    jumps_before b amount o ≤ most_slots
jumps_few e st = omega (arith, jumps_most e st, few e)

-- none lead to the first zone
pub no_jumps : (x : Branch) → came_of x.origin ≡ first_zone → jumps_left x ≡ 0
unfolding path_of
no_jumps x e = ap (λ (c : Came). length (path_of (kept_of x.automaton.bytes.now (length x.store.now)) c)) e
