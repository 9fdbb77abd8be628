-- The used bytes of a cache: a front that says its own length is one cache, whatever stands behind it. So is the header of an empty cache,
-- the front of a sound cache, and that front with one record more.
-- Assumes nothing.
use Prim.Native.Nat.{ℕ, ◌+◌, ◌-◌, ◌≤◌, ◌<◌}
use mathlib.Core.Bool.{true}
use mathlib.Core.List.{List, [], ◌∷◌, ◌++◌, append_assoc}
use mathlib.Core.Path.{◌≡◌, refl, sym, ap, ◌∙◌, subst}
use lib.ListN.{length, take, drop, length-append, length-drop, get_or-append, take-append-drop}
use lib.Seq.{length-take-le, drop-append-le, take_at, drop-drop, get_or-drop}
use native.Mathlib.Omega.{arith}
use Rattle.encoding.specs.Numbers.{be32}
use Rattle.encoding.proofs.Numbers.{be32-back}
use Rattle.cache.specs.declared.layout.Layout.{Layout}
use Rattle.cache.specs.Layouts.{header_length, version_at, longest, Laid}
use Rattle.encoding.specs.Placing.{placed}
use Rattle.cache.specs.Records.{measured, sound_record, record_automaton}
use Rattle.cache.specs.Lookups.{look_up, is_absent}
use Rattle.cache.specs.Caches.{used_of, version_of, record_bytes, records_in, records_of, total, all_sound, distinct, sound_as}
use Rattle.cache.specs.Consulting.{Room, appended, empty_header}
use Rattle.cache.proofs.layouts.Measured.{append-be32}
use Rattle.cache.proofs.records.Splitting.{no_records, records_append, total-append}
use Rattle.std.proofs.lemmas.List.{drop-take}
use Rattle.cache.proofs.records.Looking.{distinct_append, sound-append}
use Rattle.cache.proofs.caches.Sounding.{Fine, Sound, sound_facts, facts_sound}

-- p says of itself that it is used to its end, and has records s
pub record Front (L : Layout) (p s : List ℕ) : Type 0 where
  pub long : header_length ≤ length p
  pub says : used_of p ≡ length p
  pub version : version_of p ≡ L.version
  pub bytes : drop header_length p ≡ s

-- ---- a front is a cache, whatever follows
module _ {L : Layout} {p s : List ℕ} (f : Front L p s) (rest : List ℕ) where
  front_used : used_of (p ++ rest) ≡ length p
  front_used = append-be32 p rest (omega arith) ∙ f.says

  front_bytes : record_bytes (p ++ rest) ≡ s
  front_bytes =
      (λ i. take (front_used i - header_length) (drop-append-le header_length p rest f.long i))
      ∙ take_at (drop header_length p) rest (length p - header_length) (length-drop header_length p) ∙ f.bytes

  pub front_records : records_of L (p ++ rest) ≡ records_in L s
  front_records = ap (records_in L) front_bytes

  pub front_sound : Fine L s → sound_as L (p ++ rest) ≡ true
  front_sound k = facts_sound L (p ++ rest) (record {
    lent = omega (arith, length-append p rest);
    least = omega (arith, front_used);
    most = omega (arith, front_used, length-append p rest);
    version = get_or-append p rest 0 version_at (omega arith) ∙ f.version;
    fine = subst (Fine L) (sym front_bytes) k;
  })

-- ---- no records
pub empty_front : (L : Layout) → Front L (empty_header L) []
unfolding empty_header be32
empty_front L = record { long = omega arith; says = be32-back header_length (L.version ∷ []) (omega arith); version = refl; bytes = refl }

pub empty_fine : (L : Layout) → Fine L []
unfolding total all_sound distinct
empty_fine L = record { filled = ap total (no_records L); each = ap (all_sound L) (no_records L); once = ap (distinct L) (no_records L) }

-- ---- the used bytes of a sound cache
pub sound_front : (L : Layout) (c : List ℕ) → Sound L c → Front L (take (used_of c) c) (record_bytes c)
sound_front L c k =
    let p = take (used_of c) c in
    let size : length p ≡ used_of c = length-take-le (used_of c) c k.most in
    let whole : p ++ drop (used_of c) c ≡ c = take-append-drop (used_of c) c in
    record {
      long = omega (arith, size);
      says = sym (append-be32 p (drop (used_of c) c) (omega (arith, size))) ∙ ap used_of whole ∙ sym size;
      version = sym (get_or-append p (drop (used_of c) c) 0 version_at (omega (arith, size))) ∙ ap version_of whole ∙ k.version;
      bytes =
          let e : used_of c ≡ header_length + (used_of c - header_length) = omega arith in
          ap (λ (n : ℕ). drop header_length (take n c)) e ∙ drop-take header_length (used_of c - header_length) c;
    }

-- ---- with one record more: the used length anew, then all that was behind it, then the record
abbrev with : List ℕ → List ℕ → List ℕ
with p r = be32 (length p + length r) ++ (drop version_at p ++ r)

with_front : {L : Layout} {p s : List ℕ} → Front L p s → (r : List ℕ) → length p + length r ≤ longest → Front L (with p r) (s ++ r)
unfolding be32
with_front {p = p} f r h =
    let n = length p + length r in
    let rest = drop version_at p ++ r in
    let size : length rest ≡ length p - version_at + length r = omega (arith, length-append (drop version_at p) r, length-drop version_at p) in
    let tail : length (drop version_at p) ≡ length p - version_at = length-drop version_at p in
    record {
      long = omega (arith, size, f.long);
      says = be32-back n rest (omega (arith, h)) ∙ omega (arith, size, f.long);
      version = get_or-append (drop version_at p) r 0 0 (omega (arith, tail, f.long)) ∙ get_or-drop version_at p 0 0 ∙ f.version;
      bytes = drop-append-le 1 (drop version_at p) r (omega (arith, tail, f.long)) ∙ ap (λ (t : List ℕ). t ++ r) (drop-drop 1 version_at p ∙ f.bytes);
    }

with_fine : {L : Layout} → Laid L → {s : List ℕ} → Fine L s → (r : List ℕ) → measured L r ≡ length r → 0 < length r → sound_record L r ≡ true
    → is_absent (look_up L (records_in L s) (record_automaton L r)) ≡ true → Fine L (s ++ r)
with_fine {L} laid {s} k r e h g a =
    let more : records_in L (s ++ r) ≡ records_in L s ++ (r ∷ []) = records_append laid r e h s k.filled in
    record {
      filled = rw more (omega (arith, total-append (records_in L s) r, k.filled, length-append s r));
      each = rw more (sound-append L (records_in L s) r k.each g);
      once = rw more (distinct_append L (records_in L s) r k.once a);
    }

-- ---- what is appended to a sound cache
module _ {L : Layout} (c r : List ℕ) (k : Sound L c) (room : Room c (length r)) where
  appended_front : appended c r ≡ with (take (used_of c) c) r ++ drop (used_of c + length r) c
  unfolding appended placed be32
  appended_front =
      let p = take (used_of c) c in
      let size : length p ≡ used_of c = length-take-le (used_of c) c k.most in
      let rest = drop (used_of c + length r) c in
      rw (size, append_assoc (drop version_at p) r rest, drop-append-le version_at p (r ++ rest) (omega (arith, size, k.least))) refl

  appended_is : Front L (with (take (used_of c) c) r) (record_bytes c ++ r)
  appended_is = with_front (sound_front L c k) r (omega (arith, length-take-le (used_of c) c k.most, room.bytes))

  module _ (laid : Laid L) (e : measured L r ≡ length r) (h : 0 < length r) where
    pub appended_records : records_of L (appended c r) ≡ records_of L c ++ (r ∷ [])
    appended_records =
        ap (records_of L) appended_front ∙ front_records appended_is (drop (used_of c + length r) c)
        ∙ records_append laid r e h (record_bytes c) k.fine.filled

    pub appended-sound : sound_record L r ≡ true → is_absent (look_up L (records_of L c) (record_automaton L r)) ≡ true
        → sound_as L (appended c r) ≡ true
    appended-sound g a =
        ap (sound_as L) appended_front ∙ front_sound appended_is (drop (used_of c + length r) c) (with_fine laid k.fine r e h g a)

-- ---- the used bytes lent again, with others behind them
module _ (L : Layout) (c : List ℕ) (sound≡ : sound_as L c ≡ true) (rest : List ℕ) where
  pub lent_records : records_of L (take (used_of c) c ++ rest) ≡ records_of L c
  lent_records = front_records (sound_front L c (sound_facts L c sound≡)) rest

  pub lent-sound : sound_as L (take (used_of c) c ++ rest) ≡ true
  lent-sound = front_sound (sound_front L c (sound_facts L c sound≡)) rest (sound_facts L c sound≡).fine
