-- The laws of the writer, and of reading and writing together.
-- Assumes nothing.
use mathlib.Core.Path.{◌≡◌, refl, sym, ap, ◌∙◌}
use mathlib.Core.Bool.{Bool, true, false}
use mathlib.Core.List.{List, ◌++◌}
use mathlib.Core.Logic.{◌↔◌, ◌⊎◌, ⊎_elim}
use Prim.Native.Nat.{ℕ, ◌+◌, ◌-◌, ◌≤◌, ◌<◌}
use native.Mathlib.Omega.{arith}
use lib.ListN.{length, get_or, take, drop, length-append, length-drop, get_or-append}
use lib.Seq.{length-take-le, take_at, drop_at, get_or-append-add, get_or-take, get_or-drop}
use Rattle.std.specs.Prelude.{Result}
use Rattle.refusal.specs.Said.{gives, refuses}
use Rattle.refusal.specs.declared.Refusal.{Refusal}
use Rattle.moment.specs.Calendar.{moment_exists}
use Rattle.moment.specs.Key.{moment_of, fields_of, in_range, legal_of}
use Rattle.moment.specs.declared.Moment.{Moment}
use Rattle.moment.proofs.Tests.{tests}
use Rattle.exif.specs.Forms.{two, four, text, two_digit_hour, two_digits}
use Rattle.exif.specs.Parts.{beyond_of}
use Rattle.exif.specs.Reading.{reads_text, reads}
use Rattle.exif.specs.Writing.{put_text, writes, leaves, written_says}
use Rattle.exif.proofs.Parts.{within, beyond_iff, not_beyond}
use Rattle.exif.proofs.Texts.{read_iff, within_read}
use Rattle.exif.proofs.Keys.{key_of_moment}

-- the text that a legal key's date and time are written as
unfoldable key_text : ℕ → List ℕ
key_text key = two_digit_hour (moment_of (fields_of key))

twenty : (m : Moment) → length (two_digit_hour m) ≡ 20
unfolding two_digit_hour text four two
twenty m = refl

-- twenty bytes put at a place where there is room for them
module _ (b : List ℕ) (place : ℕ) (t : List ℕ) (room : place + 20 ≤ length b) (n : length t ≡ 20) where
  front : length (take place b) ≡ place
  front = length-take-le place b (omega arith)

  put_length : length (put_text b place t) ≡ length b
  unfolding put_text
  put_length = simp (length-append, length-drop, front, n) (omega arith)

  put_part : take 20 (drop place (put_text b place t)) ≡ t
  unfolding put_text
  put_part = rw (drop_at (take place b) (t ++ drop 20 (drop place b)) place front, take_at t (drop 20 (drop place b)) 20 n)

  put_before : (i : ℕ) → i < place → get_or (put_text b place t) i 0 ≡ get_or b i 0
  unfolding put_text
  put_before i h = get_or-append (take place b) (t ++ drop 20 (drop place b)) 0 i (omega (arith, front)) ∙ get_or-take place b i 0 h

  put_after : (i : ℕ) → place + 20 ≤ i → get_or (put_text b place t) i 0 ≡ get_or b i 0
  unfolding put_text
  put_after i h =
      let k = i - place - 20 in
      let at-text : i ≡ length (take place b) + (length t + k) = omega (arith, front) in
      let at_rest : place + (20 + k) ≡ i = omega arith in
      let e = get_or-append-add (take place b) (t ++ drop 20 (drop place b)) (length t + k) 0 in
      let f = get_or-append-add t (drop 20 (drop place b)) k 0 in
      ap (λ j. get_or (put_text b place t) j 0) at-text ∙ e ∙ f ∙ get_or-drop 20 (drop place b) k 0 ∙ get_or-drop place b (20 + k) 0 ∙ ap (λ j. get_or b j 0) at_rest

-- a write that is not refused
record Wrote (buffer : List ℕ) (place key : ℕ) (after : List ℕ) : Type 0 where
  legal : legal_of key ≡ true
  room : place + 20 ≤ length buffer
  is : after ≡ put_text buffer place (key_text key)

module _ (buffer : List ℕ) (place key : ℕ) where
  -- what each answer tells, by the two tests
  given : (after : List ℕ) (l b : Bool) → legal_of key ≡ l → beyond_of (length buffer) place 20 ≡ b → writes buffer place key ≡ gives after
      → Wrote buffer place key after
  unfolding writes key_text
  given after true false p q e = let r = simp (p, q) at e in record { legal = p; room = within _ _ _ q; is = cc }
  given after true true p q e = let r = simp (p, q) at e in absurd (let z : ◌≡◌ {A = ℕ} 0 1 = cc in omega arith)
  given after false true p q e = let r = simp (p, q) at e in absurd (let z : ◌≡◌ {A = ℕ} 0 1 = cc in omega arith)
  given after false false p q e = let r = simp (p, q) at e in absurd (let z : ◌≡◌ {A = ℕ} 0 1 = cc in omega arith)

  three : (l b : Bool) → legal_of key ≡ l → beyond_of (length buffer) place 20 ≡ b → writes buffer place key ≡ refuses 3 → l ≡ false
  unfolding writes
  three true false p q e = let r = simp (p, q) at e in absurd (let z : ◌≡◌ {A = ℕ} 0 1 = cc in omega arith)
  three true true p q e = let r = simp (p, q) at e in absurd (let z : ◌≡◌ {A = ℕ} 11 3 = cc in omega arith)
  three false b p q e = refl

  eleven : (l b : Bool) → legal_of key ≡ l → beyond_of (length buffer) place 20 ≡ b → writes buffer place key ≡ refuses 11
      → (l ≡ true) × (b ≡ true)
  unfolding writes
  eleven true false p q e = let r = simp (p, q) at e in absurd (let z : ◌≡◌ {A = ℕ} 0 1 = cc in omega arith)
  eleven true true p q e = (refl, refl)
  eleven false true p q e = let r = simp (p, q) at e in absurd (let z : ◌≡◌ {A = ℕ} 3 11 = cc in omega arith)
  eleven false false p q e = let r = simp (p, q) at e in absurd (let z : ◌≡◌ {A = ℕ} 3 11 = cc in omega arith)

  wrote : (after : List ℕ) → writes buffer place key ≡ gives after → Wrote buffer place key after
  wrote after = given after _ _ refl refl

  -- The writer refuses 3 exactly if the key is not legal; and 11 exactly if the key is legal and 20 bytes from the place do not
  -- lie in the buffer. In every other case it gives the buffer with the text at the place.
  pub refused_three : (writes buffer place key ≡ refuses 3) ↔ (legal_of key ≡ false)
  unfolding writes
  refused_three = (three _ _ refl refl, λ e. simp e)

  pub refused_eleven : (writes buffer place key ≡ refuses 11) ↔ ((legal_of key ≡ true) × (length buffer < place + 20))
  unfolding writes
  refused_eleven = (
    λ e. let r = eleven _ _ refl refl e in (r.0, (beyond_iff _ _ _).0 r.1),
    λ h. simp (h.0, (beyond_iff _ _ _).1 h.1),
  )

  pub written : legal_of key ≡ true → place + 20 ≤ length buffer
      → writes buffer place key ≡ gives (put_text buffer place (two_digit_hour (moment_of (fields_of key))))
  unfolding writes
  written legal room = simp (legal, not_beyond (length buffer) place 20 room)

exists : (key : ℕ) → legal_of key ≡ true → moment_exists (moment_of (fields_of key)) ≡ true
unfolding legal_of in_range
exists key e = (simp tests at e).1.0.0.0

-- the 20 bytes at the place, after a write
part : (buffer : List ℕ) (place key : ℕ) (after : List ℕ) → Wrote buffer place key after → take 20 (drop place after) ≡ key_text key
unfolding key_text
part buffer place key after w = rw w.is (put_part buffer place _ w.room (twenty _))

same_length : (buffer : List ℕ) (place key : ℕ) (after : List ℕ) → Wrote buffer place key after → length after ≡ length buffer
unfolding key_text
same_length buffer place key after w = rw w.is (put_length buffer place _ w.room (twenty _))

-- Read after written gives the six fields back, for every legal key, buffer and place where the writer does not refuse.
pub read_after_written : (buffer : List ℕ) (place key : ℕ) (after : List ℕ) → writes buffer place key ≡ gives after
    → reads after place 20 ≡ gives (moment_of (fields_of key))
unfolding key_text
read_after_written buffer place key after e =
    let w = wrote buffer place key after e in
    let n = same_length buffer place key after w in
    within_read after place 20 (omega (arith, w.room))
    ∙ ap reads_text (part buffer place key after w)
    ∙ (read_iff _ _).1 (record { exists = exists key w.legal; form = two_digits refl })

-- Written after read: if a text, of whichever form, is read as m, then each legal key of that date and time is written as
-- the two-digit form of m, which is read as m again; and there is such a key.
pub written_after_read : (t : List ℕ) (m : Moment) → reads_text t ≡ gives m → (buffer : List ℕ) (place key : ℕ) (after : List ℕ)
    → moment_of (fields_of key) ≡ m → writes buffer place key ≡ gives after
    → (take 20 (drop place after) ≡ two_digit_hour m) × (reads_text (two_digit_hour m) ≡ reads_text t)
unfolding key_text
written_after_read t m r buffer place key after k e =
    let w = wrote buffer place key after e in
    let c = (read_iff m t).0 r in
    (part buffer place key after w ∙ ap two_digit_hour k, (read_iff m (two_digit_hour m)).1 (record { exists = c.exists; form = two_digits refl }) ∙ sym r)

pub key_of_read : (t : List ℕ) (m : Moment) → reads_text t ≡ gives m → (key : ℕ) × (legal_of key ≡ true) × (moment_of (fields_of key) ≡ m)
key_of_read t m r = key_of_moment m ((read_iff m t).0 r).exists

-- A write changes no byte outside the 20 at the place, and not the length.
pub every_other_byte : (buffer : List ℕ) (place key : ℕ) (after : List ℕ) → writes buffer place key ≡ gives after
    → (length after ≡ length buffer) × ((i : ℕ) → (i < place) ⊎ (place + 20 ≤ i) → get_or after i 0 ≡ get_or buffer i 0)
unfolding key_text
every_other_byte buffer place key after e =
    let w = wrote buffer place key after e in
    (same_length buffer place key after w, λ i. rw w.is (⊎_elim (put_before buffer place _ w.room (twenty _) i) (put_after buffer place _ w.room (twenty _) i)))

-- A refusal leaves the buffer as it was: whatever the writer's promise allows as an answer r and a buffer `after` with it.
pub refusal_leaves : (buffer : List ℕ) (place key : ℕ) (r : Result Unit Refusal) (after : List ℕ) (n : ℕ) → written_says r after ≡ writes buffer place key
    → after ≡ leaves (writes buffer place key) buffer → written_says r after ≡ refuses n → after ≡ buffer
refusal_leaves buffer place key r after n answers holds e = rw (sym answers, e) at holds
