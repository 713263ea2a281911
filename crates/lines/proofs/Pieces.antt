-- A LINE FED IN PIECES OF ANY SIZE SAYS WHAT THE WHOLE LINE SAYS.
-- Assumes nothing.
use mathlib.Core.Path.{◌≡◌, refl, sym, ap, ◌∙◌}
use mathlib.Core.Bool.{Bool, true, false, cond, ◌||◌, or-true}
use mathlib.Core.List.{List, [], ◌∷◌, ◌++◌, append-nil, append_assoc}
use Prim.Native.Nat.{ℕ, zero, suc, ◌+◌, ◌*◌, ◌-◌, ◌≤◌, ◌<◌}
use native.Mathlib.Omega.{arith}
use lib.Dec.{leb, eqb}
use native.Mathlib.Nat.{add-zero}
use lib.ListN.{length, take, drop, length-append, length-take, drop_of_length-le, take-append-drop}
use lib.Seq.{sets, sets-eq, length-sets, take_all, take_at, take-append-le, drop-append-le, take-append-add, drop-append-add, length-take-le}
use borrow.Author.Tests.{leb-true, leb-false}
use Rattle.exif.specs.Forms.{nul}
use Rattle.exif.specs.Reading.{is_digit, reads_text}
use Rattle.lines.specs.Line.{has, Front, number, none, front_of, with_number, with_camera, form_of, form_says, line_says}
use Rattle.lines.specs.Feeding.{begun, fed_line, held_line, fed_says, whole}
use Rattle.lines.specs.declared.Line.{Line}
use Rattle.lines.proofs.Scanning.{scan, front_scan}
use Rattle.lines.proofs.Texts.{long_text}
use Rattle.lines.proofs.Feeding.{has_append, broken_by_nul, nul_refused}

-- 1. THE FRONT OF A LINE DECIDES

-- the same number at the front, and behind it at least n bytes of what stands there
data Cut (n : ℕ) : Front → Front → Type 0 where
  nones : Cut n none none
  numbers : {v : ℕ} (j : ℕ) (rest : List ℕ) → n ≤ j → Cut n (number v (take j rest)) (number v rest)

-- at most five digits and a blank are read
scan_cut : (n v d k : ℕ) (s : List ℕ) → d ≤ 5 → n + 6 ≤ d + k → Cut n (scan v d (take k s)) (scan v d s)
unfolding scan
scan_cut n v d zero s g h = absurd (omega arith)
scan_cut n v d (suc k) [] g h = nones
scan_cut n v d (suc k) (b ∷ s) g h =
    here (eqb b 32) (eqb d 0) (is_digit b) (leb 5 d) refl
    (λ (l : d < 5). scan_cut n (v * 10 + (b - 48)) (suc d) k s l (omega arith))
  where
    here : (p q i f : Bool) → leb 5 d ≡ f
        → (d < 5 → Cut n (scan (v * 10 + (b - 48)) (suc d) (take k s)) (scan (v * 10 + (b - 48)) (suc d) s))
        → Cut n (cond p (cond q none (number v (take k s))) (cond i (cond f none (scan (v * 10 + (b - 48)) (suc d) (take k s))) none))
        (cond p (cond q none (number v s)) (cond i (cond f none (scan (v * 10 + (b - 48)) (suc d) s)) none))
    here true true i f e next = nones
    here true false i f e next = numbers k s (omega arith)
    here false q true true e next = nones
    here false q true false e next = next (leb-false 5 d e)
    here false q false f e next = nones

front_cut : (n k : ℕ) (s : List ℕ) → n + 6 ≤ k → Cut n (front_of (take k s)) (front_of s)
front_cut n k s h = rw (front_scan (take k s), front_scan s) (scan_cut n 0 0 k s (omega arith) (omega arith))

-- twenty bytes of the text are more than a capture text can have
text_cut : (j : ℕ) (text : List ℕ) → 20 ≤ j → reads_text (take j text ++ nul) ≡ reads_text (text ++ nul)
text_cut j text h = here (leb (length text) j) refl
  where
    here : (k : Bool) → leb (length text) j ≡ k → reads_text (take j text ++ nul) ≡ reads_text (text ++ nul)
    here true e = rw (take_all j text (leb-true _ _ e))
    here false e =
        let l : j < length text = leb-false (length text) j e in
        let n = length-take-le j text (omega arith) in
        long_text (take j text) (omega arith) ∙ sym (long_text text (omega arith))

number_cut : (camera : ℕ) (f g : Front) → Cut 20 f g → form_says (with_number camera f) ≡ form_says (with_number camera g)
number_cut camera none none nones = refl
number_cut camera (number v t) none x = elim x [ ]
number_cut camera none (number v' rest) x = elim x [ ]
number_cut camera (number v t) (number v' rest) (numbers j r h) = rw (text_cut j r h)

camera_cut : (f g : Front) → Cut 26 f g → form_says (with_camera f) ≡ form_says (with_camera g)
camera_cut none none nones = refl
camera_cut (number v t) none x = elim x [ ]
camera_cut none (number v' rest) x = elim x [ ]
camera_cut (number v t) (number v' rest) (numbers j r h) = number_cut v _ _ (front_cut 20 j r (omega arith))

-- a line without a NUL says what its first 32 bytes say
pub front_says : (line : List ℕ) → has 0 line ≡ false → has 0 (take 32 line) ≡ false → line_says (take 32 line) ≡ line_says line
unfolding line_says form_of
front_says line e f = rw (e, f) (camera_cut _ _ (front_cut 26 32 line (omega arith)))

-- 2. WHAT THE STATE HOLDS OF THE LINE SO FAR
record Holds (l : Line) (line : List ℕ) : Type 0 where
  room : length l.kept ≡ 32
  len : l.len ≡ length (take 32 line)
  front : take l.len l.kept ≡ take 32 line
  rest : l.nul ≡ has 0 (drop 32 line)

holds_begun : (kept : List ℕ) → length kept ≡ 32 → Holds (begun kept) []
unfolding has
holds_begun kept n = record { room = n; len = refl; front = refl; rest = refl }

module _ (l : Line) (line piece : List ℕ) (h : Holds l line) where
  -- no byte more is kept
  holds_long : 32 ≤ length line → Holds (fed_line l piece) (line ++ piece)
  unfolding fed_line
  holds_long g =
      let n : l.len ≡ 32 = h.len ∙ length-take-le 32 line g in
      let full : 32 - l.len ≡ 0 = omega arith in
      let same = take-append-le 32 line piece g in
      let more = drop-append-le 32 line piece g in
      record {
        room = simp full h.room;
        len = simp (full, add-zero, same) h.len;
        front = simp (full, add-zero, same) h.front;
        rest = simp (full, more, has_append 0 (drop 32 line) piece) (ap (λ (b : Bool). b || has 0 piece) h.rest);
      }

  -- the piece goes on where there is room
  module _ (g : length line < 32) where
    abbrev r : ℕ
    r = 32 - length line

    all : length line + r ≡ 32
    all = omega arith

    here : take 32 line ≡ line
    here = take_all 32 line (omega arith)

    n : l.len ≡ length line
    n = h.len ∙ ap length here

    first : take 32 (line ++ piece) ≡ line ++ take r piece
    first = rw all at (take-append-add line piece r)

    others : drop 32 (line ++ piece) ≡ drop r piece
    others = rw all at (drop-append-add line piece r)

    none_yet : l.nul ≡ false
    unfolding has
    none_yet = h.rest ∙ rw (drop_of_length-le line {i = 32} (omega arith))

    few : length (take r piece) ≤ r
    few = rw (length-take r piece) (omega arith)

    held : take (length line + length (take r piece)) (sets l.kept (length line) (take r piece)) ≡ line ++ take r piece
    held =
        let k = length line in
        let t = take r piece in
        let f : take k l.kept ≡ line = rw (n, here) at h.front in
        let e : sets l.kept k t ≡ line ++ t ++ drop (k + length t) l.kept = rw f at (sets-eq t l.kept k (omega (arith, few, all, h.room))) in
        ap (take (k + length t)) e ∙ take_at (line ++ t) (drop (k + length t) l.kept) (k + length t) (length-append line t)

    holds_short : Holds (fed_line l piece) (line ++ piece)
    unfolding fed_line
    holds_short =
        record {
          room = length-sets l.kept l.len (take (32 - l.len) piece) ∙ h.room;
          len = simp (n, first, length-append);
          front = simp (n, first) held;
          rest = simp (n, none_yet, others);
        }

holds_fed : (l : Line) (line piece : List ℕ) → Holds l line → Holds (fed_line l piece) (line ++ piece)
holds_fed l line piece h = here (leb 32 (length line)) refl
  where
    here : (k : Bool) → leb 32 (length line) ≡ k → Holds (fed_line l piece) (line ++ piece)
    here true e = holds_long l line piece h (leb-true _ _ e)
    here false e = holds_short l line piece h (leb-false _ _ e)

-- 3. SO THE LINE HELD SAYS WHAT THE LINE SAYS
split : (line : List ℕ) → has 0 line ≡ (has 0 (take 32 line) || has 0 (drop 32 line))
split line = ap (has 0) (sym (take-append-drop 32 line)) ∙ has_append 0 (take 32 line) (drop 32 line)

held_says : (l : Line) (line : List ℕ) → Holds l line → line_says (held_line l) ≡ line_says line
unfolding held_line
held_says l line h = here (has 0 (take 32 line)) (has 0 (drop 32 line)) refl refl
  where
    here : (f g : Bool) → has 0 (take 32 line) ≡ f → has 0 (drop 32 line) ≡ g → line_says (take l.len l.kept ++ cond l.nul nul []) ≡ line_says line
    here f true p q =
        let both = split line ∙ ap (λ (b : Bool). has 0 (take 32 line) || b) q ∙ or-true (has 0 (take 32 line)) in
        rw (h.rest, q) (nul_refused (take l.len l.kept) ∙ sym (broken_by_nul line both))
    here true false p q =
        let both = split line ∙ ap (λ (b : Bool). b || has 0 (drop 32 line)) p in
        rw (h.rest, q, append-nil (take l.len l.kept), h.front) (broken_by_nul (take 32 line) p ∙ sym (broken_by_nul line both))
    here false false p q =
        let neither = split line ∙ ap (λ (b : Bool). b || has 0 (drop 32 line)) p ∙ q in
        rw (h.rest, q, append-nil (take l.len l.kept), h.front) (front_says line neither p)

-- 4. IN ANY PIECES
pieces_says : (l : Line) (line : List ℕ) (pieces : List (List ℕ)) → Holds l line → fed_says l pieces ≡ line_says (line ++ whole pieces)
unfolding fed_says whole
pieces_says l line [] h = rw (append-nil line) (held_says l line h)
pieces_says l line (piece ∷ pieces) h =
    pieces_says (fed_line l piece) (line ++ piece) pieces (holds_fed l line piece h)
    ∙ ap line_says (append_assoc line piece (whole pieces))

-- Feeding a line in any pieces, into whatever 32 bytes are lent, gives the answer of the whole line.
pub fed_in_pieces : (kept : List ℕ) → length kept ≡ 32 → (pieces : List (List ℕ)) → fed_says (begun kept) pieces ≡ line_says (whole pieces)
fed_in_pieces kept n pieces = pieces_says (begun kept) [] pieces (holds_begun kept n)
