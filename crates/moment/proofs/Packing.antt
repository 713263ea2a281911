-- Packing and unpacking: one key for each set of legal fields, and one set of fields for each legal key.
-- Assumes nothing.
use mathlib.Core.Path.{◌≡◌, refl, sym, ap, ◌∙◌}
use mathlib.Core.Bool.{Bool, true, false}
use mathlib.Core.Logic.{◌↔◌}
use mathlib.Core.List.{List}
use Prim.Native.Nat.{ℕ, ◌^◌, ◌<◌}
use native.Mathlib.Nat.{mod-eq_of_lt}
use native.Mathlib.Omega.{arith}
use lib.ListN.{get_or}
use borrow.Author.Tests.{lt-ltb}
use Rattle.layout.proofs.LayoutLaws.{dec_enc, enc_dec, enc_lt}
use Rattle.refusal.specs.Said.{gives, refuses}
use Rattle.moment.specs.Key.{key_layout, listed, in_range, key_of_fields, fields_of, legal_of, packs}
use Rattle.moment.specs.declared.Fields.{Fields}
use Rattle.moment.proofs.Tests.{tests}
use Rattle.moment.proofs.Ranges.{ranges, fits}

-- the fields, from a list in their order
abbrev unlisted : List ℕ → Fields
unlisted l =
    record {
      moment = record {
        year = get_or l 0 0;
        month = get_or l 1 0;
        day = get_or l 2 0;
        hour = get_or l 3 0;
        minute = get_or l 4 0;
        second = get_or l 5 0;
      };
      hundredth = get_or l 6 0;
      camera = get_or l 7 0;
      number = get_or l 8 0;
    }

-- UNPACK AFTER PACK gives the fields
pub unpack_pack : (f : Fields) → in_range f ≡ true → fields_of (key_of_fields f) ≡ f
unfolding key_of_fields fields_of
unpack_pack f e = ap unlisted (dec_enc key_layout (listed f) (fits f (ranges f e)))

pub key_lt : (f : Fields) → in_range f ≡ true → key_of_fields f < 2 ^ 64
unfolding key_of_fields
key_lt f e = enc_lt key_layout (listed f) (fits f (ranges f e))

-- PACK AFTER UNPACK gives the key, legal or not
pub pack_unpack : (key : ℕ) → key < 2 ^ 64 → key_of_fields (fields_of key) ≡ key
unfolding key_of_fields fields_of
pack_unpack key h = enc_dec key_layout key ∙ mod-eq_of_lt h

-- a legal key has 64 bits, and fields in range
pub legal_is : (key : ℕ) → (legal_of key ≡ true) ↔ ((key < 2 ^ 64) × (in_range (fields_of key) ≡ true))
unfolding legal_of
legal_is key = simp tests ((λ h. h), (λ h. h))

-- what packing gives is a legal key
pub packed_legal : (f : Fields) → in_range f ≡ true → legal_of (key_of_fields f) ≡ true
packed_legal f e = (legal_is (key_of_fields f)).1 (key_lt f e, ap in_range (unpack_pack f e) ∙ e)

-- A KEY IS LEGAL EXACTLY IF PACKING ITS FIELDS IS NOT REFUSED, and then that gives the key again
pub legal_packs : (key : ℕ) → key < 2 ^ 64 → (legal_of key ≡ true) ↔ (packs (fields_of key) ≡ gives key)
unfolding packs
legal_packs key h = (there, back (in_range (fields_of key)) refl)
  where
    there : legal_of key ≡ true → packs (fields_of key) ≡ gives key
    there e = simp (((legal_is key).0 e).1, pack_unpack key h)

    back : (t : Bool) → in_range (fields_of key) ≡ t → packs (fields_of key) ≡ gives key → legal_of key ≡ true
    back true e p = (legal_is key).1 (h, e)
    back false e p = let z : ◌≡◌ {A = ℕ} 0 1 = cc in absurd (omega arith)

pub not_legal_refused : (key : ℕ) → key < 2 ^ 64 → legal_of key ≡ false → packs (fields_of key) ≡ refuses 3
unfolding packs legal_of
not_legal_refused key h e = simp (rw (lt-ltb key (2 ^ 64) h) at e)

-- TWO LEGAL SETS OF FIELDS WITH ONE KEY ARE ONE
pub one_key : (f g : Fields) → in_range f ≡ true → in_range g ≡ true → key_of_fields f ≡ key_of_fields g → f ≡ g
one_key f g a b e = sym (unpack_pack f a) ∙ ap fields_of e ∙ unpack_pack g b

-- two legal keys with the same fields are one
pub one_fields : (j k : ℕ) → legal_of j ≡ true → legal_of k ≡ true → fields_of j ≡ fields_of k → j ≡ k
one_fields j k a b e =
    sym (pack_unpack j ((legal_is j).0 a).0) ∙ ap key_of_fields e ∙ pack_unpack k ((legal_is k).0 b).0
