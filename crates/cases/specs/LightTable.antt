-- Document 01's light table: each case that is marked P, in the document's order, as one table under one statement,
-- `LightTable`, which proofs/Light.antt proves by computing. A row has what the definitions come to, and what the
-- document says. A row of a run has what each step answers (going 0, yes 1, no 2, Full 5), then the words.
-- Assumes nothing.
use Rattle.std.specs.Prelude.{◌≡◌, cond, List, [], ◌∷◌, ◌++◌, ℕ, ltb, length}
use Rattle.refusal.specs.Said.{Said, gives, refuses}
use Rattle.moment.specs.Key.{packs}
use Rattle.moment.specs.declared.Moment.{Moment}
use Rattle.protocol.specs.declared.Kind.TheVariants.{Lookup, Insert, Remove}
use Rattle.exif.specs.Reading.{reads}
use Rattle.tree.specs.Answers.{sweep_words}
use Rattle.cases.specs.Runs.{Stand, fresh, work, both, first_steps, second_steps, standing}
use Rattle.cases.specs.Texts.{short, long, padded, blank_hour, leap_day2000, leap_day2100, hour24, last_second}

infix 3 ◌is◌
pub data Case : Type 0 where
  ◌is◌ : List ℕ → List ℕ → Case

abbrev pub comes : List Case → List (List ℕ)
comes [] = []
comes ((a is b) ∷ cases) = a ∷ comes cases

abbrev pub says : List Case → List (List ℕ)
says [] = []
says ((a is b) ∷ cases) = b ∷ says cases

-- what a text is read as: its six fields, or the number of its refusal alone
abbrev pub fields : Said Moment → List ℕ
fields (gives m) = m.year ∷ m.month ∷ m.day ∷ m.hour ∷ m.minute ∷ m.second ∷ []
fields (refuses n) = n ∷ []

abbrev pub text : List ℕ → List ℕ
text t = fields (reads t 0 (length t))

-- the key that the sorting program gives a text: hundredth 0, and camera 1 here; or the number of the refusal
abbrev pub frame : Said Moment → ℕ → Said ℕ
frame (gives m) n = packs (record { moment = m; hundredth = 0; camera = 1; number = n })
frame (refuses r) n = refuses r

abbrev pub number : Said ℕ → ℕ
number (gives k) = k
number (refuses n) = n

abbrev pub key : List ℕ → ℕ → ℕ
key t n = number (frame (reads t 0 (length t)) n)

-- A < B < C < D, legal keys
abbrev pub A : ℕ
A = 0x7E867A7A1C004065

abbrev pub B : ℕ
B = 0x7E867A821C004066

abbrev pub C : ℕ
C = 0x7E867A8400004067

abbrev pub D : ℕ
D = 0x7E867A8500004068

-- four slots, as they stand between the works
-- after inserting B
abbrev pub just_b : List ℕ
just_b = 0xFFFFFFFFFFFFFFFF ∷ 0x4010000000000000 ∷ B ∷ 0x4000000000000000 ∷ 0 ∷ 0 ∷ 0 ∷ 0 ∷ []

-- then A
abbrev pub BandA : List ℕ
BandA = 0xFFFFFFFFFFFFFFFF ∷ 0x4010000000000000 ∷ B ∷ 0x4020000000000000 ∷ A ∷ 0x4000000000000000 ∷ 0 ∷ 0 ∷ []

-- then C: slots 1, 2, 3
abbrev pub filled : List ℕ
filled = 0xFFFFFFFFFFFFFFFF ∷ 0x4010000000000000 ∷ B ∷ 0x40200C0000000000 ∷ A ∷ 0x4000000000000000 ∷ C ∷ 0x4000000000000000 ∷ []

-- after removing B: slot 1 is routing
abbrev pub without_b : List ℕ
without_b = 0xFFFFFFFFFFFFFFFF ∷ 0x4010000000000000 ∷ B ∷ 0x80200C0000000000 ∷ A ∷ 0x4000000000000000 ∷ C ∷ 0x4000000000000000 ∷ []

-- then A: slots 1 and 2 are deleted, the root's left is 3
abbrev pub without_a : List ℕ
without_a = 0xFFFFFFFFFFFFFFFF ∷ 0x4030000000000000 ∷ B ∷ 0xC0200C0000000000 ∷ A ∷ 0xC000000000000000 ∷ C ∷ 0x4000000000000000 ∷ []

-- and after a sweep; then B again
abbrev pub swept : List ℕ
swept = 0xFFFFFFFFFFFFFFFF ∷ 0x4030000000000000 ∷ 0 ∷ 0 ∷ 0 ∷ 0 ∷ C ∷ 0x4000000000000000 ∷ []

abbrev pub taken_again : List ℕ
taken_again = 0xFFFFFFFFFFFFFFFF ∷ 0x4030000000000000 ∷ B ∷ 0x4000000000000000 ∷ 0 ∷ 0 ∷ C ∷ 0x4010000000000000 ∷ []

-- what the steps answered, then the words
abbrev pub tells : Stand → List ℕ
tells s = s.answers ++ s.words

abbrev pub cases : List Case
cases =
    -- both keys above; the first is smaller
    (key short 101 ∷ key long 102 ∷ [] is 0x7E867A7A1C004065 ∷ 0x7E867A821C004066 ∷ [])
    ∷ (cond (ltb (key short 101) (key long 102)) 1 0 ∷ [] is 1 ∷ [])
    -- 2000:02:29 is read; 2100:02:29 is 10; hour 24 is 10; 23:59:59 is read
    ∷ (text leap_day2000 is 2000 ∷ 2 ∷ 29 ∷ 12 ∷ 0 ∷ 0 ∷ [])
    ∷ (text leap_day2100 is 10 ∷ [])
    ∷ (text hour24 is 10 ∷ [])
    ∷ (text last_second is 2024 ∷ 6 ∷ 15 ∷ 23 ∷ 59 ∷ 59 ∷ [])
    -- `2024:06:15  9:58:07` (blank hour) equals 09:58:07
    ∷ (text blank_hour is text padded)
    ∷ (text padded is 2024 ∷ 6 ∷ 15 ∷ 9 ∷ 58 ∷ 7 ∷ [])
    -- fresh, two slots: root's second word 4000000000000000
    ∷ (fresh 4 is 0xFFFFFFFFFFFFFFFF ∷ 0x4000000000000000 ∷ 0 ∷ 0 ∷ [])
    -- insert B: after walk and first lock 4000000040080000; done after 5 steps, 4010000000000000
    ∷ (tells (work Insert B 2 (fresh 4)) is 0 ∷ 0 ∷ 0xFFFFFFFFFFFFFFFF ∷ 0x4000000040080000 ∷ 0 ∷ 0 ∷ [])
    ∷ (tells (work Insert B 5 (fresh 4)) is 0 ∷ 0 ∷ 0 ∷ 0 ∷ 1 ∷ 0xFFFFFFFFFFFFFFFF ∷ 0x4010000000000000 ∷ B ∷ 0x4000000000000000 ∷ [])
    -- four slots, insert B, A, C: slots 1, 2, 3. Lookup C: Yes in 3 steps. A fourth key: Full
    ∷ (tells (work Insert B 5 (fresh 8)) is 0 ∷ 0 ∷ 0 ∷ 0 ∷ 1 ∷ just_b)
    ∷ (tells (work Insert A 6 just_b) is 0 ∷ 0 ∷ 0 ∷ 0 ∷ 0 ∷ 1 ∷ BandA)
    ∷ (tells (work Insert C 6 BandA) is 0 ∷ 0 ∷ 0 ∷ 0 ∷ 0 ∷ 1 ∷ filled)
    ∷ (tells (work Lookup C 3 filled) is 0 ∷ 0 ∷ 1 ∷ filled)
    ∷ (tells (work Insert D 6 filled) is 0 ∷ 0 ∷ 0 ∷ 0 ∷ 0 ∷ 5 ∷ filled)
    -- remove B: 5 steps, slot 1 routing. Then remove A: 13 steps, slots 1 and 2 deleted, root's left is 3. An insert is still Full
    ∷ (tells (work Remove B 5 filled) is 0 ∷ 0 ∷ 0 ∷ 0 ∷ 1 ∷ without_b)
    ∷ (tells (work Remove A 13 without_b) is 0 ∷ 0 ∷ 0 ∷ 0 ∷ 0 ∷ 0 ∷ 0 ∷ 0 ∷ 0 ∷ 0 ∷ 0 ∷ 0 ∷ 1 ∷ without_a)
    ∷ (tells (work Insert B 5 without_a) is 0 ∷ 0 ∷ 0 ∷ 0 ∷ 5 ∷ without_a)
    -- after sweep it takes slot 1
    ∷ (sweep_words without_a is swept)
    ∷ (tells (work Insert B 6 swept) is 0 ∷ 0 ∷ 0 ∷ 0 ∷ 0 ∷ 1 ∷ taken_again)
    -- two inserts end their walks under the fresh root; one locks, the other's next step restarts
    ∷ (standing (second_steps (first_steps (both Insert A B (fresh 4)))) is 0 ∷ 0 ∷ 0x4000000000100000 ∷ [])
    ∷ (standing (first_steps (second_steps (first_steps (both Insert A B (fresh 4))))) is 0 ∷ 0 ∷ 0x4000000040100000 ∷ [])
    ∷ (standing (second_steps (first_steps (second_steps (first_steps (both Insert A B (fresh 4)))))) is 0 ∷ 1 ∷ 0x4000000040100000 ∷ [])
    ∷ []

-- all of them hold
abbrev pub LightTable : Type 0
LightTable = comes cases ≡ says cases
