-- A worker's record as eleven words: work, key, phase, then what the phase notes: this slot, previous, the side of this
-- under previous, the one before, the side of previous under it, the child or other child, the child's side, and how many
-- of the plan's actions are done. What a phase does not note is 0; a side is 0 for left and 1 for right.
-- Assumes nothing.
use Rattle.std.specs.Prelude.{Bool, true, false, cond, not, ◌&&◌, List, [], ◌∷◌, ℕ, ◌+◌, eqb, leb, ltb, length, get_or, set, Option, Some, None}
use Rattle.std.proofs.lemmas.List.Edits.{sets}
use Rattle.protocol.specs.declared.Kind.{Kind}
use Rattle.protocol.specs.declared.Kind.TheVariants.{Lookup, Insert, Remove}
use Rattle.protocol.specs.declared.Work.{Work}
use Rattle.protocol.specs.declared.Work.TheVariants.{Idle, Busy}
use Rattle.protocol.specs.declared.Phase.{Phase}
use Rattle.protocol.specs.declared.Phase.TheVariants.{Walk, OnRouting, New, Two, One, Leaf, UnderData, UnderRouting}
use Rattle.protocol.specs.declared.Worker.{Worker}
use Rattle.records.specs.declared.Flat.{Flat}

-- From a record to words

abbrev pub side_number : Bool → ℕ
side_number true = 0
side_number false = 1

abbrev pub kind_number : Kind → ℕ
kind_number Lookup = 1
kind_number Insert = 2
kind_number Remove = 3

abbrev pub work_number : Work → ℕ
work_number Idle = 0
work_number (Busy kind) = kind_number kind

abbrev pub noted_of : ℕ → ℕ → ℕ → ℕ → ℕ → Bool → ℕ → Bool → ℕ → Bool → ℕ → Flat
noted_of work key phase this prev side before up other toward done =
    record {
      work = work;
      key = key;
      phase = phase;
      this = this;
      prev = prev;
      side = side_number side;
      before = before;
      up = side_number up;
      other = other;
      toward = side_number toward;
      done = done;
    }

abbrev pub phase_flat : ℕ → ℕ → Phase → Flat
phase_flat work key (Walk at prev before side up) = noted_of work key 0 at prev side before up 0 true 0
phase_flat work key (OnRouting this done) = noted_of work key 1 this 0 true 0 true 0 true done
phase_flat work key (New prev side done) = noted_of work key 2 0 prev side 0 true 0 true done
phase_flat work key (Two this done) = noted_of work key 3 this 0 true 0 true 0 true done
phase_flat work key (One this prev side child toward done) = noted_of work key 4 this prev side 0 true child toward done
phase_flat work key (Leaf this prev side before up) = noted_of work key 5 this prev side before up 0 true 0
phase_flat work key (UnderData this prev side done) = noted_of work key 6 this prev side 0 true 0 true done
phase_flat work key (UnderRouting this prev side before up other done) =
    noted_of work key 7 this prev side before up other true done

-- the phases that only a remover has but for `Two`: the code reads these in a function of their own
abbrev pub is_remover : Phase → Bool
is_remover (Walk at prev before side up) = false
is_remover (OnRouting this done) = false
is_remover (New prev side done) = false
is_remover (Two this done) = false
is_remover (One this prev side child toward done) = true
is_remover (Leaf this prev side before up) = true
is_remover (UnderData this prev side done) = true
is_remover (UnderRouting this prev side before up other done) = true

unfoldable pub flat_of : Worker → Flat
flat_of w = phase_flat (work_number w.work) w.key w.phase

-- the words in their order
abbrev pub listed : Flat → List ℕ
listed f =
    f.work ∷ f.key ∷ f.phase ∷ f.this ∷ f.prev ∷ f.side ∷ f.before ∷ f.up ∷ f.other ∷ f.toward ∷ f.done ∷ []

-- the words of a record
unfoldable pub words_of : Worker → List ℕ
words_of w = listed (flat_of w)

-- From words to a record

unfoldable pub flat_at : List ℕ → Flat
flat_at s =
    record {
      work = get_or s 0 0;
      key = get_or s 1 0;
      phase = get_or s 2 0;
      this = get_or s 3 0;
      prev = get_or s 4 0;
      side = get_or s 5 0;
      before = get_or s 6 0;
      up = get_or s 7 0;
      other = get_or s 8 0;
      toward = get_or s 9 0;
      done = get_or s 10 0;
    }

-- by name, where they are eleven
unfoldable pub named_of : List ℕ → Option Flat
named_of s = cond (eqb (length s) 11) (Some (flat_at s)) None

unfoldable pub work_at : ℕ → Work
work_at n = cond (eqb n 1) (Busy Lookup) (cond (eqb n 2) (Busy Insert) (cond (eqb n 3) (Busy Remove) Idle))

unfoldable pub phase_at : ℕ → ℕ → ℕ → Bool → ℕ → Bool → ℕ → Bool → ℕ → Phase
phase_at n this prev side before up other toward done =
    cond (eqb n 1) (OnRouting this done)
    (cond (eqb n 2) (New prev side done)
    (cond (eqb n 3) (Two this done)
    (cond (eqb n 4) (One this prev side other toward done)
    (cond (eqb n 5) (Leaf this prev side before up)
    (cond (eqb n 6) (UnderData this prev side done)
    (cond (eqb n 7) (UnderRouting this prev side before up other done) (Walk this prev before side up)))))))

-- the end of it from 6 on: the code reads this in a function of its own
abbrev pub under_at : ℕ → ℕ → ℕ → Bool → ℕ → Bool → ℕ → ℕ → Phase
under_at n this prev side before up other done =
    cond (eqb n 6) (UnderData this prev side done)
    (cond (eqb n 7) (UnderRouting this prev side before up other done) (Walk this prev before side up))

unfoldable pub worker_at : Flat → Worker
worker_at f =
    record {
      work = work_at f.work;
      key = f.key;
      phase = phase_at f.phase f.this f.prev (eqb f.side 0) f.before (eqb f.up 0) f.other (eqb f.toward 0) f.done;
    }

-- the record that the words are, where they are one
abbrev pub worker_of : List ℕ → Worker
worker_of s = worker_at (flat_at s)

-- Which words are a record: eleven, and the words of the record that is read from them. `proofs/Canonical.antt` shows that
-- these are exactly the words of records, and that each is the words of one.

unfoldable pub same_flat : Flat → Flat → Bool
same_flat a b =
    eqb a.work b.work && eqb a.key b.key && eqb a.phase b.phase && eqb a.this b.this
    && eqb a.prev b.prev && eqb a.side b.side && eqb a.before b.before && eqb a.up b.up
    && eqb a.other b.other && eqb a.toward b.toward && eqb a.done b.done

unfoldable pub is_record : List ℕ → Bool
is_record s = eqb (length s) 11 && same_flat (flat_at s) (flat_of (worker_of s))

-- The code makes no words again to compare them: it asks that the work is 3 at most and, by phase, that a side is 0 or 1 and
-- that what the phase does not note is 0. `proofs/OwnWords.antt` shows that this is the same.
unfoldable pub phase_own : ℕ → ℕ → ℕ → ℕ → ℕ → ℕ → ℕ → ℕ → ℕ → Bool
phase_own n this prev side before up other toward done =
    let walk = leb side 1 && leb up 1 && eqb other 0 && eqb toward 0 && eqb done 0 in
    let alone = eqb prev 0 && eqb side 0 && eqb before 0 && eqb up 0 && eqb other 0 && eqb toward 0 in
    cond (eqb n 0) walk
    (cond (eqb n 1) alone
    (cond (eqb n 2) (eqb this 0 && leb side 1 && eqb before 0 && eqb up 0 && eqb other 0 && eqb toward 0)
    (cond (eqb n 3) alone
    (cond (eqb n 4) (leb side 1 && eqb before 0 && eqb up 0 && leb toward 1)
    (cond (eqb n 5) walk
    (cond (eqb n 6) (leb side 1 && eqb before 0 && eqb up 0 && eqb other 0 && eqb toward 0)
    (cond (eqb n 7) (leb side 1 && leb up 1 && eqb toward 0) false)))))))

-- what lent words are: by name, and as a record
unfoldable pub parts_of : List ℕ → Option Flat
parts_of s = cond (is_record s) (Some (flat_at s)) None

unfoldable pub read_of : List ℕ → Option Worker
read_of s = cond (is_record s) (Some (worker_of s)) None

-- a record put into lent words, or any words by name; nothing where they do not fit exactly
unfoldable pub put_record : List ℕ → Worker → List ℕ
put_record s w = cond (eqb (length s) 11) (words_of w) s

abbrev pub put_words : List ℕ → Flat → List ℕ
put_words s f = cond (eqb (length s) 11) (listed f) s

-- Eleven zeros are an idle record: `proofs/Idle.antt`.
unfoldable pub is_idle : List ℕ → Bool
is_idle s =
    eqb (length s) 11
    && (eqb (get_or s 0 0) 0 && eqb (get_or s 1 0) 0 && eqb (get_or s 2 0) 0 && eqb (get_or s 3 0) 0 && eqb (get_or s 4 0) 0 && eqb (get_or s 5 0) 0
    && eqb (get_or s 6 0) 0 && eqb (get_or s 7 0) 0 && eqb (get_or s 8 0) 0 && eqb (get_or s 9 0) 0 && eqb (get_or s 10 0) 0)

-- A busy walk, which most steps meet, is told by its words alone, and goes on by five of them. `proofs/Walks.antt` shows
-- that such words are a record, and which, and that they become the words of the walk that went on.

unfoldable pub is_walk : List ℕ → Bool
is_walk s =
    eqb (length s) 11
    && (leb 1 (get_or s 0 0) && leb (get_or s 0 0) 3 && eqb (get_or s 2 0) 0 && leb (get_or s 5 0) 1 && leb (get_or s 7 0) 1
    && eqb (get_or s 8 0) 0 && eqb (get_or s 9 0) 0 && eqb (get_or s 10 0) 0)

-- it stands at the next slot, on that side of the slot it stood at; nothing where the words are not eleven
unfoldable pub walk_on : List ℕ → ℕ → Bool → List ℕ
walk_on s next left =
    cond (eqb (length s) 11) (sets s 3 (next ∷ get_or s 3 0 ∷ side_number left ∷ get_or s 4 0 ∷ get_or s 5 0 ∷ [])) s

-- words of an insert or a remove that neither walks nor looks, if they are a record's
unfoldable pub has_plan : List ℕ → Bool
has_plan s =
    eqb (length s) 11
    && (leb 2 (get_or s 0 0) && leb (get_or s 0 0) 3 && not (eqb (get_or s 2 0) 0) && not (eqb (get_or s 2 0) 5))

-- A phase of the plan that goes on has one more action done. `proofs/Counts.antt` shows that the words of a record that counts
-- fewer than nine become those of the record with the next phase; those of any other stay.
unfoldable pub count_on : List ℕ → List ℕ
count_on s =
    cond (eqb (length s) 11 && (not (eqb (get_or s 2 0) 0) && not (eqb (get_or s 2 0) 5) && ltb (get_or s 10 0) 9))
    (set s 10 (get_or s 10 0 + 1)) s
