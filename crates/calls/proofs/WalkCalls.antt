-- A walk of which all is judged, moved on in its words: that is the step of the record that they are.
-- Assumes nothing.
use mathlib.Core.Path.{◌≡◌, refl, sym, ap, ◌∙◌}
use mathlib.Core.Bool.{Bool, true, false, cond, ◌&&◌}
use mathlib.Core.List.{List}
use Prim.Native.Nat.{ℕ}
use lib.Dec.{ltb, eqb}
use lib.ListN.{get_or}
use Rattle.table.specs.Pair.{as_data, key_of, state_of}
use Rattle.table.specs.Rules.{table_fine}
use Rattle.protocol.specs.Walk.{visit}
use Rattle.protocol.specs.Step.{step_of, leave, idle_worker}
use Rattle.protocol.specs.declared.Kind.{Kind}
use Rattle.protocol.specs.declared.Kind.TheVariants.{Lookup, Insert, Remove}
use Rattle.protocol.specs.declared.Work.TheVariants.{Busy}
use Rattle.protocol.specs.declared.Phase.TheVariants.{Walk}
use Rattle.protocol.specs.declared.Worker.{Worker}
use Rattle.protocol.specs.declared.Answer.TheVariants.{Yes, No}
use Rattle.protocol.specs.declared.Outcome.{Outcome}
use Rattle.protocol.specs.declared.Outcome.TheVariants.{Ends}
use Rattle.locks.specs.Taking.{after}
use Rattle.acting.specs.Moves.{Move, moved_of}
use Rattle.acting.specs.declared.Moved.{Moved}
use Rattle.acting.specs.declared.Moved.TheVariants.{To, Over}
use Rattle.std.specs.Prelude.{Ok, Err, Some}
use Rattle.refusal.specs.declared.Refusal.{Refusal}
use Rattle.refusal.specs.declared.Refusal.TheVariants.{Table, Damaged}
use Rattle.refusal.specs.Said.{number}
use Rattle.worker.specs.Moving.{left_by, move_says, move_of, walk_fine, walk_to}
use Rattle.worker.proofs.WalkLaws.{fine_move, unfine_move, untabled_move, goes_to, lookup_ends}
use Rattle.records.specs.Records.{kind_number, flat_of, words_of, worker_of, put_record, is_walk, walk_on}
use Rattle.records.proofs.Canonical.{put_fits}
use Rattle.records.proofs.Walks.{walker, walker_of, Walking, walking, walk_record, walk_goes_on}
use Rattle.calls.specs.Numbers.{verdict_number}
use Rattle.calls.specs.Workers.{Comes, call_number, call_record, call_words, put_moved, kind_at, WalkFine, WalkEnds}
use Rattle.calls.proofs.MovedCalls.{moved_call}

kind_back : (k : Kind) → kind_at (kind_number k) ≡ k
unfolding kind_at
kind_back Lookup = refl
kind_back Insert = refl
kind_back Remove = refl

first_word : (s : List ℕ) (w : Walking s) → get_or s 0 0 ≡ kind_number w.kind
unfolding words_of flat_of
first_word s w = ap (λ (z : List ℕ). get_or z 0 0) w.is

-- the walk that the words are, at rules 1 and 6
abbrev fine_at : List ℕ → List ℕ → Type 0
fine_at ws s = walk_fine ws (get_or s 1 0) (get_or s 3 0) (get_or s 4 0) (get_or s 6 0) ≡ true

abbrev pub visit_of : List ℕ → List ℕ → Kind → Outcome
visit_of ws s kind = visit ws kind (get_or s 1 0) (get_or s 3 0) (get_or s 4 0) (get_or s 6 0) (eqb (get_or s 5 0) 0) (eqb (get_or s 7 0) 0)

moves : (ws s : List ℕ) (w : Walking s) → fine_at ws s → move_of ws (worker_of s) ≡ after (Ok (moved_of (visit_of ws s w.kind))) ws
moves ws s w f =
    ap (move_of ws) (walk_record s w).1
    ∙ fine_move ws w.kind (get_or s 1 0) (get_or s 3 0) (get_or s 4 0) (get_or s 6 0) (eqb (get_or s 5 0) 0) (eqb (get_or s 7 0) 0) f

-- A WALK THAT A RULE REFUSES
refused_call : (ws s : List ℕ) (w : Walking s) (f : Refusal) → move_of ws (walker_of w.kind s) ≡ after (Err f) ws
    → Comes verdict_number ws s (step_of ws (worker_of s)) (number f) s ws
unfolding put_moved left_by
refused_call ws s w f e =
    let r = walk_record s w in
    let g = ap (move_of ws) r.1 ∙ e in
    moved_call ws s (Err f) r.0 (ap (λ (m : Move). m.said) (sym g)) refl refl (ap (λ (m : Move). m.words) (sym g))

pub walk_one : (ws s : List ℕ) → is_walk s ≡ true → table_fine ws ≡ false → Comes verdict_number ws s (step_of ws (worker_of s)) 1 s ws
walk_one ws s i t = let w = walking s i in
    refused_call ws s w Table (untabled_move ws w.kind (get_or s 1 0) (get_or s 3 0) (get_or s 4 0) (get_or s 6 0) (eqb (get_or s 5 0) 0) (eqb (get_or s 7 0) 0) t)

pub walk_six : (ws s : List ℕ) → is_walk s ≡ true → table_fine ws ≡ true
    → walk_fine ws (get_or s 1 0) (get_or s 3 0) (get_or s 4 0) (get_or s 6 0) ≡ false → Comes verdict_number ws s (step_of ws (worker_of s)) 6 s ws
walk_six ws s i t f = let w = walking s i in
    refused_call ws s w Damaged (unfine_move ws w.kind (get_or s 1 0) (get_or s 3 0) (get_or s 4 0) (get_or s 6 0) (eqb (get_or s 5 0) 0) (eqb (get_or s 7 0) 0) t f)

-- the same in parts, where the tests' answers are known by name: i says whether it is a walk, t and f whether table and walk are fine
pub six_number : (ws s : List ℕ) (i t f : Bool) → i ≡ is_walk s → i ≡ true → t ≡ table_fine ws → t ≡ true
    → f ≡ walk_fine ws (get_or s 1 0) (get_or s 3 0) (get_or s 4 0) (get_or s 6 0) → f ≡ false
    → 6 ≡ call_number verdict_number ws s (step_of ws (worker_of s))
six_number ws s b c a d i e t g f = (walk_six ws s (sym d ∙ i) (sym e ∙ t) (sym g ∙ f)).0

pub six_record : (ws s : List ℕ) (i t f : Bool) → i ≡ is_walk s → i ≡ true → t ≡ table_fine ws → t ≡ true
    → f ≡ walk_fine ws (get_or s 1 0) (get_or s 3 0) (get_or s 4 0) (get_or s 6 0) → f ≡ false
    → s ≡ call_record s (step_of ws (worker_of s))
six_record ws s b c a d i e t g f = (walk_six ws s (sym d ∙ i) (sym e ∙ t) (sym g ∙ f)).1

pub six_words : (ws s : List ℕ) (i t f : Bool) → i ≡ is_walk s → i ≡ true → t ≡ table_fine ws → t ≡ true
    → f ≡ walk_fine ws (get_or s 1 0) (get_or s 3 0) (get_or s 4 0) (get_or s 6 0) → f ≡ false
    → ws ≡ call_words ws s (step_of ws (worker_of s))
six_words ws s b c a d i e t g f = (walk_six ws s (sym d ∙ i) (sym e ∙ t) (sym g ∙ f)).2

-- A STEP OF A WALK THAT IS FINE
pub walk_ends : (ws s : List ℕ) (m : Moved) {n : ℕ} {s' ws' : List ℕ} → WalkFine ws s
    → m ≡ moved_of (visit_of ws s (kind_at (get_or s 0 0))) → n ≡ verdict_number (move_says (Ok m))
    → s' ≡ put_moved s (Busy (kind_at (get_or s 0 0))) (get_or s 1 0) (Ok m) → ws' ≡ left_by (Ok m) ws
    → Comes verdict_number ws s (step_of ws (worker_of s)) n s' ws'
walk_ends ws s m (i, f) e n p q =
    let w = walking s i in
    let r = walk_record s w in
    let k : kind_at (get_or s 0 0) ≡ w.kind = ap kind_at (first_word s w) ∙ kind_back w.kind in
    let g = moves ws s w f in
    moved_call ws s (Ok m) r.0 (ap Ok (e ∙ ap (λ (x : Kind). moved_of (visit_of ws s x)) k) ∙ ap (λ (d : Move). d.said) (sym g)) n
    (p ∙ ap (λ (x : Kind). put_moved s (Busy x) (get_or s 1 0) (Ok m)) k ∙ ap (λ (x : Worker). put_moved s x.work x.key (Ok m)) (sym r.1))
    (q ∙ ap (λ (d : Move). left_by (Ok m) d.words) (sym g))

-- and where it is a lookup that ends: b says whether it is on a data slot of the key
pub lookup_call : (ws s : List ℕ) (b : Bool) {s' ws' : List ℕ} → WalkEnds ws s → get_or s 0 0 ≡ 1
    → (eqb (key_of ws (get_or s 3 0)) (get_or s 1 0) && eqb (state_of ws (get_or s 3 0)) as_data) ≡ b
    → s' ≡ put_record s idle_worker → ws' ≡ leave ws
    → Comes verdict_number ws s (step_of ws (worker_of s)) (cond b 16 17) s' ws'
unfolding put_moved left_by kind_at
lookup_call ws s b (f, e) k d p q =
    let v = lookup_ends ws (get_or s 1 0) (get_or s 3 0) (get_or s 4 0) (get_or s 6 0) (eqb (get_or s 5 0) 0) (eqb (get_or s 7 0) 0) e in
    let m : Over (cond b Yes No) ≡ moved_of (visit_of ws s (kind_at (get_or s 0 0))) = rw k (ap moved_of (sym (v ∙ ap (λ (x : Bool). ends_by x) d))) in
    walk_ends ws s (Over (cond b Yes No)) f m (by b) p q
  where
    ends_by : Bool → Outcome
    ends_by x = Ends (cond x Yes No)

    by : (x : Bool) → cond x 16 17 ≡ verdict_number (move_says (Ok (Over (cond x Yes No))))
    by true = refl
    by false = refl

-- and where it goes on to slot c
pub walk_call : (ws s : List ℕ) (c : ℕ) {s' : List ℕ} → is_walk s ≡ true → fine_at ws s
    → Some c ≡ walk_to ws (get_or s 1 0) (get_or s 3 0) → s' ≡ walk_on s c (ltb (get_or s 1 0) (key_of ws (get_or s 3 0)))
    → Comes verdict_number ws s (step_of ws (worker_of s)) 0 s' ws
unfolding put_moved left_by
walk_call ws s c i f e p =
    let w = walking s i in
    let r = walk_record s w in
    let g = moves ws s w f in
    let left = ltb (get_or s 1 0) (key_of ws (get_or s 3 0)) in
    let to = Walk c (get_or s 3 0) (get_or s 4 0) left (eqb (get_or s 5 0) 0) in
    let v = goes_to ws w.kind (get_or s 1 0) (get_or s 3 0) (get_or s 4 0) (get_or s 6 0) (eqb (get_or s 5 0) 0) (eqb (get_or s 7 0) 0) c e in
    moved_call ws s (Ok (To to)) r.0 (sym (ap (λ (x : Move). x.said) g ∙ ap (λ (o : Outcome). Ok (moved_of o)) v)) refl
    (p ∙ walk_goes_on s w c left ∙ sym (put_fits s (walker w.kind (get_or s 1 0) c (get_or s 3 0) (get_or s 4 0) left (eqb (get_or s 5 0) 0)) r.0)
    ∙ ap (λ (x : Worker). put_moved s x.work x.key (Ok (To to))) (sym r.1))
    (sym (ap (λ (x : Move). x.words) g))
