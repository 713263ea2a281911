-- EVERY ACTION OF THE PLAN IS A MOVE, or is refused and changes nothing: the walk, the look at previous, a lock, a store, the end.
-- Assumes nothing.
use mathlib.Core.Path.{◌≡◌, refl, sym, ap, ◌∙◌, subst}
use mathlib.Core.Bool.{Bool, true, false, not}
use mathlib.Core.List.{List, []}
use mathlib.Core.Logic.{inl, inr, ◌≢◌}
use Prim.Native.Nat.{ℕ, suc, ◌+◌, ◌<◌}
use native.Mathlib.Omega.{arith}
use native.Mathlib.Decide.{ℕ_discrete}
use lib.ListN.{length}
use Rattle.moment.specs.Key.{legal_of}
use Rattle.table.specs.Pair.{state_f, lock_f, busy_f, slots_of, field_of, state_of, link_of, lock_of, busy_of, set_state, set_link, set_lock, zero_pair}
use Rattle.table.specs.Rules.{pair_fine, table_fine}
use Rattle.table.specs.declared.Which.{Which}
use Rattle.table.proofs.PairLaws.{field_field}
use Rattle.table.proofs.ChangeLaws.{fine_state, lock_apart}
use Rattle.tree.specs.Reach.{Tab, tab_of}
use Rattle.protocol.specs.Says as says
use Rattle.protocol.specs.Says.{going, full}
use Rattle.protocol.specs.Locks.{Did, weight, crowded, granted, all_held, released, give_up, lock_step}
use Rattle.protocol.specs.Stores.{lowest_fit, taken, take_step}
use Rattle.protocol.specs.Walk.{visit, look}
use Rattle.protocol.specs.declared.Kind.{Kind}
use Rattle.protocol.specs.declared.Kind.TheVariants.{Lookup, Insert, Remove}
use Rattle.protocol.specs.declared.Links.{Links}
use Rattle.protocol.specs.declared.Links.TheVariants.{Any, Is, Neither, Both}
use Rattle.protocol.specs.declared.Phase.{Phase}
use Rattle.protocol.specs.declared.Phase.TheVariants.{New}
use Rattle.protocol.specs.declared.Answer.TheVariants.{Going, Yes, No, Full, Refused}
use Rattle.protocol.specs.declared.Outcome.{Outcome}
use Rattle.protocol.specs.declared.Outcome.TheVariants.{Goes, Ends}
use Rattle.std.specs.Prelude.{Result, Ok, Err}
use Rattle.refusal.specs.declared.Refusal.{Refusal}
use Rattle.protocol.proofs.Ends.{give_up_ends, lock_ends, take_ends, removing_ends, lookup_ends, insert_ends, remove_ends, look_ends}
use Rattle.protocol.proofs.HeldLaws.{given_only, given_up_only}
use Rattle.protocol.proofs.StoreLaws.{Joins, mark_only, link_only, taken_joins, zero_field}
use Rattle.protocol.proofs.Mistakes.{LinksAre, granted_tells}
use Rattle.protocol.proofs.Words.{SetState, SetLink, busy_link, locks_tab, lock_tab, state_locks, link_locks, new_locks, state_set, link_set, new_set}
use Rattle.protocol.proofs.Paths.Shape.{Shape}
use Rattle.protocol.proofs.Together.Locks.{units_none, Drops}
use Rattle.protocol.proofs.Together.Wishes.{wish, locks, LinksFit}
use Rattle.protocol.proofs.Together.Stages as stages
use Rattle.protocol.proofs.Together.Stages.{Stage, walk, lock, last, Doing, idle, busy, view, held_in}
use Rattle.protocol.proofs.Together.Moves.{next_lock, go_on, ins_routing, ins_none, rem_two, rem_one, rem_leaf, look_data, look_routing}
use Rattle.protocol.proofs.Together.Puts.{Put, put_new}
use Rattle.protocol.proofs.Together.Machine.{Answer, said, ins_gone, look_gone, look_none, refused, look_yes, look_no, ins_no, rem_no, ins_full, last_yes, Move, quietly, takes, again, ends, puts}
use Rattle.protocol.proofs.Together.Clean.{Clean, clean_lock, clean_link, clean_state, clean_released, clean_new}
use Rattle.protocol.proofs.Together.Holding.{given_takes}

-- what is neither table nor locks is kept
pub record Kept (ws vs : List ℕ) : Type 0 where
  pub clean : Clean vs
  pub busy : busy_of vs ≡ busy_of ws

abbrev pub MoveTo : List ℕ → Doing → List ℕ → Doing → Answer → Type 0
MoveTo ws u vs w o = Move (tab_of ws) (lock_of ws) u (tab_of vs) (lock_of vs) w o

-- what an action of a worker in stage u comes to
abbrev pub Acts : List ℕ → Kind → ℕ → Stage → Result Outcome Refusal → List ℕ → Type 0
Acts ws j k u (Ok (Goes q)) vs = MoveTo ws (busy j k u) vs (busy j k (view q)) (said going) × Kept ws vs
Acts ws j k u (Ok (Ends Going)) vs = ⊥
Acts ws j k u (Ok (Ends Yes)) vs = MoveTo ws (busy j k u) vs idle (said says.yes) × Kept ws vs
Acts ws j k u (Ok (Ends No)) vs = MoveTo ws (busy j k u) vs idle (said says.no) × Kept ws vs
Acts ws j k u (Ok (Ends Full)) vs = MoveTo ws (busy j k u) vs idle (said full) × Kept ws vs
Acts ws j k u (Ok (Ends (Refused e))) vs = ⊥
Acts ws j k u (Err e) vs = vs ≡ ws

links_fit_lem : (ws : List ℕ) (slot : ℕ) (links : Links) → LinksAre ws slot links → LinksFit (tab_of ws) slot links
links_fit_lem ws slot Any e = e
links_fit_lem ws slot (Is d v) e = e
links_fit_lem ws slot Neither e = e
links_fit_lem ws slot Both e = e

module _ (ws : List ℕ) {rho : ℕ → ℕ} (h : Shape (tab_of ws) rho) (fine : table_fine ws ≡ true) (clean : Clean ws) where
  same : Kept ws ws
  same = record { clean = clean; busy = refl }

  none_held : Drops (lock_of ws) (lock_of ws) []
  none_held = record { diff = λ i l. omega (arith, units_none i l) }

  -- THE WALK
  is_routing : (x : ℕ) → state_of ws x ≢ 0 → state_of ws x ≢ 1 → state_of ws x ≢ 3 → state_of ws x ≡ 2
  is_routing x a b c = omega (arith, h.small x)

  lookup_acts : (k at prev before : ℕ) (side up : Bool) → Acts ws Lookup k (walk at prev before side) (Ok (visit ws Lookup k at prev before side up)) ws
  lookup_acts k at prev before side up =
      lookup_ends (λ o. Acts ws Lookup k (walk at prev before side) (Ok o) ws) ws k at prev before side up
      (λ e s. (ends (lock_of ws) (look_yes e s) none_held, same))
      (λ e s. (ends (lock_of ws) (look_no (inl (e, s))) none_held, same))
      (λ e l. (ends (lock_of ws) (look_no (inr ((λ z. e (sym z)), l))) none_held, same))
      (λ e l. (quietly (go_on _ (λ z. e (sym z)) refl l), same))

  insert_acts : (k at prev before : ℕ) (side up : Bool) → state_of ws at ≢ 0
      → Acts ws Insert k (walk at prev before side) (Ok (visit ws Insert k at prev before side up)) ws
  insert_acts k at prev before side up n =
      insert_ends (λ o. Acts ws Insert k (walk at prev before side) (Ok o) ws) ws k at prev before side up
      (λ e s. (ends (lock_of ws) (ins_no e s) none_held, same))
      (λ e s. (again (lock_of ws) (ins_gone e s) none_held, same))
      (λ e s d. (quietly (ins_routing e (is_routing at n s d)), same))
      (λ e l. (quietly (ins_none (λ z. e (sym z)) l), same))
      (λ e l. (quietly (go_on _ (λ z. e (sym z)) refl l), same))

  remove_acts : (k at prev before : ℕ) (side up : Bool) → Acts ws Remove k (walk at prev before side) (Ok (visit ws Remove k at prev before side up)) ws
  remove_acts k at prev before side up =
      remove_ends (λ o. Acts ws Remove k (walk at prev before side) (Ok o) ws) ws k at prev before side up
      (λ e s. (ends (lock_of ws) (rem_no (inl (e, s))) none_held, same))
      (λ e s. removing_ends (λ o. Acts ws Remove k (walk at prev before side) (Ok o) ws) (link_of ws at true) (link_of ws at false) at prev before side up
      (λ l r. (quietly (rem_leaf e s), same))
      (λ l r. (quietly (rem_one false (link_of ws at false) e s refl r), same))
      (λ l r. (quietly (rem_one true (link_of ws at true) e s refl l), same))
      (λ l r. (quietly (rem_two e s), same)))
      (λ e l. (ends (lock_of ws) (rem_no (inr ((λ z. e (sym z)), l))) none_held, same))
      (λ e l. (quietly (go_on _ (λ z. e (sym z)) refl l), same))

  pub visit_acts : (j : Kind) (k at prev before : ℕ) (side up : Bool) → state_of ws at ≢ 0
      → Acts ws j k (walk at prev before side) (Ok (visit ws j k at prev before side up)) ws
  visit_acts Lookup k at prev before side up n = lookup_acts k at prev before side up
  visit_acts Insert k at prev before side up n = insert_acts k at prev before side up n
  visit_acts Remove k at prev before side up n = remove_acts k at prev before side up

  -- THE LEAF'S LOOK AT PREVIOUS
  pub look_acts : (k this prev before : ℕ) (side up : Bool) → state_of ws prev ≢ 0
      → Acts ws Remove k (stages.look this prev before side) (Ok (look ws this prev side before up)) ws
  look_acts k this prev before side up n =
      look_ends (λ o. Acts ws Remove k (stages.look this prev before side) (Ok o) ws) ws this prev side before up
      (λ s. (again (lock_of ws) (look_gone s) none_held, same))
      (λ s. (quietly (look_data s), same))
      (λ d s l. (again (lock_of ws) (look_none (not side) (is_routing prev n s d) l) none_held, same))
      (λ d s l. (quietly (look_routing up (link_of ws prev (not side)) (is_routing prev n s d) refl l), same))

  -- GIVING UP
  same_tab : (vs : List ℕ) {u w : Doing} {o : Answer} → tab_of vs ≡ tab_of ws → Move (tab_of ws) (lock_of ws) u (tab_of ws) (lock_of vs) w o
      → MoveTo ws u vs w o
  same_tab vs {u} {w} {o} e m = subst (λ (B : Tab). Move (tab_of ws) (lock_of ws) u B (lock_of vs) w o) (sym e) m

  pub same_locks : (vs : List ℕ) {u w : Doing} {o : Answer} → ((i : ℕ) (l : Which) → lock_of vs i l ≡ lock_of ws i l)
      → Move (tab_of ws) (lock_of ws) u (tab_of vs) (lock_of ws) w o → MoveTo ws u vs w o
  same_locks vs {u} {w} {o} e m = subst (λ (M : ℕ → Which → ℕ). Move (tab_of ws) (lock_of ws) u (tab_of vs) M w o) (λ t i l. sym (e i l) t) m

  pub up_tab : (p : Phase) (n : ℕ) → tab_of (released ws p n) ≡ tab_of ws
  up_tab p n = locks_tab ws (released ws p n) (given_up_only ws p n)

  pub up_kept : (p : Phase) (n : ℕ) → all_held ws p n ≡ true → Kept ws (released ws p n)
  up_kept p n e = record {
    clean = clean_released ws p n e clean;
    busy = (given_up_only ws p n).fields busy_f 0 (λ l z. (lock_apart l).2 (sym z));
  }

  pub end_acts : (j : Kind) (k : ℕ) (p c : Phase) (n : ℕ) → Drops (lock_of ws) (lock_of (released ws p n)) (held_in (last c))
      → Acts ws j k (last c) (give_up ws p n (Ends Yes)).said (give_up ws p n (Ends Yes)).words
  end_acts j k p c n d =
      give_up_ends (λ (x : Did). Acts ws j k (last c) x.said x.words) ws p n (Ends Yes)
      (λ e. (same_tab (released ws p n) (up_tab p n) (ends (lock_of (released ws p n)) last_yes d), up_kept p n e))
      (λ e. refl)

  -- A LOCK
  pub lock_acts : (j : Kind) (k : ℕ) (p c : Phase) (i n : ℕ) (next : Phase) (slot : ℕ) (which : Which) (write : Bool) (state : ℕ) (links : Links)
      → i < length (locks c) → next_lock c i ≡ wish slot which write state links → view next ≡ lock c (suc i)
      → pair_fine ws slot ≡ true → Drops (lock_of ws) (lock_of (released ws p n)) (held_in (lock c i))
      → Acts ws j k (lock c i) (lock_step ws p n next slot which write state links).said (lock_step ws p n next slot which write state links).words
  lock_acts j k p c i n next slot which write state links l e v r d =
      lock_ends (λ (x : Did). Acts ws j k (lock c i) x.said x.words) ws p n next slot which write state links
      (λ g cr. (given g cr, kept))
      (λ g cr. refl)
      (λ g a. (same_tab (released ws p n) (up_tab p n) (again (lock_of (released ws p n)) (refused c i l) d), up_kept p n a))
      (λ g a. refl)
    where
      vs : List ℕ
      vs = set_lock ws slot which (lock_of ws slot which + weight write)

      given : granted ws slot which write state links ≡ true → crowded write (lock_of ws slot which) ≡ false
          → MoveTo ws (busy j k (lock c i)) vs (busy j k (view next)) (said going)
      given g cr =
          let m = granted_tells ws slot which write state links g in
          let o = given_only ws slot which write state links r g cr in
          rw v (same_tab vs (lock_tab which slot (lock_of ws slot which + weight write) ws vs o)
          (takes c i (lock_of vs) l (rw e (m.0, links_fit_lem ws slot links m.1)) (rw e (given_takes ws slot which write state links r g cr))))

      kept : Kept ws vs
      kept = record {
        clean = clean_lock ws slot which (lock_of ws slot which + weight write) (fine_state ws slot r) clean;
        busy = field_field busy_f (lock_f which) ws slot 0 (lock_of ws slot which + weight write) (λ z. (lock_apart which).2 (sym z));
      }

  -- STORES
  pub mark_acts : (j : Kind) (k : ℕ) (u : Stage) (next : Phase) (slot to : ℕ) → pair_fine ws slot ≡ true → to < 4 → to ≢ 0
      → (SetState (tab_of ws) (tab_of (set_state ws slot to)) slot to → Put (tab_of ws) (tab_of (set_state ws slot to)) k u (view next))
      → Acts ws j k u (Ok (Goes next)) (set_state ws slot to)
  mark_acts j k u next slot to r l n put =
      let vs = set_state ws slot to in
      let o = mark_only ws slot to r l in (
        same_locks vs (state_locks slot to ws vs o) (puts (tab_of vs) (put (state_set slot to ws vs o))),
        record { clean = clean_state ws slot to (fine_state ws slot r) n l clean; busy = o.fields busy_f 0 (omega arith) },
      )

  pub link_acts : (j : Kind) (k : ℕ) (u : Stage) (next : Phase) (slot : ℕ) (side : Bool) (to : ℕ) → pair_fine ws slot ≡ true → to < slots_of ws
      → (SetLink (tab_of ws) (tab_of (set_link ws slot side to)) slot side to → Put (tab_of ws) (tab_of (set_link ws slot side to)) k u (view next))
      → Acts ws j k u (Ok (Goes next)) (set_link ws slot side to)
  link_acts j k u next slot side to r l put =
      let vs = set_link ws slot side to in
      let o = link_only ws slot side to fine r l in (
        same_locks vs (link_locks slot side to ws vs o) (puts (tab_of vs) (put (link_set slot side to ws vs o))),
        record { clean = clean_link ws slot side to (fine_state ws slot r) clean; busy = o.fields busy_f 0 (λ z. busy_link side (sym z)) },
      )

  pub take_acts : (j : Kind) (k : ℕ) (p : Phase) (n : ℕ) (next : Phase) (prev : ℕ) (side : Bool) → legal_of k ≡ true → pair_fine ws prev ≡ true
      → view next ≡ last (New prev side 0) → Drops (lock_of ws) (lock_of (released ws p n)) (held_in (lock (New prev side 0) 2))
      → Acts ws j k (lock (New prev side 0) 2) (take_step ws k p n next prev side).said (take_step ws k p n next prev side).words
  take_acts j k p n next prev side lk r v d =
      take_ends (λ (x : Did). Acts ws j k (lock (New prev side 0) 2) x.said x.words) ws k p n next prev side
      took
      (λ e a. (same_tab (released ws p n) (up_tab p n) (ends (lock_of (released ws p n)) ins_full d), up_kept p n a))
      (λ e a. refl)
      (λ e z. refl)
    where
      f : ℕ
      f = lowest_fit ws

      vs : List ℕ
      vs = set_link (taken ws f k) prev side f

      took : f ≢ 0 → zero_pair ws f ≡ true → Acts ws j k (lock (New prev side 0) 2) (Ok (Goes next)) vs
      took m z =
          let o = taken_joins ws k prev side fine r m z in
          let free = zero_field ws f state_f z in
          let old : f ≢ prev = λ e. fine_state ws prev r (ap (state_of ws) (sym e) ∙ free) in (
            rw v (same_locks vs (new_locks f k prev side ws vs o (λ l. zero_field ws f (lock_f l) z))
                (puts (tab_of vs) (put_new f free (new_set f k prev side ws vs o old)))),
            record {
              clean = clean_new ws f k prev side lk m (fine_state ws prev r) free o clean;
              busy = new_busy o (λ e. m e) (ℕ_discrete 0 prev);
            },
          )
        where
          new_busy : Joins f k prev side ws vs → f ≢ 0 → Dec (0 ≡ prev) → busy_of vs ≡ busy_of ws
          new_busy o q (yes e) = ap (λ (x : ℕ). field_of busy_f vs x) e ∙ o.fields busy_f (λ y. busy_link side (sym y)) ∙ ap (λ (x : ℕ). field_of busy_f ws x) (sym e)
          new_busy o q (no e) = o.slots busy_f 0 (λ y. q (sym y)) e
