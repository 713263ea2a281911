-- One note more is read.
use Rattle.std.proofs.Common.{ℕ, ◌≡◌, ◌≢◌, ◌+◌, ◌<◌, ◌++◌, List, [], ◌∷◌, length, take, get_or, Contains, ◌∙◌, subst, sym}
use Rattle.std.proofs.lemmas.List.{take_more}
use Rattle.std.proofs.lemmas.List.Elements.{Contains-append_left, Contains-push}
use Rattle.script.specs.Records.{note_number, ChangesOnly}
use Rattle.script.specs.declared.records.Note.{Note}
use Rattle.script.specs.declared.records.Record.{Record}

-- what is none of these notes is 0
abbrev pub NoOther : List Note → Record → Type 0
NoOther noted r = (n : Note) → ¬ (Contains noted n) → note_number r n ≡ 0

pub no_other_more : (items : List Note) (i : ℕ) (d : Note) (old new : Record) → i < length items
    → NoOther (take i items) old → ChangesOnly old (get_or items i d) new → NoOther (take (i + 1) items) new
no_other_more items i d old new below none changes n absent =
    let x : Note = get_or items i d in
    let more : take (i + 1) items ≡ take i items ++ (x ∷ []) = take_more items i d below in
    let apart : n ≢ x = λ e. absent (subst (λ (m : Note). Contains (take (i + 1) items) m) (sym e) (subst (λ (l : List Note). Contains l x) (sym more) (Contains-push (take i items) x))) in
    let before : ¬ (Contains (take i items) n) = λ h. absent (subst (λ (l : List Note). Contains l n) (sym more) (Contains-append_left (take i items) (x ∷ []) n h)) in
    changes.1 n apart ∙ none n before
