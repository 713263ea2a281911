-- A slot's fields as words of a line.
use Rattle.std.specs.Prelude.{ℕ, List, [], ◌++◌, codes, Option, Some, None}
use Rattle.std.specs.Fmt.{decimal}
use Rattle.script.specs.Names.{state_name}
use Rattle.script.specs.declared.fields.Fields.{Fields}

-- the state and the links
abbrev pub links_text : Fields → List ℕ
links_text f = state_name f.state ++ (codes " links " ++ (decimal f.left ++ (codes " " ++ decimal f.right)))

-- the locks of the state, the left edge and the right edge
abbrev pub locks_text : Fields → List ℕ
locks_text f =
    codes " locks " ++ (decimal f.own_lock ++ (codes " " ++ (decimal f.left_lock ++ (codes " " ++ decimal f.right_lock))))

-- how many workers are busy, where the slot says so
abbrev pub busy_text : Option ℕ → List ℕ
busy_text None = []
busy_text (Some n) = codes " busy " ++ decimal n

abbrev pub fields_text : Fields → List ℕ
fields_text f = links_text f ++ locks_text f ++ busy_text f.busy
