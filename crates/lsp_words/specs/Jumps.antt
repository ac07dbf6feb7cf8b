-- Where jumps lead.
use Rattle.std.specs.Prelude.{ℕ, nat_le, nat_lt, ◌==◌, Bool, true, false, ◌&&◌, ◌||◌, not, List, filter, Option, Some, if◌then◌else◌}
use Rattle.std.specs.List.{find}
use Rattle.text_tables.specs.Texts.{same_text}
use Rattle.lsp_words.specs.Marks.{MarkValue}
use Rattle.lsp_words.specs.declared.marks.MarkKind.{MarkKind}
use Rattle.lsp_words.specs.declared.marks.MarkKind.TheVariants.{Label, Goto}

-- whether a mark is a jump
abbrev pub is_goto : MarkKind → Bool
is_goto Goto = true
is_goto Label = false

-- whether two marks have one name
abbrev pub is_same : MarkValue → MarkValue → Bool
is_same mark other = same_text mark.name other.name

-- whether a place of a row is in the name of a mark, or directly before or after it
abbrev pub is_at : (line at : ℕ) → MarkValue → Bool
is_at line at mark = mark.line == line && nat_le mark.start at && nat_le at mark.end

-- the mark of which a place of a row is in the name, or directly before or after it
abbrev pub mark_at : List MarkValue → (line at : ℕ) → Option MarkValue
mark_at marks line at = find (is_at line at) marks

-- whether a mark is a label to which a jump may lead: one of its name in a later rule
abbrev pub is_goal : (jump mark : MarkValue) → Bool
is_goal jump mark = not (is_goto mark.kind) && nat_lt jump.rule mark.rule && is_same jump mark

-- the label that a mark means: a jump means the first label of its name in a later rule, and a label itself
abbrev pub definition_of : List MarkValue → MarkValue → Option MarkValue
definition_of marks mark = if is_goto mark.kind then find (is_goal mark) marks else Some mark

-- whether a mark is among the references of another one: a jump of its name, and if asked also a label of its name
abbrev pub is_reference : (with_labels : Bool) → (mark other : MarkValue) → Bool
is_reference with_labels mark other = (with_labels || is_goto other.kind) && is_same mark other

-- the references of a mark, in order
abbrev pub references_of : List MarkValue → MarkValue → (with_labels : Bool) → List MarkValue
references_of marks mark with_labels = filter (is_reference with_labels mark) marks
