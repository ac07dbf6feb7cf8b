-- Words, codes and marks, written short for examples.
use Rattle.std.specs.Prelude.{ℕ, List, [], ◌∷◌, codes}
use Rattle.text_bytes.specs.Text.{Text}
use Rattle.lsp_words.specs.Marks.{MarkValue}
use Rattle.lsp_words.specs.declared.codes.CodeWord.{CodeWord}
use Rattle.lsp_words.specs.declared.kinds.WordKind.{WordKind}
use Rattle.lsp_words.specs.declared.marks.MarkKind.TheVariants.{Label, Goto}
use Rattle.lsp_words.specs.declared.slots.Slot.{Slot}

-- a word of a kind that begins at a place
abbrev pub word : WordKind → ℕ → Slot
word k n = record { kind = k; start = n }

-- a code from a place up to another
abbrev pub code : ℕ → ℕ → CodeWord
code a b = record { start = a; end = b }

-- a label: the row of its rule, its own row, where its name begins and ends there, and its name
abbrev pub label : (rule line start end : ℕ) → (name : Text) → MarkValue
label rule line start end name = record { kind = Label; rule = rule; line = line; start = start; end = end; name = name }

-- a jump in the same way
abbrev pub goto : (rule line start end : ℕ) → (name : Text) → MarkValue
goto rule line start end name = record { kind = Goto; rule = rule; line = line; start = start; end = end; name = name }

-- Marks of a document of six rows: a jump, two labels, of which the second has a jump to its own name in its rule, and a
-- rule over two rows that jumps and has a label.
abbrev pub some_marks : List MarkValue
some_marks =
    goto 0 0 6 7 (codes "a") ∷ label 1 1 7 8 (codes "b") ∷ label 2 2 7 8 (codes "a") ∷ goto 2 2 17 18 (codes "a")
    ∷ goto 4 4 6 7 (codes "b") ∷ label 4 5 9 10 (codes "a") ∷ []
