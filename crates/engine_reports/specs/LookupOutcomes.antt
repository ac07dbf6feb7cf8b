-- The outcome of the lines of an input, each of which is a modalias.
use Rattle.std.specs.Prelude.{ℕ, ◌+◌, Bool, nat_lt, if◌then◌else◌, List, [], ◌∷◌, ◌++◌, codes, decimal, length}
use Rattle.text_bytes.specs.Lines.{lines}
use Rattle.text_bytes.specs.Names.{newline}
use Rattle.text_bytes.specs.Text.{Text}
use Rattle.trie_nodes.specs.declared.entry.Entry.{Entry}
use Rattle.engine_sessions.specs.Delivery.{RunOutcome}
use Rattle.engine_reports.specs.Answers.{answer_lines}

-- the answer to a modalias among others: the lines that answer it alone, and an empty line
abbrev pub answer_to : Bool → List Entry → Text → Text
answer_to sources entries modalias = answer_lines sources entries modalias ++ newline ∷ []

-- the most bytes of a line
abbrev pub most_bytes : ℕ
most_bytes = 65536

-- whether a line has more
abbrev pub is_too_long : Text → Bool
is_too_long line = nat_lt most_bytes (length line)

-- the line on a line of this number that is too long
unfoldable pub too_long_line : ℕ → Text
too_long_line number = codes "devdry: line " ++ decimal number ++ codes ": too long" ++ newline ∷ []

-- an outcome after an answer
abbrev pub after_answer : Text → RunOutcome → RunOutcome
after_answer answer outcome = record { output = answer ++ outcome.output; messages = outcome.messages; status = outcome.status }

-- the outcome of lines, the first of which has this number: the answer to each, up to one that is too long, which is reported
abbrev pub answered_from : (Text → Text) → ℕ → List Text → RunOutcome
answered_from answer number [] = record { output = []; messages = []; status = 0 }
answered_from answer number (line ∷ lines) =
    if is_too_long line then record { output = []; messages = too_long_line number; status = 1 }
    else after_answer (answer line) (answered_from answer (number + 1) lines)

-- an outcome after messages
abbrev pub after_messages : Text → RunOutcome → RunOutcome
after_messages messages outcome = record { output = outcome.output; messages = messages ++ outcome.messages; status = outcome.status }

-- the outcome of the lines of an input after messages
abbrev pub lines_outcome : Text → (Text → Text) → Text → RunOutcome
lines_outcome messages answer input = after_messages messages (answered_from answer 1 (lines input))
