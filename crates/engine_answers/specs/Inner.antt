-- Serves inner proofs only: what is in front of lines, and lines before it is known whether something in them has to be escaped.
use Rattle.std.specs.Prelude.{ℕ, [], ◌∷◌, ◌++◌, List, Option, Some, None, codes, cond, count_by, flat_map, not}
use Rattle.text_bytes.specs.Names.{space, equals, newline}
use Rattle.text_bytes.specs.Text.{Text}
use Rattle.text_tables.specs.Pairs.{Pair}
use Rattle.eval_sources.specs.Sources.{Held, source_in}
use Rattle.engine_answers.specs.Answers.{source_part}
use Rattle.engine_answers.specs.Lines.{is_hidden, pair_line}

-- what is in front of the line about an item: where it comes from, by what is kept for each, or nothing
abbrev pub front_of : Option Held → Pair → Text
front_of None = λ item. []
front_of (Some held) = λ item. source_part (source_in held None item)

-- a word, a name and its value, as they are
abbrev pub pair_words : Text → Text → Text → Text
pair_words word name value = word ++ space ∷ (name ++ equals ∷ value)

-- the line of a property, as it is
abbrev pub env_as_is : Pair → Text
env_as_is pair = pair_words (codes "env") pair.0 pair.1 ++ newline ∷ []

-- the line of a property that is not for rules alone, as it is
abbrev pub shown_as_is : Pair → Text
shown_as_is pair = cond (is_hidden pair.0) [] (env_as_is pair)

-- the lines of properties, as they are
abbrev pub lines_as_is : List Pair → Text
lines_as_is pairs = flat_map shown_as_is pairs

-- how many lines these are
abbrev pub shown_count : List Pair → ℕ
shown_count pairs = count_by (λ pair. not (is_hidden pair.0)) pairs

-- the line of a property that is not for rules alone, with nothing in front
abbrev pub shown_line : Pair → Text
shown_line pair = cond (is_hidden pair.0) [] (pair_line (codes "env") pair)
