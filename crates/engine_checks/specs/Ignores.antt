-- The codes that comments in a file ask to ignore.
use Rattle.std.specs.Prelude.{ℕ, ◌+◌, ◌-◌, not, ◌==◌, nat_lt, List, [], ◌∷◌, ◌++◌, length, map, filter, find, flat_map, codes, nat_eq, Bool, Option}
use Rattle.std.specs.Prelude.{Some, None, drop, take, position, unwrap_or}
use Rattle.std.specs.Prelude.{option_to_list}
use Rattle.std.specs.List.{range_with_len, slice_split, starts_with}
use Rattle.text_bytes.specs.Lines.{NumberedLine, numbered_lines}
use Rattle.text_bytes.specs.Numbers.{capped}
use Rattle.text_bytes.specs.Names.{comma, hash}
use Rattle.text_bytes.specs.Texts.{begins_with, following, trimmed, unindented}
use Rattle.text_bytes.specs.declared.profile.Profile.{Profile}
use Rattle.text_bytes.specs.declared.source_file.FileKind.{FileKind}
use Rattle.text_bytes.specs.declared.source_file.FileKind.TheVariants.{Hwdb, Rules}
use Rattle.text_bytes.specs.declared.source_file.SourceFile.{SourceFile}
use Rattle.text_bytes.specs.Text.{Text}
use Rattle.rule_core.specs.Lines.{joined_lines}
use Rattle.engine_checks.specs.declared.ignores.Scope.{Scope}
use Rattle.engine_checks.specs.declared.ignores.Scope.TheVariants.{File, Next, Unread}

-- a code in a comment: the comment's line, the column at which the code begins and the one after its end, and what it is about
pub record Ignore : Type 0 where
  pub line : ℕ
  pub column : ℕ
  pub end : ℕ
  pub scope : Scope
  pub code : Text

-- what a comment is about and its codes, by what follows ` ignore ` or else after ` ignore-file `, and else the text that is not understood
abbrev pub asked_or : Option ℕ → Option Text → Option Text → Text → Scope × Text
asked_or next (Some list) in_file text = (Next next, list)
asked_or next None (Some list) text = (File, list)
asked_or next None None text = (Unread, unindented text)

-- what a comment asks for by what follows `# devdry:`
abbrev pub asked_by : Option ℕ → Text → Scope × Text
asked_by next text = asked_or next (following (codes " ignore ") text) (following (codes " ignore-file ") text) text

-- whether a reason begins at a place of a list of codes: two dashes between two spaces
abbrev pub is_reason : Text → ℕ → Bool
is_reason list place = starts_with nat_eq (drop place list) (codes " -- ")

-- the first place of a list of codes at which a reason begins
unfoldable pub reason_place : Text → Option ℕ
reason_place list = position (is_reason list) (range_with_len 0 (length list))

-- what stands before the reason in a list of codes
abbrev pub before_reason : Text → Text
before_reason list = take (unwrap_or (reason_place list) (length list)) list

-- the codes of a list, cut at its commas, without the reason behind them; what is not understood is one text
abbrev pub texts_of : Scope → Text → List Text
texts_of Unread text = text ∷ []
texts_of scope list = slice_split (λ b. b == comma) (before_reason list)

-- the code in a text: without the blanks before it and the whitespace after it
abbrev pub code_in : Text → Text
code_in text = trimmed (unindented text)

-- the column at which the code in a text begins, by that of the text
abbrev pub code_column : ℕ → Text → ℕ
code_column column text = column + (length text - length (unindented text))

-- the code in a text of a line, by the column at which the text begins
abbrev pub ignore_at : ℕ → Scope → ℕ → Text → Ignore
ignore_at line scope column text = record {
  line = line;
  column = capped (code_column column text);
  end = capped (code_column column text + length (code_in text));
  scope = scope;
  code = code_in text;
}

-- texts of a comment in this line, one after another with a byte between them, the first of which begins in this column
abbrev pub ignores_at : ℕ → Scope → ℕ → List Text → List Ignore
ignores_at line scope column [] = []
ignores_at line scope column (text ∷ texts) =
    ignore_at line scope column text ∷ ignores_at line scope (column + length text + 1) texts

-- the same for what a comment asks for, which ends where its line ends
abbrev pub ignores_asked : NumberedLine → Scope × Text → List Ignore
ignores_asked l asked = ignores_at (capped l.number) asked.0 (length l.text + 1 - length asked.1) (texts_of asked.0 asked.1)

-- a line as it is looked at for a comment: in rules without the blanks at its start, in a database as it is
abbrev pub comment_of : FileKind → Text → Text
comment_of Rules text = unindented text
comment_of Hwdb text = text

-- the codes of a comment that begins with `# devdry:`
abbrev pub ignores_after : NumberedLine → Option ℕ → Option Text → List Ignore
ignores_after l next None = []
ignores_after l next (Some text) = ignores_asked l (asked_by next text)

-- the codes in a line, which comments on the next rule are about
abbrev pub ignores_of_line : FileKind → Option ℕ → NumberedLine → List Ignore
ignores_of_line kind next l = ignores_after l next (following (codes "# devdry:") (comment_of kind l.text))

-- the first line after another one, by the numbers of lines
abbrev pub next_after : Text → ℕ → Option ℕ
next_after starts line = find (nat_lt line) starts

-- the lines whose numbers rules have, also the one that is open at the end of the file; in a database the lines that
-- are not comments
abbrev pub starts_of : Profile → FileKind → Text → Text
starts_of profile Rules bytes = map (λ l. l.number) (joined_lines profile bytes).lines ++ option_to_list (joined_lines profile bytes).open_at
starts_of profile Hwdb bytes = map (λ l. capped l.number) (filter (λ l. not (begins_with hash l.text)) (numbered_lines bytes))

-- the codes in lines, where each comment on the next rule is about the first of these starts after it
abbrev pub ignores_among : FileKind → Text → List NumberedLine → List Ignore
ignores_among kind starts lines = flat_map (λ l. ignores_of_line kind (next_after starts (capped l.number)) l) lines

-- the codes that comments in a file ask to ignore, in the order of their places
unfoldable pub ignores_in : Profile → SourceFile → List Ignore
ignores_in profile file = ignores_among file.kind (starts_of profile file.kind file.bytes) (numbered_lines file.bytes)
