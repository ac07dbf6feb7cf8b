-- Diagnostics for people.
use Rattle.std.specs.Prelude.{ℕ, ◌+◌, ◌-◌, Bool, ◌==◌, ◌&&◌, nat_le, nat_lt, if◌then◌else◌, [], ◌∷◌, ◌++◌, codes, drop, flat_map, length, map, min, take}
use Rattle.std.specs.List.{prefix_len}
use Rattle.text_bytes.specs.Text.{Text}
use Rattle.text_bytes.specs.Escapes.{is_control}
use Rattle.text_bytes.specs.Names.{newline, question_mark, space, tab}
use Rattle.engine_formats.specs.Diagnostics.{DiagnosticValue}
use Rattle.engine_formats.specs.Hints.{advice_for}
use Rattle.engine_formats.specs.Lines.{code_part, spot_of}
use Rattle.engine_formats.specs.Masked.{masked}
use Rattle.engine_formats.specs.Paints.{paint_of, paint_start, paint_stop}
use Rattle.file_catalogue.specs.Catalogue.{text_of}
use Rattle.engine_formats.specs.declared.paint.Paint.{Paint}

-- the place of a diagnostic and what it says, `PATH:LINE:COLUMN: error: bad substitution [V6]`; in a color up to what
-- it says
unfoldable pub title_line : Paint → DiagnosticValue → Text
title_line paint d = paint_start paint ++ spot_of d ++ paint_stop paint ++ text_of d.remark ++ code_part d.remark

-- whether a byte continues a UTF-8 character, and so takes no column of its own
abbrev pub continues : ℕ → Bool
continues b = nat_le 128 b && nat_lt b 192

-- The start of the part of a line that is shown, regardless of where characters begin: at most 40 bytes before the
-- column, and no nearer to the line's end than 160.
abbrev pub first_start : Text → ℕ → ℕ
first_start source column = min (column - 1 - 40) (length source - 160)

-- The start of the part of a line that is shown: after the at most three bytes that continue a character which begins
-- before it.
unfoldable pub window_start : Text → ℕ → ℕ
window_start source column =
    let start = first_start source column in
    if start == 0 then 0 else start + prefix_len continues (take 3 (drop start source))

-- the part of a line that is shown: 160 bytes, or as many as there are
abbrev pub window : Text → ℕ → Text
window source start = take 160 (drop start source)

-- a byte of a line as it is shown: a tab as a space, every other control byte as `?`
abbrev pub shown_byte : ℕ → ℕ
shown_byte b = if b == tab then space else if is_control b then question_mark else b

-- a part of a line as a line of its own, indented
unfoldable pub source_line : Text → Text
source_line part = codes "  " ++ map shown_byte part ++ newline ∷ []

-- a mark below a byte, where that takes a column
abbrev pub under : ℕ → ℕ → Text
under mark b = if continues b then [] else mark ∷ []

abbrev pub tilde : ℕ
tilde = 126

-- the marks below a place, in a color and by what is shown before the place and in it: `^` below its first byte, `~` below the others
unfoldable pub mark_line : Paint → Text → Text → Text
mark_line paint before place =
    codes "  " ++ flat_map (under space) before ++ paint_start paint ++ codes "^" ++ flat_map (under tilde) (drop 1 place)
    ++ paint_stop paint ++ newline ∷ []

-- the part of a line around the place between two columns, and the marks below the place, in a color
unfoldable pub source_lines : Paint → Text → ℕ → ℕ → Text
source_lines paint source column end =
    let start = window_start source column in
    let part = window source start in
    let before = column - 1 - start in
    source_line part ++ mark_line paint (take before part) (take (end - column) (drop before part))

-- how to fix what a diagnostic is about, `  = Put a space after the comma.`
unfoldable pub advice_line : DiagnosticValue → Text
advice_line d = codes "  = " ++ advice_for d ++ newline ∷ []

-- a diagnostic whose path is masked
abbrev pub with_masked_path : DiagnosticValue → DiagnosticValue
with_masked_path d = record d { path = masked d.path }

-- the four lines of a diagnostic, in colors or without, whose path and whose line are masked
unfoldable pub human_lines : Bool → DiagnosticValue → Text
human_lines in_color d =
    let paint = paint_of in_color d.remark in
    title_line paint (with_masked_path d) ++ source_lines paint (masked d.source) d.column d.end ++ advice_line d
