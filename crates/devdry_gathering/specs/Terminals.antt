-- What the program shows differently on a terminal than in a file.
use Rattle.std.specs.Prelude.{Bool, true, false}
use Rattle.engine_sessions.specs.declared.line.Color.{Color}
use Rattle.engine_sessions.specs.declared.line.Color.TheVariants.{Auto, Always, Never}
use Rattle.engine_sessions.specs.declared.line.Format.{Format}
use Rattle.engine_sessions.specs.declared.line.Format.TheVariants.{Human, HumanInColor}
use Rattle.engine_sessions.specs.declared.line.Line.{Line}

-- whether colors are shown, by when they are asked for, given whether they would be unasked
abbrev pub has_colors : Bool → Color → Bool
has_colors colors Auto = colors
has_colors colors Always = true
has_colors colors Never = false

-- the format that is shown, given whether colors are: that for people in colors, and any other as it is
abbrev pub shown_format : Bool → Format → Format
shown_format true Human = HumanInColor
shown_format colors format = format

-- a line with the format that is shown, given whether colors would be shown unasked
abbrev pub shown_line : Bool → Line → Line
shown_line colors line = record line { format = shown_format (has_colors colors line.color) line.format }
