-- The colors of diagnostics on a terminal.
use Rattle.std.specs.Prelude.{ℕ, Bool, true, false, [], ◌∷◌, codes}
use Rattle.text_bytes.specs.Text.{Text}
use Rattle.file_catalogue.specs.Catalogue.{severity_of}
use Rattle.engine_formats.specs.declared.paint.Paint.{Paint}
use Rattle.engine_formats.specs.declared.paint.Paint.TheVariants.{Unpainted, Red, Yellow}
use Rattle.file_catalogue.specs.declared.remark.Remark.{Remark}
use Rattle.file_catalogue.specs.declared.remark.Severity.{Severity}
use Rattle.file_catalogue.specs.declared.remark.Severity.TheVariants.{Error, Warning}

-- an error is red, a warning yellow
abbrev pub color_of : Severity → Paint
color_of Error = Red
color_of Warning = Yellow

-- the color of a remark, if it is shown in colors
abbrev pub paint_of : Bool → Remark → Paint
paint_of true remark = color_of (severity_of remark)
paint_of false remark = Unpainted

-- the byte that begins a sequence for a terminal
abbrev pub escape_code : ℕ
escape_code = 27

-- what a terminal takes as the start of a color: bold red and bold yellow
abbrev pub paint_start : Paint → Text
paint_start Unpainted = []
paint_start Red = escape_code ∷ codes "[1;31m"
paint_start Yellow = escape_code ∷ codes "[1;33m"

-- what a terminal takes as its end
abbrev pub paint_stop : Paint → Text
paint_stop Unpainted = []
paint_stop color = escape_code ∷ codes "[0m"
