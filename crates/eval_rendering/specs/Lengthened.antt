-- Serves proofs alone: a name that is put together part by part.
use Rattle.std.specs.Prelude.{◌++◌, Option, Some, None}
use Rattle.text_bytes.specs.Text.{Text}
use Rattle.eval_rendering.specs.Bounds.{short}

-- a name with more after it; one that is too long stays that
abbrev pub lengthened : Option Text → Text → Option Text
lengthened None more = None
lengthened (Some text) more = short (text ++ more)
