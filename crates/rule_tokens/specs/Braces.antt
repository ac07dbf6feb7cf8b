-- Names in braces.
use Rattle.std.specs.Prelude.{◌==◌, [], ◌∷◌, Option, Some, None, Result, Ok, Err, if◌then◌else◌}
use Rattle.text_bytes.specs.Text.{Text}
use Rattle.text_bytes.specs.Names.{open_brace, close_brace}
use Rattle.text_bytes.specs.Texts.{is_empty, split_once}
use Rattle.rule_tokens.specs.declared.fault.TemplateFault.{TemplateFault}
use Rattle.rule_tokens.specs.declared.fault.TemplateFault.TheVariants.{Brace}

-- what comes before a closing brace, if there is such a brace and this is not empty, and what is left after the brace
abbrev pub closed : Option (Text × Text) → Result (Text × Text) TemplateFault
closed None = Err Brace
closed (Some x) = if is_empty x.0 then Err Brace else Ok x

-- the name in the braces that a text begins with, up to the first closing brace, and what is left after them
unfoldable pub braced : Text → Result (Text × Text) TemplateFault
braced [] = Err Brace
braced (b ∷ t) = if b == open_brace then closed (split_once close_brace t) else Err Brace
