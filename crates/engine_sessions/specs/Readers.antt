-- Who reads what is written.
use Rattle.std.specs.Prelude.{Bool, true, false}
use Rattle.engine_sessions.specs.declared.line.Format.{Format}
use Rattle.engine_sessions.specs.declared.line.Format.TheVariants.{Human, HumanInColor}

-- whether messages, and what is said about files and blocks, are for people
abbrev pub is_for_people : Format → Bool
is_for_people Human = true
is_for_people HumanInColor = true
is_for_people _ = false
