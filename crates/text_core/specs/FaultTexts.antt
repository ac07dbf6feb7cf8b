-- What is said about a text that is not a pattern.
use Rattle.std.specs.Prelude.{◌++◌, codes, decimal}
use Rattle.text_bytes.specs.Text.{Text}
use Rattle.text_core.specs.declared.glob_fault.GlobFault.{GlobFault}
use Rattle.text_core.specs.declared.glob_fault.GlobFault.TheVariants.{Class, TooLong, Memory}

-- why a text is not a pattern, in words
abbrev pub fault_text : GlobFault → Text
fault_text (Class at) = codes "class not supported at byte " ++ decimal at
fault_text TooLong = codes "pattern too long"
fault_text Memory = codes "out of memory"
