-- What is said about database files that are not read.
use Rattle.std.specs.Prelude.{codes}
use Rattle.text_bytes.specs.Text.{Text}
use Rattle.hwdb_core.specs.declared.fault.HwdbFault.{HwdbFault}
use Rattle.hwdb_core.specs.declared.fault.HwdbFault.TheVariants.{TooMany, Memory}

-- why database files are not read, in words
abbrev pub fault_text : HwdbFault → Text
fault_text TooMany = codes "too many entries"
fault_text Memory = codes "out of memory"
