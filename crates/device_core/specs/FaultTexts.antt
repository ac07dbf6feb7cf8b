-- What is said about a faulty block, and about an input from which no more is taken.
use Rattle.std.specs.Prelude.{◌++◌, codes, decimal}
use Rattle.text_bytes.specs.Text.{Text}
use Rattle.device_core.specs.declared.faults.BlockFault.{BlockFault}
use Rattle.device_core.specs.declared.faults.BlockFaultKind.{BlockFaultKind}
use Rattle.device_core.specs.declared.faults.BlockFaultKind.TheVariants.{NoAction, NoDevice, Letter, Twice, Path, Number, Pair, Nul, TooLong, TooDeep, Memory}
use Rattle.device_core.specs.declared.splitter.SplitFault.{SplitFault}
use Rattle.device_core.specs.declared.splitter.SplitFault.TheVariants.{TooLong as TooLongAt, Ended}

-- what is wrong with a line of a block, in words
abbrev pub kind_text : BlockFaultKind → Text
kind_text NoAction = codes "no action"
kind_text NoDevice = codes "no device"
kind_text Letter = codes "unknown line"
kind_text Twice = codes "given twice"
kind_text Path = codes "path"
kind_text Number = codes "number"
kind_text Pair = codes "pair"
kind_text Nul = codes "nul byte"
kind_text TooLong = codes "too long"
kind_text TooDeep = codes "too deep"
kind_text Memory = codes "out of memory"

-- what is wrong with a block, in words: `line L: TEXT`
abbrev pub fault_text : BlockFault → Text
fault_text fault = codes "line " ++ decimal fault.line ++ codes ": " ++ kind_text fault.kind

-- why nothing more is taken, in words
abbrev pub split_text : SplitFault → Text
split_text (TooLongAt line) = codes "line " ++ decimal line ++ codes ": too long"
split_text Ended = codes "input has ended"
