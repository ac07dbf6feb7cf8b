-- What people are told about a faulty block: what is wrong with the line, and what to do about it.
use Rattle.std.specs.Prelude.{codes}
use Rattle.text_bytes.specs.Text.{Text}
use Rattle.device_core.specs.declared.faults.BlockFaultKind.{BlockFaultKind}
use Rattle.device_core.specs.declared.faults.BlockFaultKind.TheVariants.{NoAction, NoDevice, Letter, Twice, Path, Number, Pair, Nul, TooLong, TooDeep, Memory}

-- what is wrong with a line, in a sentence
abbrev pub wrong_in : BlockFaultKind → Text
wrong_in NoAction = codes "The first line of a block is C: and the action, and this one is not."
wrong_in NoDevice = codes "No P: above this line says which device it is about, or the block ends without one."
wrong_in Letter = codes "The line is not a letter of a block, a colon, one space and a text."
wrong_in Twice = codes "A line above gives this already, and it can be given only once."
wrong_in Path = codes "The path does not begin with a slash, or is not that of a parent of the device above."
wrong_in Number = codes "The device number is not MAJOR:MINOR, or the answer does not begin with an exit status."
wrong_in Pair = codes "A part of the line is missing, or the line that it belongs to."
wrong_in Nul = codes "The line has a NUL byte, which no text of a device has."
wrong_in TooLong = codes "In this line the block gets longer than 65,536 bytes."
wrong_in TooDeep = codes "The line begins the 65th device, and a block has at most 64."
wrong_in Memory = codes "There was no memory for the block."

-- what to do about it, in a sentence
abbrev pub advice_on : BlockFaultKind → Text
advice_on NoAction = codes "Begin the block with a line such as C: add, and end the block before it with an empty line."
advice_on NoDevice = codes "Put P: and the path of the device below C:, above all that is about the device."
advice_on Letter = codes "Write one of the letters in devdry-events(1), and no comment; devdry-capture prints whole blocks."
advice_on Twice = codes "Remove one of the two lines, or put an empty line between two blocks."
advice_on Path = codes "Write paths as below /sys, such as P: /devices/virtual/mem/null, each parent below its child."
advice_on Number = codes "Write a number such as D: 8:0, or an answer such as R: 0 TEXT, and no carriage return after it."
advice_on Pair = codes "Write NAME=TEXT after A:, E: and K:, a text after the other letters, and R: right below its Q:."
advice_on Nul = codes "Remove the byte: of an attribute that has one, udev sees what comes before it."
advice_on TooLong = codes "Leave out attributes that no rule asks for, or put an empty line between two blocks."
advice_on TooDeep = codes "Leave out the devices at the end of the block, which are the farthest parents."
advice_on Memory = codes "Give the program more memory, or make the block shorter."
