-- What a builtin's command asks for.
use Rattle.std.specs.Prelude.{if◌then◌else◌, nat_lt, List, [], ◌∷◌, ◌++◌, drop, length, Option, Some, None, codes}
use Rattle.text_bytes.specs.declared.profile.Profile.{Profile}
use Rattle.text_bytes.specs.declared.profile.Profile.TheVariants.{Manual, Udev}
use Rattle.text_bytes.specs.Text.{Text}
use Rattle.text_tables.specs.Texts.{same_text}
use Rattle.rule_types.specs.Builtins as udev
use Rattle.rule_types.specs.declared.builtins.Builtin as known
use Rattle.rule_types.specs.declared.builtins.Builtin.TheVariants as known_as
use Rattle.eval_commands.specs.declared.builtin.Builtin.{Builtin}
use Rattle.eval_commands.specs.declared.builtin.Builtin.TheVariants as asked
use Rattle.eval_commands.specs.declared.hwdb.Hwdb.{Hwdb}
use Rattle.eval_commands.specs.UdevHwdb.{udev_hwdb_of}
use Rattle.eval_commands.specs.Words.{command_words, udev_words}
use Rattle.eval_commands.specs.Hwdb.{hwdb_of}

-- the options of `hwdb`, or that they are not valid
abbrev pub hwdb_asked : Option Hwdb → Builtin
hwdb_asked None = asked.BadArguments
hwdb_asked (Some hwdb) = asked.Hwdb hwdb

-- what words ask for: the first is the builtin's name, empty if there is none
abbrev pub builtin_of_words : List Text → Builtin
builtin_of_words [] = asked.Other []
builtin_of_words (name ∷ words) = if same_text name (codes "hwdb") then hwdb_asked (hwdb_of words) else asked.Other name

-- what a command asks for; an open quote is seen before anything else
abbrev pub builtin_of : Option (List Text) → Builtin
builtin_of None = asked.BadArguments
builtin_of (Some words) = builtin_of_words words

-- what a command asks for, by the builtin of udev that it means; the first word of `hwdb` is its name. What is not
-- computed is answered by a block; a command that means no builtin is kept as it is. `net_setup_link` takes no argument.
abbrev pub builtin_meant : Option known.Builtin → Text → Builtin
builtin_meant None text = asked.Answered text
builtin_meant (Some known_as.Hwdb) text = hwdb_asked (udev_hwdb_of (drop 1 (udev_words text)))
builtin_meant (Some known_as.InputId) text = asked.InputId
builtin_meant (Some known_as.NetId) text = asked.NetId
builtin_meant (Some known_as.NetSetupLink) text = if nat_lt 1 (length (udev_words text)) then asked.Fails else asked.NetSetupLink
builtin_meant (Some known_as.PathId) text = asked.PathId
builtin_meant (Some known_as.UsbId) text = asked.UsbId
builtin_meant (Some known_as.Keyboard) text = asked.SetsNothing
builtin_meant (Some known_as.Kmod) text = asked.SetsNothing
builtin_meant (Some known_as.Uaccess) text = asked.SetsNothing
builtin_meant (Some other) text = asked.Answered (udev.builtin_name other)

-- what a command asks for, by its text: for the manual the first word is the builtin's name, and for udev its beginning
abbrev pub builtin : Profile → Text → Builtin
builtin Manual text = builtin_of (command_words text)
builtin Udev text = builtin_meant (udev.builtin_of text) text

-- the question by which a block answers the command of a builtin
abbrev pub builtin_question : Text → Text
builtin_question command = codes "builtin " ++ command
