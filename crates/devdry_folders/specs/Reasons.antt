-- Why something can't be read, in words, and what to do about it.
use Rattle.std.specs.Prelude.{◌++◌, codes}
use Rattle.text_bytes.specs.Text.{Text}
use Rattle.text_bytes.specs.Escapes.{escape_text}
use Rattle.devdry_folders.specs.declared.reasons.Reason.{Reason}
use Rattle.devdry_folders.specs.declared.reasons.Reason.TheVariants.{Absent, Forbidden, LinkToNothing, NotFolder, NotRegular, NotUtf8, Failed}

-- why something can't be read, in words
abbrev pub reason_text : Reason → Text
reason_text Absent = codes "no such file"
reason_text Forbidden = codes "permission denied"
reason_text (LinkToNothing target) = codes "link to nothing: " ++ escape_text target
reason_text NotFolder = codes "not a folder"
reason_text NotRegular = codes "not a regular file"
reason_text NotUtf8 = codes "a name is not UTF-8"
reason_text Failed = codes "input/output error"

-- what is wrong, in a sentence
abbrev pub wrong_by : Reason → Text
wrong_by Absent = codes "There is no such file."
wrong_by Forbidden = codes "Permission is denied by the mode of the file, or of a folder on the way to it."
wrong_by (LinkToNothing target) = codes "It is a link, and there is nothing at " ++ escape_text target
wrong_by NotFolder = codes "It is not a folder, and files are read from a folder here."
wrong_by NotRegular = codes "It is not a regular file, but a folder, a pipe, a socket or a device, or it would be below a file."
wrong_by NotUtf8 = codes "It is a folder in which a name is not UTF-8."
wrong_by Failed = codes "The system gives an input/output error, as for links that lead in a circle."

-- what to do about it, in a sentence
abbrev pub advice_on : Reason → Text
advice_on Absent = codes "Check the path, letter by letter and from its first folder on."
advice_on Forbidden = codes "Run devdry as a user who may read it, or change the mode."
advice_on (LinkToNothing target) = codes "Remove the link, or make what it leads to; a link to /dev/null masks a file."
advice_on NotFolder = codes "Remove it, or make a folder in its place."
advice_on NotRegular = codes "Give the path of a file; with --all a folder can be named, whose files are read."
advice_on NotUtf8 = codes "Give the file with this name another one."
advice_on Failed = codes "Look at the path with ls -lL, and at what the kernel says about its disk."
