-- The commands of a rule, and what in them is meant for a shell.
use Rattle.std.specs.Prelude.{ℕ, Bool, true, false, not, ◌&&◌, ◌||◌, ◌==◌, nat_eq, if◌then◌else◌, List, [], ◌∷◌, Option, Some, None, is_none, take, codes}
use Rattle.std.specs.Bool.{then_some}
use Rattle.std.specs.List.{ends_with, prefix_len}
use Rattle.std.specs.Option.{option_and_then}
use Rattle.text_bytes.specs.Text.{Text}
use Rattle.text_bytes.specs.Names.{bar, double_quote, equals, is_blank, single_quote, slash}
use Rattle.text_bytes.specs.Texts.{begins_with, unindented, up_to}
use Rattle.rule_types.specs.declared.part.Change.{Change}
use Rattle.rule_types.specs.declared.part.Change.TheVariants as change
use Rattle.rule_types.specs.declared.part.ActKind.{ActKind}
use Rattle.rule_types.specs.declared.part.ActKind.TheVariants as act_kind
use Rattle.rule_types.specs.declared.part.Import.TheVariants as import
use Rattle.rule_types.specs.declared.part.Part.{Part}
use Rattle.rule_types.specs.declared.part.Part.TheVariants as part
use Rattle.rule_types.specs.declared.types.RunType.TheVariants as run_of
use Rattle.text_tables.specs.Texts.{is_among}
use Rattle.rule_lints.specs.Parts.{change_of}
use Rattle.rule_lints.specs.Texts.{has_byte, rest_after_last}

-- the byte `&`
abbrev pub ampersand : ℕ
ampersand = 38

-- the byte `;`
abbrev pub semicolon : ℕ
semicolon = 59

-- the byte `~`
abbrev pub tilde : ℕ
tilde = 126

-- the byte `>`
abbrev pub greater : ℕ
greater = 62

-- the program that RUN runs in the end, with its words
abbrev pub run_command : Change → Option Text
run_command (change.Run None t) = Some t.written
run_command (change.Run (Some run_of.Program) t) = Some t.written
run_command _ = None

-- the program that PROGRAM or IMPORT runs, with its words
abbrev pub asked_command : ActKind → Option Text
asked_command (act_kind.Program t) = Some t.written
asked_command (act_kind.Import (import.Program t)) = Some t.written
asked_command _ = None

-- the program that a part of a rule runs, with its words
abbrev pub command_of : Part → Option Text
command_of (part.Set a) = run_command a.change
command_of (part.Act a) = asked_command a.kind
command_of _ = None

-- a byte that begins and ends a quoted part
abbrev pub is_quote : ℕ → Bool
is_quote b = b == single_quote || b == double_quote

-- the quote that is open after a byte, given the one that is open before it
abbrev pub open_after : Option ℕ → ℕ → Option ℕ
open_after None b = if is_quote b then Some b else None
open_after (Some quote) b = if b == quote then None else Some quote

-- whether a word ends before this text: it begins with a space or a tab, or is empty
abbrev pub is_word_end : Text → Bool
is_word_end [] = true
is_word_end (b ∷ text) = is_blank b

-- whether a byte is a sign of the shell before this text: `|`, `;` or `&` at the end of a word, `>` before its target, which is
-- the end of a word, a path, a `&` or another `>`, or `&` and another `&`
abbrev pub is_shell_sign : ℕ → Text → Bool
is_shell_sign b text =
    ((b == bar || (b == semicolon || b == ampersand)) && is_word_end text)
    || ((b == greater && (is_word_end text || (begins_with slash text || (begins_with ampersand text || begins_with greater text))))
    || (b == ampersand && begins_with ampersand text))

-- whether a text has a sign of the shell outside of quotes, if this quote is open before it
abbrev pub has_sign_after : Option ℕ → Text → Bool
has_sign_after opened [] = false
has_sign_after opened (b ∷ text) = (is_none opened && is_shell_sign b text) || has_sign_after (open_after opened b) text

-- whether a command has a sign of the shell outside of quotes
abbrev pub has_shell_sign : Text → Bool
has_shell_sign command = has_sign_after None command

-- the first word of a command
abbrev pub first_word : Text → Text
first_word command = let words = unindented command in take (prefix_len (λ b. not (is_blank b)) words) words

-- the name of the program of a command: what follows the last `/` of its first word
abbrev pub program_name : Text → Text
program_name command = rest_after_last slash (first_word command)

-- the shells
abbrev pub shells : List Text
shells = codes "sh" ∷ codes "ash" ∷ codes "bash" ∷ codes "dash" ∷ codes "ksh" ∷ codes "zsh" ∷ []

-- a command, if it has a sign of the shell, or begins as only one of the shell does, with a home folder or a variable that is
-- set, and no shell runs it
abbrev pub lacks_shell : Text → Option Text
lacks_shell command =
    let word = first_word command in
    then_some
    ((has_shell_sign command || (begins_with tilde word || has_byte equals (up_to slash word))) && not (is_among shells (program_name command))) command

-- the value with which W2 is reported
abbrev pub shell_command : Part → Option Text
shell_command p = option_and_then lacks_shell (command_of p)

-- commands that are in /usr/bin or /usr/sbin, and not in /usr/lib/udev, where udev looks for a program without a path
abbrev pub commands_elsewhere : List Text
commands_elsewhere =
    codes "bash" ∷ codes "chgrp" ∷ codes "chmod" ∷ codes "chown" ∷ codes "cp" ∷ codes "date" ∷ codes "echo" ∷ codes "ethtool"
    ∷ codes "ifconfig" ∷ codes "ip" ∷ codes "iw" ∷ codes "kill" ∷ codes "ln" ∷ codes "logger" ∷ codes "mkdir"
    ∷ codes "modprobe" ∷ codes "mount" ∷ codes "mv" ∷ codes "nmcli" ∷ codes "python" ∷ codes "python3" ∷ codes "rm"
    ∷ codes "rmmod" ∷ codes "setfacl" ∷ codes "sh" ∷ codes "sleep" ∷ codes "su" ∷ codes "sudo" ∷ codes "systemctl"
    ∷ codes "systemd-run" ∷ codes "sysctl" ∷ codes "tee" ∷ codes "touch" ∷ codes "udevadm" ∷ codes "umount" ∷ []

-- whether a word is the name of a script, without a path
abbrev pub is_bare_script : Text → Bool
is_bare_script word = not (has_byte slash word) && (ends_with nat_eq word (codes ".sh") || ends_with nat_eq word (codes ".py"))

-- a command, if its first word is the name of one that is elsewhere, or of a script
abbrev pub lacks_path : Text → Option Text
lacks_path command = then_some (is_among commands_elsewhere (first_word command) || is_bare_script (first_word command)) command

-- the value with which W3 is reported
abbrev pub relative_program : Part → Option Text
relative_program p = option_and_then lacks_path (option_and_then run_command (change_of p))

-- programs that can't do their work in the sandbox where udev runs commands: those that mount and unmount, and those
-- that use the network (udev(7), "RUN")
abbrev pub forbidden_programs : List Text
forbidden_programs =
    codes "curl" ∷ codes "fusermount" ∷ codes "fusermount3" ∷ codes "mount" ∷ codes "ntfs-3g" ∷ codes "ping" ∷ codes "rsync" ∷ codes "scp"
    ∷ codes "ssh" ∷ codes "sshfs" ∷ codes "umount" ∷ codes "wget" ∷ []

-- a command, if its program is one of these
abbrev pub is_forbidden : Text → Option Text
is_forbidden command = then_some (is_among forbidden_programs (program_name command)) command

-- the value with which W24 is reported
abbrev pub forbidden_command : Part → Option Text
forbidden_command p = option_and_then is_forbidden (command_of p)
