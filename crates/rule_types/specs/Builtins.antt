-- The builtins of udev, and which one a text asks for.
use Rattle.std.specs.Prelude.{not, List, [], ◌∷◌, Option, nat_eq, codes, take}
use Rattle.std.specs.List.{find, prefix_len, starts_with}
use Rattle.text_bytes.specs.Text.{Text}
use Rattle.text_bytes.specs.Texts.{skip_while}
use Rattle.rule_tokens.specs.Integers.{is_separator}
use Rattle.rule_types.specs.declared.builtins.Builtin.{Builtin}
use Rattle.rule_types.specs.declared.builtins.Builtin.TheVariants as builtin

-- the name of a builtin
abbrev pub builtin_name : Builtin → Text
builtin_name builtin.Blkid = codes "blkid"
builtin_name builtin.Btrfs = codes "btrfs"
builtin_name builtin.Hwdb = codes "hwdb"
builtin_name builtin.InputId = codes "input_id"
builtin_name builtin.Keyboard = codes "keyboard"
builtin_name builtin.Kmod = codes "kmod"
builtin_name builtin.NetDriver = codes "net_driver"
builtin_name builtin.NetId = codes "net_id"
builtin_name builtin.NetSetupLink = codes "net_setup_link"
builtin_name builtin.PathId = codes "path_id"
builtin_name builtin.UsbId = codes "usb_id"
builtin_name builtin.Uaccess = codes "uaccess"

-- all builtins, in the order in which udev looks them up
abbrev pub builtins : List Builtin
builtins =
    builtin.Blkid ∷ builtin.Btrfs ∷ builtin.Hwdb ∷ builtin.InputId ∷ builtin.Keyboard ∷ builtin.Kmod
    ∷ builtin.NetDriver ∷ builtin.NetId ∷ builtin.NetSetupLink ∷ builtin.PathId ∷ builtin.UsbId ∷ builtin.Uaccess ∷ []

-- the first word of a text, empty if the text has none
abbrev pub first_word : Text → Text
first_word text = let words = skip_while is_separator text in take (prefix_len (λ b. not (is_separator b)) words) words

-- the builtin that a text asks for: the first one whose name begins with the first word of the text
unfoldable pub builtin_of : Text → Option Builtin
builtin_of text = find (λ known. starts_with nat_eq (builtin_name known) (first_word text)) builtins
