-- Which interfaces have names, and how these begin.
use Rattle.std.specs.Prelude.{ℕ, ◌==◌, Bool, true, false, codes, Option, Some, None, if◌then◌else◌}
use Rattle.text_bytes.specs.Text.{Text}
use Rattle.builtin_devices.specs.Devices.{is_text}
use Rattle.builtin_net.specs.declared.prefixes.Prefix.{Prefix}
use Rattle.builtin_net.specs.declared.prefixes.Prefix.TheVariants.{Ethernet, Wireless, Modem, InfiniBand, SerialLine}

-- how the names of each kind of interface begin
abbrev pub prefix_text : Prefix → Text
prefix_text Ethernet = codes "en"
prefix_text Wireless = codes "wl"
prefix_text Modem = codes "ww"
prefix_text InfiniBand = codes "ib"
prefix_text SerialLine = codes "sl"

-- by the number of the hardware (`type`), and for Ethernet by the type that the kernel reported; interfaces of other
-- hardware have no names
unfoldable pub prefix_of : ℕ → (kind : Option Text) → Option Prefix
prefix_of hardware kind =
    if hardware == 1 then Some (if is_text (codes "wlan") kind then Wireless else if is_text (codes "wwan") kind then Modem else Ethernet)
    else if hardware == 32 then Some InfiniBand
    else if hardware == 256 then Some SerialLine
    else None

-- whether it is InfiniBand
abbrev pub is_infiniband : Prefix → Bool
is_infiniband InfiniBand = true
is_infiniband _ = false

-- whether it is Ethernet with a cable
abbrev pub is_ethernet : Prefix → Bool
is_ethernet Ethernet = true
is_ethernet _ = false
