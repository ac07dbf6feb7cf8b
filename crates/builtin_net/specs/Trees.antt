-- Names by the aliases of a device tree.
use Rattle.std.specs.Prelude.{ℕ, ◌==◌, ◌&&◌, not, ◌++◌, codes, decimal, Option, None, option_map, option_and_then, unwrap_or, is_some, if◌then◌else◌}
use Rattle.std.specs.Bool.{then_some}
use Rattle.std.specs.Option.{option_or}
use Rattle.text_bytes.specs.Texts.{following, is_empty}
use Rattle.text_bytes.specs.Text.{Text}
use Rattle.text_tables.specs.Texts.{same_text}
use Rattle.text_tables.specs.Pairs.{Pair}
use Rattle.device_core.specs.Values.{EventValue}
use Rattle.builtin_devices.specs.Files.{file_at, files_below}
use Rattle.builtin_devices.specs.Numbers.{number_in}
use Rattle.builtin_devices.specs.declared.numbers.Base.TheVariants.{AsWritten}
use Rattle.builtin_net.specs.Buses.{parent}
use Rattle.builtin_net.specs.Prefixes.{is_ethernet}
use Rattle.builtin_net.specs.Words.{file_of, first_given, most_number}
use Rattle.builtin_net.specs.declared.prefixes.Prefix.{Prefix}

-- the root of the device tree
abbrev pub tree_root : Text
tree_root = codes "/firmware/devicetree/base"

-- the folder of its aliases
abbrev pub aliases_folder : Text
aliases_folder = codes "/firmware/devicetree/base/aliases"

-- where the link of the event device to its node leads, or else that of the device above
unfoldable pub node_link : EventValue → Option Text
node_link event =
    option_or (file_of event event.device (codes "/of_node")) (option_and_then (λ device. file_of event device (codes "/of_node")) (parent event))

-- what follows `ethernet` in the name of a file, if it is the alias of a node
abbrev pub alias_of : (node : Text) → Pair → Option Text
alias_of node file = if same_text file.1 node then following (codes "ethernet") file.0 else None

-- The number of an alias, 0 if it has none. An alias `ethernet` beside one `ethernet0` has no number, nor has one with the
-- number 0 beside `ethernet`.
unfoldable pub clear_number : EventValue → (following : Text) → Option ℕ
clear_number event following =
    if is_empty following then then_some (not (is_some (file_at event (codes "/firmware/devicetree/base/aliases/ethernet0")))) 0
    else option_and_then (λ n. then_some (not (n == 0 && is_some (file_at event (codes "/firmware/devicetree/base/aliases/ethernet")))) n)
    (number_in AsWritten most_number following)

-- what follows `ethernet` in the name of the first alias of a node
abbrev pub first_alias : EventValue → (node : Text) → Option Text
first_alias event node = first_given (alias_of node) (files_below event aliases_folder)

-- what names say about the node of an interface, which only Ethernet has, by the path of the node within the tree
unfoldable pub by_tree : EventValue → Prefix → Option Text
by_tree event prefix =
    if is_ethernet prefix then option_and_then (λ link.
    option_map (λ n. codes "d" ++ decimal n) (option_and_then (clear_number event) (first_alias event (unwrap_or (following tree_root link) link))))
    (node_link event)
    else None
