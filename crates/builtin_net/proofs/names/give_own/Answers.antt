use Rattle.std.proofs.Common.{List, [], ◌∷◌, ◌++◌, ◌∙◌, ap, append_assoc, codes}
use Rattle.text_tables.specs.Pairs.{Pair}
use Rattle.builtin_net.specs.Allowed.{interface}
use Rattle.builtin_net.specs.Names.{by_address, by_buses, prefixed}
use Rattle.builtin_net.specs.Prefixes.{prefix_text}
use Rattle.builtin_net.specs.Trees.{by_tree}
use Rattle.builtin_net.proofs.names.give_own.Goals as goal

pub returns : goal.returns
returns c =
    let named : List Pair =
    prefixed (codes "ID_NET_NAME_MAC") (prefix_text c.args.prefix) (by_address c.args.prefix (interface c.args.devices.now c.args.env.now))
    ++ prefixed (codes "ID_NET_NAME_ONBOARD") (prefix_text c.args.prefix) (by_tree c.args.devices.now c.args.prefix)
    ++ by_buses c.args.devices.now (prefix_text c.args.prefix) (interface c.args.devices.now c.args.env.now) in
    c.in_ok-give_plain.ensures
    ∙ ap (λ pairs. pairs ++ named) c.in_ok-add_property.ensures
    ∙ append_assoc c.args.names.now.items ((codes "ID_NET_NAMING_SCHEME", codes "v257") ∷ []) named
