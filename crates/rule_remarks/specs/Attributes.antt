-- What is wrong with the name of an attribute in a rule that stays.
use Rattle.std.specs.Prelude.{Bool, false, ◌||◌, [], ◌∷◌, nat_eq, codes}
use Rattle.std.specs.List.{starts_with}
use Rattle.text_bytes.specs.Text.{Text}
use Rattle.rule_tokens.specs.TemplateReading.{is_faulty}
use Rattle.rule_types.specs.declared.keys.Key.{Key}
use Rattle.rule_types.specs.declared.keys.Key.TheVariants as key

-- whether substitutions may be in the attribute of a key, and one of them is invalid
abbrev pub is_bad_name : Key → Text → Bool
is_bad_name key.Attr name = is_faulty name
is_bad_name key.Attrs name = is_faulty name
is_bad_name key.Sysctl name = is_faulty name
is_bad_name _ name = false

-- whether `../` is in a text
abbrev pub has_way_up : Text → Bool
has_way_up [] = false
has_way_up (b ∷ text) = starts_with nat_eq (b ∷ text) (codes "../") || has_way_up text

-- whether a key compares the attributes of the devices of the chain, and the name of its attribute leads from its device to another one
abbrev pub is_elsewhere : Key → Text → Bool
is_elsewhere key.Attrs name = starts_with nat_eq name (codes "device/") || has_way_up name
is_elsewhere _ name = false
