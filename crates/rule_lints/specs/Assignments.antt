-- W20, W21 and W23: lists that are replaced, values that were meant to be compared, and units that are wanted by devices
-- that systemd does not see.
use Rattle.std.specs.Prelude.{Bool, true, false, not, ◌&&◌, ◌||◌, List, [], ◌∷◌, codes}
use Rattle.std.specs.List.{list_any}
use Rattle.text_bytes.specs.Texts.{is_empty}
use Rattle.text_bytes.specs.Text.{Text}
use Rattle.text_tables.specs.Texts.{is_among, same_text}
use Rattle.rule_types.specs.Tokens.{WrittenPart}
use Rattle.rule_tokens.specs.Grammar.{Placed, compares}
use Rattle.rule_tokens.specs.declared.kinds.Operator.{Operator}
use Rattle.rule_tokens.specs.declared.kinds.Operator.TheVariants as op
use Rattle.rule_lints.specs.Tables.{changing_keys, fixed_attributes, telling_properties, untagged_subsystems}
use Rattle.rule_lints.specs.ValueTexts.{has_name}
use Rattle.rule_lints.specs.Values.{is_constant}

-- whether an operator gives a value in place of all that was there, and lets others follow
abbrev pub is_assign : Operator → Bool
is_assign op.Assign = true
is_assign _ = false

-- whether an operator compares by `==`
abbrev pub is_equal : Operator → Bool
is_equal op.Equal = true
is_equal _ = false

-- Whether W20 is reported for a token: it takes away what earlier rules added to RUN, SYMLINK or TAG. An empty value is a
-- way to do that, and `:=` says that no other is wanted.
abbrev pub replaces_list : Placed → Bool
replaces_list t =
    is_among (codes "RUN" ∷ codes "SYMLINK" ∷ codes "TAG" ∷ []) t.parts.head.key
    && (is_assign t.parts.head.operator && not (is_empty t.parts.value))

-- whether a token changes its device, its node or its names, or runs a command
abbrev pub changes_device : Placed → Bool
changes_device t = is_among changing_keys t.parts.head.key && not (compares t.parts.head.operator)

-- Whether W21 is reported for a token of a rule, which changes its device or does not. An attribute that can't be written
-- gets a value; or a property that tells devices apart gets a constant, and the rule goes on to change the device.
abbrev pub is_meant_to_match : Bool → Placed → Bool
is_meant_to_match changes t =
    is_assign t.parts.head.operator
    && (has_name (codes "ATTR") fixed_attributes t || (changes && (has_name (codes "ENV") telling_properties t && is_constant t.parts.value)))

-- whether W23 is reported for a token of a rule whose device systemd does not see: it wants a unit (systemd.device(5))
abbrev pub wants_unit : Placed → Bool
wants_unit t = has_name (codes "ENV") (codes "SYSTEMD_WANTS" ∷ codes "SYSTEMD_USER_WANTS" ∷ []) t && not (compares t.parts.head.operator)

-- whether a token holds only for a device that systemd's own rules do not tag
abbrev pub is_untagged : Placed → Bool
is_untagged t = same_text t.parts.head.key (codes "SUBSYSTEM") && (is_equal t.parts.head.operator && is_among untagged_subsystems t.parts.value)

-- whether one of a rule's tokens has one of these keys
abbrev pub has_key : List Text → List WrittenPart → Bool
has_key keys tokens = list_any (λ w. is_among keys w.token.parts.head.key) tokens

-- whether a rule gives tags, or compares them
abbrev pub is_about_tags : List WrittenPart → Bool
is_about_tags tokens = has_key (codes "TAG" ∷ codes "TAGS" ∷ []) tokens
