-- W8, W9, W10 and W26: names that are given to a device, and a name in quotes.
use Rattle.std.specs.Prelude.{Bool, true, false, not, ◌&&◌, nat_eq, if◌then◌else◌, List, Option, Some, None, codes}
use Rattle.std.specs.Bool.{then_some}
use Rattle.std.specs.List.{list_any, slice_split, starts_with}
use Rattle.std.specs.Option.{option_and_then}
use Rattle.text_bytes.specs.Text.{Text}
use Rattle.text_bytes.specs.Names.{double_quote, is_blank}
use Rattle.text_bytes.specs.declared.profile.Profile.{Profile}
use Rattle.text_bytes.specs.declared.profile.Profile.TheVariants.{Manual, Udev}
use Rattle.text_core.specs.Choices.{choice_fits}
use Rattle.rule_tokens.specs.Grammar.{Placed}
use Rattle.rule_types.specs.declared.part.Change.{Change}
use Rattle.rule_types.specs.declared.part.Change.TheVariants as change
use Rattle.rule_types.specs.declared.part.Comparison.{Comparison}
use Rattle.rule_types.specs.declared.part.Part.{Part}
use Rattle.rule_types.specs.declared.part.Part.TheVariants as part
use Rattle.rule_types.specs.declared.roles.PlainKey.{PlainKey}
use Rattle.rule_types.specs.declared.roles.PlainKey.TheVariants as plain
use Rattle.rule_types.specs.declared.roles.Target.TheVariants as target
use Rattle.rule_lints.specs.Parts.{change_of, is_equal}
use Rattle.rule_lints.specs.Texts.{has_byte}
use Rattle.rule_types.specs.Tokens.{WrittenPart}

-- whether a match looks at SUBSYSTEM
abbrev pub is_subsystem : PlainKey → Bool
is_subsystem plain.Subsystem = true
is_subsystem _ = false

-- whether a comparison holds for a text
abbrev pub meets : Text → Comparison → Bool
meets text wanted = if is_equal wanted.operator then choice_fits wanted.choice text else not (choice_fits wanted.choice text)

-- whether a part is a match of SUBSYSTEM that does not hold for `net`
abbrev pub excludes_net : Part → Bool
excludes_net (part.Plain m) = is_subsystem m.key && not (meets (codes "net") m.wanted)
excludes_net _ = false

-- whether a rule holds for no network device
abbrev pub is_outside_net : List WrittenPart → Bool
is_outside_net tokens = list_any (λ w. excludes_net w.part) tokens

-- the text that a change gives to NAME
abbrev pub name_in : Change → Option Text
name_in (change.Text target.Name t) = Some t.written
name_in _ = None

-- the value with which W8 is reported, in a rule that holds for no network device
abbrev pub name_given : Part → Option Text
name_given p = option_and_then name_in (change_of p)

-- the text that a change gives to SYMLINK
abbrev pub links_in : Change → Option Text
links_in (change.Text target.Symlink t) = Some t.written
links_in _ = None

-- the links with which W26 is reported, in a rule for network devices alone: as they have no node, no link is made
abbrev pub link_given : Part → Option Text
link_given p = option_and_then links_in (change_of p)

-- links that do not become what is written, if one of them begins with `/dev/`: udev itself leaves that out
abbrev pub links_by : Profile → Text → Option Text
links_by Manual links = then_some (list_any (λ link. starts_with nat_eq link (codes "/dev/")) (slice_split is_blank links)) links
links_by Udev links = None

-- the value with which W9 is reported
abbrev pub dev_link : Profile → Part → Option Text
dev_link profile p = option_and_then (links_by profile) (link_given p)

-- the text in braces with which W10 is reported: one with a `"`
abbrev pub quoted_name : Placed → Option Text
quoted_name t = option_and_then (λ name. then_some (has_byte double_quote name) name) t.parts.head.attribute
