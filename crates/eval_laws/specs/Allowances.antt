-- How much each part of a rule may add to an answer.
use Rattle.std.specs.Prelude.{ℕ, ◌+◌, ◌*◌, List, length, Option, None}
use Rattle.std.specs.List.{sum_by}
use Rattle.text_bytes.specs.declared.profile.Profile.{Profile}
use Rattle.text_bytes.specs.declared.profile.Profile.TheVariants.{Manual, Udev}
use Rattle.text_bytes.specs.Text.{Text}
use Rattle.trie_nodes.specs.declared.entry.Entry.{Entry}
use Rattle.rule_types.specs.Written.{attribute_of_plain, attribute_of_up}
use Rattle.rule_types.specs.WrittenParts.{attribute_of_act_kind, attribute_of_change}
use Rattle.rule_types.specs.declared.roles.Target.{Target}
use Rattle.rule_types.specs.declared.roles.Target.TheVariants as target
use Rattle.rule_types.specs.declared.part.Assignment.{Assignment}
use Rattle.rule_types.specs.declared.part.Change.{Change}
use Rattle.rule_types.specs.declared.part.Change.TheVariants as change
use Rattle.rule_types.specs.declared.part.ActKind.{ActKind}
use Rattle.rule_types.specs.declared.part.ActKind.TheVariants as act_kind
use Rattle.rule_types.specs.Rules.{Rule}
use Rattle.eval_acts.specs.BuiltinRuns.{most_set}
use Rattle.eval_laws.specs.DeviceWeights.{text_weight}
use Rattle.eval_state.specs.Texts.{or_empty}

-- the most that a part adds besides its attribute and the name of its file
abbrev pub most_added : ℕ
most_added = 32896

-- an entry of the database: its key and its value
abbrev pub entry_weight : Entry → ℕ
entry_weight e = text_weight e.key + text_weight e.value

-- all entries
abbrev pub entries_weight : List Entry → ℕ
entries_weight entries = sum_by entry_weight entries

-- a part of a rule, by the attribute that it is written with
abbrev pub part_allowance : Rule → Option Text → ℕ
part_allowance r attribute = most_added + length (or_empty attribute) + length r.file

-- what a builtin of udev may set, or is taken of a file, and the name of the rule's file in udev's second note
abbrev pub builtin_allowance : Profile → Rule → ℕ
builtin_allowance Manual r = 0
builtin_allowance Udev r = most_set + length r.file

-- what IMPORT may add in addition, by a profile and for a block of so many bytes
abbrev pub import_allowance : Profile → ℕ → List Entry → Rule → ActKind → ℕ
import_allowance profile len entries r (act_kind.Import i) = 2 * len + entries_weight entries + builtin_allowance profile r
import_allowance profile len entries r (act_kind.Test mask t) = 0
import_allowance profile len entries r (act_kind.Program t) = 0

-- something that is done
abbrev pub act_kind_allowance : Profile → ℕ → List Entry → Rule → ActKind → ℕ
act_kind_allowance profile len entries r d = part_allowance r (attribute_of_act_kind d) + import_allowance profile len entries r d

-- what udev may add in addition if a text is assigned, by the text as it is written, for a block of so many bytes: a
-- label that is rendered to nothing is as it is written, and the name of an attribute may come from the block
abbrev pub udev_allowance : ℕ → Target → Text → ℕ
udev_allowance len (target.Seclabel name) written = length written
udev_allowance len (target.Attr name) written = len
udev_allowance len about written = 0

-- the same by a profile
abbrev pub text_allowance : Profile → ℕ → Target → Text → ℕ
text_allowance Manual len about written = 0
text_allowance Udev len about written = udev_allowance len about written

-- what an assignment may add in addition
abbrev pub change_allowance : Profile → ℕ → Change → ℕ
change_allowance profile len (change.Option known) = 0
change_allowance profile len (change.Text about template) = text_allowance profile len about template.written
change_allowance profile len (change.Run braces template) = 0

-- an assignment
abbrev pub set_allowance : Profile → ℕ → Rule → Assignment → ℕ
set_allowance profile len r a = part_allowance r (attribute_of_change a.change) + change_allowance profile len a.change

-- a rule: all of its parts; its label and its jump add nothing
unfoldable pub rule_allowance : Profile → ℕ → List Entry → Rule → ℕ
rule_allowance profile len entries r =
    sum_by (λ m. part_allowance r (attribute_of_plain m.key)) r.plain
    + sum_by (λ m. part_allowance r (attribute_of_up m.key)) r.up
    + sum_by (λ act. act_kind_allowance profile len entries r act.kind) r.acts
    + sum_by (λ comparison. part_allowance r None) r.results
    + sum_by (set_allowance profile len r) r.sets

-- all rules
abbrev pub rules_allowance : Profile → ℕ → List Entry → List Rule → ℕ
rules_allowance profile len entries rules = sum_by (rule_allowance profile len entries) rules

-- the notes on attributes that the matches of one device and the assignments of a rule ask for and that are not read: at most one for each;
-- and that on a block without attributes
abbrev pub unread_allowance : Rule → ℕ
unread_allowance r = length r.file + 280 + (sum_by (λ part. length r.file + 280) r.up + sum_by (λ a. length r.file + 280) r.sets)

-- the same by a profile
abbrev pub notes_allowance : Profile → List Rule → ℕ
notes_allowance Manual rules = 0
notes_allowance Udev rules = sum_by unread_allowance rules

-- the most that an answer weighs: what the event brings, with the kernel's mode, and what the rules may add
abbrev pub most_weight : Profile → ℕ → List Entry → List Rule → ℕ
most_weight profile len entries rules = 4 * len + 133 + rules_allowance profile len entries rules + notes_allowance profile rules
