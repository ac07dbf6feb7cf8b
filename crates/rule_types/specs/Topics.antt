-- What may be in the braces after each key.
use Rattle.std.specs.Prelude.{ℕ, ◌+◌, ◌-◌, ◌*◌, ◌^◌, Bool, not, ◌&&◌, ◌||◌, codes, [], ◌∷◌, length, Option}
use Rattle.std.specs.Prelude.{Some, None, is_some, option_map, nat_le, nat_lt, nat_eq, if◌then◌else◌}
use Rattle.std.specs.List.{list_all, prefix_len}
use Rattle.std.specs.Cmp.Lexicographic.{pointwise}
use Rattle.text_bytes.specs.Text.{Text}
use Rattle.text_bytes.specs.Names.{digit_zero}
use Rattle.text_bytes.specs.Texts.{is_empty, unindented}
use Rattle.text_bytes.specs.declared.profile.Profile.{Profile}
use Rattle.text_bytes.specs.declared.profile.Profile.TheVariants.{Manual, Udev}
use Rattle.rule_types.specs.declared.keys.Key.{Key}
use Rattle.rule_types.specs.declared.keys.Key.TheVariants as key
use Rattle.rule_types.specs.declared.types.ImportType.{ImportType}
use Rattle.rule_types.specs.declared.types.RunType.{RunType}
use Rattle.rule_types.specs.declared.topics.Topic.{Topic}
use Rattle.rule_types.specs.declared.topics.Topic.TheVariants as topic
use Rattle.rule_types.specs.Names.{import_type_of, run_type_of}

-- a topic that takes no attribute
abbrev pub bare : Option Text → Topic → Option Topic
bare None about = Some about
bare (Some text) about = None

-- the name that an attribute gives: one that is not empty
abbrev pub name_in : Option Text → Option Text
name_in None = None
name_in (Some []) = None
name_in (Some (b ∷ text)) = Some (b ∷ text)

-- whether udev knows a constant of this name
abbrev pub is_constant : Text → Bool
is_constant name = pointwise nat_eq name (codes "arch") || pointwise nat_eq name (codes "virt")

-- the constant that an attribute names: udev knows two, the manual any
abbrev pub constant_in : Profile → Option Text → Option Text
constant_in Manual a = name_in a
constant_in Udev None = None
constant_in Udev (Some name) = if is_constant name then Some name else None

-- the byte `7`
abbrev pub digit_seven : ℕ
digit_seven = 55

-- `0` to `7`
abbrev pub is_octal : ℕ → Bool
is_octal b = nat_le digit_zero b && nat_le b digit_seven

-- 1 to 5 octal digits
abbrev pub is_mask : Text → Bool
is_mask text = nat_le 1 (length text) && (nat_le (length text) 5 && nat_eq (prefix_len is_octal text) (length text))

-- the number that octal digits write after those of n
abbrev pub octal_after : ℕ → Text → ℕ
octal_after n [] = n
octal_after n (b ∷ digits) = octal_after (8 * n + (b - digit_zero)) digits

-- the number that octal digits write, the most significant first
abbrev pub octal : Text → ℕ
octal digits = octal_after 0 digits

-- whether digits are one octal digit or more, and write at most 7777
abbrev pub is_mode : Text → Bool
is_mode digits = (not (is_empty digits) && list_all is_octal digits) && nat_lt (octal digits) (8 ^ 4)

-- the mode of a file as udev reads it: octal digits after blanks
unfoldable pub mode_of : Text → Option ℕ
mode_of text = if is_mode (unindented text) then Some (octal (unindented text)) else None

-- whether a text is a mask: for the manual by the number of its digits, for udev by what they write
abbrev pub is_mask_as : Profile → Text → Bool
is_mask_as Manual text = is_mask text
is_mask_as Udev text = is_some (mode_of text)

-- the mask that an attribute gives, or that there is none without an attribute; None for a wrong mask
abbrev pub mask_in : Profile → Option Text → Option (Option Text)
mask_in profile None = Some None
mask_in profile (Some text) = if is_mask_as profile text then Some (Some text) else None

-- what is in the braces of TEST, as it is taken: for udev empty braces count as none
abbrev pub mask_as : Profile → Option Text → Option Text
mask_as Manual a = a
mask_as Udev a = name_in a

-- what is in the braces of a key, as it is taken
abbrev pub attribute_as : Profile → Key → Option Text → Option Text
attribute_as profile key.Test a = mask_as profile a
attribute_as profile _ a = a

-- the type of IMPORT that an attribute names
abbrev pub import_in : Option Text → Option ImportType
import_in None = None
import_in (Some text) = import_type_of text

-- the type of RUN that an attribute names, or that there is none without an attribute; None for another name
abbrev pub run_type_in : Option Text → Option (Option RunType)
run_type_in None = Some None
run_type_in (Some text) = option_map Some (run_type_of text)

-- what a token with a key and an attribute is about; none if the key does not take that attribute
unfoldable pub topic_of : Profile → Key → Option Text → Option Topic
topic_of profile key.Action a = bare a topic.Action
topic_of profile key.Devpath a = bare a topic.Devpath
topic_of profile key.Kernel a = bare a topic.Kernel
topic_of profile key.Subsystem a = bare a topic.Subsystem
topic_of profile key.Driver a = bare a topic.Driver
topic_of profile key.Kernels a = bare a topic.Kernels
topic_of profile key.Subsystems a = bare a topic.Subsystems
topic_of profile key.Drivers a = bare a topic.Drivers
topic_of profile key.Tags a = bare a topic.Tags
topic_of profile key.Result a = bare a topic.Result
topic_of profile key.Attrs a = option_map topic.Attrs (name_in a)
topic_of profile key.Const a = option_map topic.Const (constant_in profile a)
topic_of profile key.Test a = option_map topic.Test (mask_in profile (mask_as profile a))
topic_of profile key.Program a = bare a topic.Program
topic_of profile key.Import a = option_map topic.Import (import_in a)
topic_of profile key.Name a = bare a topic.Name
topic_of profile key.Symlink a = bare a topic.Symlink
topic_of profile key.Tag a = bare a topic.Tag
topic_of profile key.Attr a = option_map topic.Attr (name_in a)
topic_of profile key.Sysctl a = option_map topic.Sysctl (name_in a)
topic_of profile key.Env a = option_map topic.Env (name_in a)
topic_of profile key.Owner a = bare a topic.Owner
topic_of profile key.Group a = bare a topic.Group
topic_of profile key.Mode a = bare a topic.Mode
topic_of profile key.Seclabel a = option_map topic.Seclabel (name_in a)
topic_of profile key.Run a = option_map topic.Run (run_type_in a)
topic_of profile key.Options a = bare a topic.Options
topic_of profile key.Label a = bare a topic.Label
topic_of profile key.Goto a = bare a topic.Goto
