-- Properties that a rule compares after it imports them in the same rule: matches of the event are made before imports.
use Rattle.std.specs.Prelude.{Bool, false, ◌&&◌, ◌||◌, if◌then◌else◌, List, [], ◌∷◌, ◌++◌, codes, Option, Some, None}
use Rattle.text_bytes.specs.Text.{Text}
use Rattle.text_tables.specs.Texts.{is_among, same_text}
use Rattle.rule_types.specs.Spots.{spot_at_key}
use Rattle.rule_types.specs.Tokens.{WrittenPart}
use Rattle.rule_types.specs.declared.spot.Spot.{Spot}
use Rattle.rule_lints.specs.declared.lint.Lint.{Lint}
use Rattle.rule_lints.specs.declared.lint.Lint.TheVariants.{ImportedBelow}
use Rattle.rule_lints.specs.ValueTexts.{begins_with_one}
use Rattle.rule_file_lints.specs.Imported.{is_given, wanted_in}

-- properties that the kernel sends with an event, or that udev sets before any rule: lib/kobject_uevent.c and the
-- subsystems of Linux 6.12, and udev of systemd 257, as of 28 November 2026
abbrev pub early_properties : List Text
early_properties =
    codes "ACTION" ∷ codes "DEVNAME" ∷ codes "DEVPATH" ∷ codes "DEVTYPE" ∷ codes "DISKSEQ" ∷ codes "DISK_EJECT_REQUEST"
    ∷ codes "DISK_MEDIA_CHANGE" ∷ codes "DRIVER" ∷ codes "EV" ∷ codes "HID_ID" ∷ codes "HID_NAME" ∷ codes "HID_PHYS" ∷ codes "HID_UNIQ"
    ∷ codes "IFINDEX" ∷ codes "INTERFACE" ∷ codes "MAJOR" ∷ codes "MINOR" ∷ codes "MODALIAS" ∷ codes "NAME" ∷ codes "PARTN"
    ∷ codes "PARTNAME" ∷ codes "PCI_CLASS" ∷ codes "PCI_ID" ∷ codes "PCI_SLOT_NAME" ∷ codes "PCI_SUBSYS_ID" ∷ codes "PHYS" ∷ codes "PRODUCT"
    ∷ codes "SEQNUM" ∷ codes "SUBSYSTEM" ∷ codes "TAGS" ∷ codes "CURRENT_TAGS" ∷ codes "TYPE" ∷ codes "UNIQ" ∷ []

-- what the names of properties begin with that udev's own files set, and those of device mapper, multiple disks and others
-- with rules of their own
abbrev pub shared_families : List Text
shared_families =
    codes "." ∷ codes "DM_" ∷ codes "ID_" ∷ codes "LVM_" ∷ codes "MD_" ∷ codes "NM_" ∷ codes "SYSTEMD_" ∷ codes "UDISKS_" ∷ []

-- whether a property may be given before the rules of a file
abbrev pub is_early : Text → Bool
is_early name = is_among early_properties name || begins_with_one shared_families name

-- whether what an IMPORT has in braces is a program or a file
abbrev pub is_open : Option Text → Bool
is_open None = false
is_open (Some name) = is_among (codes "program" ∷ codes "file" ∷ []) name

-- whether a token imports properties of any names
abbrev pub imports_any : WrittenPart → Bool
imports_any w = same_text w.token.parts.head.key (codes "IMPORT") && is_open w.token.parts.head.attribute

-- a match that asks for a property, if nothing before the rule gives it
abbrev pub late_spots : List Text → WrittenPart → Option Text → List (Spot Lint)
late_spots given w None = []
late_spots given w (Some name) = if is_given given name || is_early name then [] else spot_at_key ImportedBelow name w.token ∷ []

-- the matches of a rule that are written after an import of any names, if nothing before the rule gives the properties
-- that they ask for; such an import was there or was not
abbrev pub imported_beside : List Text → Bool → List WrittenPart → List (Spot Lint)
imported_beside given imported [] = []
imported_beside given imported (w ∷ tokens) =
    (if imported then late_spots given w (wanted_in w.part) else []) ++ imported_beside given (imported || imports_any w) tokens
