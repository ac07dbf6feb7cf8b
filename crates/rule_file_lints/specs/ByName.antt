-- What the name of a rules file says about other files: udev evaluates all of them in the order of their names.
use Rattle.std.specs.Prelude.{Bool, true, false, ◌&&◌, nat_eq, List, [], ◌∷◌, codes, filter, map}
use Rattle.std.specs.List.{ends_with}
use Rattle.std.specs.Ordering.{match_ordering}
use Rattle.text_bytes.specs.Insertion.{text_order}
use Rattle.text_bytes.specs.Names.{slash}
use Rattle.text_bytes.specs.Text.{Text}
use Rattle.rule_lints.specs.Texts.{rest_after_last}

-- a file's name without its folders
abbrev pub own_name : Text → Text
own_name path = rest_after_last slash path

-- whether udev reads files of this name
abbrev pub is_read : Text → Bool
is_read name = ends_with nat_eq name (codes ".rules")

-- whether a name comes before another, byte by byte
abbrev pub comes_before : Text → Text → Bool
comes_before name other = match_ordering (text_order name other) true false false

-- whether udev evaluates a file before the one with a name
abbrev pub is_earlier : Text → Text → Bool
is_earlier path other = is_read (own_name path) && comes_before (own_name path) other

-- whether udev evaluates a file after the one with a name
abbrev pub is_later : Text → Text → Bool
is_later path other = is_read (own_name path) && comes_before other (own_name path)

-- families of properties, each with the first file that imports some of it: those of systemd 257, and that of
-- multipath-tools 0.9 for ID_FS_ and ID_PART_, as of 29 November 2026; a family is written as in Imported
abbrev pub first_files : List (Text × Text)
first_files =
    (codes "ID_FS_*", codes "11-dm-mpath.rules")
    ∷ (codes "ID_PART_*", codes "11-dm-mpath.rules")
    ∷ (codes "ID_PATH*", codes "50-udev-default.rules")
    ∷ (codes "ID_USB_*", codes "50-udev-default.rules")
    ∷ (codes "ID_INPUT*", codes "60-input-id.rules")
    ∷ (codes "ID_NET_NAME_*", codes "75-net-description.rules")
    ∷ []

-- the families of these of which a file is before the first file
abbrev pub later_in : List (Text × Text) → Text → List Text
later_in rows path = map (λ row. row.0) (filter (λ row. is_earlier path row.1) rows)

-- the families that only files after this one import
abbrev pub later_families : Text → List Text
later_families path = later_in first_files path
