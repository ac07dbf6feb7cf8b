-- The sections of a .link file, and their keys.
use Rattle.std.specs.Prelude.{Bool, true, false, List, [], ◌∷◌, map, codes, nat_eq, Option, Some, None, if◌then◌else◌}
use Rattle.std.specs.List.{starts_with}
use Rattle.text_bytes.specs.Text.{Text}
use Rattle.text_tables.specs.Texts.{same_text}
use Rattle.link_files.specs.declared.keys.Form.{Form}
use Rattle.link_files.specs.declared.keys.TheConstants.{ENERGY_KEYS, FUNCTION_KEYS, LINK_KEYS, MATCH_KEYS}
use Rattle.link_files.specs.declared.sections.Section.{Section}
use Rattle.link_files.specs.declared.sections.Section.TheVariants as section

-- the section with a name
abbrev pub section_named : Text → Section
section_named name =
    if same_text name (codes "Match") then section.Match
    else if same_text name (codes "Link") then section.Link
    else if same_text name (codes "SR-IOV") then section.Functions
    else if same_text name (codes "EnergyEfficientEthernet") then section.Energy
    else section.Unknown

-- whether a section is one that is known
abbrev pub is_known : Section → Bool
is_known section.Unknown = false
is_known section = true

-- whether a name is free for others to use: it begins with `X-`
abbrev pub is_extension : Text → Bool
is_extension name = starts_with nat_eq name (codes "X-")

-- the keys of a section, each with the form of its values
abbrev pub keys_of : Section → List (Text × Form)
keys_of section.Before = []
keys_of section.Match = map (λ key. (key.0.now, key.1)) MATCH_KEYS
keys_of section.Link = map (λ key. (key.0.now, key.1)) LINK_KEYS
keys_of section.Functions = map (λ key. (key.0.now, key.1)) FUNCTION_KEYS
keys_of section.Energy = map (λ key. (key.0.now, key.1)) ENERGY_KEYS
keys_of section.Unknown = []

-- the form of a key among these, if it is one of them
abbrev pub form_among : List (Text × Form) → Text → Option Form
form_among [] key = None
form_among (known ∷ keys) key = if same_text key known.0 then Some known.1 else form_among keys key

-- the form that a section has for a key
unfoldable pub form_of : Section → Text → Option Form
form_of section key = form_among (keys_of section) key
