-- Serves inner proofs only: what each part of a file adds to what was found so far.
use Rattle.std.specs.Prelude.{if◌then◌else◌, List, [], ◌∷◌, length}
use Rattle.text_bytes.specs.Text.{Text}
use Rattle.text_bytes.specs.declared.SourceFile.{SourceFile}
use Rattle.text_core.specs.Spell.{spell}
use Rattle.text_core.specs.declared.item.Item.{Item}
use Rattle.text_bytes.specs.Lines.{NumberedLine}
use Rattle.hwdb_core.specs.Paragraphs.{Cut}
use Rattle.hwdb_core.specs.Properties.{cut_match_bytes, cut_properties, from_line, from_spelled, gives_entry}
use Rattle.hwdb_core.specs.Messages.{about_bare, about_early, about_match, about_property, about_rest, cut_messages}
use Rattle.hwdb_core.specs.Sources.{cuts_of}
use Rattle.hwdb_core.specs.Found.{Found, found_in, only_messages}

-- a property that no match comes before adds its message
abbrev pub early_found : Text → NumberedLine → Found
early_found file l = only_messages (about_early file l ∷ [])

-- matches that no property line follows add a message
abbrev pub bare_found : Text → List NumberedLine → List NumberedLine → Found
bare_found file matches properties = only_messages (about_bare file matches properties)

-- a property adds an entry for a pattern above it
abbrev pub pair_found : Text → List Item → NumberedLine → Found
pair_found file pattern l = record { properties = from_line file pattern l; messages = []; match_bytes = 0 }

-- a match adds an entry for each of its properties, its bytes if it has an entry, or a message if it is not a pattern
abbrev pub match_found : Text → List NumberedLine → NumberedLine → Found
match_found file properties l = record {
  properties = from_spelled file properties (spell l.text);
  messages = about_match file l;
  match_bytes = if gives_entry properties l then length l.text else 0;
}

-- a property with which something is wrong adds a message
abbrev pub property_found : Text → NumberedLine → Found
property_found file l = only_messages (about_property file l)

-- the line after the properties that is not indented adds a message
abbrev pub rest_found : Text → List NumberedLine → Found
rest_found file rest = only_messages (about_rest file rest)

-- all that a paragraph adds
abbrev pub cut_found : Text → Cut → Found
cut_found file c = record { properties = cut_properties file c; messages = cut_messages file c; match_bytes = cut_match_bytes c }

-- all that a file adds
abbrev pub file_found : SourceFile → Found
file_found f = found_in (cut_found f.name) (cuts_of f)
