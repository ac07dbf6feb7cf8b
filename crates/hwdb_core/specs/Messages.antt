-- The messages about a paragraph.
use Rattle.std.specs.Prelude.{◌==◌, if◌then◌else◌, List, [], ◌∷◌, ◌++◌, length, take, map, flat_map, Result, Ok, Err}
use Rattle.text_bytes.specs.Text.{Text}
use Rattle.file_messages.specs.Messages.{message}
use Rattle.file_messages.specs.declared.message.Message.{Message}
use Rattle.file_messages.specs.declared.message.MessageKind.{MessageKind}
use Rattle.file_messages.specs.declared.message.MessageKind.TheVariants.{PropertyWithoutMatch, MatchWithoutProperty, UnindentedLine, PatternNotSupported}
use Rattle.text_core.specs.Spell.{spell}
use Rattle.text_core.specs.declared.item.Item.{Item}
use Rattle.text_core.specs.declared.glob_fault.GlobFault.{GlobFault}
use Rattle.text_bytes.specs.Lines.{NumberedLine}
use Rattle.hwdb_core.specs.Paragraphs.{Cut}
use Rattle.hwdb_core.specs.Properties.{Pair, pair_of, property_text}

-- a property that no match comes before
abbrev pub about_early : Text → NumberedLine → Message
about_early file l = message file l.number PropertyWithoutMatch (property_text l)

-- matches that no property line follows, reported at the first
abbrev pub about_bare : Text → List NumberedLine → List NumberedLine → List Message
about_bare file matches properties =
    if length properties == 0 then map (λ l. message file l.number MatchWithoutProperty l.text) (take 1 matches) else []

-- a match that is not a pattern
abbrev pub about_spelled : Text → NumberedLine → Result (List Item) GlobFault → List Message
about_spelled file l (Ok pattern) = []
about_spelled file l (Err fault) = message file l.number PatternNotSupported l.text ∷ []

-- a match, whether properties follow or not
abbrev pub about_match : Text → NumberedLine → List Message
about_match file l = about_spelled file l (spell l.text)

-- what is wrong with a property, if something is
abbrev pub about_pair : Text → NumberedLine → Result Pair MessageKind → List Message
about_pair file l (Ok pair) = []
about_pair file l (Err kind) = message file l.number kind (property_text l) ∷ []

-- a property of matches
abbrev pub about_property : Text → NumberedLine → List Message
about_property file l = about_pair file l (pair_of l)

-- the lines from the next match on, reported at the first
abbrev pub about_rest : Text → List NumberedLine → List Message
about_rest file rest = map (λ l. message file l.number UnindentedLine l.text) (take 1 rest)

-- The messages about a paragraph, part by part: so they are sorted by line, and by code if two are about one line.
abbrev pub cut_messages : Text → Cut → List Message
cut_messages file c =
    map (about_early file) c.early
    ++ (about_bare file c.matches c.properties
    ++ (flat_map (about_match file) c.matches
    ++ (flat_map (about_property file) c.properties
    ++ about_rest file c.rest)))
