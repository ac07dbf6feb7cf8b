-- What database files say, taken together.
use Rattle.std.specs.Prelude.{ℕ, ◌+◌, Bool, ◌&&◌, nat_le, IsTrue, List, [], ◌∷◌, length, map, flat_map, sum_by}
use Rattle.file_messages.specs.declared.message.Message.{Message}
use Rattle.text_bytes.specs.declared.SourceFile.{SourceFile}
use Rattle.trie_nodes.specs.Bounds.{max_entries, max_match_bytes, max_name_bytes, max_text_bytes}
use Rattle.trie_nodes.specs.declared.Entry.{Entry}
use Rattle.hwdb_core.specs.Lines.{lines_of}
use Rattle.hwdb_core.specs.Paragraphs.{Cut, cut, paragraphs}
use Rattle.hwdb_core.specs.Properties.{Property, cut_properties, cut_match_bytes}
use Rattle.hwdb_core.specs.Messages.{cut_messages}

-- the paragraphs of a file, each as its parts
abbrev pub cuts_of : SourceFile → List Cut
cuts_of f = map cut (paragraphs (lines_of f.bytes))

-- the properties of all files, in order
abbrev pub properties_of : List SourceFile → List Property
properties_of files = flat_map (λ f. flat_map (cut_properties f.name) (cuts_of f)) files

-- the messages about all files: by file, by line, by code
abbrev pub messages_of : List SourceFile → List Message
messages_of files = flat_map (λ f. flat_map (cut_messages f.name) (cuts_of f)) files

-- a property as an entry, at its place among all
abbrev pub entry_at : ℕ → Property → Entry
entry_at n p = record { pattern = p.pattern; key = p.key; value = p.value; order = n; file = p.file; line = p.line }

-- properties as entries, of which the first has this place
abbrev pub entries_from : ℕ → List Property → List Entry
entries_from n [] = []
entries_from n (p ∷ ps) = entry_at n p ∷ entries_from (n + 1) ps

-- the entries of all files, whose orders are their places, counted from 0
abbrev pub entries_of : List SourceFile → List Entry
entries_of files = entries_from 0 (properties_of files)

-- how many bytes the key and the value of a property have
abbrev pub text_len : Property → ℕ
text_len p = length p.key + length p.value

-- how many bytes those matches of all files have that give an entry
abbrev pub match_bytes_of : List SourceFile → ℕ
match_bytes_of files = sum_by (λ f. sum_by cut_match_bytes (cuts_of f)) files

-- whether files hold no more than a database may: entries, bytes of the matches that give these, of their keys and
-- values, and of the files' names
unfoldable pub are_few : List SourceFile → Bool
are_few files =
    nat_le (length (properties_of files)) max_entries
    && nat_le (match_bytes_of files) max_match_bytes
    && nat_le (sum_by text_len (properties_of files)) max_text_bytes
    && nat_le (sum_by (λ f. length f.name) files) max_name_bytes

-- files that hold no more
abbrev pub WithinBounds : List SourceFile → Type 0
WithinBounds files = IsTrue (are_few files)
