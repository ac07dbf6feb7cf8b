-- What was found for a device, as entries without their patterns.
use Rattle.std.specs.Prelude.{[], List, map}
use Rattle.trie_nodes.specs.declared.entry.Entry.{Entry}
use Rattle.trie_nodes.specs.declared.found.Found.{Found}

-- a property that was found, as an entry
abbrev pub found_entry : Found → Entry
found_entry f = record { pattern = []; key = f.key.now; value = f.value.now; order = f.order; file = f.file.now; line = f.line }

-- properties that were found, as entries
abbrev pub found_entries : List Found → List Entry
found_entries fs = map found_entry fs

-- an entry without its pattern
abbrev pub stripped : Entry → Entry
stripped e = record { pattern = []; key = e.key; value = e.value; order = e.order; file = e.file; line = e.line }
