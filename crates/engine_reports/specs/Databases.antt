-- What a database gives before the first answer to a modalias of an input: the messages, and the entries.
use Rattle.std.specs.Prelude.{if◌then◌else◌, List, [], Option, Some, None, Result, Ok, Err}
use Rattle.text_bytes.specs.declared.source_file.SourceFile.{SourceFile}
use Rattle.text_bytes.specs.declared.source_file.FileKind.TheVariants.{Hwdb}
use Rattle.text_bytes.specs.Text.{Text}
use Rattle.trie_nodes.specs.declared.entry.Entry.{Entry}
use Rattle.hwdb_core.specs.Sources.{are_few, entries_of, messages_of}
use Rattle.trie_build.specs.declared.index_fault.IndexFault.{IndexFault}
use Rattle.trie_build.specs.Contents.{Contents}
use Rattle.engine_sessions.specs.declared.line.Line.{Line}
use Rattle.engine_sessions.specs.Delivery.{RunOutcome}
use Rattle.engine_reports.specs.FilesRead.{files_read}
use Rattle.engine_reports.specs.Indexes.{entries_in, refused_index}
use Rattle.engine_reports.specs.Messages.{message_lines}
use Rattle.engine_reports.specs.Outcomes.{too_many_entries}

-- the lines of the messages about a database, and its entries
pub record DatabaseValue : Type 0 where
  pub messages : Text
  pub entries : List Entry

-- the database of the files, if they hold no more than they may, and otherwise what is said about that
unfoldable pub database_of : List SourceFile → Result DatabaseValue RunOutcome
database_of files = if are_few files then Ok (record { messages = message_lines (messages_of files); entries = entries_of files }) else Err too_many_entries

-- the database of the files passed in, or of an index in their place
abbrev pub database : Line → List SourceFile → Option (Result Contents IndexFault) → Result DatabaseValue RunOutcome
database line files None = database_of (files_read Hwdb line files)
database line files (Some (Ok contents)) = Ok (record { messages = []; entries = entries_in contents })
database line files (Some (Err fault)) = Err (refused_index fault)
