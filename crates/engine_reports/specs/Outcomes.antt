-- What a run says: its outcome, as a function of the command line and of the files passed in.
use Rattle.std.specs.Prelude.{◌^◌, Bool, nat_le, if◌then◌else◌, List, [], ◌++◌, Option, Some, None, Result, Ok, Err, codes}
use Rattle.text_bytes.specs.declared.source_file.SourceFile.{SourceFile}
use Rattle.text_bytes.specs.declared.source_file.FileKind.TheVariants.{Hwdb}
use Rattle.file_messages.specs.declared.message.Message.{Message}
use Rattle.text_bytes.specs.Text.{Text}
use Rattle.trie_nodes.specs.declared.entry.Entry.{Entry}
use Rattle.hwdb_core.specs.Sources.{are_few, entries_of, messages_of}
use Rattle.rule_types.specs.Rules.{Rule, tokens_in}
use Rattle.trie_build.specs.declared.index_fault.IndexFault.{IndexFault}
use Rattle.trie_build.specs.Contents.{Contents}
use Rattle.engine_sessions.specs.declared.line.Line.{Line}
use Rattle.engine_reports.specs.Answers.{answer_lines}
use Rattle.engine_sessions.specs.Delivery.{RunOutcome}
use Rattle.engine_reports.specs.FilesRead.{files_read}
use Rattle.engine_reports.specs.Indexes.{entries_in, refused_index}
use Rattle.engine_reports.specs.Messages.{message_lines}

-- what `query` says about the entries of the database and the messages about its files
abbrev pub query_outcome : Line → List Entry → List Message → RunOutcome
query_outcome line entries messages = record {
  output = answer_lines line.sources entries line.modalias.now;
  messages = message_lines messages;
  status = 0;
}

-- what is said about files that hold more than a database may
abbrev pub too_many_entries : RunOutcome
too_many_entries = record { output = []; messages = codes "devdry: hwdb: too many\n"; status = 1 }

-- what is said if a command line asks for something that is not there: the messages, and the line that says so
abbrev pub usage_error : Text → Text → RunOutcome
usage_error messages line = record { output = []; messages = messages ++ line; status = 2 }

-- whether rules have no more tokens than they may
abbrev pub hold_few_tokens : List Rule → Bool
hold_few_tokens rules = nat_le (tokens_in rules) (2 ^ 24)

-- what is said about rules with too many tokens
abbrev pub too_many_rules : RunOutcome
too_many_rules = record { output = []; messages = codes "devdry: rules: too many\n"; status = 1 }

-- what is said about the files of a database, given what to say about its entries and messages
unfoldable pub database_outcome : (List Entry → List Message → RunOutcome) → List SourceFile → RunOutcome
database_outcome say files = if are_few files then say (entries_of files) (messages_of files) else too_many_entries

-- what `query` says about the files passed in, or instead about the outcome of opening an index
abbrev pub query_over : Line → List SourceFile → Option (Result Contents IndexFault) → RunOutcome
query_over line files None = database_outcome (query_outcome line) (files_read Hwdb line files)
query_over line files (Some (Ok contents)) = query_outcome line (entries_in contents) []
query_over line files (Some (Err fault)) = refused_index fault
