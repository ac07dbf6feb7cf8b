-- What a proof unfolds so that a session of the language server computes from what a client sends.
use Rattle.std.specs.Prelude.{⊤}
use Rattle.rule_places.specs.Mended.{mended}
use Rattle.lsp_server.specs.Framed.{framed}
use Rattle.lsp_server.specs.Headers.{content_length}
use Rattle.lsp_messages.proofs.OnLiterals.{messages_on_literals}
use Rattle.lsp_messages.specs.Positions.{position_value, range_value}
use Rattle.lsp_messages.specs.Responses.{notification_of, response_of}
use Rattle.lsp_words.specs.Classes.{class_of}
use Rattle.lsp_words.specs.Contexts as contexts
use Rattle.lsp_words.specs.Entries.{fits}
use Rattle.lsp_words.specs.Marks.{mark_kind, marks_in, marks_of}
use Rattle.lsp_words.specs.Meanings.{meaning_in, slot_around}
use Rattle.lsp_words.specs.Rows.{items_in}
use Rattle.lsp_words.specs.Slots.{slot_of}
use Rattle.lsp_words.specs.Symbols.{begun_rule, label_of, matched, record_symbol, symbols_of}
use Rattle.lsp_words.specs.Tables.{entries_of}
use Rattle.lsp_words.specs.Values.{is_split, substitutes}
use Rattle.lsp_answers.specs.Diagnostics.{diagnostic_value, said_of}
use Rattle.lsp_answers.specs.Documents.{document_diagnostics}
use Rattle.lsp_answers.specs.Fixes.{action}
use Rattle.lsp_answers.specs.Actions.{actions}
use Rattle.lsp_answers.specs.Answers.{answer}
use Rattle.lsp_answers.specs.Edits.{formatting, whole_edit}
use Rattle.lsp_answers.specs.Hovers.{found_at, hover, markdown, told_value}
use Rattle.lsp_answers.specs.Labels.{definition, location_value, references}
use Rattle.lsp_answers.specs.Offers as offers
use Rattle.lsp_answers.specs.Queries.{method_of}
use Rattle.lsp_answers.specs.Symbols.{symbol_value, symbols}
use Rattle.lsp_server.specs.Beginning.{begun}
use Rattle.lsp_server.specs.Capabilities as capabilities
use Rattle.lsp_server.specs.Contents.{step}
use Rattle.lsp_server.specs.Documents.{published}
use Rattle.example_laws.specs.Sessions.{session}
use Rattle.example_laws.proofs.Computing.{computed}

-- the words by which a message is read
unfoldable reading_messages : ⊤
unfolding framed content_length messages_on_literals method_of
reading_messages = tt

-- those by which a document is looked at
unfoldable looking : ⊤
unfolding class_of contexts.bounds_for contexts.next_move contexts.step fits mark_kind marks_in marks_of meaning_in slot_around items_in slot_of
    begun_rule label_of matched record_symbol symbols_of entries_of is_split substitutes mended document_diagnostics
looking = tt

-- those by which a server replies
unfoldable replying : ⊤
unfolding position_value range_value notification_of response_of diagnostic_value said_of action actions answer formatting whole_edit found_at
    hover markdown told_value definition location_value references offers.name_edit offers.offered_name offers.completion symbol_value symbols
    begun capabilities.synchronization capabilities.completion capabilities.code_actions capabilities.capabilities capabilities.server_info
    capabilities.initialized step published
replying = tt

-- all of these
unfoldable pub spoken : ⊤
unfolding session computed reading_messages looking replying
spoken = tt
