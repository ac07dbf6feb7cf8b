-- What a proof unfolds so that an answer computes from texts. A word marked `unfoldable` that an answer is made by is named here:
-- where one is not, the proofs of the examples that use it fail, as nothing then says what it is.
use Rattle.std.specs.Prelude.{⊤}
use Rattle.std.specs.Char.{encode_utf8}
use Rattle.std.specs.Fmt.{digits}
use Rattle.std.specs.Str.{chars, is_utf8}
use Rattle.json.specs.Print.{escape_byte, print_from}
use Rattle.rule_tokens.specs.Braces.{braced}
use Rattle.rule_tokens.specs.Integers.{size_in, marked, signed, signed_size, integer_of, natural_of}
use Rattle.rule_tokens.specs.Number.{word_of, udev_word_of}
use Rattle.rule_tokens.specs.TemplateReading.{result_piece, argument_of, asked_with, udev_asked, first_at, udev_first, udev_pieces, is_faulty, left_of}
use Rattle.rule_tokens.specs.TemplateReading as rule_templates_reading
use Rattle.rule_tokens.specs.Grammar.{prefix_quote}
use Rattle.rule_tokens.specs.Lines.{items_after, items_within, items_left}
use Rattle.rule_tokens.specs.Prefixes.{quoted_at, letters_at}
use Rattle.rule_tokens.specs.Reading.{key_at, closed_at, attribute_at, operator_at, head_at, quote_at, escape_first, piece_at, token_at, scan, escape_at}
use Rattle.rule_tokens.specs.Reading as rule_tokens_reading
use Rattle.rule_tokens.specs.Values.{letter_means, is_number}
use Rattle.rule_types.specs.Builtins.{builtin_of}
use Rattle.rule_types.specs.Names.{key_of, import_type_of, run_type_of}
use Rattle.rule_types.specs.Operators as rule_types_operators
use Rattle.rule_types.specs.Roles as rule_types_roles
use Rattle.rule_types.specs.Rules.{rule_tokens}
use Rattle.rule_types.specs.Topics.{mode_of, topic_of}
use Rattle.rule_types.specs.Jumps.{landings}
use Rattle.rule_parts.specs.Options.{priority_of, level_of, option_of}
use Rattle.rule_parts.specs.Options as rule_parts_options
use Rattle.rule_parts.specs.Parts.{comparison, import_by, part_by, value_part, part_of}
use Rattle.rule_parts.specs.Parts as rule_parts_parts
use Rattle.rule_parts.specs.Refusals.{refusal_of}
use Rattle.rule_parts.specs.Values.{read_choice, read_template, read_option, read_name}
use Rattle.rule_core.specs.Drafts.{draft_of}
use Rattle.rule_core.specs.Effects.{has_effect}
use Rattle.rule_core.specs.Ends.{as_read}
use Rattle.rule_core.specs.Rules.{set_of_as}
use Rattle.device_core.specs.Blocks.{texts, pairs, numbers, answers, behind_in, before_device, groups, device, devices, programs, event}
use Rattle.device_core.specs.Faults.{device_above, follows_answer, follows_command, row_fault, has_nul, line_fault, given_below, given_by, block_gives}
use Rattle.device_core.specs.Lines.{kind_of, row_of, begins_answer}
use Rattle.device_core.specs.Parts.{pair_of, number_below, answer_of, is_device_path, is_parent_path}
use Rattle.device_core.specs.Parts as device_core_parts
use Rattle.device_core.specs.RunBlocks.{line_of_excess}
use Rattle.device_core.specs.Notes.{block_notes}
use Rattle.device_core.specs.Tried.{lacks_event}
use Rattle.hwdb_core.specs.Sources.{are_few}
use Rattle.hwdb_core.specs.Lints.{database_lints}
use Rattle.link_files.specs.Booleans.{is_no, is_yes}
use Rattle.link_files.specs.Files.{is_drop_in, link_file, link_files, listed_path}
use Rattle.link_files.specs.Lines.{is_comment, joined_from, stripped}
use Rattle.link_files.specs.Lists.{is_list, last_of, list_of, texts_of, with_texts_of}
use Rattle.link_files.specs.Names.{is_interface_name}
use Rattle.link_files.specs.Settings.{section_of, with_file, with_line}
use Rattle.link_files.specs.Words.{is_whole, split, split_byte, words_of as link_words_of}
use Rattle.link_files.specs.Faults.{file_faults, line_faults, section_after}
use Rattle.link_files.specs.Joined.{joined_after, joined_lines}
use Rattle.link_files.specs.Keys.{form_of as link_form_of}
use Rattle.link_files.specs.Matching.{asks_something, link_faults}
use Rattle.builtin_devices.specs.Numbers.{digits_in, is_below_zero, name_number, number_in, written}
use Rattle.builtin_link.specs.Checks.{address_check, checks_of, kind_checks, kind_check, known_check, name_checks, permanent_address, property_check, text_check}
use Rattle.builtin_link.specs.Globs.{passes}
use Rattle.builtin_link.specs.Hardware.{hardware_name, type_text}
use Rattle.builtin_link.specs.Link.{by_files, net_setup_link}
use Rattle.builtin_link.specs.Machines.{written_holds}
use Rattle.builtin_link.specs.Policies.{given_name, keeps_name, name_of, new_name, policies_count, policies_of, property_of}
use Rattle.text_bytes.specs.Numbers.{decimal_below}
use Rattle.text_bytes.specs.Texts.{split_once}
use Rattle.text_core.specs.Choices.{choice_by, choice, choice_blind}
use Rattle.text_core.specs.Classes.{class_of}
use Rattle.text_core.specs.Elements.{named_class, symbol_len, point, ranged, element_of}
use Rattle.text_core.specs.Fnmatch.{fnmatch_bracket, fnmatch_first, fnmatch_choice}
use Rattle.text_core.specs.Sets.{bits_of, set_of}
use Rattle.text_core.specs.Spell.{bracket, first_item, spell_by, spell, spell_blind}
use Rattle.text_json.specs.Told.{told_text}
use Rattle.text_json.specs.Values.{value_line}
use Rattle.text_bytes.specs.Kernels.{kernel_name}
use Rattle.text_bytes.specs.Safe.{sequence_len, is_reached, is_hex_escape, stays, safe_byte, safe}
use Rattle.text_bytes.specs.Underscores.{underscored}
use Rattle.eval_state.specs.Files.{star_place}
use Rattle.eval_state.specs.Named.{named, named_place}
use Rattle.eval_state.specs.Start.{start_env}
use Rattle.eval_rendering.specs.Names.{name_text}
use Rattle.eval_rendering.specs.Behind.{place_above}
use Rattle.eval_rendering.specs.Paths.{is_unread, led_place}
use Rattle.eval_rendering.specs.Rendering.{render}
use Rattle.eval_rendering.specs.Attributes.{udev_value, is_not_read, udev_subject}
use Rattle.eval_rendering.specs.Holding.{holds}
use Rattle.eval_rendering.specs.Subjects.{holds_at, found_place, is_not_given}
use Rattle.eval_commands.specs.Cmdline.{cmdline_value}
use Rattle.eval_commands.specs.Hwdb.{hwdb_of}
use Rattle.eval_commands.specs.UdevHwdb.{udev_hwdb_of}
use Rattle.eval_commands.specs.Words.{command_words, udev_words}
use Rattle.eval_acts.specs.Acts.{act_step}
use Rattle.eval_commands.specs.LookUpNeeds.{has_modalias}
use Rattle.eval_commands.specs.LookUps.{found}
use Rattle.eval_acts.specs.Printed.{line_property, printed_properties}
use Rattle.eval_acts.specs.RootImports.{file_properties}
use Rattle.eval_acts.specs.Unread.{first_unread}
use Rattle.eval_commands.specs.UsbModalias.{usb_modalias}
use Rattle.eval_assignments.specs.Escapes.{escape_of}
use Rattle.eval_assignments.specs.Steps.{set_step}
use Rattle.eval_rules.specs.Idle.{is_idle_by}
use Rattle.eval_rules.specs.Jumps.{run}
use Rattle.eval_rules.specs.Outcomes.{outcome_of}
use Rattle.eval_rules.specs.Steps.{walk, plain_step, result_step, steps, apply}
use Rattle.eval_effects.specs.Changes.{run_text}
use Rattle.eval_effects.specs.Effects.{effect, ending}
use Rattle.eval_effects.specs.Items.{node_items, items}
use Rattle.eval_effects.specs.Shown.{marked as whole_or_cut, shown, size_note}
use Rattle.eval_sources.specs.Reported.{stages_from}
use Rattle.eval_sources.specs.Sources.{source_of, Reports}
use Rattle.eval_courses.specs.Acts.{property_report, act_report}
use Rattle.eval_courses.specs.Courses.{walk_reports, key_reports, course}
use Rattle.eval_courses.specs.Keys.{wanted_text}
use Rattle.eval_courses.specs.Looks.{plain_report, result_report}
use Rattle.eval_courses.specs.Questions.{rule_asks, rules_ask}
use Rattle.eval_courses.specs.Skipped.{skipped_text}
use Rattle.eval_courses.specs.Upward.{device_report, up_report, partial_report, search_reports}
use Rattle.engine_reports.specs.Messages.{message_line}
use Rattle.rule_places.specs.Files.{placed_findings}
use Rattle.rule_lints.specs.RuleLints.{lints_of_rule}
use Rattle.rule_file_lints.specs.FileLints.{placed_lints}
use Rattle.rule_remarks.specs.Accounts.{given_in}
use Rattle.rule_remarks.specs.Forms.{form_of}
use Rattle.rule_remarks.specs.Matters.{matter_of}
use Rattle.rule_remarks.specs.Pairs.{pair_findings}
use Rattle.rule_remarks.specs.Relations.{beginning, part_ways, parts_from_all, is_same, is_against}
use Rattle.rule_remarks.specs.Said.{said_of}
use Rattle.rule_remarks.specs.Words.{words_of}
use Rattle.rule_remarks.specs.Findings.{findings_as}
use Rattle.rule_remarks.specs.Remarks.{rule_remarks, token_remarks}
use Rattle.rule_remarks.specs.Rules.{file_remarks}
use Rattle.rule_remarks.specs.Values.{value_fault}
use Rattle.engine_reports.specs.Checks as engine_reports_checks
use Rattle.file_catalogue.specs.Catalogue.{remark_of, row_on}
use Rattle.strsim.specs.Edits.{cost_at, next_row, rows}
use Rattle.engine_formats.specs.Lines.{gcc_line, plain_line, spot_of}
use Rattle.engine_formats.specs.Near as engine_formats_near
use Rattle.file_catalogue.specs.Catalogue as file_catalogue_rows
use Rattle.engine_checks.specs.Ignores.{ignores_in}
use Rattle.engine_checks.specs.Links.{links_outcome, links_reported}
use Rattle.engine_checks.specs.Reported.{file_reported}
use Rattle.engine_reports.specs.Outcomes.{database_outcome}
use Rattle.engine_courses.specs.Asked.{unread, unknown_line, unknown}
use Rattle.engine_courses.specs.Named.{alike}
use Rattle.engine_courses.specs.Meant.{meant_file}
use Rattle.engine_courses.specs.Nearest.{least}
use Rattle.engine_courses.specs.WhyLines.{why_line, unread_text, reported_from, why_lines}
use Rattle.engine_courses.specs.Questions.{question_answer}
use Rattle.engine_answers.specs.Answers.{lines_with}
use Rattle.engine_answers.specs.JsonAnswers.{answer_members}
use Rattle.engine_answers.specs.Members as engine_json_members
use Rattle.engine_answers.specs.Items.{node_lines, item_lines}
use Rattle.engine_answers.specs.Lines.{text_line, pair_line, run_line, block_note_line, note_line}
use Rattle.engine_sessions.specs.EventLine.{event_line}
use Rattle.engine_sessions.specs.BlockFaults.{block_line, block_said}
use Rattle.eval_courses.specs.Fates.{fate, fates_from, keys_reached}
use Rattle.eval_unread.specs.Given.{first_looking, first_plain, first_up}
use Rattle.eval_unread.specs.Unread.{rule_unread, rules_unread, unread_place}
use Rattle.engine_courses.specs.Rows.{counted, with_fates}
use Rattle.engine_courses.specs.Unused.{greatest, line_on, lines_by, unmet_text, unused_lines}
use Rattle.example_laws.specs.Answered.{answered_by, answered_by_links}
use Rattle.example_laws.specs.Reported.{sourced, sourced_as_udev, explained, explained_as_udev, asked, asked_in_vain, told_as_object, told_people, unused_by, unused_with_added}

-- the words by which the text of a rules file is read
unfoldable reading_rules : ⊤
unfolding braced size_in marked signed signed_size integer_of natural_of word_of udev_word_of result_piece argument_of
    asked_with udev_asked first_at udev_first rule_templates_reading.pieces_of udev_pieces is_faulty left_of
    prefix_quote items_after items_within items_left quoted_at letters_at key_at closed_at attribute_at operator_at
    head_at quote_at escape_first piece_at rule_tokens_reading.pieces_of token_at scan escape_at letter_means is_number
    builtin_of key_of import_type_of run_type_of rule_types_operators.is_read_as_assign rule_types_roles.compared rule_types_roles.assigned rule_types_roles.role_of
    rule_tokens mode_of topic_of landings rule_parts_options.number_of priority_of level_of option_of comparison
    import_by part_by value_part part_of rule_parts_parts.is_read_as_assign refusal_of read_choice read_template
    read_option read_name draft_of has_effect as_read set_of_as
reading_rules = tt

-- those by which the text of a block is read
unfoldable reading_blocks : ⊤
unfolding texts pairs numbers answers behind_in before_device groups device devices programs event device_above follows_answer follows_command
    row_fault has_nul line_fault given_below given_by block_gives kind_of row_of begins_answer pair_of number_below
    device_core_parts.number_of answer_of is_device_path is_parent_path line_of_excess
reading_blocks = tt

-- those by which the text of a file of a database is read
unfoldable reading_databases : ⊤
unfolding are_few
reading_databases = tt

-- those by which .link files are read, and name interfaces
unfoldable reading_links : ⊤
unfolding is_no is_yes is_drop_in link_file link_files listed_path is_comment joined_from stripped is_list last_of list_of texts_of
    with_texts_of is_interface_name section_of with_file with_line is_whole split split_byte link_words_of
    digits_in is_below_zero name_number number_in written address_check checks_of kind_check kind_checks known_check name_checks written_holds
    permanent_address property_check text_check passes hardware_name type_text by_files net_setup_link given_name
    keeps_name name_of new_name policies_count policies_of property_of
reading_links = tt

-- those of texts and patterns
unfoldable reading_texts : ⊤
unfolding chars is_utf8 encode_utf8 decimal_below split_once choice_by choice choice_blind class_of named_class symbol_len point ranged
    element_of fnmatch_bracket fnmatch_first fnmatch_choice bits_of set_of bracket first_item spell_by spell
    spell_blind kernel_name sequence_len is_reached is_hex_escape stays safe_byte safe underscored
reading_texts = tt

-- those by which rules are evaluated
unfoldable evaluating : ⊤
unfolding star_place named named_place start_env name_text led_place place_above is_unread render udev_value is_not_read udev_subject holds
    holds_at found_place hwdb_of udev_hwdb_of command_words udev_words act_step found has_modalias line_property printed_properties
    file_properties first_unread usb_modalias escape_of set_step is_idle_by run outcome_of walk plain_step result_step steps apply is_not_given
    cmdline_value rule_unread rules_unread unread_place first_plain first_up first_looking
evaluating = tt

-- those by which what happened is told
unfoldable reporting : ⊤
unfolding run_text effect ending node_items items whole_or_cut shown size_note stages_from source_of Reports property_report
    act_report walk_reports key_reports course wanted_text plain_report result_report device_report up_report
    partial_report search_reports skipped_text message_line alike unread unknown_line unknown meant_file engine_formats_near.nearest engine_formats_near.distance rows next_row cost_at least why_line unread_text reported_from
    why_lines question_answer rule_asks rules_ask fate fates_from keys_reached counted with_fates greatest line_on lines_by unmet_text unused_lines
reporting = tt

-- those by which an answer is written
unfoldable writing : ⊤
unfolding escape_byte print_from told_text value_line answer_members engine_json_members.sourced engine_json_members.node_members
    engine_json_members.label_value engine_json_members.item_members engine_json_members.run_value
    engine_json_members.note_value engine_json_members.block_note_value lines_with node_lines item_lines text_line pair_line run_line lacks_event block_notes block_note_line note_line event_line block_line block_said
writing = tt

-- those by which files are checked
unfoldable checking : ⊤
unfolding placed_findings lints_of_rule placed_lints given_in form_of matter_of pair_findings beginning part_ways parts_from_all
    is_same is_against said_of words_of findings_as rule_remarks token_remarks file_remarks value_fault
    engine_reports_checks.summary_line remark_of gcc_line plain_line spot_of row_on file_catalogue_rows.messages file_catalogue_rows.lints ignores_in file_reported
    file_faults line_faults section_after joined_after joined_lines link_form_of asks_something
    link_faults links_outcome links_reported database_lints database_outcome
checking = tt

-- all of these
unfoldable pub computed : ⊤
unfolding digits answered_by answered_by_links sourced sourced_as_udev explained explained_as_udev asked asked_in_vain told_as_object told_people
    unused_by unused_with_added checking reading_rules reading_blocks reading_databases reading_links reading_texts evaluating reporting writing
computed = tt
