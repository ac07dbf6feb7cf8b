-- What a proof unfolds so that what is written computes from a text: the words by which a rules file is read.
use Rattle.std.specs.Prelude.{⊤}
use Rattle.std.specs.Fmt.{digits}
use Rattle.rule_tokens.specs.Braces.{braced}
use Rattle.rule_tokens.specs.Integers.{size_in, marked, signed, signed_size, integer_of, natural_of}
use Rattle.rule_tokens.specs.Number.{word_of, udev_word_of}
use Rattle.rule_tokens.specs.TemplateReading.{result_piece, argument_of, asked_with, udev_asked, first_at, udev_first, udev_pieces, is_faulty, left_of}
use Rattle.rule_tokens.specs.TemplateReading as rule_templates_reading
use Rattle.rule_tokens.specs.Grammar.{prefix_quote}
use Rattle.rule_tokens.specs.Lines.{items_after, items_within, items_left}
use Rattle.rule_tokens.specs.Prefixes.{quoted_at, letters_at}
use Rattle.rule_tokens.specs.Reading.{key_at, closed_at, attribute_at, operator_at, head_at, quote_at, escape_first, piece_at, token_at, scan, escape_at}
use Rattle.rule_tokens.specs.Reading as rule_tokens_reading
use Rattle.rule_tokens.specs.Values.{letter_means, is_number}
use Rattle.rule_types.specs.Builtins.{builtin_of}
use Rattle.rule_types.specs.Names.{key_of, import_type_of, run_type_of}
use Rattle.rule_types.specs.Operators as rule_types_operators
use Rattle.rule_types.specs.Roles as rule_types_roles
use Rattle.rule_types.specs.Topics.{mode_of, topic_of}
use Rattle.rule_types.specs.Jumps.{landings}
use Rattle.rule_parts.specs.Options.{priority_of, level_of, option_of}
use Rattle.rule_parts.specs.Options as rule_parts_options
use Rattle.rule_parts.specs.Parts.{comparison, import_by, part_by, value_part, part_of}
use Rattle.rule_parts.specs.Parts as rule_parts_parts
use Rattle.rule_parts.specs.Refusals.{refusal_of}
use Rattle.rule_parts.specs.Values.{read_choice, read_template, read_option, read_name}
use Rattle.rule_core.specs.Drafts.{draft_of}
use Rattle.rule_core.specs.Effects.{has_effect}
use Rattle.text_bytes.specs.Numbers.{decimal_below}
use Rattle.text_bytes.specs.Texts.{split_once}
use Rattle.text_core.specs.Choices.{choice_by, choice, choice_blind}
use Rattle.text_core.specs.Spell.{bracket, first_item, spell_by, spell, spell_blind}
use Rattle.rule_places.specs.Mended.{mended}

unfoldable pub computed : ⊤
unfolding digits braced size_in marked signed signed_size integer_of natural_of word_of udev_word_of result_piece argument_of
    asked_with udev_asked first_at udev_first rule_templates_reading.pieces_of udev_pieces is_faulty left_of
    prefix_quote items_after items_within items_left quoted_at letters_at key_at closed_at attribute_at operator_at
    head_at quote_at escape_first piece_at rule_tokens_reading.pieces_of token_at scan escape_at letter_means is_number
    builtin_of key_of import_type_of run_type_of rule_types_operators.is_read_as_assign rule_types_roles.compared rule_types_roles.assigned rule_types_roles.role_of
    mode_of topic_of landings rule_parts_options.number_of priority_of level_of option_of comparison
    import_by part_by value_part part_of rule_parts_parts.is_read_as_assign refusal_of read_choice read_template
    read_option read_name draft_of has_effect decimal_below split_once choice_by choice choice_blind bracket first_item
    spell_by spell spell_blind mended
computed = tt
