-- What the definitions refuse of words that clap takes.
use Rattle.std.proofs.Common.{◌≡◌, refl, List, [], ◌∷◌, Option, Some, None, codes, option_map}
use Rattle.clap.specs.Walk.{Text}
use Rattle.clap.specs.Simple.{subcommand_of}
use Rattle.clap.proofs.OnLiterals.{clap_on_literals}
use Rattle.devdry_words.specs.Commands.{devdry}
use Rattle.devdry_words.specs.declared.refusals.Refusal.{Refusal}
use Rattle.devdry_words.specs.declared.refusals.Refusal.TheVariants.{TwoDatabases, LinksAsRules, AddedToNamed, AddedToRules, AddedToIndex, TwoAnswers, LinesBesideJson, InputTwice, UnreadInput, EmptyRoot, EmptySide, NoUdev, UnknownFormat, NoAnswerFormat, UnknownColor, UnknownPart, NotRules, NotFile}
use Rattle.file_catalogue.specs.Catalogue.{all_codes, lints, messages, remark_of}
use Rattle.devdry_words.specs.Refusals.{refusal_of, unknown_part}
use Rattle.file_catalogue.specs.Ignored.{is_class}

-- what is refused of words that clap takes
abbrev refused : List Text → Option (Option Refusal)
refused words = option_map (λ p. refusal_of p.0 p.1) (subcommand_of devdry words)

two_databases_are_refused : refused (codes "query" ∷ codes "--index=a" ∷ codes "m" ∷ codes "b" ∷ []) ≡ Some (Some TwoDatabases)
unfolding clap_on_literals devdry
two_databases_are_refused = refl

questions_with_sources_are_refused : refused (codes "events" ∷ codes "--questions" ∷ codes "--sources" ∷ []) ≡ Some (Some TwoAnswers)
unfolding clap_on_literals devdry
questions_with_sources_are_refused = refl

questions_with_a_reason_are_refused : refused (codes "events" ∷ codes "--why=a.rules" ∷ codes "--questions" ∷ []) ≡ Some (Some TwoAnswers)
unfolding clap_on_literals devdry
questions_with_a_reason_are_refused = refl

questions_with_unused_rules_are_refused : refused (codes "events" ∷ codes "--unused" ∷ codes "--questions" ∷ []) ≡ Some (Some TwoAnswers)
unfolding clap_on_literals devdry
questions_with_unused_rules_are_refused = refl

an_answer_for_gcc_is_refused : refused (codes "events" ∷ codes "--format" ∷ codes "gcc" ∷ []) ≡ Some (Some NoAnswerFormat)
unfolding clap_on_literals devdry
an_answer_for_gcc_is_refused = refl

unknown_format_of_compare_is_refused : refused (codes "compare" ∷ codes "--format=xml" ∷ codes "/old" ∷ codes "/new" ∷ []) ≡ Some (Some NoAnswerFormat)
unfolding clap_on_literals devdry
unknown_format_of_compare_is_refused = refl

unused_rules_beside_json_are_refused : refused (codes "events" ∷ codes "--unused" ∷ codes "--format=json" ∷ []) ≡ Some (Some LinesBesideJson)
unfolding clap_on_literals devdry
unused_rules_beside_json_are_refused = refl

questions_beside_json_are_refused : refused (codes "events" ∷ codes "--questions" ∷ codes "--format=json" ∷ []) ≡ Some (Some LinesBesideJson)
unfolding clap_on_literals devdry
questions_beside_json_are_refused = refl

links_of_a_strict_run_are_refused : refused (codes "verify" ∷ codes "--strict" ∷ codes "--links" ∷ []) ≡ Some (Some LinksAsRules)
unfolding clap_on_literals devdry
links_of_a_strict_run_are_refused = refl

links_with_groups_are_refused : refused (codes "verify" ∷ codes "--links" ∷ codes "--groups=group" ∷ []) ≡ Some (Some LinksAsRules)
unfolding clap_on_literals devdry
links_with_groups_are_refused = refl

blocks_beside_the_input_as_rules_are_refused : refused (codes "events" ∷ codes "a.rules" ∷ codes "-" ∷ []) ≡ Some (Some InputTwice)
unfolding clap_on_literals devdry
blocks_beside_the_input_as_rules_are_refused = refl

modaliases_beside_the_input_as_database_are_refused : refused (codes "query" ∷ codes "-" ∷ codes "-" ∷ []) ≡ Some (Some InputTwice)
unfolding clap_on_literals devdry
modaliases_beside_the_input_as_database_are_refused = refl

a_name_of_the_input_without_it_is_refused : refused (codes "verify" ∷ codes "--stdin-name=a.rules" ∷ codes "./-" ∷ []) ≡ Some (Some UnreadInput)
unfolding clap_on_literals devdry
a_name_of_the_input_without_it_is_refused = refl

the_input_with_a_name_is_taken : refused (codes "verify" ∷ codes "--stdin-name=a.rules" ∷ codes "-" ∷ []) ≡ Some None
unfolding clap_on_literals devdry
the_input_with_a_name_is_taken = refl

questions_alone_are_taken : refused (codes "events" ∷ codes "--questions" ∷ codes "--udev" ∷ []) ≡ Some None
unfolding clap_on_literals devdry
questions_alone_are_taken = refl

empty_root_is_refused : refused (codes "verify" ∷ codes "--all" ∷ codes "-r" ∷ [] ∷ []) ≡ Some (Some EmptyRoot)
unfolding clap_on_literals devdry
empty_root_is_refused = refl

users_without_udev_are_refused : refused (codes "verify" ∷ codes "--users=passwd" ∷ codes "a.rules" ∷ []) ≡ Some (Some NoUdev)
unfolding clap_on_literals devdry
users_without_udev_are_refused = refl

groups_of_udev_are_taken : refused (codes "verify" ∷ codes "--udev" ∷ codes "--groups" ∷ codes "group" ∷ []) ≡ Some None
unfolding clap_on_literals devdry
groups_of_udev_are_taken = refl

unknown_format_is_refused : refused (codes "update" ∷ codes "--format=xml" ∷ []) ≡ Some (Some UnknownFormat)
unfolding clap_on_literals devdry
unknown_format_is_refused = refl

unknown_color_is_refused : refused (codes "verify" ∷ codes "--color=yes" ∷ []) ≡ Some (Some UnknownColor)
unfolding clap_on_literals devdry
unknown_color_is_refused = refl

color_of_another_format_is_taken : refused (codes "update" ∷ codes "--color=always" ∷ codes "--format=gcc" ∷ []) ≡ Some None
unfolding clap_on_literals devdry
color_of_another_format_is_taken = refl

empty_root_of_files_is_refused : refused (codes "files" ∷ codes "-r" ∷ [] ∷ []) ≡ Some (Some EmptyRoot)
unfolding clap_on_literals devdry
empty_root_of_files_is_refused = refl

empty_root_of_events_is_taken : refused (codes "events" ∷ codes "-r" ∷ [] ∷ []) ≡ Some None
unfolding clap_on_literals devdry
empty_root_of_events_is_taken = refl

empty_old_root_is_refused : refused (codes "compare" ∷ [] ∷ codes "/new" ∷ []) ≡ Some (Some EmptySide)
unfolding clap_on_literals devdry
empty_old_root_is_refused = refl

empty_new_root_is_refused : refused (codes "compare" ∷ codes "/old" ∷ [] ∷ []) ≡ Some (Some EmptySide)
unfolding clap_on_literals devdry
empty_new_root_is_refused = refl

two_roots_are_taken : refused (codes "compare" ∷ codes "/old" ∷ codes "/new" ∷ []) ≡ Some None
unfolding clap_on_literals devdry
two_roots_are_taken = refl

added_to_named_files_is_refused : refused (codes "events" ∷ codes "--with=a.hwdb" ∷ codes "b.rules" ∷ []) ≡ Some (Some AddedToNamed)
unfolding clap_on_literals devdry
added_to_named_files_is_refused = refl

added_to_rules_is_refused : refused (codes "compare" ∷ codes "--rules" ∷ codes "--with=a.rules" ∷ codes "b.rules" ∷ codes "c.rules" ∷ []) ≡ Some (Some AddedToRules)
unfolding clap_on_literals devdry
added_to_rules_is_refused = refl

input_as_rules_is_refused : refused (codes "compare" ∷ codes "b.rules" ∷ codes "-" ∷ codes "--rules" ∷ []) ≡ Some (Some InputTwice)
unfolding clap_on_literals devdry
input_as_rules_is_refused = refl

added_to_an_index_is_refused : refused (codes "compare" ∷ codes "--with=a.rules" ∷ codes "--with=a.hwdb" ∷ codes "--index=i" ∷ codes "/old" ∷ codes "/new" ∷ []) ≡ Some (Some AddedToIndex)
unfolding clap_on_literals devdry
added_to_an_index_is_refused = refl

rules_beside_an_index_are_taken : refused (codes "events" ∷ codes "--index=i" ∷ codes "--with" ∷ codes "a.rules" ∷ []) ≡ Some None
unfolding clap_on_literals devdry
rules_beside_an_index_are_taken = refl

a_database_for_verify_is_refused : refused (codes "verify" ∷ codes "--with=a.rules" ∷ codes "--with=a.hwdb" ∷ []) ≡ Some (Some NotRules)
unfolding clap_on_literals devdry
a_database_for_verify_is_refused = refl

another_file_is_refused : refused (codes "files" ∷ codes "--with=a.hwdb" ∷ codes "--with=a.rules.old" ∷ []) ≡ Some (Some NotFile)
unfolding clap_on_literals devdry
another_file_is_refused = refl

abbrev unknown : List Text → Option (Option Text)
unknown words = option_map (λ p. unknown_part p.1) (subcommand_of devdry words)

first_unknown_is_found : unknown (codes "verify" ∷ codes "--ignore" ∷ codes "V6,comments" ∷ codes "--ignore=S2,X6,v6" ∷ []) ≡ Some (Some (codes "X6"))
unfolding clap_on_literals devdry remark_of is_class all_codes messages lints
first_unknown_is_found = refl

known_codes_are_taken : refused (codes "update" ∷ codes "--ignore" ∷ codes "H1,W13,I1" ∷ codes "--ignore=comments" ∷ []) ≡ Some None
unfolding clap_on_literals devdry remark_of is_class all_codes messages lints
known_codes_are_taken = refl

small_letter_is_refused : refused (codes "verify" ∷ codes "--ignore=v6" ∷ []) ≡ Some (Some UnknownPart)
unfolding clap_on_literals devdry remark_of is_class all_codes messages lints
small_letter_is_refused = refl

no_code_is_refused : refused (codes "verify" ∷ codes "--ignore=" ∷ []) ≡ Some (Some UnknownPart)
unfolding clap_on_literals devdry remark_of is_class all_codes messages lints
no_code_is_refused = refl

no_root_is_taken : refused (codes "verify" ∷ codes "--all" ∷ []) ≡ Some None
unfolding clap_on_literals devdry
no_root_is_taken = refl

strict_needs_a_root : refused (codes "verify" ∷ codes "--strict" ∷ codes "--root=" ∷ []) ≡ Some (Some EmptyRoot)
unfolding clap_on_literals devdry
strict_needs_a_root = refl

strict_knows_users : refused (codes "verify" ∷ codes "--strict" ∷ codes "--users=passwd" ∷ []) ≡ Some None
unfolding clap_on_literals devdry
strict_knows_users = refl

classes_are_taken : refused (codes "verify" ∷ codes "--ignore" ∷ codes "S,W13,I" ∷ []) ≡ Some None
unfolding clap_on_literals devdry remark_of is_class all_codes messages lints
classes_are_taken = refl

no_class_is_refused : refused (codes "verify" ∷ codes "--ignore" ∷ codes "s" ∷ []) ≡ Some (Some UnknownPart)
unfolding clap_on_literals devdry remark_of is_class all_codes messages lints
no_class_is_refused = refl
