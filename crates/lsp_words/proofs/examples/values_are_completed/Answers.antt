use Rattle.std.proofs.Common.{refl}
use Rattle.lsp_words.specs.Classes.{class_of}
use Rattle.lsp_words.specs.Contexts.{step, next_move, bounds_for}
use Rattle.lsp_words.specs.Slots.{slot_of}
use Rattle.lsp_words.specs.Values.{substitutes, is_split}
use Rattle.rule_types.specs.Names.{key_of, import_type_of}
use Rattle.lsp_words.proofs.examples.values_are_completed.Goals as goal

pub returns-clause-builtin : goal.returns-clause-builtin
unfolding slot_of step next_move bounds_for class_of substitutes is_split key_of import_type_of
returns-clause-builtin c = refl

pub returns-clause-option : goal.returns-clause-option
unfolding slot_of step next_move bounds_for class_of substitutes is_split key_of import_type_of
returns-clause-option c = refl

pub returns-clause-action : goal.returns-clause-action
unfolding slot_of step next_move bounds_for class_of substitutes is_split key_of import_type_of
returns-clause-action c = refl

pub returns-clause-stored : goal.returns-clause-stored
unfolding slot_of step next_move bounds_for class_of substitutes is_split key_of import_type_of
returns-clause-stored c = refl

pub returns-clause-sign : goal.returns-clause-sign
unfolding slot_of step next_move bounds_for class_of substitutes is_split key_of import_type_of
returns-clause-sign c = refl

pub returns-clause-compared : goal.returns-clause-compared
unfolding slot_of step next_move bounds_for class_of substitutes is_split key_of import_type_of
returns-clause-compared c = refl

pub returns-clause-any : goal.returns-clause-any
unfolding slot_of step next_move bounds_for class_of substitutes is_split key_of import_type_of
returns-clause-any c = refl
