use Rattle.std.proofs.Common.{refl}
use Rattle.lsp_words.specs.Classes.{class_of}
use Rattle.lsp_words.specs.Contexts.{step, next_move, bounds_for}
use Rattle.lsp_words.specs.Slots.{slot_of}
use Rattle.rule_types.specs.Names.{key_of}
use Rattle.lsp_words.proofs.examples.keys_and_braces_are_completed.Goals as goal

pub returns-clause-nothing : goal.returns-clause-nothing
unfolding slot_of step next_move bounds_for class_of key_of
returns-clause-nothing c = refl

pub returns-clause-key : goal.returns-clause-key
unfolding slot_of step next_move bounds_for class_of key_of
returns-clause-key c = refl

pub returns-clause-second : goal.returns-clause-second
unfolding slot_of step next_move bounds_for class_of key_of
returns-clause-second c = refl

pub returns-clause-operator : goal.returns-clause-operator
unfolding slot_of step next_move bounds_for class_of key_of
returns-clause-operator c = refl

pub returns-clause-attribute : goal.returns-clause-attribute
unfolding slot_of step next_move bounds_for class_of key_of
returns-clause-attribute c = refl

pub returns-clause-property : goal.returns-clause-property
unfolding slot_of step next_move bounds_for class_of key_of
returns-clause-property c = refl

pub returns-clause-import : goal.returns-clause-import
unfolding slot_of step next_move bounds_for class_of key_of
returns-clause-import c = refl

pub returns-clause-bare : goal.returns-clause-bare
unfolding slot_of step next_move bounds_for class_of key_of
returns-clause-bare c = refl

pub returns-clause-comment : goal.returns-clause-comment
unfolding slot_of step next_move bounds_for class_of key_of
returns-clause-comment c = refl
