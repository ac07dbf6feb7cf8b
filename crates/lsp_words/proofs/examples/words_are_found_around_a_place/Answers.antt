use Rattle.std.proofs.Common.{refl}
use Rattle.lsp_words.specs.Classes.{class_of}
use Rattle.lsp_words.specs.Contexts.{step, next_move, bounds_for}
use Rattle.lsp_words.specs.Meanings.{slot_around}
use Rattle.lsp_words.specs.Slots.{slot_of}
use Rattle.lsp_words.specs.Values.{substitutes, is_split}
use Rattle.rule_types.specs.Names.{key_of}
use Rattle.lsp_words.proofs.examples.words_are_found_around_a_place.Goals as goal

pub returns-clause-braces : goal.returns-clause-braces
unfolding slot_around slot_of step next_move bounds_for class_of substitutes is_split key_of
returns-clause-braces c = refl

pub returns-clause-end : goal.returns-clause-end
unfolding slot_around slot_of step next_move bounds_for class_of substitutes is_split key_of
returns-clause-end c = refl

pub returns-clause-sign : goal.returns-clause-sign
unfolding slot_around slot_of step next_move bounds_for class_of substitutes is_split key_of
returns-clause-sign c = refl

pub returns-clause-name : goal.returns-clause-name
unfolding slot_around slot_of step next_move bounds_for class_of substitutes is_split key_of
returns-clause-name c = refl

pub returns-clause-letter : goal.returns-clause-letter
unfolding slot_around slot_of step next_move bounds_for class_of substitutes is_split key_of
returns-clause-letter c = refl

pub returns-clause-inner : goal.returns-clause-inner
unfolding slot_around slot_of step next_move bounds_for class_of substitutes is_split key_of
returns-clause-inner c = refl

pub returns-clause-escaped : goal.returns-clause-escaped
unfolding slot_around slot_of step next_move bounds_for class_of substitutes is_split key_of
returns-clause-escaped c = refl

pub returns-clause-comment : goal.returns-clause-comment
unfolding slot_around slot_of step next_move bounds_for class_of substitutes is_split key_of
returns-clause-comment c = refl
