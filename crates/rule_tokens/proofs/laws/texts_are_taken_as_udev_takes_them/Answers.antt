use Rattle.rule_tokens.proofs.Examples.{braces_passed, end_at_fault, hexadecimal_from, octal_word, old_names_read, too_great, whole_result}
use Rattle.rule_tokens.proofs.laws.texts_are_taken_as_udev_takes_them.Goals as goal

pub returns-clause-braces : goal.returns-clause-braces
returns-clause-braces c = braces_passed

pub returns-clause-ends : goal.returns-clause-ends
returns-clause-ends c = end_at_fault

pub returns-clause-names : goal.returns-clause-names
returns-clause-names c = old_names_read

pub returns-clause-octal : goal.returns-clause-octal
returns-clause-octal c = octal_word

pub returns-clause-hexadecimal : goal.returns-clause-hexadecimal
returns-clause-hexadecimal c = hexadecimal_from

pub returns-clause-zero : goal.returns-clause-zero
returns-clause-zero c = whole_result

pub returns-clause-great : goal.returns-clause-great
returns-clause-great c = too_great
