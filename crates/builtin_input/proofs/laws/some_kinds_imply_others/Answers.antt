use Rattle.builtin_input.proofs.KindLaws.{pad_is_tablet, keyboard_is_key}
use Rattle.builtin_input.proofs.laws.some_kinds_imply_others.Goals as goal

pub returns-clause-tablet : goal.returns-clause-tablet
returns-clause-tablet c = pad_is_tablet

pub returns-clause-keyboard : goal.returns-clause-keyboard
returns-clause-keyboard c = keyboard_is_key
