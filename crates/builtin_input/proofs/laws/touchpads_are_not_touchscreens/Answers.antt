use Rattle.builtin_input.proofs.KindLaws.{screen_apart, buttons_apart}
use Rattle.builtin_input.proofs.laws.touchpads_are_not_touchscreens.Goals as goal

pub returns-clause-screen : goal.returns-clause-screen
returns-clause-screen c = screen_apart

pub returns-clause-buttons : goal.returns-clause-buttons
returns-clause-buttons c = buttons_apart
