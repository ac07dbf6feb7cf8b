use Rattle.std.specs.Prelude.{refl}
use Rattle.builtin_input.specs.Capabilities.{capabilities}
use Rattle.builtin_input.proofs.capabilities.Capabilities.read.Goals as goal

pub returns : goal.returns
unfolding capabilities
returns c = rw (c.in_ok-events.ensures, c.in_ok-keys.ensures, c.in_ok-absolute_axes.ensures, c.in_ok-relative_axes.ensures, c.in_ok-properties.ensures, c.bus_number.ensures, c.text_of.ensures) refl
