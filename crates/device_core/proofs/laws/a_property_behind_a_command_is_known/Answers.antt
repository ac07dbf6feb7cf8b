use Rattle.device_core.proofs.Commanded.{behind_command, without_command}
use Rattle.device_core.proofs.laws.a_property_behind_a_command_is_known.Goals as goal

pub returns : goal.returns
returns c = record {
  known = λ above about between below path command text pair none no_device no_property stays is. behind_command above between below path command text pair about none no_device no_property stays is;
  none = without_command;
}
