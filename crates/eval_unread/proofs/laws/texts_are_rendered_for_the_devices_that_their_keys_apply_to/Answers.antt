use Rattle.std.proofs.Common.{refl}
use Rattle.rule_types.specs.declared.roles.Target.TheVariants as target
use Rattle.eval_assignments.specs.Steps.{lacks_number}
use Rattle.eval_unread.proofs.NeedsNumber.{needs_none, needs_number}
use Rattle.eval_unread.proofs.laws.texts_are_rendered_for_the_devices_that_their_keys_apply_to.Goals as goal

pub returns : goal.returns
returns c = record {
  command = λ braces template device. refl;
  option = λ known device. refl;
  name = λ template device. refl;
  owner = λ template device. needs_number (lacks_number target.Owner) template.pieces refl (λ n. refl) device.number;
  group = λ template device. needs_number (lacks_number target.Group) template.pieces refl (λ n. refl) device.number;
  mode = λ template device. needs_number (lacks_number target.Mode) template.pieces refl (λ n. refl) device.number;
  symlink = λ template device. needs_number (lacks_number target.Symlink) template.pieces refl (λ n. refl) device.number;
  seclabel = λ name template device. needs_number (lacks_number (target.Seclabel name)) template.pieces refl (λ n. refl) device.number;
  tag = λ template device. needs_none (lacks_number target.Tag) template.pieces refl (λ n. refl) device.number;
  property = λ name template device. needs_none (lacks_number (target.Env name)) template.pieces refl (λ n. refl) device.number;
  attribute = λ name template device. needs_none (lacks_number (target.Attr name)) template.pieces refl (λ n. refl) device.number;
  parameter = λ name template device. needs_none (lacks_number (target.Sysctl name)) template.pieces refl (λ n. refl) device.number;
}
