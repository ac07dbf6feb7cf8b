use Rattle.std.proofs.Common.{true, false}
use Rattle.device_core.proofs.Lacking.{at_removal, by_the_manual, tried_by, with_subsystem, without_event}
use Rattle.device_core.proofs.note_laws.no_rule_is_tried_at_a_device_without_a_subsystem.Goals as goal

pub returns : goal.returns
returns c = record {
  manual = λ event rules manual. tried_by event rules false (by_the_manual event manual);
  of_a_subsystem = λ event rules subsystem is. tried_by event rules false (with_subsystem event subsystem is);
  removed = λ event rules removed. tried_by event rules false (at_removal event removed);
  none = λ event rules udev none other. tried_by event rules true (without_event event udev none other);
}
