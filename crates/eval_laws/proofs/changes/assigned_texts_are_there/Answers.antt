use Rattle.eval_laws.proofs.Making.{group_in_place, mode_in_place, owner_in_place, udev_group, udev_mode, udev_owner}
use Rattle.eval_laws.proofs.changes.assigned_texts_are_there.Goals as goal

pub returns-clause-owner : goal.returns-clause-owner
returns-clause-owner c = owner_in_place

pub returns-clause-group : goal.returns-clause-group
returns-clause-group c = group_in_place

pub returns-clause-mode : goal.returns-clause-mode
returns-clause-mode c = mode_in_place

pub returns-clause-udev_owner : goal.returns-clause-udev_owner
returns-clause-udev_owner c = udev_owner

pub returns-clause-udev_group : goal.returns-clause-udev_group
returns-clause-udev_group c = udev_group

pub returns-clause-udev_mode : goal.returns-clause-udev_mode
returns-clause-udev_mode c = udev_mode
