use Rattle.eval_laws.proofs.FirstFound.{text_given, texts_from_usb, texts_of_all, texts_up_to}
use Rattle.eval_laws.proofs.lookups.no_device_after_a_usb_device_is_asked.Goals as goal

pub returns-clause-given : goal.returns-clause-given
returns-clause-given c = text_given

pub returns-clause-up_to : goal.returns-clause-up_to
returns-clause-up_to c = texts_up_to

pub returns-clause-udev : goal.returns-clause-udev
returns-clause-udev c = texts_from_usb

pub returns-clause-all : goal.returns-clause-all
returns-clause-all c = texts_of_all
