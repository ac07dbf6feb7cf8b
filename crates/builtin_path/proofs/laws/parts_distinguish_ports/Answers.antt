use Rattle.std.proofs.lemmas.List.{append_cancel_left}
use Rattle.builtin_path.specs.Usb.{port_start}
use Rattle.builtin_path.proofs.laws.parts_distinguish_ports.Goals as goal

pub returns : goal.returns
returns c = λ revision port other h. append_cancel_left (port_start revision) port other h
