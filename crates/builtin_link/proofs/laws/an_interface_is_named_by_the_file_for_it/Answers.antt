use Rattle.std.proofs.Common.{refl}
use Rattle.builtin_link.specs.Link.{by_files, net_setup_link}
use Rattle.builtin_link.proofs.laws.an_interface_is_named_by_the_file_for_it.Goals as goal

pub returns : goal.returns
unfolding by_files net_setup_link
returns c event env file files flags name looks index flagged own for named = rw looks (rw index (rw flagged (rw own (rw for (rw named refl)))))
