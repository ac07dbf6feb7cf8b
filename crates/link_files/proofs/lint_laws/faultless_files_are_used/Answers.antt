use Rattle.std.proofs.Common.{◌∷◌}
use Rattle.link_files.specs.Settings.{unread}
use Rattle.link_files.proofs.Sound.{files_sound}
use Rattle.link_files.proofs.lint_laws.faultless_files_are_used.Goals as goal

pub returns : goal.returns
returns c file drop_ins h = files_sound unread (file ∷ drop_ins) h
