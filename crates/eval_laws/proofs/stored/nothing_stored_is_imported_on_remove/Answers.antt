use Rattle.std.proofs.Common.{ap, ◌∙◌}
use Rattle.eval_acts.specs.Acts.{tried}
use Rattle.eval_laws.proofs.StoredImports.{as_stored, stored_removed}
use Rattle.eval_laws.proofs.stored.nothing_stored_is_imported_on_remove.Goals as goal

pub returns : goal.returns
returns c = λ known rule name scene udev remove. as_stored known rule name scene udev ∙ ap tried (stored_removed known rule name scene remove)
