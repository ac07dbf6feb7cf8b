use Rattle.std.proofs.Common.{ap, ◌∙◌}
use Rattle.eval_acts.specs.Acts.{tried}
use Rattle.eval_laws.proofs.StoredImports.{as_stored, stored_absent, stored_set}
use Rattle.eval_laws.proofs.stored.what_was_stored_is_set.Goals as goal

pub returns : goal.returns
returns c = record {
  set = λ known rule name b t scene udev change is. as_stored known rule name scene udev ∙ ap tried (stored_set known rule name scene b t change is);
  absent = λ known rule name scene udev some none. as_stored known rule name scene udev ∙ ap tried (stored_absent known rule name scene some none);
}
