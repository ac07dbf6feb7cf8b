use Rattle.std.proofs.Common.{ap, ◌∙◌}
use Rattle.eval_acts.specs.Acts.{tried}
use Rattle.eval_laws.proofs.StoredImports.{as_stored, by_manual, stored_unknown}
use Rattle.eval_laws.proofs.stored.what_is_not_known_to_be_stored_is_noted.Goals as goal

pub returns : goal.returns
returns c = record {
  manual = λ known rule name scene manual. by_manual known rule name scene manual;
  udev = λ known rule name scene udev change none. as_stored known rule name scene udev ∙ ap tried (stored_unknown known rule name scene change none);
}
