use Rattle.eval_effects.proofs.Noted.{reports_ignored, reports_none, reports_skipped, reports_too_long}
use Rattle.eval_effects.proofs.laws.notes_say_what_is_left_out.Goals as goal

pub returns : goal.returns
returns c = record { none = reports_none; skipped = reports_skipped; too_long = reports_too_long; ignored = reports_ignored }
