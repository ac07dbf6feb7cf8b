use Rattle.std.proofs.Common.{refl}
use Rattle.std.proofs.lemmas.Result.{err_from_is_err_and}
use Rattle.engine_reports.proofs.Bounds.{opening_rules_refused, rules_opened}
use Rattle.engine_reports.proofs.opening.open_these_rules.Goals as goal

pub returns-in_err-rules-clause-refused : goal.returns-in_err-rules-clause-refused
returns-in_err-rules-clause-refused c =
    let p = err_from_is_err_and c.from_residual.result c.from_residual.ensures.1 in
    rw (p.1, p.2) (λ entries. opening_rules_refused c.args.profile c.args.files.now c.args.messages.now entries c.in_err-rules.field-0.0 c.in_err-rules.ensures.too_many)

pub returns-clause-opening : goal.returns-clause-opening
returns-clause-opening c entries =
    rw (rules_opened c.args.profile c.args.files.now c.args.messages.now entries c.in_ok-rules.ensures.within, c.in_ok-messages.ensures, c.messages.ensures, ← c.in_ok-rules.ensures.set) refl
