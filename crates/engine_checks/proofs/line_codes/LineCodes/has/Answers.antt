use Rattle.engine_checks.proofs.Held.{has_held}
use Rattle.engine_checks.proofs.line_codes.LineCodes.has.Goals as goal

pub returns : goal.returns
returns c = rw (c.contains.ensures, ← c.self.view_is) (has_held (λ k. k.0) (λ k. k.1.now) c.self.inside.held.keys c.args.line c.args.code.now)
