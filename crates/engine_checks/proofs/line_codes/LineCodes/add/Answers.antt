use Rattle.engine_checks.proofs.Held.{added_held}
use Rattle.engine_checks.proofs.line_codes.LineCodes.add.Goals as goal

pub returns : goal.returns
returns c at text = rw (c.in_ok-insert.ensures.keys, ← c.self.view_is) (added_held (λ k. k.0) (λ k. k.1.now) c.self.inside.held.keys (c.args.line, c.args.code) at text)
