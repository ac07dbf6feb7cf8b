use Rattle.std.proofs.Common.{◌≡◌, drop, map}
use Rattle.hwdb_core.specs.Forms.{form_among}
use Rattle.hwdb_core.proofs.forms.form_among.Given as goal

abbrev pub invariant-loop-form : goal.invariant-loop-form
invariant-loop-form l = form_among (map (λ m. (m.0.now, m.1.now, m.2)) (drop l.form-index l.forms)) l.text ≡ form_among (map (λ m. (m.0.now, m.1.now, m.2)) l.forms) l.text
