use Rattle.std.proofs.Common.{◌≡◌, drop}
use Rattle.hwdb_core.specs.Forms.{has_swapped}
use Rattle.hwdb_core.proofs.forms.has_swapped.Given as goal

abbrev pub invariant-loop-place : goal.invariant-loop-place
invariant-loop-place l = has_swapped (drop l.place-index l.form) l.rest ≡ has_swapped l.form l.text
