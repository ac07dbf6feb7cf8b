use Rattle.std.proofs.Common.{◌≡◌, drop}
use Rattle.hwdb_core.specs.Forms.{meeting_of}
use Rattle.hwdb_core.proofs.forms.meeting_of.Given as goal

abbrev pub invariant-loop-place : goal.invariant-loop-place
invariant-loop-place l = meeting_of (drop l.place-index l.form) l.rest ≡ meeting_of l.form l.text
