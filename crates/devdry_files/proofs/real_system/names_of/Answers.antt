use Rattle.std.proofs.Common.{◌++◌, ◌∷◌, [], refl}
use Rattle.std.proofs.lemmas.List.{map-append}
use Rattle.devdry_files.proofs.real_system.names_of.Goals as goal

pub loop-found-preserved : goal.loop-found-preserved
loop-found-preserved g c = (
  c.loop-found.invariant.0 ++ c.in_ok-found.field-0 ∷ [],
  simp (map-append, c.loop-found.invariant.1, c.in_ok-found.was) refl,
  simp (map-append, c.in_ok-push.ensures.items, c.loop-found.invariant.2, c.in_ok-from_str.ensures.ok, c.file_name.ensures) refl,
)
