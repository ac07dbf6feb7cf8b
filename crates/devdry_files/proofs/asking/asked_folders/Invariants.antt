use Rattle.std.proofs.Common.{◌≡◌, [], map, take}
use Rattle.std.specs.List.{flat_map}
use Rattle.std.specs.Prelude.{if◌then◌else◌}
use Rattle.engine_sessions.specs.Kinds.{reads_folders_of}
use Rattle.devdry_files.specs.Places.{folders_of, place_of}
use Rattle.devdry_files.proofs.asking.asked_folders.Given as goal

-- the folders so far are those of the kinds so far
abbrev pub invariant-loop-kind : goal.invariant-loop-kind
invariant-loop-kind l = map place_of l.folders.items ≡ flat_map (λ kind. if reads_folders_of l.line kind then folders_of kind l.line.root.now else []) (take l.kind-index l.kind-items)
