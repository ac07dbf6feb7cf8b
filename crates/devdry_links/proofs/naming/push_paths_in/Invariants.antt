use Rattle.std.proofs.Common.{◌≡◌, ◌++◌, flat_map, take}
use Rattle.std.specs.Option.{option_to_list}
use Rattle.devdry_links.specs.Naming.{path_of_kind}
use Rattle.devdry_links.proofs.naming.push_paths_in.Given as goal

abbrev pub invariant-loop-act : goal.invariant-loop-act
invariant-loop-act l = l.paths.items ≡ l.initial.paths.items ++ flat_map (λ act. option_to_list (path_of_kind act.kind)) (take l.act-index l.acts)
