use Rattle.std.proofs.Common.{◌≡◌, ◌++◌, ◌+◌, filter_map, length, map, reverse}
use Rattle.std.specs.List.{range_with_len}
use Rattle.builtin_core.specs.Paths.{shown_before}
use Rattle.builtin_core.proofs.paths.shown_paths.Given as goal

abbrev pub invariant-loop-place : goal.invariant-loop-place
invariant-loop-place l =
    map (λ t. t.now) l.paths.items ++ filter_map (shown_before l.path) (reverse (range_with_len 0 l.place))
    ≡ filter_map (shown_before l.path) (reverse (range_with_len 0 (length l.path + 1)))
