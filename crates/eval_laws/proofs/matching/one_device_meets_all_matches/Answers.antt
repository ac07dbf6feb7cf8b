use Rattle.std.proofs.Common.{length}
use Rattle.std.specs.List.{list_all}
use Rattle.device_core.specs.Values.{chain}
use Rattle.eval_rendering.specs.Subjects.{found_place, holds_at}
use Rattle.eval_rendering.proofs.Finding.{found_first}
use Rattle.eval_laws.proofs.matching.one_device_meets_all_matches.Goals as goal

pub returns : goal.returns
unfolding found_place
returns c = λ parts state place found.
    let first = found_first (λ n. list_all (holds_at state n) parts) (length (chain state.event)) place found in
    record { in_chain = first.0; meets = first.1; first = first.2 }
