use Rattle.std.proofs.Common.{length}
use Rattle.std.specs.List.{list_all}
use Rattle.device_core.specs.Values.{chain}
use Rattle.eval_rendering.specs.Subjects.{found_place, holds_at}
use Rattle.eval_rendering.proofs.Finding.{none_found}
use Rattle.eval_laws.proofs.matching.nothing_is_found_where_no_device_meets_all_matches.Goals as goal

pub returns : goal.returns
unfolding found_place
returns c = λ parts state. none_found (λ n. list_all (holds_at state n) parts) (length (chain state.event))
