use Rattle.std.proofs.Common.{◌≡◌, ℕ, List, false, drop}
use Rattle.text_core.specs.declared.item.Item.{Item}
use Rattle.hwdb_core.specs.Found.{counts}
use Rattle.hwdb_core.specs.Parts.{pair_found}
use Rattle.hwdb_core.proofs.Joining.{Proceeds}
use Rattle.hwdb_core.proofs.reading.count_pairs.Given as goal

abbrev pub invariant-loop-line : goal.invariant-loop-line
invariant-loop-line l =
    (l.found.wanted ≡ l.initial.found.wanted)
    × ((file : List ℕ) (pattern : List Item) → counts l.initial.found.wanted pattern ≡ false → Proceeds (pair_found file pattern) l.initial.found l.found l.properties (drop l.line-index l.properties))
