use Rattle.std.proofs.Common.{◌≡◌}
use Rattle.rule_core.specs.Drafts.{items_as, parts_of}
use Rattle.rule_core.proofs.Drafting.{prepended_to}
use Rattle.rule_core.proofs.draft_reading.read_parts.Given as goal

abbrev pub invariant-loop-item : goal.invariant-loop-item
invariant-loop-item l = prepended_to l.parts.items (parts_of l.profile l.line l.item-iterator) ≡ parts_of l.profile l.line (items_as l.profile l.line)
