use Rattle.std.proofs.Common.{◌≡◌, drop, map}
use Rattle.text_tables.specs.Texts.{with_texts}
use Rattle.builtin_devices.proofs.outcomes.BuiltinOutcome.needing_first.Given as goal

abbrev pub invariant-loop-need : goal.invariant-loop-need
invariant-loop-need l = with_texts l.needs (map (λ t. t.items) (drop l.need-index l.need-items)) ≡ with_texts l.initial.needs (map (λ t. t.items) l.need-items)
