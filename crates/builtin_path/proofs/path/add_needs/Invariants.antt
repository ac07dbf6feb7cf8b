use Rattle.std.proofs.Common.{◌≡◌, drop, map}
use Rattle.text_tables.specs.Texts.{with_texts}
use Rattle.builtin_path.proofs.path.add_needs.Given as goal

abbrev pub invariant-loop-need : goal.invariant-loop-need
invariant-loop-need l = with_texts l.needs (map (λ t. t.items) (drop l.need-index l.more)) ≡ with_texts l.initial.needs (map (λ t. t.items) l.more)
