use Rattle.std.proofs.Common.{◌≡◌, drop}
use Rattle.std.specs.Prelude.{filter_map}
use Rattle.text_tables.specs.Texts.{with_texts}
use Rattle.builtin_link.specs.Checks.{lacked_word}
use Rattle.builtin_link.proofs.checks.add_lacked.Given as goal

abbrev pub invariant-loop-check : goal.invariant-loop-check
invariant-loop-check l =
    with_texts l.needs (filter_map lacked_word (drop l.check-index l.checks)) ≡ with_texts l.fn.needs (filter_map lacked_word l.checks)
