use Rattle.std.proofs.Common.{◌≡◌, drop}
use Rattle.text_tables.specs.Texts.{with_texts}
use Rattle.rule_file_lints.specs.Compared.{compared_by}
use Rattle.rule_file_lints.proofs.meant.add_compared.Given as goal

abbrev pub invariant-loop-token : goal.invariant-loop-token
invariant-loop-token l = with_texts l.texts (compared_by (drop l.token-index l.tokens)) ≡ with_texts l.initial.texts (compared_by l.tokens)
