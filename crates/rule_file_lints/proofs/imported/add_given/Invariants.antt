use Rattle.std.proofs.Common.{◌≡◌, drop}
use Rattle.text_tables.specs.Texts.{with_texts}
use Rattle.rule_file_lints.specs.Imported.{given_by}
use Rattle.rule_file_lints.proofs.imported.add_given.Given as goal

abbrev pub invariant-loop-token : goal.invariant-loop-token
invariant-loop-token l = with_texts l.names (given_by (drop l.token-index l.tokens)) ≡ with_texts l.initial.names (given_by l.tokens)
