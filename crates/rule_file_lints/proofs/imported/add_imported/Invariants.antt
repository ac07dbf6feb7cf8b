use Rattle.std.proofs.Common.{◌≡◌, drop}
use Rattle.text_tables.specs.Texts.{with_texts}
use Rattle.rule_file_lints.specs.Imported.{imported_by}
use Rattle.rule_file_lints.proofs.imported.add_imported.Given as goal

abbrev pub invariant-loop-token : goal.invariant-loop-token
invariant-loop-token l = with_texts l.names (imported_by (drop l.token-index l.tokens)) ≡ with_texts l.initial.names (imported_by l.tokens)
