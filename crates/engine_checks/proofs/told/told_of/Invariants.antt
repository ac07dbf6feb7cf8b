use Rattle.std.proofs.Common.{◌≡◌, map, take}
use Rattle.std.specs.List.{flat_map, sum_by}
use Rattle.text_bytes.specs.Text.{Text}
use Rattle.text_tables.specs.Texts.{is_among}
use Rattle.rule_types.specs.Rules.{tokens_in}
use Rattle.rule_core.specs.Rules.{file_rules}
use Rattle.engine_formats.specs.Lines.{plain_line}
use Rattle.engine_checks.specs.Told.{reported_by}
use Rattle.engine_checks.proofs.told.told_of.Given as goal

abbrev pub invariant-loop-file : goal.invariant-loop-file
invariant-loop-file l = record {
  text : l.told.text.items ≡ flat_map plain_line (flat_map (reported_by l.asked l.line) (take l.file-index l.files));
  bad : (name : Text) → is_among (map (λ n. n.now) l.told.bad.items) name ≡ is_among (map (λ d. d.name) (flat_map (reported_by l.asked l.line) (take l.file-index l.files))) name;
  tokens : l.told.tokens ≡ sum_by (λ f. tokens_in (file_rules l.asked.profile f)) (take l.file-index l.files);
}
