use Rattle.std.proofs.Common.{◌≡◌, drop, map}
use Rattle.std.specs.List.{list_all}
use Rattle.text_tables.specs.Texts.{is_among}
use Rattle.rule_remarks.proofs.relations.has_all.Given as goal

abbrev pub invariant-loop-word : goal.invariant-loop-word
invariant-loop-word l = list_all (is_among l.texts) (map (λ word. word.items) (drop l.word-index l.words)) ≡ list_all (is_among l.texts) (map (λ word. word.items) l.words)
