use Rattle.std.proofs.Common.{◌≡◌, ◌++◌, drop, map}
use Rattle.std.specs.List.{list_all}
use Rattle.text_tables.specs.Texts.{is_among}
use Rattle.rule_remarks.proofs.known.Known.may_be_like.Given as goal

abbrev pub invariant-loop-word : goal.invariant-loop-word
invariant-loop-word l =
    list_all (λ word. is_among l.self.texts (l.key.items ++ word)) (map (λ word. word.items) (drop l.word-index l.word-items))
    ≡ list_all (λ word. is_among l.self.texts (l.key.items ++ word)) (map (λ word. word.items) l.word-items)
