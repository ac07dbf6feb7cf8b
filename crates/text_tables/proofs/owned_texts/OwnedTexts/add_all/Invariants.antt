use Rattle.std.proofs.Common.{drop, map}
use Rattle.text_tables.specs.Texts.{with_text}
use Rattle.text_tables.proofs.Partway.{Partway}
use Rattle.text_tables.proofs.owned_texts.OwnedTexts.add_all.Given as goal

abbrev pub invariant-loop-text : goal.invariant-loop-text
invariant-loop-text l = Partway with_text l.fn.self l.fn.texts l.self (map (λ t. t.now) (drop l.text-index l.text-items))
