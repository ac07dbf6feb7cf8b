use Rattle.text_tables.specs.Texts.{with_text}
use Rattle.text_tables.proofs.Partway.{left_at, one_on}
use Rattle.text_tables.proofs.owned_texts.OwnedTexts.add_all.Goals as goal

pub loop-text-preserved : goal.loop-text-preserved
loop-text-preserved c =
    one_on with_text _ _ _ _ _ _ _ c.loop-text.invariant (left_at (λ t. t.now) c.as_slice-text-items.result.now c.loop-text.text-index _ c.loop-text-test.true) c.in_ok-add.ensures.texts
