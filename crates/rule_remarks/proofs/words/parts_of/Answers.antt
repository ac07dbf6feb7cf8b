use Rattle.std.proofs.Common.{sym, ◌∙◌}
use Rattle.rule_remarks.proofs.Cutting.{word_last, word_more}
use Rattle.rule_remarks.proofs.words.parts_of.Goals as goal

pub loop-place-preserved : goal.loop-place-preserved
loop-place-preserved c =
    word_more c.loop-place.words c.add_word.new.words c.loop-place.rest.now c.split_at.result.0.now c.split_at-in-Some.result.1.now c.in-Some.place
    (sym c.in-Some.ensures.value) c.split_at.ensures.front c.split_at-in-Some.ensures.back c.in_ok-add_word.ensures
    ∙ c.loop-place.invariant

pub returns : goal.returns
returns c = c.in_ok-add_word-2.ensures ∙ (word_last c.loop-place.words c.loop-place.rest.now (sym c.in_default.ensures.value) ∙ c.loop-place.invariant)
