use Rattle.std.proofs.Common.{◌++◌, ◌+◌, drop, slice_index, sym, ap, ◌∙◌}
use Rattle.std.proofs.lemmas.List.{at_drop_more}
use Rattle.std.proofs.Math.ListN.{drop_of_length-le}
use Rattle.text_bytes.specs.Names.{is_whitespace}
use Rattle.text_bytes.specs.Texts.{is_empty}
use Rattle.text_bytes.specs.Steps.{added, grown}
use Rattle.text_bytes.proofs.JoinedWords.{byte_passes}
use Rattle.text_bytes.proofs.underscores.Word.push.Goals as goal

pub loop-byte-preserved : goal.loop-byte-preserved
loop-byte-preserved c = λ left.
    let more = c.args.more.now in
    let word = c.loop-byte.self.bytes.items in
    let gap = c.loop-byte.self.gap in
    let byte = slice_index more c.loop-byte.byte-index in
    let rest = drop (c.loop-byte.byte-index + 1) more ++ left in
    let next = c.push_byte.new.word.items in
    sym (at_drop_more (λ t. word ++ added (is_empty word) gap (t ++ left)) more c.loop-byte.byte-index 0 c.loop-byte-test.true
    ∙ byte_passes word gap byte rest
    ∙ ap (λ w. w ++ added (is_empty w) (is_whitespace byte) rest) (sym c.in_ok-push_byte.ensures)
    ∙ ap (λ g. next ++ added (is_empty next) g rest) (sym c.is_whitespace-self.ensures))
    ∙ c.loop-byte.invariant left

pub returns : goal.returns
returns c = λ left.
    ap (λ t. grown c.loop-byte.self (t ++ left)) (sym (drop_of_length-le c.args.more.now c.loop-byte-test.false)) ∙ c.loop-byte.invariant left
