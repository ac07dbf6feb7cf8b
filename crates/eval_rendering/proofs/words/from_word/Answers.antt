use Rattle.std.proofs.Common.{◌≡◌, ◌==◌, length, true, ap, sym, ◌∙◌, arith}
use Rattle.eval_rendering.proofs.Passing.{nothing_begins_after}
use Rattle.eval_rendering.specs.Words.{from_word}
use Rattle.eval_rendering.proofs.words.from_word.Goals as goal

pub returns-then-is_empty : goal.returns-then-is_empty
returns-then-is_empty c =
    let empty : (length (from_word c.loop-passed.passed c.args.text.now) == 0) ≡ true =
    ap (λ rest. length rest == 0) (sym c.loop-passed.invariant) ∙ sym c.is_empty.ensures ∙ c.if-is_empty.true in
    c.loop-passed.invariant ∙ nothing_begins_after c.args.number c.loop-passed.passed c.args.text.now (omega arith) empty
