use Rattle.std.proofs.Common.{add-one, ap, drop, get_or, length, sym, ◌∙◌, arith}
use Rattle.std.proofs.Math.Seq.{take-length}
use Rattle.std.proofs.lemmas.List.{drop_all}
use Rattle.lsp_messages.specs.Starts.{ends_row}
use Rattle.lsp_messages.proofs.Cutting.{row_first, row_only}
use Rattle.lsp_messages.proofs.whole_rows.whole_row_len.Goals as goal

pub returns-then-ends_row-clause-row : goal.returns-then-ends_row-clause-row
returns-then-ends_row-clause-row c = λ some.
    rw (add-one c.loop-at.at)
    (row_first c.args.text.now c.loop-at.at c.loop-at-test.true
    (λ k l. ap (λ n. ends_row (get_or c.args.text.now k 0) (drop n c.args.text.now)) (sym (add-one k)) ∙ c.loop-at.invariant k l)
    (ap (λ n. ends_row (get_or c.args.text.now c.loop-at.at 0) (drop n c.args.text.now)) (sym (add-one c.loop-at.at)) ∙ sym c.ends_row.ensures ∙ c.if-ends_row.true))

pub returns-clause-row : goal.returns-clause-row
returns-clause-row c = λ some.
    rw (take-length c.args.text.now, drop_all (length c.args.text.now) c.args.text.now (omega arith))
    (row_only c.args.text.now some
    (λ k l. ap (λ n. ends_row (get_or c.args.text.now k 0) (drop n c.args.text.now)) (sym (add-one k)) ∙ c.loop-at.invariant k (omega arith)))
