use Rattle.std.proofs.Common.{sym, ◌∙◌}
use Rattle.std.proofs.lemmas.Result.{err_from_is_err_and}
use Rattle.rule_tokens.specs.TemplateReading.{pieces_of}
use Rattle.rule_tokens.proofs.TemplatePieces.{read_more, fails_more, read_all}
use Rattle.rule_tokens.proofs.template.pieces_of.Goals as goal

pub returns-in_err-piece : goal.returns-in_err-piece
returns-in_err-piece c =
    let p = err_from_is_err_and c.from_residual.result c.from_residual.ensures.1 in
    rw (p.1, p.2) (fails_more c.loop-byte.pieces.items c.in_err-piece.field-0.0 c.in-Some.byte.now c.in-Some.after.now c.loop-byte.rest.now (pieces_of c.args.text.now) c.in-Some.ensures.cases.0 c.in_err-piece.ensures.value c.loop-byte.invariant)

pub loop-byte-preserved : goal.loop-byte-preserved
loop-byte-preserved c =
    rw c.in_ok-push.ensures.items (
    read_more c.loop-byte.pieces.items c.in_ok-piece.piece c.in-Some.byte.now c.in-Some.after.now c.loop-byte.rest.now c.in_ok-piece.left.now
    c.in-Some.ensures.cases.0 c.in_ok-piece.ensures.value
    ∙ c.loop-byte.invariant)

pub returns : goal.returns
returns c = sym c.loop-byte.invariant ∙ read_all c.loop-byte.pieces.items c.loop-byte.rest.now c.in_default.ensures.cases
