use Rattle.std.proofs.Common.{◌≡◌, ◌∙◌, arith}
use Rattle.text_json.specs.Told.{told_text}
use Rattle.text_json.proofs.ReadBack.{told_utf8}
use Rattle.text_json.proofs.telling.told.Goals as goal

pub returns : goal.returns
returns c =
    let utf8 = told_utf8 c.args.text.now (λ k l. omega (arith, c.type_inv.text k)) in
    let same : c.deref.result.now ≡ told_text c.args.text.now = c.deref.ensures.value ∙ c.in_ok-bytes.ensures in
    c.in_ok-told.ensures.ok (rw same utf8) ∙ same
