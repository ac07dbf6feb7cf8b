use Rattle.std.proofs.Common.{◌≡◌, true, Some, ap, sym, ◌∙◌}
use Rattle.lsp_messages.specs.Numbers.{is_whole, unsigned}
use Rattle.lsp_messages.proofs.Wholes.{number_told}
use Rattle.lsp_messages.proofs.numbers.unsigned.Goals as goal

pub returns : goal.returns
unfolding unsigned
returns c =
    let whole : is_whole c.scan-number.result ≡ true = sym c.is_whole.ensures ∙ c.if-not-is_whole.false in
    rw (c.capped.ensures, c.unwrap_or.ensures, ← c.scan-number.ensures.parts, whole)
    (ap Some (number_told c.scan-number.result c.whole_u64.result whole c.whole_u64.ensures))
