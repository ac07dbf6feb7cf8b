use Rattle.std.proofs.Common.{arith}
use Rattle.text_bytes.proofs.ReadingBack.{encoded_read}
use Rattle.text_bytes.proofs.encodings.encoded_is_read_back.Goals as goal

pub returns : goal.returns
returns c = encoded_read c.args.text.now (λ k within. omega (arith, c.type_inv.text k))
