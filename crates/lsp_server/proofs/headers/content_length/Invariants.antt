use Rattle.std.proofs.Common.{◌≡◌, ◌^◌, ◌<◌, length, None}
use Rattle.std.specs.Option.{ForSome}
use Rattle.text_bytes.specs.Lines.{lines}
use Rattle.lsp_server.specs.Headers.{length_after}
use Rattle.lsp_server.proofs.headers.content_length.Given as goal

abbrev pub invariant-loop-rest : goal.invariant-loop-rest
invariant-loop-rest l = record { same : length_after l.found (lines l.rest) ≡ length_after None (lines l.header); below : ForSome l.found (λ size. size < 2 ^ 32) }

abbrev pub decreases-loop-rest : goal.decreases-loop-rest
decreases-loop-rest l = length l.rest
