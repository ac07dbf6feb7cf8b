-- For laws: which texts go before a frame, and how much is held.
use Rattle.std.specs.Prelude.{◌≢◌, ◌+◌, ◌<◌, ◌≤◌, length}
use Rattle.std.specs.List.{AllByRecursion}
use Rattle.text_bytes.specs.Text.{Text}
use Rattle.text_bytes.specs.Names.{newline}
use Rattle.lsp_server.specs.Held.{Held}
use Rattle.lsp_server.specs.Held.Held.{Header, Content, Passing}
use Rattle.lsp_server.specs.Items.{most_content, most_header}

-- no byte of the text is a newline
abbrev pub HasNoNewline : Text → Type 0
HasNoNewline text = AllByRecursion (λ byte. byte ≢ newline) text

-- No more is held than a header part or a content may have.
abbrev pub HoldsLittle : Held → Type 0
HoldsLittle (Header header) = length header < most_header
HoldsLittle (Content missing content) = (0 < missing) × (missing + length content ≤ most_content)
HoldsLittle (Passing left) = Unit {0}
