-- What an answer unfolds to compute what texts are as messages.
use Rattle.std.specs.Prelude.{⊤}
use Rattle.fast_float.proofs.OnLiterals.{fast_float_on_literals}
use Rattle.json.proofs.OnLiterals.{json_on_literals}
use Rattle.lsp_messages.specs.Changes.{changes_of}
use Rattle.lsp_messages.specs.Messages.{message_of}
use Rattle.lsp_messages.specs.Numbers.{unsigned}
use Rattle.lsp_messages.specs.Offers.{offers_utf8}
use Rattle.lsp_messages.specs.Options.{options_of}
use Rattle.lsp_messages.specs.Parameters.{includes_declaration, opened_of, placed_of, ranged_of, uri_of, version_of}
use Rattle.lsp_messages.specs.Positions.{position_of, range_of}

unfoldable pub messages_on_literals : ⊤
unfolding json_on_literals fast_float_on_literals unsigned changes_of message_of offers_utf8 options_of includes_declaration opened_of placed_of ranged_of uri_of version_of position_of range_of
messages_on_literals = tt
