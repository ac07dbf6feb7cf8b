-- For examples: a small server.
use Rattle.std.specs.Prelude.{ℕ, ◌+◌, ◌==◌, if◌then◌else◌, Some, None, codes}
use Rattle.text_bytes.specs.Text.{Text}
use Rattle.lsp_server.specs.declared.frames.Item.{Item}
use Rattle.lsp_server.specs.declared.frames.Item.TheVariants as item
use Rattle.lsp_server.specs.declared.replying.Exit.TheVariants.{AfterShutdown}
use Rattle.lsp_server.specs.declared.replying.Reply.{Reply}
use Rattle.lsp_server.specs.AnyServer.{Server}

-- a content as it is, and a sign for what is none
abbrev pub said_back : Item → Text
said_back (item.Content text) = text
said_back item.NoFrame = codes "?"
said_back item.TooLong = codes "!"

-- what is said to an item after so many others: the client exits at the third
abbrev pub reply_after : ℕ → Item → Reply
reply_after count it = record { text = said_back it; exit = if count == 2 then Some AfterShutdown else None }

-- a server that counts items and says them back
abbrev pub repeats : Server ℕ
repeats = record { state = 0; reply = reply_after; after = λ count it. count + 1 }
