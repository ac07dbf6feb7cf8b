-- What is read of a text, byte by byte.
use Rattle.std.specs.Prelude.{ℕ, ◌-◌, ◌==◌, List, [], ◌∷◌, ◌++◌, Option, Some, None, if◌then◌else◌, length, nat_le, nat_lt}
use Rattle.std.specs.Option.{option_to_list}
use Rattle.text_bytes.specs.Text.{Text}
use Rattle.lsp_server.specs.Headers.{content_length, is_ended}
use Rattle.lsp_server.specs.Held.{Held, start}
use Rattle.lsp_server.specs.Held.Held.{Header, Content, Passing}
use Rattle.lsp_server.specs.declared.frames.Item.{Item}
use Rattle.lsp_server.specs.declared.frames.Item.TheVariants as item

-- the most bytes of a header part
abbrev pub most_header : ℕ
most_header = 4096

-- the most bytes of a content
abbrev pub most_content : ℕ
most_content = 16777216

-- what is held after a byte, and the item that it completes, if it completes one
pub record Taken : Type 0 where
  pub held : Held
  pub item : Option Item

-- an item is complete, and nothing is held
abbrev pub completes : Item → Taken
completes item = record { held = start; item = Some item }

-- this is held, and no item is complete
abbrev pub holds : Held → Taken
holds held = record { held = held; item = None }

-- after a header part, by the length that it gives: a content of so many bytes comes; or it is complete, if it has none; or so many bytes
-- are passed over, if they are too many
abbrev pub headed : Option ℕ → Taken
headed None = completes item.NoFrame
headed (Some size) =
    if nat_lt most_content size then record { held = Passing size; item = Some item.TooLong }
    else if size == 0 then completes (item.Content [])
    else holds (Content size [])

-- after the bytes of a header part: it has ended, or it is too long, or it goes on
abbrev pub header_taken : Text → Taken
header_taken header =
    if is_ended header then headed (content_length header)
    else if nat_le most_header (length header) then completes item.NoFrame
    else holds (Header header)

-- after the bytes of a content, of which so many were still to come before the last of them
abbrev pub content_taken : ℕ → Text → Taken
content_taken missing content = if nat_le missing 1 then completes (item.Content content) else holds (Content (missing - 1) content)

-- after a byte that is passed over, by how many there were to pass over before it
abbrev pub passed : ℕ → Taken
passed left = if nat_le left 1 then holds start else holds (Passing (left - 1))

-- after one byte more
abbrev pub taken : Held → ℕ → Taken
taken (Header header) byte = header_taken (header ++ byte ∷ [])
taken (Content missing content) byte = content_taken missing (content ++ byte ∷ [])
taken (Passing left) byte = passed left

-- what is held after a text
abbrev pub held_after : Held → Text → Held
held_after held [] = held
held_after held (byte ∷ text) = held_after (taken held byte).held text

-- the items that the bytes of a text complete, in order
abbrev pub items_after : Held → Text → List Item
items_after held [] = []
items_after held (byte ∷ text) = option_to_list (taken held byte).item ++ items_after (taken held byte).held text

-- the items of a text from its start
abbrev pub items : Text → List Item
items text = items_after start text
