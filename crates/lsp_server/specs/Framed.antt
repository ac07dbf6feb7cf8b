-- How a content is framed.
use Rattle.std.specs.Prelude.{ℕ, ◌++◌, codes, decimal, length}
use Rattle.text_bytes.specs.Text.{Text}

-- what ends a header part: the end of its last line, and an empty line
abbrev pub header_end : Text
header_end = codes "\r\n\r\n"

-- the header part of a content of so many bytes
abbrev pub header_of : ℕ → Text
header_of size = codes "Content-Length: " ++ decimal size ++ header_end

-- a content with its header part
unfoldable pub framed : Text → Text
framed content = header_of (length content) ++ content
