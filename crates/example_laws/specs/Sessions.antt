-- What a client and the language server send one another, as the contents of frames, and how a session ends.
use Rattle.std.specs.Prelude.{ℕ, ◌++◌, List, [], codes, decimal, flat_map}
use Rattle.text_bytes.specs.Text.{Text}
use Rattle.engine_sessions.specs.Delivery.{RunOutcome}
use Rattle.lsp_server.specs.Framed.{framed}
use Rattle.lsp_server.specs.Outcomes.{session_outcome}
use Rattle.lsp_server.specs.AnyServer.{acting}
use Rattle.lsp_server.specs.Replies.{after, reply}
use Rattle.lsp_server.specs.Servers.{first}

-- the outcome of a session in which a client sends these contents, and then its input ends
unfoldable pub session : List Text → RunOutcome
session contents = session_outcome [] (acting reply after first) (flat_map framed contents)

-- the outcome in which these contents are sent to the client, with this status
abbrev pub replied : List Text → ℕ → RunOutcome
replied contents status = record { output = flat_map framed contents; messages = []; status = status }

-- a place: a line, counted from 0, and a character in it
abbrev pub place : (line character : ℕ) → Text
place line character = codes "{\"line\":" ++ decimal line ++ codes ",\"character\":" ++ decimal character ++ codes "}"

-- a range between two places
abbrev pub range : (start end : Text) → Text
range start end = codes "{\"start\":" ++ start ++ codes ",\"end\":" ++ end ++ codes "}"

-- the parameters of a message about the document `r`: what else is said of the document, and what follows it
abbrev pub about : (document more : Text) → Text
about document more = codes "\"params\":{\"textDocument\":{\"uri\":\"r\"" ++ document ++ codes "}" ++ more ++ codes "}"

-- a notification about it, by its method
abbrev pub tells : (method document more : Text) → Text
tells method document more = codes "{\"method\":\"textDocument/" ++ method ++ codes "\"," ++ about document more ++ codes "}"

-- a request about it, by its number and its method
abbrev pub asks : (id : ℕ) → (method more : Text) → Text
asks id method more = codes "{\"id\":" ++ decimal id ++ codes ",\"method\":\"textDocument/" ++ method ++ codes "\"," ++ about [] more ++ codes "}"

-- the response to a request
abbrev pub answers : (id : ℕ) → (result : Text) → Text
answers id result = codes "{\"jsonrpc\":\"2.0\",\"id\":" ++ decimal id ++ codes ",\"result\":" ++ result ++ codes "}"

-- what is reported for a document, by its URI with what follows it, and by the diagnostics
abbrev pub reports : (document diagnostics : Text) → Text
reports document diagnostics =
    codes "{\"jsonrpc\":\"2.0\",\"method\":\"textDocument/publishDiagnostics\",\"params\":{\"uri\":\"" ++ document ++ codes ",\"diagnostics\":["
    ++ diagnostics ++ codes "]}}"

-- what a client sends first
abbrev pub initialize : Text
initialize = codes "{\"id\":1,\"method\":\"initialize\",\"params\":{}}"

-- what is replied to it: what the server can do
abbrev pub initialized : Text
initialized =
    answers 1 (codes "{\"capabilities\":{\"positionEncoding\":\"utf-16\",\"textDocumentSync\":{\"openClose\":true,\"change\":2},\"hoverProvider\":true,"
    ++ codes "\"completionProvider\":{\"triggerCharacters\":[\"$\",\"%\",\"{\",\"\\\"\"]},\"definitionProvider\":true,\"referencesProvider\":true,"
    ++ codes "\"documentSymbolProvider\":true,\"codeActionProvider\":{\"codeActionKinds\":[\"quickfix\"]},\"documentFormattingProvider\":true},"
    ++ codes "\"serverInfo\":{\"name\":\"devdry-lsp\",\"version\":\"0.1.0\"}}")

-- two rules as a text in JSON, with this between the two keys of the first one
abbrev pub rules : (between : Text) → Text
rules between = codes "KERNEL==\\\"k\\\"" ++ between ++ codes "GOTO=\\\"a\\\"\\nLABEL=\\\"a\\\", KERNEL==\\\"k\\\", RUN{builtin}+=\\\"kmod\\\""

-- the mark on them if no blank is behind the comma there
abbrev pub blank_is_missing : Text
blank_is_missing =
    codes "{\"range\":" ++ range (place 0 12) (place 0 16) ++ codes ",\"severity\":2,\"code\":\"S2\",\"source\":\"devdry\","
    ++ codes "\"message\":\"blank after a comma expected: GOTO\\nPut a space after the comma.\"}"

-- the edit that mends them
abbrev pub mended : Text
mended = codes "{\"range\":" ++ range (place 0 0) (place 1 44) ++ codes ",\"newText\":\"" ++ rules (codes ", ") ++ codes "\"}"

-- a text as Markdown
abbrev pub markdown : (text : Text) → Text
markdown text = codes "{\"kind\":\"markdown\",\"value\":\"" ++ text ++ codes "\"}"

-- what `program` means in the braces of RUN, with an example
abbrev pub meaning_of_program : Text
meaning_of_program =
    markdown (codes "Runs a program once all rules are done, as `RUN` without braces does. A name without a slash is looked for in `/usr/lib/udev`."
    ++ codes "\\n\\n```\\nACTION==\\\"add\\\", RUN{program}+=\\\"/usr/local/bin/log-port %k\\\"\\n```")

-- what `builtin` means there
abbrev pub meaning_of_builtin : Text
meaning_of_builtin =
    markdown (codes "Runs a command that is built into udev once all rules are done, such as `kmod` or `uaccess`."
    ++ codes "\\n\\n```\\nENV{MODALIAS}==\\\"?*\\\", RUN{builtin}+=\\\"kmod load '$env{MODALIAS}'\\\"\\n```")
