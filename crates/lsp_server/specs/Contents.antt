-- What comes of each content that a client sends.
use Rattle.std.specs.Option.{option_map_or}
use Rattle.std.specs.Prelude.{Bool, false, if◌then◌else◌, Option, Some, None, Result, Ok, Err, codes}
use Rattle.std.specs.Str.{bytes_eq, is_utf8}
use Rattle.text_bytes.specs.Text.{Text}
use Rattle.json.specs.Json.{Json, document, null}
use Rattle.lsp_answers.specs.Answers.{answer}
use Rattle.lsp_answers.specs.Queries.{QueryValue, query_of}
use Rattle.lsp_server.specs.declared.frames.Item.{Item}
use Rattle.lsp_server.specs.declared.frames.Item.TheVariants.{Content, NoFrame, TooLong}
use Rattle.lsp_messages.specs.Changes.{changes_of}
use Rattle.lsp_messages.specs.Messages.{MessageValue, invalid, message_of, notification, request, response}
use Rattle.lsp_messages.specs.Parameters.{opened_of, uri_of, version_of}
use Rattle.lsp_messages.specs.Responses.{response_of}
use Rattle.lsp_messages.specs.declared.errors.ErrorCode.{ErrorCode}
use Rattle.lsp_messages.specs.declared.errors.ErrorCode.TheVariants.{InvalidRequest, ParseError, ServerNotInitialized}
use Rattle.lsp_server.specs.Beginning.{begun}
use Rattle.lsp_server.specs.Documents.{changed, closed, opened}
use Rattle.lsp_server.specs.Errors.{error_for}
use Rattle.lsp_server.specs.Servers.{Server, Step, is_silent, sends}
use Rattle.lsp_server.specs.declared.server.Phase.{Phase}
use Rattle.lsp_server.specs.declared.server.Phase.TheVariants.{Down, Fresh, Running}

-- the answer to a query, or the error in its place
abbrev pub answered : Server → (id : Json) → Result QueryValue ErrorCode → Step
answered server id (Ok query) = sends server (response_of id (answer server.encoding server.settings query))
answered server id (Err code) = sends server (error_for (Some id) code)

-- what comes of `shutdown`
abbrev pub shut_down : Server → (id : Json) → Step
shut_down server id = record { server = record server { phase = Down }; sent = Some (response_of id null) }

-- what comes of a request: the first is `initialize`, which comes once, and after `shutdown` none is answered
abbrev pub requested : Phase → Server → (id : Json) → (method : Text) → Option Json → Step
requested Fresh server id method params =
    if bytes_eq method (codes "initialize") then begun server id params
    else sends server (error_for (Some id) ServerNotInitialized)
requested Running server id method params =
    if bytes_eq method (codes "initialize") then sends server (error_for (Some id) InvalidRequest)
    else if bytes_eq method (codes "shutdown") then shut_down server id
    else answered server id (query_of server.documents method params)
requested Down server id method params = sends server (error_for (Some id) InvalidRequest)

-- what comes of a notification with parameters
abbrev pub told_of : Server → (method : Text) → Json → Step
told_of server method params =
    if bytes_eq method (codes "textDocument/didOpen") then opened server (opened_of params) (uri_of params)
    else if bytes_eq method (codes "textDocument/didChange") then changed server (uri_of params) (version_of params) (changes_of params)
    else if bytes_eq method (codes "textDocument/didClose") then closed server (uri_of params)
    else is_silent server

-- what comes of a notification: outside `initialize` and `shutdown` nothing does, nor of one without parameters
abbrev pub notified : Phase → Server → (method : Text) → Option Json → Step
notified Running server method (Some params) = told_of server method params
notified _ server method _ = is_silent server

-- what comes of a message
abbrev pub step_of : Server → MessageValue → Step
step_of server (request id method params) = requested server.phase server id method params
step_of server (notification method params) = notified server.phase server method params
step_of server response = is_silent server
step_of server invalid = sends server (error_for None InvalidRequest)

-- what comes of a content as a value
abbrev pub step_by : Server → Option Json → Step
step_by server None = sends server (error_for None ParseError)
step_by server (Some value) = step_of server (message_of value)

-- the value that a content is: UTF-8 and JSON
abbrev pub value_of_content : Text → Option Json
value_of_content content = if is_utf8 content then document content else None

-- what comes of a frame: of its content, or of what is no frame or too long
unfoldable pub step : Server → Item → Step
step server (Content content) = step_by server (value_of_content content)
step server NoFrame = sends server (error_for None ParseError)
step server TooLong = sends server (error_for None InvalidRequest)

-- whether a message is the notification `exit`
abbrev pub is_exit : MessageValue → Bool
is_exit (notification method params) = bytes_eq method (codes "exit")
is_exit _ = false

-- whether a frame is the notification `exit`
abbrev pub exits : Item → Bool
exits (Content content) = option_map_or (λ value. is_exit (message_of value)) (value_of_content content) false
exits _ = false
