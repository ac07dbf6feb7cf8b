-- What comes of requests: each is answered, and the documents stay.
use Rattle.std.proofs.Common.{◌≡◌, Bool, true, false, Option, Some, None, Result, Ok, Err, cond, inl, inr, refl}
use Rattle.std.specs.Prelude.{codes}
use Rattle.std.specs.Str.{bytes_eq}
use Rattle.text_json.specs.Told.{told_text}
use Rattle.text_bytes.specs.Text.{Text}
use Rattle.json.specs.Json.{Json, null}
use Rattle.lsp_answers.specs.Answers.{answer}
use Rattle.lsp_answers.specs.Queries.{QueryValue, query_of}
use Rattle.lsp_messages.specs.Options.{options_of}
use Rattle.lsp_messages.specs.Responses.{error_of}
use Rattle.lsp_messages.specs.declared.errors.ErrorCode.{ErrorCode}
use Rattle.lsp_messages.specs.declared.errors.ErrorCode.TheVariants.{InvalidParams, InvalidRequest, ServerNotInitialized}
use Rattle.lsp_answers.specs.Settings.{Settings}
use Rattle.lsp_server.specs.Beginning.{begun, begun_with, encoding_of, settings_asked}
use Rattle.lsp_server.specs.Capabilities.{initialized}
use Rattle.lsp_server.specs.Contents.{answered, requested, shut_down}
use Rattle.lsp_server.specs.Errors.{error_for, said_of}
use Rattle.lsp_server.specs.Laws.{IsAnswerTo}
use Rattle.lsp_server.specs.Servers.{Server, Step, sends}
use Rattle.lsp_server.specs.declared.server.Phase.{Phase}
use Rattle.lsp_server.specs.declared.server.Phase.TheVariants.{Down, Fresh, Running}

-- What a step sends answers the request of this id, and the documents of the server stay.
abbrev pub Answers : Server → (id : Json) → Step → Type 0
Answers server id step = IsAnswerTo id step.sent × (step.server.documents ≡ server.documents)

-- an error answers
refuses : (server : Server) (id : Json) (code : ErrorCode) (said : Text) → Answers server id (sends server (error_of (Some id) code said))
refuses server id code said = (inr (code, said, refl), refl)

-- so does a query, or the error in its place
answers : (server : Server) (id : Json) (query : Result QueryValue ErrorCode) → Answers server id (answered server id query)
answers server id (Ok query) = (inl (answer server.encoding server.settings query, refl), refl)
answers server id (Err code) = refuses server id code (said_of code)

-- so does `initialize`, whatever it asks for
begins_with : (server : Server) (id params : Json) (asked : Result Settings Text) → Answers server id (begun_with server id params asked)
begins_with server id params (Ok settings) = (inl (initialized (encoding_of params), refl), refl)
begins_with server id params (Err said) = refuses server id InvalidParams (told_text said)

begins : (server : Server) (id : Json) (params : Option Json) → Answers server id (begun server id params)
unfolding begun
begins server id None = refuses server id InvalidParams (said_of InvalidParams)
begins server id (Some params) = begins_with server id params (settings_asked (options_of params))

-- either of two steps answers if both do
either : (b : Bool) (server : Server) (id : Json) (one other : Step) → Answers server id one → Answers server id other → Answers server id (cond b one other)
either true server id one other f g = f
either false server id one other f g = g

-- so each request is answered
pub request_answered : (phase : Phase) (server : Server) (id : Json) (method : Text) (params : Option Json)
    → Answers server id (requested phase server id method params)
request_answered Fresh server id method params =
    either (bytes_eq method (codes "initialize")) server id (begun server id params) (sends server (error_for (Some id) ServerNotInitialized))
    (begins server id params) (refuses server id ServerNotInitialized (said_of ServerNotInitialized))
request_answered Running server id method params =
    either (bytes_eq method (codes "initialize")) server id (sends server (error_for (Some id) InvalidRequest))
    (cond (bytes_eq method (codes "shutdown")) (shut_down server id) (answered server id (query_of server.documents method params)))
    (refuses server id InvalidRequest (said_of InvalidRequest))
    (either (bytes_eq method (codes "shutdown")) server id (shut_down server id) (answered server id (query_of server.documents method params))
    (inl (null, refl), refl) (answers server id (query_of server.documents method params)))
request_answered Down server id method params = refuses server id InvalidRequest (said_of InvalidRequest)
