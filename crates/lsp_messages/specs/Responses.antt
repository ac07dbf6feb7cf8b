-- What a server sends.
use Rattle.std.specs.Prelude.{ℤ, negsuc, List, [], ◌∷◌, ◌++◌, Option, codes, unwrap_or}
use Rattle.std.specs.Fmt.{signed_decimal}
use Rattle.text_bytes.specs.Text.{Text}
use Rattle.json.specs.Json.{Json, null, number, string}
use Rattle.json.specs.Token as token
use Rattle.json.specs.Token.{Token}
use Rattle.json.specs.Tree.{json_tokens}
use Rattle.text_json.specs.Values.{object_of}
use Rattle.lsp_messages.specs.declared.errors.ErrorCode.{ErrorCode}
use Rattle.lsp_messages.specs.declared.errors.ErrorCode.TheVariants.{ParseError, InvalidRequest, MethodNotFound, InvalidParams, ServerNotInitialized}

-- the member that each message begins with
abbrev pub version_member : Text × Json
version_member = (codes "jsonrpc", string (codes "2.0"))

-- the response to the request of this id
unfoldable pub response_of : Json → Json → Json
response_of id result = object_of (version_member ∷ (codes "id", id) ∷ (codes "result", result) ∷ [])

-- a notification
unfoldable pub notification_of : Text → Json → Json
notification_of method params = object_of (version_member ∷ (codes "method", string method) ∷ (codes "params", params) ∷ [])

-- the number of an error: 1 more than what follows, below zero
abbrev pub code_number : ErrorCode → ℤ
code_number ParseError = negsuc 32699
code_number InvalidRequest = negsuc 32599
code_number MethodNotFound = negsuc 32600
code_number InvalidParams = negsuc 32601
code_number ServerNotInitialized = negsuc 32001

-- what an error is: its number and what is said about it
unfoldable pub error_value : ErrorCode → Text → Json
error_value code message = object_of ((codes "code", number (signed_decimal (code_number code))) ∷ (codes "message", string message) ∷ [])

-- the response that is an error: without an id, its id is null
unfoldable pub error_of : Option Json → ErrorCode → Text → Json
error_of id code message = object_of (version_member ∷ (codes "id", unwrap_or id null) ∷ (codes "error", error_value code message) ∷ [])

-- the tokens of a response up to its result
unfoldable pub response_begins : Json → List Token
response_begins id =
    token.begin_object ∷ token.key (codes "jsonrpc") ∷ token.string (codes "2.0") ∷ token.key (codes "id") ∷ (json_tokens id ++ token.key (codes "result") ∷ [])

-- the tokens of a notification up to its parameters
unfoldable pub notification_begins : Text → List Token
notification_begins method =
    token.begin_object ∷ token.key (codes "jsonrpc") ∷ token.string (codes "2.0") ∷ token.key (codes "method") ∷ token.string method
    ∷ token.key (codes "params") ∷ []
