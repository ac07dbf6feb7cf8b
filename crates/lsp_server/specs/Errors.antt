-- What is said about requests that are not answered.
use Rattle.std.specs.Prelude.{Option, codes}
use Rattle.text_bytes.specs.Text.{Text}
use Rattle.json.specs.Json.{Json}
use Rattle.lsp_messages.specs.Responses.{error_of}
use Rattle.lsp_messages.specs.declared.errors.ErrorCode.{ErrorCode}
use Rattle.lsp_messages.specs.declared.errors.ErrorCode.TheVariants.{InvalidParams, InvalidRequest, MethodNotFound, ParseError, ServerNotInitialized}

-- what is said about an error of this kind
abbrev pub said_of : ErrorCode → Text
said_of ParseError = codes "not JSON"
said_of InvalidRequest = codes "no request that can come now"
said_of MethodNotFound = codes "no such method"
said_of InvalidParams = codes "not the parameters of this method, or about a document that is not open"
said_of ServerNotInitialized = codes "the server is not initialized"

-- the error of this kind, to a request with an id or to what has none
abbrev pub error_for : Option Json → ErrorCode → Json
error_for id code = error_of id code (said_of code)
