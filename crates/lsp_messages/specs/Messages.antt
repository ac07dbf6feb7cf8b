-- What a client sent, by the members of its object.
use Rattle.std.specs.Prelude.{Bool, true, false, ◌&&◌, ◌||◌, is_some, if◌then◌else◌, Option, Some, None, codes, option_map, ⊤}
use Rattle.std.specs.Option.{option_map_or}
use Rattle.text_bytes.specs.Text.{Text}
use Rattle.json.specs.Json.{Json, null, boolean, number, string, array, object}
use Rattle.json.specs.Find.{as_str, get}
use Rattle.json.specs.Tree.{HasNumbers}
use Rattle.json.specs.Value.{value_view}
use Rattle.lsp_messages.specs.declared.message.Message.{Message}
use Rattle.lsp_messages.specs.declared.message.Message.TheVariants.{Request, Notification, Response, Invalid}

-- what a client sent: a request with its id, its method and its parameters, a notification with these two, a response, or none of them
pub data MessageValue : Type 0 where
  request : Json → Text → Option Json → MessageValue
  notification : Text → Option Json → MessageValue
  response : MessageValue
  invalid : MessageValue

-- what a contract sees of a message
abbrev pub shown : Message → MessageValue
shown (Request id method params) = request (value_view id.now) method.now (option_map (λ p. value_view p.now) params)
shown (Notification method params) = notification method.now (option_map (λ p. value_view p.now) params)
shown Response = response
shown Invalid = invalid

-- whether a value can be an id: a string or a number
abbrev pub is_id : Json → Bool
is_id null = false
is_id (boolean b) = false
is_id (number s) = true
is_id (string s) = true
is_id (array js) = false
is_id (object ms) = false

-- what a value with a method is: without an id a notification, with one a request
abbrev pub called : Option Json → Text → Option Json → MessageValue
called None method params = notification method params
called (Some id) method params = if is_id id then request id method params else invalid

-- what a value without a method is: a response if it has an id, and a result or an error
abbrev pub unnamed : Json → MessageValue
unnamed value =
    if (is_some (get (codes "result") value) || is_some (get (codes "error") value)) && is_some (get (codes "id") value) then response else invalid

-- what a value is by its member `method`, which has to be a string if it is there
abbrev pub message_by : Json → Option Json → MessageValue
message_by value None = unnamed value
message_by value (Some name) = option_map_or (λ method. called (get (codes "id") value) method (get (codes "params") value)) (as_str name) invalid

-- what a value is as a message
unfoldable pub message_of : Json → MessageValue
message_of value = message_by value (get (codes "method") value)

-- the numbers of the id of a request are numbers, so that it can be written
abbrev pub IdHasNumbers : MessageValue → Type 0
IdHasNumbers (request id method params) = HasNumbers id
IdHasNumbers (notification method params) = ⊤
IdHasNumbers response = ⊤
IdHasNumbers invalid = ⊤
