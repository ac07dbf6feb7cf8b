-- What is written is read back.
use Rattle.std.proofs.Common.{◌≡◌, ℕ, ◌^◌, ◌<◌, true, List, Some, None, refl, arith}
use Rattle.std.specs.Int.Signed.{mag}
use Rattle.json.specs.Json.{Json, array, boolean, document, max_depth, null, number, object, string}
use Rattle.json.specs.Print.{print}
use Rattle.json.specs.Tree.{HasNumbers, depth, json_tokens}
use Rattle.json.proofs.Printed.Decimals.{IsNumber-signed_decimal}
use Rattle.json.proofs.Printed.Trees.{document-print}
use Rattle.lsp_messages.specs.Messages.{is_id}
use Rattle.lsp_messages.specs.Positions.{place, position_of, position_value, range_of, range_value}
use Rattle.lsp_messages.proofs.NumbersBack.{number_back}
use Rattle.lsp_messages.specs.Responses.{code_number, error_of, error_value, notification_of, response_of}
use Rattle.lsp_messages.specs.declared.errors.ErrorCode.{ErrorCode}
use Rattle.lsp_messages.specs.declared.errors.ErrorCode.TheVariants.{InvalidParams, InvalidRequest, MethodNotFound, ParseError, ServerNotInitialized}

pub position_back : (line character : ℕ) → line < 2 ^ 32 → character < 2 ^ 32 → position_of (position_value (place line character)) ≡ Some (place line character)
unfolding position_of position_value
position_back line character l h = rw (number_back line l, number_back character h) refl

pub range_back : (line character last end : ℕ) → line < 2 ^ 32 → character < 2 ^ 32 → last < 2 ^ 32 → end < 2 ^ 32
    → range_of (range_value (place line character) (place last end)) ≡ Some (place line character, place last end)
unfolding range_of range_value position_of position_value
range_back line character last end a b c d = rw (number_back line a, number_back character b, number_back last c, number_back end d) refl

id_depth : (id : Json) → is_id id ≡ true → depth id ≡ 0
id_depth null h = cc
id_depth (boolean b) h = cc
id_depth (number s) h = refl
id_depth (string s) h = refl
id_depth (array js) h = cc
id_depth (object ms) h = cc

pub response_read : (id result : Json) → is_id id ≡ true → HasNumbers id → HasNumbers result → depth result < max_depth
    → document (print (json_tokens (response_of id result))) ≡ Some (response_of id result)
unfolding response_of
response_read id result is first second low = document-print (response_of id result) (tt, (first, (second, tt))) (omega (arith, id_depth id is))

pub notification_read : (method : List ℕ) (params : Json) → HasNumbers params → depth params < max_depth
    → document (print (json_tokens (notification_of method params))) ≡ Some (notification_of method params)
unfolding notification_of
notification_read method params numbers low = document-print (notification_of method params) (tt, (tt, (numbers, tt))) (omega arith)

code_small : (code : ErrorCode) → mag (code_number code) < 2 ^ 63
code_small ParseError = omega arith
code_small InvalidRequest = omega arith
code_small MethodNotFound = omega arith
code_small InvalidParams = omega arith
code_small ServerNotInitialized = omega arith

pub error_read : (id : Json) (code : ErrorCode) (said : List ℕ) → is_id id ≡ true → HasNumbers id
    → document (print (json_tokens (error_of (Some id) code said))) ≡ Some (error_of (Some id) code said)
unfolding error_of error_value
error_read id code said is numbers =
    document-print (error_of (Some id) code said) (tt, (numbers, ((IsNumber-signed_decimal (code_number code) (code_small code), (tt, tt)), tt))) (omega (arith, id_depth id is))

pub error_without_id_read : (code : ErrorCode) (said : List ℕ) → document (print (json_tokens (error_of None code said))) ≡ Some (error_of None code said)
unfolding error_of error_value
error_without_id_read code said =
    document-print (error_of None code said) (tt, (tt, ((IsNumber-signed_decimal (code_number code) (code_small code), (tt, tt)), tt))) (omega arith)
