-- A document that is out of step is asked about as one that is not open.
use Rattle.std.proofs.Common.{◌≡◌, Bool, true, false, List, Option, Some, None, Result, Ok, Err, cond, refl, ap, sym, ◌∙◌}
use Rattle.std.specs.Prelude.{codes}
use Rattle.std.specs.Cmp.Lexicographic.{bytes_decides}
use Rattle.std.specs.Str.{bytes_eq}
use Rattle.text_tables.proofs.Found.{value_removed}
use Rattle.text_tables.specs.Pairs.{value_of, with_value, without_name}
use Rattle.text_tables.specs.Texts.{same_text}
use Rattle.text_bytes.specs.Text.{Text}
use Rattle.json.specs.Json.{Json}
use Rattle.lsp_answers.specs.Queries.{QueryValue, method_of, query_about, query_by, query_in, query_of, query_with, range_asked}
use Rattle.lsp_answers.specs.declared.queries.Method.{Method}
use Rattle.lsp_messages.specs.Options.{options_of}
use Rattle.lsp_messages.specs.Parameters.{RangedValue}
use Rattle.lsp_messages.specs.declared.errors.ErrorCode.{ErrorCode}
use Rattle.lsp_messages.specs.declared.errors.ErrorCode.TheVariants.{InvalidParams, InvalidRequest, ServerNotInitialized}
use Rattle.lsp_answers.specs.Settings.{Settings}
use Rattle.lsp_messages.proofs.Holding.{others_found, own_found}
use Rattle.lsp_messages.specs.Documents.{may_be_held, with_document}
use Rattle.lsp_messages.specs.declared.documents.Document.{Document}
use Rattle.lsp_messages.specs.declared.documents.Document.TheVariants.{OutOfStep}
use Rattle.lsp_server.specs.Beginning.{begun, begun_with, settings_asked}
use Rattle.lsp_server.specs.Contents.{answered, requested, shut_down}
use Rattle.lsp_server.specs.Errors.{error_for}
use Rattle.lsp_server.specs.Servers.{Server, Step, sends}
use Rattle.lsp_server.specs.declared.server.Phase.{Phase}
use Rattle.lsp_server.specs.declared.server.Phase.TheVariants.{Down, Fresh, Running}

module _ (documents : List (Text × Document)) (uri : Text) where
  abbrev lost : List (Text × Document)
  lost = with_document documents uri OutOfStep

  abbrev gone : List (Text × Document)
  gone = without_name documents uri

  -- nothing can be asked about the document itself
  own_same : (method : Method) (params : Json) (range : RangedValue)
      → query_about method params range (value_of lost uri) ≡ query_about method params range (value_of gone uri)
  own_same method params range =
      ap (query_about method params range) (own_found documents uri OutOfStep) ∙ by (may_be_held (with_value documents uri OutOfStep))
      ∙ sym (ap (query_about method params range) (value_removed documents uri uri ∙ ap (λ b. cond b None (value_of documents uri)) ((bytes_decides uri uri).1 refl)))
    where
      by : (b : Bool) → query_about method params range (cond b (Some OutOfStep) None) ≡ Err InvalidParams
      by true = refl
      by false = refl

  about_same : (method : Method) (params : Json) (range : RangedValue)
      → query_about method params range (value_of lost range.uri) ≡ query_about method params range (value_of gone range.uri)
  about_same method params range = by (same_text range.uri uri) refl
    where
      by : (b : Bool) → same_text range.uri uri ≡ b → query_about method params range (value_of lost range.uri) ≡ query_about method params range (value_of gone range.uri)
      by true e =
          let is = (bytes_decides range.uri uri).0 e in
          ap (λ name. query_about method params range (value_of lost name)) is ∙ own_same method params range
          ∙ sym (ap (λ name. query_about method params range (value_of gone name)) is)
      by false e =
          ap (query_about method params range)
          (others_found documents uri OutOfStep range.uri e
          ∙ sym (value_removed documents uri range.uri ∙ ap (λ b. cond b None (value_of documents range.uri)) e))

  in_same : (method : Method) (params : Json) (range : Option RangedValue) → query_in lost method params range ≡ query_in gone method params range
  in_same method params None = refl
  in_same method params (Some range) = about_same method params range

  with_same : (method : Method) (params : Option Json) → query_with lost method params ≡ query_with gone method params
  with_same method None = refl
  with_same method (Some params) = in_same method params (range_asked method params)

  by_same : (method : Option Method) (params : Option Json) → query_by lost method params ≡ query_by gone method params
  by_same None params = refl
  by_same (Some method) params = with_same method params

  query_same : (method : Text) (params : Option Json) → query_of lost method params ≡ query_of gone method params
  query_same method params = by_same (method_of method) params

-- Two steps send the same.
abbrev pub SendTheSame : (one other : Step) → Type 0
SendTheSame one other = one.sent ≡ other.sent

-- if both alternatives do
either : (b : Bool) (one other first second : Step) → SendTheSame one first → SendTheSame other second → SendTheSame (cond b one other) (cond b first second)
either true one other first second f g = f
either false one other first second f g = g

module _ (server : Server) (uri : Text) (id : Json) where
  abbrev before : Server
  before = record server { documents = with_document server.documents uri OutOfStep }

  abbrev after : Server
  after = record server { documents = without_name server.documents uri }

  begins_with : (params : Json) (asked : Result Settings Text) → SendTheSame (begun_with before id params asked) (begun_with after id params asked)
  begins_with params (Ok settings) = refl
  begins_with params (Err said) = refl

  begins : (params : Option Json) → SendTheSame (begun before id params) (begun after id params)
  unfolding begun
  begins None = refl
  begins (Some params) = begins_with params (settings_asked (options_of params))

  query_answered : (query : Result QueryValue ErrorCode) → SendTheSame (answered before id query) (answered after id query)
  query_answered (Ok query) = refl
  query_answered (Err code) = refl

  answers : (method : Text) (params : Option Json)
      → SendTheSame (answered before id (query_of before.documents method params)) (answered after id (query_of after.documents method params))
  answers method params =
      ap (λ query. (answered before id query).sent) (query_same server.documents uri method params) ∙ query_answered (query_of after.documents method params)

  -- so each request is answered as if the document were not open
  pub asked_same : (phase : Phase) (method : Text) (params : Option Json)
      → SendTheSame (requested phase before id method params) (requested phase after id method params)
  asked_same Fresh method params =
      either (bytes_eq method (codes "initialize")) (begun before id params) (sends before (error_for (Some id) ServerNotInitialized))
      (begun after id params) (sends after (error_for (Some id) ServerNotInitialized)) (begins params) refl
  asked_same Running method params =
      either (bytes_eq method (codes "initialize")) (sends before (error_for (Some id) InvalidRequest))
      (cond (bytes_eq method (codes "shutdown")) (shut_down before id) (answered before id (query_of before.documents method params)))
      (sends after (error_for (Some id) InvalidRequest))
      (cond (bytes_eq method (codes "shutdown")) (shut_down after id) (answered after id (query_of after.documents method params)))
      refl
      (either (bytes_eq method (codes "shutdown")) (shut_down before id) (answered before id (query_of before.documents method params))
      (shut_down after id) (answered after id (query_of after.documents method params)) refl (answers method params))
  asked_same Down method params = refl
