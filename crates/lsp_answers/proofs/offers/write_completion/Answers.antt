use Rattle.std.proofs.Common.{◌≡◌, List, [], ◌∷◌, ◌++◌, Option, ap, append_assoc, take, ◌∙◌}
use Rattle.text_bytes.specs.declared.source_file.FileKind.{FileKind}
use Rattle.json.specs.Json.{Json}
use Rattle.json.specs.Token as token
use Rattle.json.specs.Token.{Token}
use Rattle.json.specs.Tree.{json_tokens}
use Rattle.text_json.specs.Values.{array_of}
use Rattle.lsp_messages.specs.declared.counting.Encoding.{Encoding}
use Rattle.lsp_words.specs.Completions.{Offer, completions_at}
use Rattle.lsp_answers.specs.Offers.{completion, offered_names}
use Rattle.lsp_answers.specs.Spots.{Spot}
use Rattle.text_json.proofs.Listed.{array_written}
use Rattle.lsp_answers.proofs.offers.write_completion.Goals as goal
use Rattle.lsp_answers.proofs.offers.write_completion.Goals.{in-Some+in_ok-write_offered_names, in_default}

-- what is offered at a place
abbrev offered_at : Encoding → FileKind → Spot → List Json
offered_at encoding kind spot = offered_names encoding spot (completions_at kind (take spot.at spot.row))

-- the same place has the same offer
offered_same : (encoding : Encoding) (kind : FileKind) (spot asked : Spot) (offer : Option Offer) (old : List Token)
    → spot ≡ asked → offer ≡ completions_at kind (take spot.at spot.row)
    → old ++ json_tokens (array_of (offered_names encoding spot offer)) ≡ old ++ json_tokens (array_of (offered_at encoding kind asked))
offered_same encoding kind spot asked offer old same found =
    ap (λ (js : List Json). old ++ json_tokens (array_of js)) (ap (offered_names encoding spot) found ∙ ap (offered_at encoding kind) same)

pub returns-clause-tokens : goal.returns-clause-tokens
unfolding completion
returns-clause-tokens c =
    elim c.match-completions_at.branch [
      | in-Some+in_ok-write_offered_names w ↦
          rw (
            c.in_ok-end_array.ensures.ok,
            w.writer-is,
            w.in_ok-write_offered_names.ensures.tokens,
            c.in_ok-begin_array.ensures.ok,
            ← c.spot.view_is,
          )
          (array_written _ _
          ∙ offered_same _ _ _ _ _ _ (c.spot.view_is ∙ c.in_ok-spot.ensures)
          (rw (c.kind_of.ensures, c.as_bytes.ensures.value, c.front.ensures) at w.in-Some.ensures.value))
      | in_default w ↦
          rw (c.in_ok-end_array.ensures.ok, w.writer-is, c.in_ok-begin_array.ensures.ok)
          (append_assoc c.args.writer.now.tokens (token.begin_array ∷ []) (token.end_array ∷ [])
          ∙ offered_same _ _ _ _ _ _ (c.spot.view_is ∙ c.in_ok-spot.ensures)
          (rw (c.kind_of.ensures, c.as_bytes.ensures.value, c.front.ensures) at w.in_default.ensures.value))
    ]
