use Rattle.std.proofs.Common.{List, [], ◌∷◌, ◌++◌, ap, ◌∙◌}
use Rattle.json.specs.Token as token
use Rattle.json.specs.Token.{Token}
use Rattle.lsp_answers.specs.Actions.{actions}
use Rattle.text_json.proofs.Listed.{array_written, values_after}
use Rattle.lsp_answers.proofs.actions.write_actions.Goals as goal

pub returns-clause-tokens : goal.returns-clause-tokens
unfolding actions
returns-clause-tokens c =
    rw (
      c.in_ok-end_array.ensures.ok,
      c.in_ok-write_style_action.ensures.tokens,
      c.in_ok-write_fixes.ensures.tokens,
      c.in_ok-begin_array.ensures.ok,
    )
    (ap (λ (ts : List Token). ts ++ token.end_array ∷ []) (values_after _ _ _) ∙ array_written _ _)
