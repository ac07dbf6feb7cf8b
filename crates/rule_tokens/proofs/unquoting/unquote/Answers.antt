use Rattle.rule_tokens.proofs.Meanings.{given_only}
use Rattle.rule_tokens.proofs.unquoting.unquote.Goals as goal

pub returns-clause-only : goal.returns-clause-only
returns-clause-only c =
    rw (← c.token.view_is) (λ bytes m. given_only (λ v. v.items) c.token.inside.parts.quote c.token.inside.parts.value.now bytes c.meaning_of.result (rw c.has_escapes.ensures at c.meaning_of.ensures) m)
