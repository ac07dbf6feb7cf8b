use Rattle.std.proofs.Common.{sym, ◌∙◌, ap}
use Rattle.std.proofs.lemmas.Result.{IfOk-weaker}
use Rattle.rule_types.specs.Names.{key_of}
use Rattle.rule_parts.proofs.Written.{written_as}
use Rattle.rule_parts.proofs.reading.read_part.Goals as goal

pub returns-clause-written : goal.returns-clause-written
returns-clause-written c =
    IfOk-weaker c.value_part.result _ _ (λ p h. written_as c.args.profile c.args.token.now.parts.head.key c.in-Some.key c.args.token.now.parts.head.attribute c.in-Some-topic_of.topic c.in-Some-role_of.role c.in_ok-text.text.items p
    (ap key_of (sym c.key.ensures) ∙ sym c.in-Some.ensures.value) (rw (c.in_ok-attribute.ensures, c.attribute.ensures) at c.in-Some-topic_of.ensures.written) c.in-Some-role_of.ensures.written h) c.value_part.ensures.written
