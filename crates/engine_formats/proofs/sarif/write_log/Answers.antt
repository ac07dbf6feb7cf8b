use Rattle.std.proofs.Common.{◌∷◌, [], codes, map}
use Rattle.json.specs.Token as token
use Rattle.json.specs.Tree.{json_tokens}
use Rattle.engine_formats.specs.Fingerprints.{shown_given}
use Rattle.engine_formats.specs.Sarif.{run_object, schema}
use Rattle.engine_formats.proofs.Issues.{eight_parts}
use Rattle.engine_formats.proofs.sarif.write_log.Goals as goal

pub returns-clause-tokens : goal.returns-clause-tokens
returns-clause-tokens c =
    rw (
      c.in_ok-end_object.ensures.ok,
      c.in_ok-end_array.ensures.ok,
      c.in_ok-write_run.ensures.tokens,
      c.in_ok-begin_array.ensures.ok,
      c.in_ok-key.ensures.ok,
      c.in_ok-write_word-2.ensures.tokens,
      c.in_ok-write_word.ensures.tokens,
      c.in_ok-begin_object.ensures.ok,
    )
    (eight_parts c.args.writer.now.tokens (token.begin_object ∷ []) (token.key (codes "$schema") ∷ token.string schema ∷ [])
    (token.key (codes "version") ∷ token.string (codes "2.1.0") ∷ []) (token.key (codes "runs") ∷ []) (token.begin_array ∷ [])
    (json_tokens (run_object c.args.remarks.now (map shown_given c.args.given.now))) (token.end_array ∷ []) (token.end_object ∷ []))
