use Rattle.std.proofs.Common.{◌∷◌, [], codes, map}
use Rattle.json.specs.Token as token
use Rattle.json.specs.Tree.{json_tokens}
use Rattle.engine_formats.specs.Fingerprints.{shown_given}
use Rattle.text_json.specs.Values.{array_of}
use Rattle.engine_formats.specs.Sarif.{result_object, tool_object}
use Rattle.engine_formats.proofs.Issues.{seven_parts}
use Rattle.engine_formats.proofs.sarif.write_run.Goals as goal

pub returns-clause-tokens : goal.returns-clause-tokens
returns-clause-tokens c =
    rw (
      c.in_ok-end_object.ensures.ok,
      c.in_ok-write_results.ensures.tokens,
      c.in_ok-key-2.ensures.ok,
      c.in_ok-write_word.ensures.tokens,
      c.in_ok-write_tool.ensures.tokens,
      c.in_ok-key.ensures.ok,
      c.in_ok-begin_object.ensures.ok,
    )
    (seven_parts c.args.writer.now.tokens (token.begin_object ∷ []) (token.key (codes "tool") ∷ []) (json_tokens (tool_object c.args.remarks.now))
    (token.key (codes "columnKind") ∷ token.string (codes "unicodeCodePoints") ∷ []) (token.key (codes "results") ∷ [])
    (json_tokens (array_of (map result_object (map shown_given c.args.given.now)))) (token.end_object ∷ []))
