-- Serves inner proofs only: the tokens of what a report has several of.
use Rattle.std.specs.Prelude.{List}
use Rattle.json.specs.Token.{Token}
use Rattle.json.specs.Tree.{json_tokens}
use Rattle.engine_formats.specs.Fingerprints.{FingerprintedValue}
use Rattle.engine_formats.specs.Json.{gitlab_issue}
use Rattle.engine_formats.specs.Sarif.{result_object, rule_object}
use Rattle.file_catalogue.specs.declared.remark.Remark.{Remark}

unfoldable pub issue_tokens : FingerprintedValue → List Token
issue_tokens f = json_tokens (gitlab_issue f)

unfoldable pub rule_tokens : Remark → List Token
rule_tokens remark = json_tokens (rule_object remark)

unfoldable pub result_tokens : FingerprintedValue → List Token
result_tokens f = json_tokens (result_object f)
