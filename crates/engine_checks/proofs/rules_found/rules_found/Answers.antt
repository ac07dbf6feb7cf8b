use Rattle.std.proofs.Common.{◌≡◌, Some, None, ap, sym, ◌∙◌}
use Rattle.std.proofs.lemmas.Result.{IfOk-weaker}
use Rattle.text_bytes.specs.declared.source_file.SourceFile.{SourceFile}
use Rattle.rule_core.specs.Ends.{abandoned}
use Rattle.engine_checks.specs.Reported.{Asked}
use Rattle.engine_checks.proofs.ReadOnce.{found_abandoned, found_once, no_tokens, tokens_once}
use Rattle.engine_checks.proofs.rules_found.rules_found.Goals as goal

pub returns-in-Some-clause-found : goal.returns-in-Some-clause-found
returns-in-Some-clause-found c =
    let same = c.as_slice-bytes.ensures ∙ ap (λ (f : SourceFile). f.bytes) c.file-file.ensures in
    let ends : abandoned c.args.asked.now.profile c.as_slice-bytes.result.now ≡ Some c.in-Some.number =
    ap (λ (a : Asked). abandoned a.profile c.as_slice-bytes.result.now) (sym c.asked.view_is) ∙ sym c.abandoned_at.ensures ∙ c.in-Some.is in
    IfOk-weaker c.found_abandoned.result _ _
    (λ r h. h ∙ found_abandoned c.args.asked.now c.args.read.now c.text-text.result.now c.as_slice-bytes.result.now c.in-Some.number c.text-text.ensures same ends)
    c.found_abandoned.ensures.found

pub returns-in-Some-clause-tokens : goal.returns-in-Some-clause-tokens
returns-in-Some-clause-tokens c =
    let same = c.as_slice-bytes.ensures ∙ ap (λ (f : SourceFile). f.bytes) c.file-file.ensures in
    let ends : abandoned c.args.asked.now.profile c.as_slice-bytes.result.now ≡ Some c.in-Some.number =
    ap (λ (a : Asked). abandoned a.profile c.as_slice-bytes.result.now) (sym c.asked.view_is) ∙ sym c.abandoned_at.ensures ∙ c.in-Some.is in
    IfOk-weaker c.found_abandoned.result _ _
    (λ r h. h ∙ sym (no_tokens c.args.asked.now.profile c.args.read.now.file c.as_slice-bytes.result.now c.in-Some.number same ends))
    c.found_abandoned.ensures.tokens

pub returns-in-None-clause-found : goal.returns-in-None-clause-found
returns-in-None-clause-found c =
    let same = c.as_slice-bytes.ensures ∙ ap (λ (f : SourceFile). f.bytes) c.file-file.ensures in
    let named = c.as_slice-name.ensures ∙ ap (λ (f : SourceFile). f.name) c.file-file.ensures in
    let goes_on : abandoned c.args.asked.now.profile c.as_slice-bytes.result.now ≡ None =
    ap (λ (a : Asked). abandoned a.profile c.as_slice-bytes.result.now) (sym c.asked.view_is) ∙ sym c.abandoned_at.ensures ∙ c.in-None.is in
    IfOk-weaker c.found_in_lines.result _ _
    (λ r h. h ∙ found_once c.args.asked.now c.args.read.now c.as_slice-name.result.now c.text-text.result.now c.as_slice-bytes.result.now c.args.joined.now c.text-text.ensures named same c.requires goes_on)
    c.found_in_lines.ensures.found

pub returns-in-None-clause-tokens : goal.returns-in-None-clause-tokens
returns-in-None-clause-tokens c =
    let same = c.as_slice-bytes.ensures ∙ ap (λ (f : SourceFile). f.bytes) c.file-file.ensures in
    let goes_on : abandoned c.args.asked.now.profile c.as_slice-bytes.result.now ≡ None =
    ap (λ (a : Asked). abandoned a.profile c.as_slice-bytes.result.now) (sym c.asked.view_is) ∙ sym c.abandoned_at.ensures ∙ c.in-None.is in
    IfOk-weaker c.found_in_lines.result _ _
    (λ r h. h ∙ sym (tokens_once c.args.asked.now.profile c.args.read.now.file c.as_slice-bytes.result.now c.args.joined.now same c.requires goes_on))
    c.found_in_lines.ensures.tokens
