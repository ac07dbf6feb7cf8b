use Rattle.std.proofs.Common.{◌≡◌, ◌++◌, ◌∙◌, IfOk, None, Option, ap, refl, subst, sym, true, false}
use Rattle.std.specs.Prelude.{MatchBool}
use Rattle.std.specs.Str.{is_utf8}
use Rattle.std.proofs.lemmas.Str.{is_utf8-from_IsUtf8}
use Rattle.builtin_devices.specs.declared.root_files.RootFile.{RootFile}
use Rattle.devdry_links.specs.ImportReading.{IsFound}
use Rattle.text_bytes.proofs.Utf8.{not_utf8}
use Rattle.devdry_links.proofs.import_reading.found_below.Goals as goal

pub returns-in_ok-whole-in-Ok : goal.returns-in_ok-whole-in-Ok
returns-in_ok-whole-in-Ok g c =
    let may = g.D.Disk.may_answer c.args.disk.now in
    let whole = c.args.root.now ++ c.args.path.now in
    let utf8 : is_utf8 c.args.path.now ≡ true = is_utf8-from_IsUtf8 c.args.path.now c.in-Ok.ensures.cases.1 in
    let at : c.as_str.result.now ≡ whole = c.as_str.ensures.value ∙ c.in_ok-whole-in-Ok.ensures ∙ ap (λ p. c.args.root.now ++ p) c.in-Ok.ensures.cases.0 in
    let found : IfOk c.found_at.result (IsFound may whole) = subst (λ p. IfOk c.found_at.result (IsFound may p)) at c.found_at.ensures in
    subst (λ b. IfOk c.found_at.result (λ it. MatchBool b (IsFound may whole it) (it ≡ None))) (sym utf8) found

pub returns-in-Err : goal.returns-in-Err
returns-in-Err g c =
    let may = g.D.Disk.may_answer c.args.disk.now in
    let whole = c.args.root.now ++ c.args.path.now in
    let other : is_utf8 c.args.path.now ≡ false = not_utf8 c.args.path.now c.in-Err.ensures.cases.0 in
    let nothing : Option RootFile = None in
    subst (λ b. MatchBool b (IsFound may whole nothing) (nothing ≡ nothing)) (sym other) refl
