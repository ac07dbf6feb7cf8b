use Rattle.std.proofs.Common.{ℕ, ◌<◌, ◌≡◌, Bool, ◌||◌, List, Bor, length, map, ap, sym, ◌∙◌, arith}
use Rattle.std.specs.List.{flat_map}
use Rattle.std.proofs.lemmas.List.{length-append}
use Rattle.text_tables.specs.Texts.{is_among, same_text}
use Rattle.engine_formats.specs.Lines.{plain_line}
use Rattle.engine_checks.specs.Told.{reported_by}
use Rattle.engine_checks.proofs.BadFiles.{among_pushed, bad_file, good_file, or_none}
use Rattle.engine_checks.proofs.told.tell_next.Goals as goal

pub returns-in_ok-push-clause-bad : goal.returns-in_ok-push-clause-bad
returns-in_ok-push-clause-bad c =
    let text = flat_map plain_line (reported_by c.args.asked.now c.args.line.now c.args.file.now) in
    let grown = ap length c.in_ok-tokens.ensures.text in
    let more = length-append c.args.all.now.text.items text in
    let some : 0 < length text = omega (arith, grown, more, c.if-len-before.true, c.len-before.ensures, c.len.ensures) in
    λ name.
    ap (λ (xs : List (Bor (List ℕ))). is_among (map (λ n. n.now) xs) name) c.in_ok-push.ensures.items
    ∙ among_pushed (λ (n : Bor (List ℕ)). n.now) c.args.all.now.bad.items c.as_slice.result name
    ∙ ap (λ (b : Bool). is_among (map (λ (n : Bor (List ℕ)). n.now) c.args.all.now.bad.items) name || b)
    (ap (same_text name) c.as_slice.ensures ∙ sym (bad_file c.args.asked.now c.args.line.now c.args.file.now name some))

pub returns-else-len-before-clause-bad : goal.returns-else-len-before-clause-bad
returns-else-len-before-clause-bad c =
    let text = flat_map plain_line (reported_by c.args.asked.now c.args.line.now c.args.file.now) in
    let grown = ap length c.in_ok-tokens.ensures.text in
    let more = length-append c.args.all.now.text.items text in
    let none : length text ≡ 0 = omega (arith, grown, more, c.if-len-before.false, c.len-before.ensures, c.len.ensures) in
    λ name.
    sym (ap (λ (b : Bool). is_among (map (λ (n : Bor (List ℕ)). n.now) c.args.all.now.bad.items) name || b) (good_file c.args.asked.now c.args.line.now c.args.file.now name none) ∙ or_none _)
