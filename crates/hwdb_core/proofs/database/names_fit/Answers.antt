use Rattle.std.proofs.Common.{◌+◌, ◌≤◌, length, take, subst, sym, ap, ◌≡◌, arith}
use Rattle.std.specs.List.{sum_by}
use Rattle.std.proofs.lemmas.List.Sums.{sum_by_more_le}
use Rattle.text_bytes.specs.declared.SourceFile.{SourceFile}
use Rattle.hwdb_core.proofs.database.names_fit.Goals as goal

pub returns-then-len-room : goal.returns-then-len-room
returns-then-len-room c =
    let more : sum_by (λ f. length f.name) (take c.loop-file.file-index c.args.files.now) + length c.file-item.result.name ≤ sum_by (λ f. length f.name) c.args.files.now =
    subst (λ (x : SourceFile). sum_by (λ f. length f.name) (take c.loop-file.file-index c.args.files.now) + length x.name ≤ sum_by (λ f. length f.name) c.args.files.now) (sym c.file-item.is)
    (sum_by_more_le (λ f. length f.name) c.args.files.now c.loop-file.file-index c.file-item.result c.loop-file-test.true) in
    let len : length c.as_slice-len.result.now ≡ length c.file-item.result.name = ap length c.as_slice-len.ensures in
    (λ h. cc, λ k. absurd (omega (arith, more, len, c.loop-file.invariant, c.if-len-room.true, k)))
