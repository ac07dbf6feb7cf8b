use Rattle.std.proofs.Common.{ap, refl}
use Rattle.std.proofs.lemmas.Result.{err_from_is_err_and}
use Rattle.text_bytes.specs.Numbers.{capped}
use Rattle.hwdb_core.specs.Found.{Held}
use Rattle.hwdb_core.proofs.Joining.{returned}
use Rattle.hwdb_core.proofs.Keeping.{entry_added_as, entry_skipped_as, too_many_at}
use Rattle.hwdb_core.proofs.gathered.Gathered.add_entry.Goals as goal

pub returns-in_err-count_entry : goal.returns-in_err-count_entry
returns-in_err-count_entry c =
    let p = err_from_is_err_and c.from_residual.result c.from_residual.ensures.1 in
    returned c.args.self.now c.count_entry.new.self _ c.from_residual.result p.0 c.in_err-count_entry.field-0.0 p.1 p.2
    (too_many_at c.args.self.now (record { pattern = c.args.pattern; key = c.args.pair.now.key.now; value = c.args.pair.now.value.now; file = c.args.file.now; line = capped c.args.number }) _ c.in_err-count_entry.field-0.0
    refl c.in_err-count_entry.ensures.too_many)

pub returns-then-not-counts : goal.returns-then-not-counts
returns-then-not-counts c =
    entry_skipped_as c.args.self.now c.count_entry.new.self (record { pattern = c.args.pattern; key = c.args.pair.now.key.now; value = c.args.pair.now.value.now; file = c.args.file.now; line = capped c.args.number }) _
    refl c.in_ok-count_entry.ensures.counted c.if-not-counts.ensures

pub returns : goal.returns
returns c =
    entry_added_as c.args.self.now c.count_entry.new.self c.keep.new.self (record { pattern = c.args.pattern; key = c.args.pair.now.key.now; value = c.args.pair.now.value.now; file = c.args.file.now; line = capped c.args.number }) _ _
    refl c.in_ok-count_entry.ensures.counted c.if-not-counts.ensures
    (λ i. record {
      pattern = c.pattern.view_is i;
      key = c.in_ok-key_of.ensures i;
      value = c.in_ok-copy_of.ensures i;
      order = ap (λ (h : Held). h.count) c.self.view_is i;
      file = c.in_ok-file_of.ensures i;
      line = c.capped.ensures i;
    }) c.in_ok-keep.ensures
