use Rattle.std.proofs.Common.{◌+◌, drop}
use Rattle.std.proofs.lemmas.Result.{err_from_is_err_and}
use Rattle.hwdb_core.specs.Parts.{file_found}
use Rattle.hwdb_core.proofs.Joining.{ends, fails, proceeds, returned}
use Rattle.hwdb_core.proofs.Showing.{drop_item, nothing_left}
use Rattle.hwdb_core.proofs.database.read_files.Goals as goal

pub returns-in_err-read_file : goal.returns-in_err-read_file
returns-in_err-read_file c =
    let p = err_from_is_err_and c.from_residual.result c.from_residual.ensures.1 in
    returned c.args.found.now c.read_file.new.found _ c.from_residual.result p.0 c.in_err-read_file.field-0.0 p.1 p.2
    (fails file_found c.args.found.now c.loop-file.found c.args.files.now (drop c.loop-file.file-index c.args.files.now) c.file-item.result (drop (c.loop-file.file-index + 1) c.args.files.now) c.in_err-read_file.field-0.0
    c.loop-file.invariant (drop_item c.args.files.now c.loop-file.file-index c.file-item.result c.loop-file-test.true c.file-item.is) c.in_err-read_file.ensures)

pub loop-file-preserved : goal.loop-file-preserved
loop-file-preserved c =
    proceeds file_found c.args.found.now c.loop-file.found c.read_file.new.found c.args.files.now (drop c.loop-file.file-index c.args.files.now) c.file-item.result (drop (c.loop-file.file-index + 1) c.args.files.now)
    c.loop-file.invariant (drop_item c.args.files.now c.loop-file.file-index c.file-item.result c.loop-file-test.true c.file-item.is) c.in_ok-read_file.ensures

pub returns : goal.returns
returns c = ends file_found c.args.found.now c.loop-file.found c.args.files.now (drop c.loop-file.file-index c.args.files.now) c.loop-file.invariant (nothing_left c.args.files.now c.loop-file.file-index c.loop-file-test.false)
