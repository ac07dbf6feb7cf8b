use Rattle.std.proofs.Common.{◌∙◌, ap}
use Rattle.std.proofs.lemmas.Result.{err_from_is_err_and}
use Rattle.hwdb_core.specs.Lines.{lines_of}
use Rattle.hwdb_core.specs.Found.{onto}
use Rattle.hwdb_core.specs.Parts.{file_found}
use Rattle.hwdb_core.proofs.Joining.{returned, same_failed, same_part}
use Rattle.hwdb_core.proofs.Walking.{lines_found, paragraph_found, walks_end, walks_failed, walks_in, walks_line, walks_out, whole_file}
use Rattle.hwdb_core.proofs.reading.read_file.Goals as goal

pub loop-line-init : goal.loop-line-init
loop-line-init c =
    walks_in c.as_slice-name.result.now c.args.file.now.bytes c.as_slice.result.now c.args.found.now c.new-open.result.items c.into_iter-line-iterator.result
    c.new-open.ensures.items (c.into_iter-line-iterator.ensures.into_iter_gives ∙ c.new-line-items.ensures) c.as_slice.ensures

pub returns-in_err-read_paragraph : goal.returns-in_err-read_paragraph
returns-in_err-read_paragraph c =
    let p = err_from_is_err_and c.from_residual.result c.from_residual.ensures.1 in
    returned c.args.found.now c.read_paragraph.new.found _ c.from_residual.result p.0 c.in_err-read_paragraph.field-0.0 p.1 p.2
    (walks_failed c.as_slice-name.result.now (onto c.args.found.now (lines_found c.as_slice-name.result.now (lines_of c.args.file.now.bytes))) c.loop-line.found c.loop-line.open.items c.in-Some.line c.next.new.self c.loop-line.line-iterator c.loop-line.invariant c.in-Some.ensures.steps
    c.cleaned-line.result (cc) c.cleaned-line.ensures (cc) c.args.found.now (file_found c.args.file.now) (ap (onto c.args.found.now) (whole_file c.args.file.now c.as_slice-name.result.now c.as_slice-name.ensures)) c.in_err-read_paragraph.field-0.0
    (same_failed c.loop-line.found _ _ c.in_err-read_paragraph.field-0.0 (ap (paragraph_found c.as_slice-name.result.now) c.deref.ensures.value) c.in_err-read_paragraph.ensures))

pub loop-line-preserved-then-is_empty : goal.loop-line-preserved-then-is_empty
loop-line-preserved-then-is_empty c =
    walks_end c.as_slice-name.result.now (onto c.args.found.now (lines_found c.as_slice-name.result.now (lines_of c.args.file.now.bytes))) c.loop-line.found c.loop-line.open.items c.in-Some.line c.next.new.self c.loop-line.line-iterator c.loop-line.invariant c.in-Some.ensures.steps
    c.cleaned-line.result (cc) c.cleaned-line.ensures (cc) c.read_paragraph.new.found (c.in_ok-read_paragraph.ensures ∙ ap (onto c.loop-line.found) (ap (paragraph_found c.as_slice-name.result.now) c.deref.ensures.value))
    c.clear.new.self.items c.clear.ensures.items

pub loop-line-preserved : goal.loop-line-preserved
loop-line-preserved c =
    walks_line c.as_slice-name.result.now (onto c.args.found.now (lines_found c.as_slice-name.result.now (lines_of c.args.file.now.bytes))) c.loop-line.found c.loop-line.open.items c.in-Some.line c.next.new.self c.loop-line.line-iterator c.loop-line.invariant c.in-Some.ensures.steps
    c.cleaned-line.result (cc) c.cleaned-line.ensures (cc) c.push.new.self.items c.in_ok-push.ensures.items

pub returns : goal.returns
returns c =
    walks_out c.as_slice-name.result.now (onto c.args.found.now (lines_found c.as_slice-name.result.now (lines_of c.args.file.now.bytes))) c.loop-line.found c.read_paragraph-2.new.found c.loop-line.open.items c.loop-line.line-iterator c.loop-line.invariant c.in-None.ensures.steps.0
    c.args.found.now (file_found c.args.file.now) (ap (onto c.args.found.now) (whole_file c.args.file.now c.as_slice-name.result.now c.as_slice-name.ensures)) c.read_paragraph-2.result
    (same_part c.loop-line.found c.read_paragraph-2.new.found _ _ c.read_paragraph-2.result (ap (paragraph_found c.as_slice-name.result.now) c.deref-2.ensures.value) c.read_paragraph-2.ensures)
