use Rattle.engine_reports.specs.Openings.{opening}
use Rattle.engine_core.proofs.Compared.{compares_serve}
use Rattle.engine_core.proofs.comparing.serve_compare.Goals as goal

pub returns : goal.returns
returns g c = record {
  opened = c.open_index-opened.result;
  opens = c.open_index-opened.ensures;
  serves = compares_serve c.args.old_line.now c.args.new_line.now c.args.old_found.now c.args.new_found.now (opening c.args.old_line.now c.args.old_files.items c.open_index-opened.result)
      (opening c.args.new_line.now c.args.new_files.items c.open_index-opened.result) _ _ _ c.compare_opened.ensures;
  steps = c.compare_opened.ensures;
}
