use Rattle.std.proofs.Common.{ap, ◌∙◌, filter, map}
use Rattle.link_files.specs.Files.{is_drop_in}
use Rattle.link_files.proofs.Owners.{own_taken}
use Rattle.link_files.proofs.drop_ins.DropIns.of_file.Goals as goal

pub returns : goal.returns
unfolding is_drop_in
returns c =
    ap (map (λ f. f.now)) (c.as_slice-2.ensures.value ∙ ap (λ v. v.now.items) c.unwrap_or.ensures)
    ∙ own_taken c.self.inside.owners.entries c.args.file.now.name c.get.result _ c.self.invariant.0 (rw c.as_slice.ensures at c.get.ensures.value)
    ∙ c.self.invariant.1 c.args.file.now.name ∙ ap (filter (is_drop_in c.args.file.now)) c.self.view_is
