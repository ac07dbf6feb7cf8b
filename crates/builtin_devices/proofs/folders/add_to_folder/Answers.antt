use Rattle.std.proofs.Common.{ap, map, sym, ◌∙◌}
use Rattle.std.proofs.lemmas.List.{map_push}
use Rattle.std.specs.Option.{option_copied_mut}
use Rattle.builtin_devices.specs.Folders.{file_of, files_in}
use Rattle.builtin_devices.proofs.Gathered.{added, not_added}
use Rattle.builtin_devices.proofs.folders.add_to_folder.Goals as goal

pub returns-in_ok-push : goal.returns-in_ok-push
returns-in_ok-push c =
    added c.args.folders.now.entries c.args.folder.now (c.args.name.now, c.args.text.now) c.in-Some.files.now c.push.new.self _
    (c.get_mut.follows.holds c.push.new.self).0
    (sym c.get_mut.ensures.value ∙ ap option_copied_mut c.in-Some.is)
    (ap (map file_of) c.in_ok-push.ensures.items ∙ map_push file_of c.in-Some.files.now.items (c.args.name, c.args.text))

pub returns-in_default : goal.returns-in_default
returns-in_default c = λ other. ap (λ m. files_in m other) c.get_mut.follows.holds-at-none ∙ not_added c.args.folders.now.entries c.args.folder.now (c.args.name.now, c.args.text.now) (sym c.get_mut.ensures.value ∙ ap option_copied_mut c.in_default.is) other
