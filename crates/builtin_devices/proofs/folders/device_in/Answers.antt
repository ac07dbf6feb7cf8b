use Rattle.std.proofs.Common.{◌∙◌, [], ap, map, option_map, sym}
use Rattle.std.specs.Option.{option_copied}
use Rattle.device_core.specs.Values.{described}
use Rattle.text_tables.specs.Pairs.{with_values}
use Rattle.builtin_devices.specs.Folders.{file_of, files_in}
use Rattle.builtin_devices.proofs.Gathered.{no_device, one_device, own_files}
use Rattle.builtin_devices.proofs.folders.device_in.Goals as goal

pub returns-in_default-get : goal.returns-in_default-get
returns-in_default-get c =
    no_device (files_in c.args.folders.now) c.args.path.now c.args.text.now c.in-Some.folder.now
    (sym c.described_path.ensures ∙ ap (option_map (λ t. t.now)) c.in-Some.is)
    (sym (own_files c.args.folders.now.entries c.in-Some.folder.now) ∙ ap (option_map (λ v. map file_of v.items)) (sym c.get.ensures.value ∙ ap option_copied c.in_default-get.is))

pub returns : goal.returns
returns c =
    one_device (files_in c.args.folders.now) c.args.path.now c.args.text.now c.in-Some.folder.now
    (sym c.described_path.ensures ∙ ap (option_map (λ t. t.now)) c.in-Some.is)
    (map file_of c.in-Some-get.files.now.items) c.described.result
    (sym (own_files c.args.folders.now.entries c.in-Some.folder.now) ∙ ap (option_map (λ v. map file_of v.items)) (sym c.get.ensures.value ∙ ap option_copied c.in-Some-get.is))
    (c.described.ensures ∙ ap (λ own. described c.in-Some.folder.now c.args.text.now own) (c.in_ok-attrs.ensures ∙ ap (λ fs. with_values [] (map file_of fs)) c.deref.ensures.value))
