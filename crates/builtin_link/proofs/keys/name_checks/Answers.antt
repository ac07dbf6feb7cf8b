use Rattle.std.proofs.Common.{◌≡◌, ◌∙◌, List, [], ◌∷◌, Some, ap, codes, refl, rules}
use Rattle.text_bytes.specs.Kernels.{kernel_name}
use Rattle.text_bytes.specs.Text.{Text}
use Rattle.text_tables.specs.Pairs.{Pair, value_of}
use Rattle.device_core.specs.Values.{EventValue}
use Rattle.link_files.specs.Lists.{list_of}
use Rattle.link_files.specs.declared.settings.Setting.{Setting}
use Rattle.link_files.specs.declared.words.WordKind.TheVariants.{Glob, Name}
use Rattle.builtin_link.specs.Checks.{known_check, name_checks, text_check}
use Rattle.builtin_link.specs.declared.checks.Check.{Check}
use Rattle.builtin_link.specs.declared.checks.Need.TheVariants.{Driver}
use Rattle.builtin_link.proofs.keys.name_checks.Goals as goal

each : (event : EventValue) (env : List Pair) (settings : List Setting) (name path driver : Check)
    → name ≡ text_check (list_of Name (codes "OriginalName") settings) (Some (kernel_name event.device.path))
    → path ≡ text_check (list_of Glob (codes "Path") settings) (value_of env (codes "ID_PATH"))
    → driver ≡ known_check Driver (list_of Glob (codes "Driver") settings) (value_of env (codes "ID_NET_DRIVER"))
    → name ∷ path ∷ driver ∷ [] ≡ name_checks event env settings
unfolding name_checks
each event env settings name path driver n p d = rw n (rw p (rw d refl))

pub returns : goal.returns
returns c =
    let kernel : c.as_slice.result.now ≡ kernel_name c.args.event.now.device.path = search rules in
    each c.args.event.now c.args.env.now c.args.settings.now c.in_ok-name.name c.in_ok-path.path c.in_ok-driver.driver
    (c.in_ok-name.ensures ∙ ap (λ (t : Text). text_check (list_of Name (codes "OriginalName") c.args.settings.now) (Some t)) kernel)
    (c.in_ok-path.ensures ∙ ap (text_check (list_of Glob (codes "Path") c.args.settings.now)) c.get-place.ensures)
    (c.in_ok-driver.ensures ∙ ap (known_check Driver (list_of Glob (codes "Driver") c.args.settings.now)) c.get-own.ensures)
