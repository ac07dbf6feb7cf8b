-- An event of a device in a folder, of which examples speak.
use Rattle.std.specs.Prelude.{Bool, None, [], ◌∷◌, codes}
use Rattle.text_bytes.specs.declared.profile.Profile.TheVariants.{Udev}
use Rattle.text_bytes.specs.Text.{Text}
use Rattle.device_core.specs.Values.{EventValue, described}
use Rattle.eval_state.specs.Places.{is_there, place_of}

-- a device with the attributes `q/a/x` and `q/b/y`, below one with the attribute `v`
abbrev pub with_folders : EventValue
with_folders = record {
  action = codes "add";
  device = described (codes "/d/s") (codes "m") ((codes "q/a/x", codes "1") ∷ (codes "q/b/y", codes "6") ∷ []);
  parents = described (codes "/d") (codes "m") ((codes "v", codes "1") ∷ []) ∷ [];
  programs = [];
  constants = [];
  misplaced = None;
  profile = Udev;
}

-- whether something is where a name leads in the folder of that device
abbrev pub leads : Text → Bool
leads name = is_there with_folders (place_of with_folders.device name)
