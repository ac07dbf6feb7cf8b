-- What an IMPORT{file} does with what was found at its path.
use Rattle.std.proofs.Common.{◌≡◌, ℕ, Bool, true, false, cond, List, [], ◌∷◌, ◌++◌, All, length, Option, Some, None, flat_map, filter_map, nat_le, refl, ap, ◌∙◌, codes, append_assoc}
use Rattle.std.specs.List.{cons_option, slice_split}
use Rattle.std.proofs.lemmas.List.Elements.{All-head, All-tail}
use Rattle.std.proofs.lemmas.List.Splits.{slice_split_at}
use Rattle.text_bytes.specs.Texts.{split_once}
use Rattle.text_bytes.specs.declared.profile.Profile.{Profile}
use Rattle.text_bytes.specs.declared.profile.Profile.TheVariants.{Manual, Udev}
use Rattle.text_bytes.specs.Text.{Text}
use Rattle.builtin_devices.specs.Knowledge.{Known}
use Rattle.builtin_devices.specs.declared.root_files.RootFile.{RootFile}
use Rattle.builtin_devices.specs.declared.root_files.RootFile.TheVariants.{Absent, Read}
use Rattle.rule_tokens.specs.Template.{Parts as Template}
use Rattle.rule_types.specs.declared.part.ActKind.TheVariants as act_kind
use Rattle.rule_types.specs.declared.part.Import.TheVariants as import
use Rattle.rule_types.specs.Rules.{Rule}
use Rattle.eval_rendering.specs.Bounds.{most_path_bytes}
use Rattle.eval_rendering.specs.declared.rendered.Rendered.{Rendered}
use Rattle.eval_rendering.specs.declared.rendered.Rendered.TheVariants as rendered
use Rattle.eval_state.specs.Properties.{properties_set}
use Rattle.eval_state.specs.Scenes.{noted, with_env}
use Rattle.eval_state.specs.declared.note_kind.NoteKind.TheVariants.{ImportNotRun}
use Rattle.eval_state.specs.declared.scene.Scene.{Scene}
use Rattle.eval_acts.specs.ActTexts.{import_text}
use Rattle.eval_acts.specs.Acts.{imported, on_text, performed, tried}
use Rattle.eval_acts.specs.BuiltinRuns.{most_set}
use Rattle.eval_acts.specs.Imports.{not_run}
use Rattle.eval_acts.specs.Printed.{line_property}
use Rattle.eval_acts.specs.RootImports.{ends_file_line, file_properties, from_file, from_found}

module _ (known : Known) (r : Rule) (template : Template) (s : Scene) where
  -- an import with udev, by what was found at its path
  pub as_found : (path : Text) (found : Option RootFile) → s.state.event.profile ≡ Udev → import_text most_path_bytes template s.state ≡ rendered.Text path
      → known.file path ≡ found → performed known r (act_kind.Import (import.File template)) s ≡ tried (from_found r found s)
  as_found path found udev is there =
      ap (λ (p : Profile). imported p known r (import.File template) s) udev
      ∙ ap (λ (given : Rendered). on_text (from_file known r) given s) is
      ∙ ap (λ (f : Option RootFile). tried (from_found r f s)) there

  pub by_manual : s.state.event.profile ≡ Manual → performed known r (act_kind.Import (import.File template)) s ≡ (noted r ImportNotRun (codes "file") s, Some false)
  by_manual manual = ap (λ (p : Profile). imported p known r (import.File template) s) manual

module _ (r : Rule) (bytes : Text) (s : Scene) where
  -- a file that is not too long
  pub read_set : nat_le (length bytes) most_set ≡ true → from_found r (Some (Read bytes)) s ≡ (with_env (properties_set s.state.env (file_properties bytes)) s, true)
  read_set fits = rw fits refl

  -- one that is
  pub read_long : nat_le (length bytes) most_set ≡ false → from_found r (Some (Read bytes)) s ≡ (noted r ImportNotRun (codes "file") s, false)
  read_long over = rw over refl

-- lines, each with its end
pub file_lines_read : (end : ℕ) (lines : List Text) → ends_file_line end ≡ true → All (λ line. All (λ b. ends_file_line b ≡ false) line) lines
    → file_properties (flat_map (λ line. line ++ end ∷ []) lines) ≡ filter_map line_property lines
unfolding file_properties line_property split_once
file_lines_read end [] is each = refl
file_lines_read end (line ∷ lines) is each =
    let rest : Text = flat_map (λ line. line ++ end ∷ []) lines in
    let first : All (λ b. ends_file_line b ≡ false) line = All-head (λ l. All (λ b. ends_file_line b ≡ false) l) line lines each in
    let others : All (λ l. All (λ b. ends_file_line b ≡ false) l) lines = All-tail (λ l. All (λ b. ends_file_line b ≡ false) l) line lines each in
    ap (λ t. filter_map line_property (slice_split ends_file_line t)) (append_assoc line (end ∷ []) rest)
    ∙ ap (filter_map line_property) (slice_split_at ends_file_line line end rest first is)
    ∙ ap (cons_option (line_property line)) (file_lines_read end lines is others)
