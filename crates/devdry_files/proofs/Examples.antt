-- What the definitions say of paths that are written out.
use Rattle.std.proofs.Common.{◌≡◌, codes, refl, [], ℕ, List}
use Rattle.text_bytes.specs.declared.source_file.FileKind.TheVariants.{Hwdb, Rules}
use Rattle.devdry_files.specs.Places.{kind_added, name_at}

an_added_file_has_its_name : name_at (codes "drafts/new/70-my.rules") ≡ codes "70-my.rules"
an_added_file_has_its_name = refl

a_path_without_a_folder_is_a_name : name_at (codes "70-my.rules") ≡ codes "70-my.rules"
a_path_without_a_folder_is_a_name = refl

a_folder_has_no_name : name_at (codes "drafts/") ≡ []
a_folder_has_no_name = refl

rules_are_added_as_rules : kind_added (codes "drafts.hwdb/70-my.rules") ≡ Rules
rules_are_added_as_rules = refl

a_database_is_added_as_one : kind_added (codes "drafts/70-my.hwdb") ≡ Hwdb
a_database_is_added_as_one = refl
