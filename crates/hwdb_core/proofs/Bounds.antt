-- The bounds of a database, one by one.
use Rattle.std.proofs.Common.{◌≡◌, ◌-◌, ◌^◌, ◌≤◌, Bool, true, false, ◌&&◌, List, length, refl, sum_by}
use Rattle.std.proofs.lemmas.Bool.{leb-true, le-leb}
use Rattle.std.proofs.Math.Dec.{leb}
use Rattle.text_bytes.specs.declared.SourceFile.{SourceFile}
use Rattle.trie_nodes.specs.Bounds.{max_entries, max_match_bytes, max_name_bytes, max_text_bytes}
use Rattle.hwdb_core.specs.Sources.{WithinBounds, are_few, match_bytes_of, properties_of, text_len}

-- files that hold no more than a database may, by what they hold
pub record HoldFew (files : List SourceFile) : Type 0 where
  pub entries : length (properties_of files) ≤ max_entries
  pub match_bytes : match_bytes_of files ≤ max_match_bytes
  pub text_bytes : sum_by text_len (properties_of files) ≤ max_text_bytes
  pub name_bytes : sum_by (λ f. length f.name) files ≤ max_name_bytes

both : (x y : Bool) → (x && y) ≡ true → (x ≡ true) × (y ≡ true)
both true y e = (refl, e)
both false y e = absurd (cc)

all_four : (x y z w : Bool) → (((x && y) && z) && w) ≡ true → (x ≡ true) × (y ≡ true) × (z ≡ true) × (w ≡ true)
all_four x y z w e =
    let last = both ((x && y) && z) w e in
    let third = both (x && y) z last.0 in
    let first = both x y third.0 in
    (first.0, first.1, third.1, last.1)

-- files within each bound pass the test
pub few_within : (files : List SourceFile) → HoldFew files → WithinBounds files
unfolding are_few
few_within files w =
    rw (
      le-leb (length (properties_of files)) (2 ^ 24) w.entries,
      le-leb (match_bytes_of files) (2 ^ 25 - 1) w.match_bytes,
      le-leb (sum_by text_len (properties_of files)) (2 ^ 30) w.text_bytes,
      le-leb (sum_by (λ (f : SourceFile). length f.name) files) (2 ^ 28) w.name_bytes,
    )
    refl

-- files that pass the test are within each bound
pub within_few : (files : List SourceFile) → WithinBounds files → HoldFew files
unfolding are_few
within_few files e =
    let each = all_four (leb (length (properties_of files)) (2 ^ 24)) (leb (match_bytes_of files) (2 ^ 25 - 1)) (leb (sum_by text_len (properties_of files)) (2 ^ 30)) (leb (sum_by (λ (f : SourceFile). length f.name) files) (2 ^ 28)) e in
    record {
      entries = leb-true (length (properties_of files)) (2 ^ 24) each.0;
      match_bytes = leb-true (match_bytes_of files) (2 ^ 25 - 1) each.1;
      text_bytes = leb-true (sum_by text_len (properties_of files)) (2 ^ 30) each.2;
      name_bytes = leb-true (sum_by (λ (f : SourceFile). length f.name) files) (2 ^ 28) each.3;
    }
