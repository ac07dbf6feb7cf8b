-- Fields of an address that are seen through a view.
use Rattle.std.proofs.Common.{◌≡◌, ℕ, ◌==◌, ◌&&◌, List, map, length, ap, ◌∙◌}
use Rattle.std.proofs.lemmas.List.{length-map}
use Rattle.std.specs.List.{list_all}
use Rattle.builtin_devices.specs.Fields.{are_fields, is_field}
use Rattle.text_bytes.proofs.Seen.{all_seen}

pub fields_seen : {X : Type 0} (count width : ℕ) (v : X → List ℕ) (texts : List X)
    → are_fields count width (map v texts) ≡ ((length texts == count) && list_all (λ x. is_field width (v x)) texts)
unfolding are_fields
fields_seen count width v texts =
    ap (λ n. (n == count) && list_all (is_field width) (map v texts)) (length-map texts v)
    ∙ ap (λ b. (length texts == count) && b) (all_seen (is_field width) v texts)
