use Rattle.std.proofs.Common.{◌≡◌, ◌∙◌, ◌++◌, ◌∷◌, [], IfOk, List, ap, codes, flat_map, map, refl, string_bytes, subst}
use Rattle.std.specs.Borrow.{Bor}
use Rattle.std.specs.List.{join_by}
use Rattle.text_bytes.specs.Text.{Text}
use Rattle.file_catalogue.specs.Catalogue.{known_codes}
use Rattle.file_catalogue.proofs.remark.known_codes.Goals as goal

-- what follows the first text
others : (between : Text) (texts : List (Bor Text)) → flat_map (λ text. between ++ text.now) texts ≡ flat_map (λ text. between ++ text) (map (λ text. text.now) texts)
others between [] = refl
others between (text ∷ texts) = ap (λ rest. (between ++ text.now) ++ rest) (others between texts)

-- texts that are joined as they are seen are joined
joined : (between : Text) (texts : List (Bor Text)) → join_by (λ text. text.now) between texts ≡ join_by (λ text. text) between (map (λ text. text.now) texts)
joined between [] = refl
joined between (text ∷ texts) = ap (λ rest. text.now ++ rest) (others between texts)

pub returns : goal.returns
unfolding known_codes
returns c =
    subst (λ said. IfOk c.join.result (λ text. string_bytes text ≡ said))
    (ap (join_by (λ text. text.now) (codes ", ")) c.deref.ensures.value ∙ joined (codes ", ") c.in_ok-codes.codes.items
    ∙ ap (join_by (λ text. text) (codes ", ")) c.in_ok-codes.ensures) c.join.ensures.ok
