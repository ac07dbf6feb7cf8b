use Rattle.std.proofs.Common.{◌≡◌, true, List, ◌∷◌, [], ◌++◌, ℕ, refl, ap, ◌∙◌}
use Rattle.text_core.specs.Fits.{fits}
use Rattle.rule_laws.proofs.Splitting.{any_fits, byte_fits, one_byte, parts_whole, whole_parts}
use Rattle.text_core.proofs.Suffixes.{single_from}
use Rattle.rule_laws.proofs.patterns.texts_fit_item_by_item.Goals as goal

empty : (t : List ℕ) → fits [] t ≡ true → t ≡ []
empty [] e = refl
empty (b ∷ t) e = absurd cc

pub returns-clause-none : goal.returns-clause-none
returns-clause-none c = λ t. (empty t, λ e. ap (fits []) e)

pub returns-clause-one : goal.returns-clause-one
returns-clause-one c = λ x t other. (one_byte x t (single_from x other), λ b. ap (fits (x ∷ [])) b.1 ∙ byte_fits x b.0 (single_from x other) b.2)

pub returns-clause-many : goal.returns-clause-many
returns-clause-many c = any_fits

pub returns-clause-joined : goal.returns-clause-joined
returns-clause-joined c = λ p q t. (whole_parts p q t, λ s. ap (fits (p ++ q)) s.whole ∙ parts_whole p q s.prefix s.back s.second_passes s.first_passes)
