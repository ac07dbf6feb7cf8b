use Rattle.std.proofs.Common.{◌≡◌, ◌∙◌, ◌++◌, ◌∷◌, [], OnOk, if◌then◌else◌, map, subst, sym}
use Rattle.file_catalogue.specs.Ignored.{class_codes}
use Rattle.file_catalogue.proofs.ignored.push_named.Goals as goal

pub returns-then-is_class : goal.returns-then-is_class
returns-then-is_class c =
    subst (λ b. OnOk c.push_class.result (map (λ c. c.now) c.push_class.new.named.items
    ≡ map (λ c. c.now) c.args.named.now.items ++ (if b then class_codes c.args.part.now else c.args.part.now ∷ [])))
    (sym c.if-is_class.true ∙ c.is_class.ensures) c.push_class.ensures
