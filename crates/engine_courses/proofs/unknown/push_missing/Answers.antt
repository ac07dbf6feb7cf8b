use Rattle.std.proofs.Common.{◌≡◌, ◌∷◌, ◌++◌, [], cond, Option, None, Some, Result, Ok, Err, OnOk, codes, decimal, option_map, append_assoc, ap, subst, sym, ◌∙◌}
use Rattle.std.specs.Result.{is_ok}
use Rattle.text_bytes.specs.Escapes.{escape_text}
use Rattle.text_bytes.specs.Names.{colon}
use Rattle.text_bytes.specs.Text.{Text}
use Rattle.engine_courses.specs.Asked.{missing}
use Rattle.engine_courses.specs.Nearest.{Place}
use Rattle.engine_courses.proofs.unknown.push_missing.Goals as goal

-- the last piece that is added
on_last : {T E : Type 0} (r : Result T E) (all more same wanted : Text) → all ≡ cond (is_ok r) more same → (all ≡ more → all ≡ wanted) → OnOk r (all ≡ wanted)
on_last (Ok x) all more same wanted e f = f e
on_last (Err x) all more same wanted e f = tt

-- what is said of the nearest place, piece by piece
rule_said : (before file line one two three all : Text) (place : Place) (near meant : Option Place) → one ≡ before ++ codes "rule, the nearest is " → two ≡ one ++ file → three ≡ two ++ colon ∷ []
    → all ≡ three ++ line → file ≡ escape_text place.0 → line ≡ decimal place.1 → near ≡ Some place → all ≡ before ++ missing near meant
rule_said before file line one two three all place near meant a b c d f l n =
    let said = codes "rule, the nearest is " in
    let pieces : all ≡ before ++ ((said ++ escape_text place.0) ++ (colon ∷ decimal place.1)) =
    d
    ∙ ap (λ t. t ++ line) (c ∙ ap (λ t. t ++ (colon ∷ [])) (b ∙ ap (λ t. t ++ file) a))
    ∙ append_assoc ((before ++ said) ++ file) (colon ∷ []) line
    ∙ ap (λ t. t ++ (colon ∷ line)) (append_assoc before said file)
    ∙ append_assoc before (said ++ file) (colon ∷ line)
    ∙ ap (λ t. before ++ ((said ++ t) ++ (colon ∷ line))) f
    ∙ ap (λ t. before ++ ((said ++ escape_text place.0) ++ (colon ∷ t))) l in
    subst (λ o. all ≡ before ++ missing o meant) (sym n) pieces

-- what is said of the file that may be meant
file_said : (before file one all : Text) (place : Place) (near meant : Option Place) → one ≡ before ++ codes "rules file, the nearest is " → all ≡ one ++ file → file ≡ escape_text place.0 → near ≡ None → meant ≡ Some place
    → all ≡ before ++ missing near meant
file_said before file one all place near meant a b f n m =
    let said = codes "rules file, the nearest is " in
    let pieces : all ≡ before ++ (said ++ escape_text place.0) = b ∙ ap (λ t. t ++ file) a ∙ append_assoc before said file ∙ ap (λ t. before ++ (said ++ t)) f in
    let named : all ≡ before ++ missing None meant = subst (λ o. all ≡ before ++ missing None o) (sym m) pieces in
    subst (λ o. all ≡ before ++ missing o meant) (sym n) named

pub returns-in-Some : goal.returns-in-Some
returns-in-Some c =
    let near = option_map (λ p. p.now) c.args.nearest in
    let meant = option_map (λ p. p.now) c.args.meant in
    let before = c.args.line.now.items in
    on_last c.extend_from_slice-in-Some-2.result c.extend_from_slice-in-Some-2.new.self.items (c.push.new.self.items ++ c.as_bytes.result.now) c.push.new.self.items (before ++ missing near meant)
    c.extend_from_slice-in-Some-2.ensures.items
    (λ last. rule_said before c.deref.result.now c.as_bytes.result.now c.extend_from_slice.new.self.items c.extend_from_slice-in-Some.new.self.items c.push.new.self.items
    c.extend_from_slice-in-Some-2.new.self.items c.in-Some.place.now near meant c.in_ok-extend_from_slice.ensures.items c.in_ok-extend_from_slice-2.ensures.items c.in_ok-push.ensures.items last
    (c.deref.ensures.value ∙ c.in_ok-escape.ensures.value ∙ ap (λ (p : Place). escape_text p.0) c.place.view_is)
    (c.as_bytes.ensures.value ∙ c.format.ensures.text ∙ ap (λ (p : Place). decimal p.1) c.place.view_is) (ap (option_map (λ p. p.now)) c.in-Some.is))

pub returns-in-Some-meant : goal.returns-in-Some-meant
returns-in-Some-meant c =
    let near = option_map (λ p. p.now) c.args.nearest in
    let meant = option_map (λ p. p.now) c.args.meant in
    let before = c.args.line.now.items in
    let one = c.extend_from_slice-in-Some-meant.new.self.items in
    let all = c.extend_from_slice-in-Some-meant-2.new.self.items in
    on_last c.extend_from_slice-in-Some-meant-2.result all (one ++ c.deref-in-Some-meant.result.now) one (before ++ missing near meant) c.extend_from_slice-in-Some-meant-2.ensures.items
    (λ last. file_said before c.deref-in-Some-meant.result.now one all c.in-Some-meant.place.now near meant c.in_ok-extend_from_slice-3.ensures.items last
    (c.deref-in-Some-meant.ensures.value ∙ c.in_ok-escape-2.ensures.value ∙ ap (λ (p : Place). escape_text p.0) c.place-in-Some-meant.view_is)
    (ap (option_map (λ p. p.now)) c.in_default.is) (ap (option_map (λ p. p.now)) c.in-Some-meant.is))
