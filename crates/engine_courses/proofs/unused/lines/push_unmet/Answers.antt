use Rattle.std.proofs.Common.{◌≡◌, ◌≢◌, ℕ, cond, List, [], ◌++◌, get_or, Result, Ok, Err, OnOk, codes, decimal, append_assoc, ap, subst, sym, ◌∙◌}
use Rattle.std.specs.Result.{is_ok}
use Rattle.std.proofs.lemmas.Bool.{ne_eqb}
use Rattle.text_bytes.specs.Text.{Text}
use Rattle.rule_types.specs.Rules.{Rule}
use Rattle.eval_courses.specs.Fates.{keys_of}
use Rattle.engine_courses.specs.Unused.{first_place, greatest, unmet_text}
use Rattle.engine_courses.proofs.unused.lines.push_unmet.Goals as goal

-- the last piece that is added
on_last : {T E : Type 0} (r : Result T E) (all more same wanted : Text) → all ≡ cond (is_ok r) more same → (all ≡ more → all ≡ wanted) → OnOk r (all ≡ wanted)
on_last (Ok x) all more same wanted e f = f e
on_last (Err x) all more same wanted e f = tt

-- the key that stopped most events and how many, piece by piece
unmet_said : (r : Rule) (reached : ℕ) (stops : List ℕ) (before key failed total one two three four all : Text) → one ≡ before ++ key → two ≡ one ++ codes " failed " → three ≡ two ++ failed → four ≡ three ++ codes " of "
    → all ≡ four ++ total → key ≡ get_or (keys_of r) (first_place (greatest stops) stops) [] → failed ≡ decimal (greatest stops) → total ≡ decimal reached → reached ≢ 0 → all ≡ before ++ unmet_text r reached stops
unfolding unmet_text
unmet_said r reached stops before key failed total one two three four all a b c d e k f t n =
    let most = get_or (keys_of r) (first_place (greatest stops) stops) [] in
    let fails = codes " failed " in
    let mid = codes " of " in
    let pieces : all ≡ before ++ ((((most ++ fails) ++ decimal (greatest stops)) ++ mid) ++ decimal reached) =
    e
    ∙ ap (λ x. x ++ total) (d ∙ ap (λ x. x ++ mid) (c ∙ ap (λ x. x ++ failed) (b ∙ ap (λ x. x ++ fails) a)))
    ∙ ap (λ x. ((x ++ failed) ++ mid) ++ total) (append_assoc before key fails)
    ∙ ap (λ x. (x ++ mid) ++ total) (append_assoc before (key ++ fails) failed)
    ∙ ap (λ x. x ++ total) (append_assoc before ((key ++ fails) ++ failed) mid)
    ∙ append_assoc before (((key ++ fails) ++ failed) ++ mid) total
    ∙ ap (λ x. before ++ ((((x ++ fails) ++ failed) ++ mid) ++ total)) k
    ∙ ap (λ x. before ++ ((((most ++ fails) ++ x) ++ mid) ++ total)) f
    ∙ ap (λ x. before ++ ((((most ++ fails) ++ decimal (greatest stops)) ++ mid) ++ x)) t in
    subst (λ b. all ≡ before ++ cond b (codes "not reached") ((((most ++ fails) ++ decimal (greatest stops)) ++ mid) ++ decimal reached)) (sym (ne_eqb reached 0 n)) pieces

pub returns : goal.returns
returns c =
    let stops = c.args.stops.now in
    let before = c.args.text.now.items in
    let four = c.extend_from_slice-5.new.self.items in
    let all = c.extend_from_slice-6.new.self.items in
    let total = c.as_bytes-2.result.now in
    on_last c.extend_from_slice-6.result all (four ++ total) four (before ++ unmet_text c.args.rule.now c.args.reached stops) c.extend_from_slice-6.ensures.items
    (λ last. unmet_said c.args.rule.now c.args.reached stops before c.key_at.result.now c.as_bytes.result.now total c.extend_from_slice-2.new.self.items c.extend_from_slice-3.new.self.items
    c.extend_from_slice-4.new.self.items four all c.in_ok-extend_from_slice.ensures.items c.in_ok-extend_from_slice-2.ensures.items c.in_ok-extend_from_slice-3.ensures.items
    c.in_ok-extend_from_slice-4.ensures.items last
    (c.key_at.ensures
    ∙ ap (λ keys. get_or keys c.first_place.result []) (c.deref.ensures.value ∙ c.in_ok-keys.ensures)
    ∙ ap (λ place. get_or (keys_of c.args.rule.now) place []) (c.first_place.ensures ∙ ap (λ most. first_place most stops) c.greatest-most.ensures))
    (c.as_bytes.ensures.value ∙ c.format.ensures.text ∙ ap decimal c.greatest-most.ensures) (c.as_bytes-2.ensures.value ∙ c.format-2.ensures.text) c.if-reached-eq0.false)
