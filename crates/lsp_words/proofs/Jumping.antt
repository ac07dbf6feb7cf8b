-- What a jump leads to.
use Rattle.std.proofs.Common.{◌≡◌, Bool, true, false, not, ◌&&◌, ◌||◌, List, [], ◌∷◌, ◌++◌, Option, Some, None, refl, sym, ap, subst, ◌∙◌}
use Rattle.std.specs.Prelude.{All, IfSome, if◌then◌else◌, nat_lt}
use Rattle.std.specs.List.{find}
use Rattle.std.specs.Cmp.Lexicographic.{bytes_decides}
use Rattle.std.proofs.lemmas.Bool.{and_parts, and_from, ltb-true, lt-ltb, not-true}
use Rattle.std.proofs.lemmas.List.Elements.{All-nil, All-cons, All-head, All-tail, All-weaker, filter-append, filter_passes}
use Rattle.std.proofs.lemmas.Option.{IfSome_then}
use Rattle.lsp_words.specs.Jumps.{definition_of, is_goal, is_goto, is_reference, is_same, references_of}
use Rattle.lsp_words.specs.Laws.{IsGoalOf}
use Rattle.lsp_words.specs.Marks.{MarkValue}
use Rattle.lsp_words.specs.declared.marks.MarkKind.{MarkKind}
use Rattle.lsp_words.specs.declared.marks.MarkKind.TheVariants.{Label, Goto}

-- what is found passes the test, if what is found in the rest does
found_first : {X : Type 0} (p : X → Bool) (x : X) (rest : Option X) (b : Bool) → p x ≡ b → IfSome rest (λ y. p y ≡ true)
    → IfSome (if b then Some x else rest) (λ y. p y ≡ true)
found_first p x rest true e h = e
found_first p x rest false e h = h

-- what is found passes the test
pub found_passes : {X : Type 0} (p : X → Bool) (xs : List X) → IfSome (find p xs) (λ x. p x ≡ true)
found_passes p [] = tt
found_passes p (x ∷ xs) = found_first p x (find p xs) (p x) refl (found_passes p xs)

-- the first that passes is found
pub first_found : {X : Type 0} (p : X → Bool) (before : List X) (x : X) (after : List X) → All (λ y. p y ≡ false) before → p x ≡ true
    → find p (before ++ x ∷ after) ≡ Some x
first_found p [] x after h e = ap (λ b. if b then Some x else find p after) e
first_found p (y ∷ before) x after h e =
    ap (λ b. if b then Some y else find p (before ++ x ∷ after)) (All-head (λ z. p z ≡ false) y before h)
    ∙ first_found p before x after (All-tail (λ z. p z ≡ false) y before h) e

-- where none passes, nothing is found
pub none_found : {X : Type 0} (p : X → Bool) (xs : List X) → All (λ y. p y ≡ false) xs → find p xs ≡ None
none_found p [] h = refl
none_found p (x ∷ xs) h =
    ap (λ b. if b then Some x else find p xs) (All-head (λ z. p z ≡ false) x xs h) ∙ none_found p xs (All-tail (λ z. p z ≡ false) x xs h)

-- where the first of a list is not found, it does not pass, and the rest is looked through
missed_first : {X : Type 0} (p : X → Bool) (x : X) (xs : List X) (b : Bool) → p x ≡ b → (if b then Some x else find p xs) ≡ None
    → (find p xs ≡ None → All (λ y. p y ≡ false) xs) → All (λ y. p y ≡ false) (x ∷ xs)
missed_first p x xs true e f h = absurd (cc)
missed_first p x xs false e f h = All-cons (λ y. p y ≡ false) x xs e (h f)

-- where nothing is found, none passes
pub all_missed : {X : Type 0} (p : X → Bool) (xs : List X) → find p xs ≡ None → All (λ y. p y ≡ false) xs
all_missed p [] e = All-nil (λ y. p y ≡ false)
all_missed p (x ∷ xs) e = missed_first p x xs (p x) refl e (all_missed p xs)

-- a mark that is no jump is a label
label_from : (k : MarkKind) → is_goto k ≡ false → k ≡ Label
label_from Label e = refl
label_from Goto e = absurd (cc)

-- a mark that is a jump
goto_from : (k : MarkKind) → is_goto k ≡ true → k ≡ Goto
goto_from Goto e = refl
goto_from Label e = absurd (cc)

-- a test that does not hold
false_from : (b : Bool) → (b ≡ true → ⊥) → b ≡ false
false_from true h = absurd (h refl)
false_from false h = refl

-- a mark that passes the test is one to which the jump may lead
pub goal_from : (jump mark : MarkValue) → is_goal jump mark ≡ true → IsGoalOf jump mark
goal_from jump mark e =
    let p = and_parts (not (is_goto mark.kind) && nat_lt jump.rule mark.rule) (is_same jump mark) e in
    let q = and_parts (not (is_goto mark.kind)) (nat_lt jump.rule mark.rule) p.0 in
    record {
      is_label = label_from mark.kind (not-true (is_goto mark.kind) q.0);
      later = ltb-true jump.rule mark.rule q.1;
      named = sym ((bytes_decides jump.name mark.name).0 p.1);
    }

-- and the other way round
pub test_from : (jump mark : MarkValue) → IsGoalOf jump mark → is_goal jump mark ≡ true
test_from jump mark h =
    and_from (not (is_goto mark.kind) && nat_lt jump.rule mark.rule) (is_same jump mark)
    (and_from (not (is_goto mark.kind)) (nat_lt jump.rule mark.rule) (ap (λ k. not (is_goto k)) h.is_label) (lt-ltb jump.rule mark.rule h.later))
    ((bytes_decides jump.name mark.name).1 (sym h.named))

-- a mark to which the jump may not lead fails the test
no_goal : (jump mark : MarkValue) → ¬ (IsGoalOf jump mark) → is_goal jump mark ≡ false
no_goal jump mark h = false_from (is_goal jump mark) (λ e. h (goal_from jump mark e))

-- a jump is looked for among the marks
pub jump_leads : (marks : List MarkValue) (jump : MarkValue) → jump.kind ≡ Goto → definition_of marks jump ≡ find (is_goal jump) marks
jump_leads marks jump e = ap (λ k. if is_goto k then find (is_goal jump) marks else Some jump) e

pub goes_forward : (marks : List MarkValue) (jump : MarkValue) → jump.kind ≡ Goto → IfSome (definition_of marks jump) (IsGoalOf jump)
goes_forward marks jump e =
    subst (λ (found : Option MarkValue). IfSome found (IsGoalOf jump)) (sym (jump_leads marks jump e))
    (IfSome_then (find (is_goal jump) marks) (found_passes (is_goal jump) marks) (goal_from jump))

pub goes_to_first : (before after : List MarkValue) (jump label : MarkValue) → jump.kind ≡ Goto
    → All (λ mark. ¬ (IsGoalOf jump mark)) before → IsGoalOf jump label → definition_of (before ++ label ∷ after) jump ≡ Some label
goes_to_first before after jump label e none goal =
    jump_leads (before ++ label ∷ after) jump e
    ∙ first_found (is_goal jump) before label after
    (All-weaker (λ mark. ¬ (IsGoalOf jump mark)) (λ mark. is_goal jump mark ≡ false) (no_goal jump) before none) (test_from jump label goal)

pub goes_nowhere : (marks : List MarkValue) (jump : MarkValue) → jump.kind ≡ Goto
    → All (λ mark. ¬ (IsGoalOf jump mark)) marks → definition_of marks jump ≡ None
goes_nowhere marks jump e none =
    jump_leads marks jump e
    ∙ none_found (is_goal jump) marks (All-weaker (λ mark. ¬ (IsGoalOf jump mark)) (λ mark. is_goal jump mark ≡ false) (no_goal jump) marks none)

pub nowhere_only : (marks : List MarkValue) (jump : MarkValue) → jump.kind ≡ Goto
    → definition_of marks jump ≡ None → All (λ mark. ¬ (IsGoalOf jump mark)) marks
nowhere_only marks jump e none =
    All-weaker (λ mark. is_goal jump mark ≡ false) (λ mark. ¬ (IsGoalOf jump mark))
    (λ mark f goal. let t : is_goal jump mark ≡ true = test_from jump mark goal in cc) marks
    (all_missed (is_goal jump) marks (sym (jump_leads marks jump e) ∙ none))

pub label_itself : (marks : List MarkValue) (label : MarkValue) → label.kind ≡ Label → definition_of marks label ≡ Some label
label_itself marks label e = ap (λ k. if is_goto k then find (is_goal label) marks else Some label) e

-- references have the name of their mark
pub references_named : (marks : List MarkValue) (mark : MarkValue) (with_labels : Bool)
    → All (λ other. other.name ≡ mark.name) (references_of marks mark with_labels)
references_named marks mark with_labels =
    All-weaker (λ other. is_reference with_labels mark other ≡ true) (λ other. other.name ≡ mark.name)
    (λ other e. sym ((bytes_decides mark.name other.name).0 (and_parts (with_labels || is_goto other.kind) (is_same mark other) e).1))
    (references_of marks mark with_labels) (filter_passes (is_reference with_labels mark) marks)

-- references are jumps unless labels are asked for
pub references_jump : (marks : List MarkValue) (mark : MarkValue) → All (λ other. other.kind ≡ Goto) (references_of marks mark false)
references_jump marks mark =
    All-weaker (λ other. is_reference false mark other ≡ true) (λ other. other.kind ≡ Goto)
    (λ other e. goto_from other.kind (and_parts (is_goto other.kind) (is_same mark other) e).0)
    (references_of marks mark false) (filter_passes (is_reference false mark) marks)

-- what is asked for in any case
or_right : (a b : Bool) → b ≡ true → (a || b) ≡ true
or_right true b e = refl
or_right false b e = e

-- a jump is a reference of a label of its name
is_reference_of : (with_labels : Bool) (jump label : MarkValue) → jump.kind ≡ Goto → IsGoalOf jump label → is_reference with_labels label jump ≡ true
is_reference_of with_labels jump label e goal =
    and_from (with_labels || is_goto jump.kind) (is_same label jump)
    (or_right with_labels (is_goto jump.kind) (ap is_goto e)) ((bytes_decides label.name jump.name).1 goal.named)

-- a jump is among the references of the label to which it leads
pub among_references : (before after : List MarkValue) (jump label : MarkValue) (with_labels : Bool) → jump.kind ≡ Goto
    → definition_of (before ++ jump ∷ after) jump ≡ Some label
    → references_of (before ++ jump ∷ after) label with_labels ≡ references_of before label with_labels ++ jump ∷ references_of after label with_labels
among_references before after jump label with_labels e d =
    let goal : IsGoalOf jump label = subst (λ (found : Option MarkValue). IfSome found (IsGoalOf jump)) d (goes_forward (before ++ jump ∷ after) jump e) in
    filter-append (is_reference with_labels label) before (jump ∷ after)
    ∙ ap (λ b. references_of before label with_labels ++ (if b then jump ∷ references_of after label with_labels else references_of after label with_labels))
    (is_reference_of with_labels jump label e goal)
