-- What is kept of lines says where their jumps lead: lines without names are nothing to the others.
use Rattle.std.proofs.Common.{◌≡◌, ℕ, ◌+◌, Bool, true, false, not, ◌&&◌, ◌||◌, cond, List, [], ◌∷◌, ◌++◌, map, Option, Some, None, sum_by, Result, Ok, Err, refl, ap, sym, ◌∙◌, arith, ◌<◌, ◌≤◌, append-nil, suc, length, get_or, set, take, drop, append_assoc, subst}
use Rattle.std.specs.List.{count_by, flat_map, zip}
use Rattle.std.proofs.Math.Seq.{drop-cons}
use Rattle.std.proofs.lemmas.List.{drop-set-lt, drop_all, take_all, take_more_set}
use Rattle.std.proofs.lemmas.List.Sums.{sum_by-cons}
use Rattle.text_bytes.specs.declared.profile.Profile.{Profile}
use Rattle.text_bytes.specs.Texts.{is_empty}
use Rattle.file_messages.specs.declared.message.MessageKind.{MessageKind}
use Rattle.file_messages.specs.declared.message.MessageKind.TheVariants.{LabelUnused, NoLaterLabel}
use Rattle.rule_types.specs.Jumps.{Names, has_label, is_awaited, is_lost, is_named, is_unused, landings, landings_below}
use Rattle.rule_types.specs.declared.jumps.Landing.{Landing}
use Rattle.rule_core.specs.Counts.{draft_tokens, line_tokens, token_count}
use Rattle.rule_core.specs.Drafts.{Draft, draft_of}
use Rattle.rule_core.specs.Lines.{NumberedLine}
use Rattle.rule_core.specs.Notes.{AreSilent, has_names, is_silent, nowhere, relanded, some_names, spread}
use Rattle.rule_core.specs.Rules.{Reading, landed, line_findings, name_of, name_spot, names_of, reading_of}
use Rattle.rule_core.specs.declared.names.NamePlace.{NamePlace}
use Rattle.rule_types.specs.declared.spot.Spot.{Spot}

abbrev names : Option (List ℕ) → Option (List ℕ) → Names
names l g = record { label = l; goto = g }

abbrev landing : Bool → Bool → Landing
landing a b = record { lost = a; unused = b }

abbrev Read : Type 0
Read = Result Draft (Spot MessageKind)

-- the names that lines have, and those of the lines that have some
abbrev pub all_names : Profile → List NumberedLine → List Names
all_names by ls = map (λ r. names_of r.read) (map (reading_of by) ls)

abbrev given : Profile → List NumberedLine → List Names
given by ls = flat_map (λ l. some_names (names_of (draft_of by l.text))) ls

-- a label is among names also if those are left out that have none
one_label : (name : List ℕ) (l g : Option (List ℕ)) (some all : List Names) → has_label name some ≡ has_label name all
    → has_label name (some_names (names l g) ++ some) ≡ has_label name (names l g ∷ all)
one_label name None None some all h = h
one_label name None (Some g) some all h = h
one_label name (Some l) g some all h = ap (λ (b : Bool). is_named name (Some l) || b) h

label_of_read : (name : List ℕ) (read : Read) (some all : List Names) → has_label name some ≡ has_label name all
    → has_label name (some_names (names_of read) ++ some) ≡ has_label name (names_of read ∷ all)
label_of_read name (Ok d) some all h = one_label name (name_of d.label) (name_of d.goto) some all h
label_of_read name (Err wrong) some all h = one_label name None None some all h

labels_kept : (by : Profile) (name : List ℕ) (ls : List NumberedLine) → has_label name (given by ls) ≡ has_label name (all_names by ls)
labels_kept by name [] = refl
labels_kept by name (l ∷ ls) = label_of_read name (draft_of by l.text) (given by ls) (all_names by ls) (labels_kept by name ls)

lost_kept : (by : Profile) (g : Option (List ℕ)) (ls : List NumberedLine) → is_lost g (given by ls) ≡ is_lost g (all_names by ls)
lost_kept by None ls = refl
lost_kept by (Some name) ls = ap not (labels_kept by name ls)

-- names above, of which those that have none are left out
abbrev AreAbove : List Names → List Names → Type 0
AreAbove some all = (name : List ℕ) → is_awaited name some ≡ is_awaited name all

one_above : (l g : Option (List ℕ)) (some all : List Names) → AreAbove some all → AreAbove (some_names (names l g) ++ some) (names l g ∷ all)
one_above None None some all h name = h name
one_above None (Some g) some all h name = ap (λ (b : Bool). cond (is_named name (Some g)) true b) (h name)
one_above (Some l) None some all h name = ap (λ (b : Bool). cond (is_named name (Some l)) false b) (h name)
one_above (Some l) (Some g) some all h name = ap (λ (b : Bool). cond (is_named name (Some g)) true (cond (is_named name (Some l)) false b)) (h name)

unused_kept : (l : Option (List ℕ)) (some all : List Names) → AreAbove some all → is_unused l some ≡ is_unused l all
unused_kept None some all h = refl
unused_kept (Some name) some all h = ap not (h name)

-- a line more
one_landed : (by : Profile) (l g : Option (List ℕ)) (some all : List Names) (ls : List NumberedLine) → AreAbove some all
    → spread (map (λ x. has_names (names_of (draft_of by x.text))) ls) (landings_below (some_names (names l g) ++ some) (given by ls)) ≡ landings_below (names l g ∷ all) (all_names by ls)
    → spread (has_names (names l g) ∷ map (λ x. has_names (names_of (draft_of by x.text))) ls) (landings_below some (some_names (names l g) ++ given by ls)) ≡ landings_below all (names l g ∷ all_names by ls)
one_landed by None None some all ls a h = ap (λ (xs : List Landing). nowhere ∷ xs) h
one_landed by None (Some g) some all ls a h =
    ap (λ (xs : List Landing). landing (is_lost (Some g) (given by ls)) false ∷ xs) h
    ∙ ap (λ (b : Bool). landing b false ∷ landings_below (names None (Some g) ∷ all) (all_names by ls)) (lost_kept by (Some g) ls)
one_landed by (Some l) g some all ls a h =
    ap (λ (xs : List Landing). landing (is_lost g (given by ls)) (is_unused (Some l) some) ∷ xs) h
    ∙ ap (λ (b : Bool). landing b (is_unused (Some l) some) ∷ landings_below (names (Some l) g ∷ all) (all_names by ls)) (lost_kept by g ls)
    ∙ ap (λ (b : Bool). landing (is_lost g (all_names by ls)) b ∷ landings_below (names (Some l) g ∷ all) (all_names by ls)) (unused_kept (Some l) some all a)

landed_by : (by : Profile) (read : Read) (some all : List Names) (ls : List NumberedLine) → AreAbove some all
    → ((more most : List Names) → AreAbove more most → spread (map (λ x. has_names (names_of (draft_of by x.text))) ls) (landings_below more (given by ls)) ≡ landings_below most (all_names by ls))
    → spread (has_names (names_of read) ∷ map (λ x. has_names (names_of (draft_of by x.text))) ls) (landings_below some (some_names (names_of read) ++ given by ls)) ≡ landings_below all (names_of read ∷ all_names by ls)
landed_by by (Ok d) some all ls a rest =
    let n = names (name_of d.label) (name_of d.goto) in
    one_landed by (name_of d.label) (name_of d.goto) some all ls a (rest (some_names n ++ some) (n ∷ all) (one_above (name_of d.label) (name_of d.goto) some all a))
landed_by by (Err wrong) some all ls a rest = one_landed by None None some all ls a (rest some (names None None ∷ all) (one_above None None some all a))

all_landed : (by : Profile) (ls : List NumberedLine) (some all : List Names) → AreAbove some all
    → spread (map (λ x. has_names (names_of (draft_of by x.text))) ls) (landings_below some (given by ls)) ≡ landings_below all (all_names by ls)
all_landed by [] some all a = refl
all_landed by (l ∷ ls) some all a = landed_by by (draft_of by l.text) some all ls a (all_landed by ls)

-- the lines of a file have their landings
pub lines_landed : (by : Profile) (ls : List NumberedLine) (named : List Bool) (some : List Names) (found spreaded : List Landing)
    → named ≡ map (λ x. has_names (names_of (draft_of by x.text))) ls → some ≡ given by ls → found ≡ landings some → spreaded ≡ spread named found → spreaded ≡ landings (all_names by ls)
unfolding landings
lines_landed by ls named some found spreaded n s f e =
    e ∙ ap (λ (x : List Bool). spread x found) n
    ∙ ap (λ (x : List Landing). spread (map (λ y. has_names (names_of (draft_of by y.text))) ls) x) (f ∙ ap (λ (x : List Names). landings_below [] x) s)
    ∙ all_landed by ls [] [] (λ name. refl)

-- the tokens of a rule, and its jump if that is lost
one_jump : (a c : ℕ) (b : Bool) → a + cond (true && not b) 1 0 + c + cond b 1 0 ≡ a + cond (true && not false) 1 0 + c
one_jump a c true = omega arith
one_jump a c false = omega arith

draft_counted : (label goto : Option NamePlace) (d : Draft) (unused : Bool) (below : List Names) → d.goto ≡ goto
    → draft_tokens d (landing (is_lost (name_of goto) below) unused) + cond (is_lost (name_of goto) below) 1 0 ≡ draft_tokens d nowhere
draft_counted label None d unused below e = rw e (omega arith)
draft_counted label (Some n) d unused below e = rw e (one_jump _ _ (is_lost (Some n.name) below))

line_counted : (read : Read) (unused : Bool) (below : List Names)
    → line_tokens read (landing (is_lost (names_of read).goto below) unused) + cond (is_lost (names_of read).goto below) 1 0 ≡ line_tokens read nowhere
line_counted (Ok d) unused below = draft_counted d.label d.goto d unused below refl
line_counted (Err wrong) unused below = refl

all_counted : (by : Profile) (above : List Names) (ls : List NumberedLine)
    → token_count (zip (map (reading_of by) ls) (landings_below above (all_names by ls))) + count_by (λ l. l.lost) (landings_below above (all_names by ls)) ≡ sum_by (λ l. line_tokens (draft_of by l.text) nowhere) ls
all_counted by above [] = refl
all_counted by above (l ∷ ls) =
    let read = draft_of by l.text in
    let own = landing (is_lost (names_of read).goto (all_names by ls)) (is_unused (names_of read).label above) in
    let below = landings_below (names_of read ∷ above) (all_names by ls) in
    let first = line_counted read (is_unused (names_of read).label above) (all_names by ls) in
    let rest = all_counted by (names_of read ∷ above) ls in
    let one = sum_by-cons (λ (y : Reading × Landing). line_tokens y.0.read y.1) (reading_of by l, own) (zip (map (reading_of by) ls) below) in
    let two = sum_by-cons (λ (x : Landing). cond x.lost 1 0) own below in
    let three = sum_by-cons (λ (x : NumberedLine). line_tokens (draft_of by x.text) nowhere) l ls in
    omega (arith, first, rest, one, two, three)

-- the tokens that are left are those of all rules without the jumps that are lost
pub lines_counted : (by : Profile) (ls : List NumberedLine)
    → token_count (landed (map (reading_of by) ls)) + count_by (λ l. l.lost) (landings (all_names by ls)) ≡ sum_by (λ l. line_tokens (draft_of by l.text) nowhere) ls
unfolding landings
lines_counted by ls = all_counted by [] ls

-- nothing is found about a line that is silent, wherever jumps lead
quiet_rule : (label goto : Option NamePlace) (findings : List (Spot MessageKind)) (above below : List Names)
    → (not (has_names (names (name_of label) (name_of goto))) && is_empty findings) ≡ true
    → cond (is_lost (name_of goto) below) (name_spot NoLaterLabel goto ∷ []) [] ++ (findings ++ cond (is_unused (name_of label) above) (name_spot LabelUnused label ∷ []) []) ≡ []
quiet_rule None None [] above below h = refl
quiet_rule None None (f ∷ findings) above below h = cc
quiet_rule None (Some g) findings above below h = cc
quiet_rule (Some l) None findings above below h = cc
quiet_rule (Some l) (Some g) findings above below h = cc

quiet : (read : Read) (above below : List Names) → is_silent read ≡ true → line_findings read (landing (is_lost (names_of read).goto below) (is_unused (names_of read).label above)) ≡ []
quiet (Ok d) above below h = quiet_rule d.label d.goto d.findings above below h
quiet (Err wrong) above below h = cc

all_quiet : (by : Profile) (above : List Names) (ls : List NumberedLine) → AreSilent (map (λ l. is_silent (draft_of by l.text)) ls) (zip (map (reading_of by) ls) (landings_below above (all_names by ls)))
all_quiet by above [] = tt
all_quiet by above (l ∷ ls) = (quiet (draft_of by l.text) above (all_names by ls), all_quiet by (names_of (draft_of by l.text) ∷ above) ls)

pub lines_quiet : (by : Profile) (ls : List NumberedLine) (silent : List Bool) → silent ≡ map (λ l. is_silent (draft_of by l.text)) ls → AreSilent silent (landed (map (reading_of by) ls))
unfolding landings
lines_quiet by ls silent s = subst (λ (bs : List Bool). AreSilent bs (landed (map (reading_of by) ls))) (sym s) (all_quiet by [] ls)

-- a line more has its landing
pub one_relanded : (items : List (Reading × Landing)) (i : ℕ) (x : Reading × Landing) (r : Reading) (l : Landing) (some left : List Landing) (whole : List (Reading × Landing))
    → i < length items → x ≡ get_or items i x → r ≡ x.0 → ((named : List Bool) → spread (true ∷ named) some ≡ l ∷ spread named left) → take i items ++ relanded (drop i items) some ≡ whole
    → take (i + 1) (set items i (r, l)) ++ relanded (drop (i + 1) (set items i (r, l))) left ≡ whole
one_relanded items i x r l some left whole h e q f w =
    let next : i + 1 ≡ suc i = omega arith in
    let others = drop (i + 1) items in
    let front : take (i + 1) (set items i (r, l)) ≡ take i items ++ (r, l) ∷ [] = take_more_set items i (r, l) h in
    let behind : drop (i + 1) (set items i (r, l)) ≡ others = drop-set-lt (i + 1) items i (r, l) (omega arith) in
    let cut : drop i items ≡ x ∷ others = drop-cons items i x h ∙ ap (λ (y : Reading × Landing). y ∷ drop (suc i) items) (sym e) ∙ ap (λ (n : ℕ). x ∷ drop n items) (sym next) in
    let more : relanded (x ∷ others) some ≡ (r, l) ∷ relanded others left =
    ap (λ (ls : List Landing). zip (x.0 ∷ map (λ (y : Reading × Landing). y.0) others) ls) (f (map (λ (y : Reading × Landing). true) others))
    ∙ ap (λ (p : Reading). (p, l) ∷ relanded others left) (sym q) in
    ap (λ (ys : List (Reading × Landing)). ys ++ relanded (drop (i + 1) (set items i (r, l))) left) front
    ∙ ap (λ (ys : List (Reading × Landing)). (take i items ++ (r, l) ∷ []) ++ relanded ys left) behind
    ∙ append_assoc (take i items) ((r, l) ∷ []) (relanded others left)
    ∙ ap (λ (ys : List (Reading × Landing)). take i items ++ ys) (sym more ∙ ap (λ (ys : List (Reading × Landing)). relanded ys some) (sym cut))
    ∙ w

-- no line is left
pub ended_relanded : (items old : List (Reading × Landing)) (i len : ℕ) (left : List Landing) (whole : List (Reading × Landing))
    → length items ≡ length old → len ≡ length old → length old ≤ i → take i items ++ relanded (drop i items) left ≡ whole → take len (items ++ drop (length items) old) ≡ whole
ended_relanded items old i len left whole s n h w =
    let behind : drop (length items) old ≡ [] = drop_all (length items) old (omega (arith, s)) in
    let front : take i items ≡ items = take_all i items (omega (arith, s, h)) in
    let none : drop i items ≡ [] = drop_all i items (omega (arith, s, h)) in
    ap (λ (ys : List (Reading × Landing)). take len (items ++ ys)) behind
    ∙ ap (take len) (append-nil items)
    ∙ take_all len items (omega (arith, s, n))
    ∙ sym (append-nil items)
    ∙ sym (ap (λ (ys : List (Reading × Landing)). ys ++ relanded (drop i items) left) front ∙ ap (λ (ys : List (Reading × Landing)). items ++ relanded ys left) none)
    ∙ w

-- lines that were read, before it is known what becomes of their jumps
abbrev unlanded : List Reading → List (Reading × Landing)
unlanded rds = map (λ r. (r, nowhere)) rds

abbrev names_in : List (Reading × Landing) → List Names
names_in lines = map (λ x. names_of x.0.read) lines

names_same : (rds : List Reading) → names_in (unlanded rds) ≡ map (λ r. names_of r.read) rds
names_same [] = refl
names_same (r ∷ rds) = ap (λ (ns : List Names). names_of r.read ∷ ns) (names_same rds)

all_relanded : (above : List Names) (rds : List Reading) → relanded (unlanded rds) (landings_below above (names_in (unlanded rds))) ≡ zip rds (landings_below above (map (λ r. names_of r.read) rds))
all_relanded above [] = refl
all_relanded above (r ∷ rds) =
    let same : names_in (unlanded rds) ≡ map (λ q. names_of q.read) rds = names_same rds in
    ap (λ (xs : List (Reading × Landing)). (r, landing (is_lost (names_of r.read).goto (names_in (unlanded rds))) (is_unused (names_of r.read).label above)) ∷ xs) (all_relanded (names_of r.read ∷ above) rds)
    ∙ ap (λ (ns : List Names). (r, landing (is_lost (names_of r.read).goto ns) (is_unused (names_of r.read).label above)) ∷ zip rds (landings_below (names_of r.read ∷ above) (map (λ q. names_of q.read) rds))) same

-- lines have their landings once these are set
pub lines_relanded : (rds : List Reading) (items now : List (Reading × Landing)) (ls : List Landing)
    → items ≡ unlanded rds → ls ≡ landings (names_in items) → now ≡ relanded items ls → now ≡ landed rds
unfolding landings
lines_relanded rds items now ls i l n =
    n ∙ ap (relanded items) l ∙ ap (λ (xs : List (Reading × Landing)). relanded xs (landings_below [] (names_in xs))) i ∙ all_relanded [] rds
