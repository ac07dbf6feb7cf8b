-- Files about which there is no message.
use Rattle.std.proofs.Common.{◌≡◌, ℕ, Bool, true, false, not, cond, List, [], ◌∷◌, ◌++◌, length, map, Option, Some, None, Result, Ok, Err, refl, sym, ◌∙◌, ap, subst, ◌⊎◌, inl, inr, Contains, Any, All}
use Rattle.std.specs.List.{AllZip, flat_map, onto_first}
use Rattle.std.proofs.lemmas.List.Elements.{All-cons, All-nil}
use Rattle.file_messages.specs.declared.message.Message.{Message}
use Rattle.text_bytes.specs.declared.source_file.SourceFile.{SourceFile}
use Rattle.file_messages.specs.declared.message.MessageKind.{MessageKind}
use Rattle.rule_types.specs.declared.spot.Spot.{Spot}
use Rattle.text_bytes.specs.declared.profile.Profile.{Profile}
use Rattle.rule_core.specs.Ends.{abandoned}
use Rattle.rule_core.specs.Lines.{NumberedLine, Piece, is_comment, is_empty, is_open, joined_lines, kept, lines, lines_of_runs, open_number, open_of_runs, piece_of, run_number, run_text, runs, unindented}
use Rattle.text_bytes.specs.Numbers.{capped}
use Rattle.rule_core.specs.Drafts.{Draft, draft_of}
use Rattle.rule_types.specs.Jumps.{Names, is_lost, is_unused, landings}
use Rattle.rule_types.specs.declared.jumps.Landing.{Landing}
use Rattle.rule_types.specs.Rules.{Rule}
use Rattle.rule_core.specs.Rules.{Reading, file_messages, file_rules, findings_of, line_messages, line_rules, message_at, messages_unless, names_of, open_messages, reading_of, rule_at, rules_unless, set_of_as}
use Rattle.rule_laws.specs.Laws.{IsEmptyOrRule, IsKnown, IsUnderstood, IsWritten, runs_of, well_landed, written_lines}
use Rattle.rule_laws.proofs.Landed.{reported_below, rules_below}
use Rattle.rule_laws.proofs.Listing.{Has, all_from_has, back_empty, contains, has_map, map_empty, not_reported, prefix_empty}

well : (l : Landing) → l.lost ≡ false → l.unused ≡ false → l ≡ well_landed
well l e f = ap (λ (b : Bool). as_landing b l.unused) e ∙ ap (λ (b : Bool). as_landing false b) f where
  as_landing : Bool → Bool → Landing
  as_landing a b = record { lost = a; unused = b }

-- a line of which nothing is said is a rule as it is written
written_line : (profile : Profile) (file : List ℕ) (l : NumberedLine) (read : Result Draft (Spot MessageKind)) (k : Landing) (more : List Message) (ls : List NumberedLine) (rules : List Rule)
    → draft_of profile l.text ≡ read → line_messages file l.number read k ++ more ≡ [] → (more ≡ [] → AllZip (IsWritten profile file) ls rules) → AllZip (IsWritten profile file) (l ∷ ls) (line_rules profile file l.number read k ++ rules)
written_line profile file l (Err wrong) k more ls rules e m f = cc
written_line profile file l (Ok d) k more ls rules e m f =
    let said : findings_of d k ≡ [] = map_empty (message_at file l.number) (findings_of d k) (prefix_empty _ more m) in
    let lost : k.lost ≡ false = not_reported _ k.lost (prefix_empty _ _ said) in
    let others = back_empty _ _ said in
    let unused : k.unused ≡ false = not_reported _ k.unused (back_empty d.findings _ others) in
    (record { draft = d; reads = e; is = ap (rule_at profile file l.number d) (well k lost unused); quiet = prefix_empty d.findings _ others }, f (back_empty _ more m))

written : (profile : Profile) (file : List ℕ) (above : List Names) (ls : List NumberedLine) → reported_below profile file above ls ≡ [] → AllZip (IsWritten profile file) ls (rules_below profile file above ls)
written profile file above [] e = tt
written profile file above (l ∷ ls) e =
    let names = names_of (draft_of profile l.text) in
    let below = map (λ (r : Reading). names_of r.read) (map (reading_of profile) ls) in
    written_line profile file l (draft_of profile l.text) (record { lost = is_lost names.goto below; unused = is_unused names.label above }) (reported_below profile file (names ∷ above) ls) ls (rules_below profile file (names ∷ above) ls) refl e
    (written profile file (names ∷ above) ls)

-- if nothing is said about an open line, there is none
closed : (file : List ℕ) (at : Option ℕ) → open_messages file at ≡ [] → at ≡ None
closed file None e = refl
closed file (Some n) e = cc

-- a run is empty, or a joined line at its number
run_known : (profile : Profile) (last : ℕ) (rs : List (List Piece)) (run : List Piece) → open_of_runs profile last rs ≡ None → Has run rs → (run_text run ≡ []) ⊎ Has (capped (run_number profile run)) (map (λ l. l.number) (lines_of_runs profile rs))
run_known profile last [] run o h = absurd h
run_known profile last (r ∷ rs) run o h = by_open (λ n g. run_known profile last rs run n g) (is_open r) o where
  Known : List NumberedLine → Type 0
  Known ls = (run_text run ≡ []) ⊎ Has (capped (run_number profile run)) (map (λ l. l.number) ls)

  Earlier : Type 0
  Earlier = open_of_runs profile last rs ≡ None → Has run rs → Known (lines_of_runs profile rs)

  empty : (t : List ℕ) → is_empty t ≡ true → t ≡ []
  empty [] e = refl
  empty (b ∷ t) e = cc

  this_or_other : Earlier → (run ≡ r) ⊎ Has run rs → open_of_runs profile last rs ≡ None → (b : Bool) → is_empty (run_text r) ≡ b → Known (cond b (lines_of_runs profile rs) (record { number = capped (run_number profile r); text = run_text r } ∷ lines_of_runs profile rs))
  this_or_other k (inl e) n true t = inl (ap run_text e ∙ empty (run_text r) t)
  this_or_other k (inl e) n false t = inr (inl (ap (λ (x : List Piece). capped (run_number profile x)) e))
  this_or_other k (inr g) n true t = k n g
  this_or_other k (inr g) n false t = following (k n g) where
    following : Known (lines_of_runs profile rs) → Known (record { number = capped (run_number profile r); text = run_text r } ∷ lines_of_runs profile rs)
    following (inl e) = inl e
    following (inr k) = inr (inr k)

  by_open : Earlier → (b : Bool) → cond b (Some (capped (open_number profile last r))) (open_of_runs profile last rs) ≡ None → Known (cond b (lines_of_runs profile rs) (cond (is_empty (run_text r)) (lines_of_runs profile rs) (record { number = capped (run_number profile r); text = run_text r } ∷ lines_of_runs profile rs)))
  by_open k true n = cc
  by_open k false n = this_or_other k h n (is_empty (run_text r)) refl

-- the number of a line that is a rule is a rule's
number_ruled : (profile : Profile) (file : List ℕ) (n : ℕ) (ls : List NumberedLine) (rules : List Rule) → AllZip (IsWritten profile file) ls rules → Has n (map (λ l. l.number) ls) → Has n (map (λ r. r.line) rules)
number_ruled profile file n [] rules w h = absurd h
number_ruled profile file n (l ∷ ls) [] w h = absurd w
number_ruled profile file n (l ∷ ls) (r ∷ rules) w (inl e) = inl (e ∙ sym (ap (λ (x : Rule). x.line) w.0.is))
number_ruled profile file n (l ∷ ls) (r ∷ rules) w (inr h) = inr (number_ruled profile file n ls rules w.1 h)

-- a run of pieces that has this one
abbrev InRun : Piece → List (List Piece) → Type 0
InRun p rs = (run : List Piece) × Has run rs × Has p run

-- each piece is in a run
in_run : (p : Piece) (ps : List Piece) → Has p ps → InRun p (runs ps)
in_run p [] h = absurd h
in_run p (q ∷ ps) h = by_end (in_run p ps) q.continues h where
  first : (rs : List (List Piece)) → p ≡ q → InRun p (onto_first q rs)
  first [] e = (q ∷ [], inl refl, inl e)
  first (r ∷ rs) e = (q ∷ r, inl refl, inl e)

  later : (rs : List (List Piece)) → InRun p rs → InRun p (onto_first q rs)
  later [] i = absurd i.1
  later (r ∷ rs) i = by_place i.0 i.1 i.2 where
    by_place : (run : List Piece) → (run ≡ r) ⊎ Has run rs → Has p run → InRun p ((q ∷ r) ∷ rs)
    by_place run (inl e) k = (q ∷ r, inl refl, inr (subst (λ (x : List Piece). Has p x) e k))
    by_place run (inr g) k = (run, inr g, k)

  by_end : (Has p ps → InRun p (runs ps)) → (b : Bool) → (p ≡ q) ⊎ Has p ps → InRun p (cond b (onto_first q (runs ps)) ((q ∷ []) ∷ runs ps))
  by_end f true (inl e) = first (runs ps) e
  by_end f true (inr g) = later (runs ps) (f g)
  by_end f false (inl e) = (q ∷ [], inl refl, inl e)
  by_end f false (inr g) = let i = f g in (i.0, inr i.1, i.2)

-- a line that is not a comment is kept
is_kept : (l : NumberedLine) (ls : List NumberedLine) → is_comment (unindented l) ≡ false → Has l ls → Has (unindented l) (kept ls)
is_kept l [] c h = absurd h
is_kept l (m ∷ ls) c (inl e) =
    let same : is_comment (unindented m) ≡ false = ap (λ (x : NumberedLine). is_comment (unindented x)) (sym e) ∙ c in
    subst (λ (b : Bool). Has (unindented l) (cond (not b) (unindented m ∷ kept ls) (kept ls))) (sym same) (inl (ap unindented e))
is_kept l (m ∷ ls) c (inr h) = by_test (is_kept l ls c h) (is_comment (unindented m)) where
  by_test : Has (unindented l) (kept ls) → (b : Bool) → Has (unindented l) (cond (not b) (unindented m ∷ kept ls) (kept ls))
  by_test k true = k
  by_test k false = inr k

-- an element with a fact is one of those with it
any_from_has : {X : Type 0} (P : X → Type 0) (x : X) (xs : List X) → Has x xs → P x → Any P xs
any_from_has P x xs h p = let c = contains x xs h in (c.0, x, c.1, c.2, p)

-- a line is a comment or in a run that is empty or a rule
line_known : (profile : Profile) (f : SourceFile) (l : NumberedLine) → AllZip (IsWritten profile f.name) (joined_lines profile f.bytes).lines (file_rules profile f) → (joined_lines profile f.bytes).open_at ≡ None → Has l (written_lines f) → IsKnown profile f l
line_known profile f l w o h = by_test (is_comment (unindented l)) refl where
  ruled : (run : List Piece) → (run_text run ≡ []) ⊎ Has (capped (run_number profile run)) (map (λ l. l.number) (joined_lines profile f.bytes).lines) → IsEmptyOrRule profile (file_rules profile f) run
  ruled run (inl e) = inl e
  ruled run (inr n) = inr (contains _ _ (number_ruled profile f.name (capped (run_number profile run)) (joined_lines profile f.bytes).lines (file_rules profile f) w n))

  by_test : (b : Bool) → is_comment (unindented l) ≡ b → (b ≡ true) ⊎ Any (λ run. Contains run (piece_of (unindented l)) × IsEmptyOrRule profile (file_rules profile f) run) (runs_of f)
  by_test true c = inl refl
  by_test false c =
      let i = in_run (piece_of (unindented l)) (map piece_of (kept (written_lines f))) (has_map piece_of (unindented l) (kept (written_lines f)) (is_kept l (written_lines f) c h)) in
      inr (any_from_has (λ (run : List Piece). Contains run (piece_of (unindented l)) × IsEmptyOrRule profile (file_rules profile f) run) i.0 (runs_of f) i.1
      (contains (piece_of (unindented l)) i.0 i.2, ruled i.0 (run_known profile (length (lines f.bytes)) (runs_of f) i.0 o i.1)))

understood_file : (profile : Profile) (f : SourceFile) → file_messages profile f ≡ [] → IsUnderstood profile f
unfolding landings
understood_file profile f e = by_given (abandoned profile f.bytes) refl e
  where
    whole : AllZip (IsWritten profile f.name) (joined_lines profile f.bytes).lines (file_rules profile f) → (joined_lines profile f.bytes).open_at ≡ None → IsUnderstood profile f
    whole rules shut = record { rules = rules; closed = shut; lines = all_from_has (IsKnown profile f) (written_lines f) (λ l h. line_known profile f l rules shut h) }

    by_given : (given : Option ℕ) → abandoned profile f.bytes ≡ given → messages_unless profile f given ≡ [] → IsUnderstood profile f
    by_given (Some line) g m = cc
    by_given None g m =
        let rules : AllZip (IsWritten profile f.name) (joined_lines profile f.bytes).lines (rules_unless profile f None) = written profile f.name [] (joined_lines profile f.bytes).lines (prefix_empty _ _ m) in
        whole (subst (λ (rs : List Rule). AllZip (IsWritten profile f.name) (joined_lines profile f.bytes).lines rs) (ap (rules_unless profile f) (sym g)) rules)
        (closed f.name (joined_lines profile f.bytes).open_at (back_empty _ _ m))

each_understood : (profile : Profile) (files : List SourceFile) → flat_map (file_messages profile) files ≡ [] → All (IsUnderstood profile) files
each_understood profile [] e = All-nil (IsUnderstood profile)
each_understood profile (f ∷ files) e = All-cons (IsUnderstood profile) f files (understood_file profile f (prefix_empty (file_messages profile f) _ e)) (each_understood profile files (back_empty (file_messages profile f) _ e))

pub understood : (profile : Profile) (files : List SourceFile) → (set_of_as profile files).messages ≡ [] → All (IsUnderstood profile) files
unfolding set_of_as
understood profile files e = each_understood profile files e
