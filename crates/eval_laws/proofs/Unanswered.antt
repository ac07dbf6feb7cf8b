-- Every command that is asked has no answer, and can be asked; and rules without an act that counts ask nothing.
use Rattle.std.proofs.Common.{◌≡◌, ◌&&◌, ◌||◌, Bool, true, false, not, cond, List, [], ◌∷◌, ◌++◌, Option, Some, None, is_none, is_some, refl, ap, ◌∙◌}
use Rattle.std.specs.List.{filter, list_all, list_any}
use Rattle.std.proofs.lemmas.List.Folds.{list_all-append}
use Rattle.text_bytes.specs.declared.profile.Profile.{Profile}
use Rattle.text_bytes.specs.declared.profile.Profile.TheVariants.{Manual, Udev}
use Rattle.text_bytes.specs.Text.{Text}
use Rattle.text_tables.specs.Texts.{is_among, with_text, with_texts}
use Rattle.text_tables.specs.Pairs.{value_of}
use Rattle.builtin_devices.specs.Knowledge.{Known}
use Rattle.device_core.specs.Values.{AnswerValue, EventValue}
use Rattle.rule_types.specs.declared.part.Act.{Act}
use Rattle.rule_types.specs.declared.part.ActKind.{ActKind}
use Rattle.rule_types.specs.declared.part.ActKind.TheVariants as act_kind
use Rattle.rule_types.specs.declared.part.Import.{Import}
use Rattle.rule_types.specs.declared.part.Import.TheVariants as import
use Rattle.rule_types.specs.declared.part.PlainMatch.{PlainMatch}
use Rattle.rule_types.specs.declared.part.UpMatch.{UpMatch}
use Rattle.rule_types.specs.Rules.{Rule}
use Rattle.eval_state.specs.Scenes.{start}
use Rattle.eval_state.specs.declared.scene.Scene.{Scene}
use Rattle.eval_state.specs.declared.state.State.{State}
use Rattle.eval_rendering.specs.Bounds.{most_command_bytes}
use Rattle.eval_rendering.specs.declared.rendered.Rendered.{Rendered}
use Rattle.eval_rendering.specs.declared.rendered.Rendered.TheVariants as rendered
use Rattle.eval_acts.specs.ActTexts.{import_text, program_text}
use Rattle.eval_acts.specs.Acts.{act_step}
use Rattle.eval_assignments.proofs.Staying.{Stays}
use Rattle.eval_rules.specs.Idle.{act_kind_counts}
use Rattle.eval_rules.specs.Jumps.{is_passed, sought_after}
use Rattle.eval_rules.specs.Steps.{Went, apply, if_proceeding, plain_step, search, walk}
use Rattle.eval_rules.proofs.Staying.{act_stays, event_stays, reached_stays}
use Rattle.eval_courses.specs.Courses.{reports_if_proceeding, searched, walk_reports}
use Rattle.eval_commands.specs.Builtins.{builtin, builtin_question}
use Rattle.eval_commands.specs.declared.builtin.Builtin.{Builtin}
use Rattle.eval_commands.specs.declared.builtin.Builtin.TheVariants as asked
use Rattle.eval_courses.specs.Questions.{act_asks, acts_ask, builtin_asks, can_be_asked, meant_asks, import_asks, questions, rule_asks, rules_ask, unanswered, with_asked}

-- ---- what the event says of itself stays up to the acts of a rule

plain_stays : (r : Rule) (part : PlainMatch) (s : Scene) → Stays s (plain_step r part s).0
unfolding plain_step
plain_stays r part s = reached_stays r part.key s

if_proceeding_stays : (f : Scene → Went) → ((s : Scene) → Stays s (f s).0) → (s : Scene) (w : Went) → Stays s w.0 → Stays s (if_proceeding f w).0
if_proceeding_stays f h s w k = by w.1
  where
    by : (b : Bool) → Stays s (cond b (f w.0) w).0
    by true = h w.0 ∙ k
    by false = k

plains_stay : (r : Rule) (parts : List PlainMatch) (s : Scene) → Stays s (walk (plain_step r) parts s).0
unfolding walk
plains_stay r [] s = refl
plains_stay r (part ∷ parts) s = if_proceeding_stays (walk (plain_step r) parts) (plains_stay r parts) s (plain_step r part s) (plain_stays r part s)

search_stays : (parts : List UpMatch) (s : Scene) → Stays s (search parts s).0
search_stays [] s = refl
search_stays (part ∷ parts) s = refl

pub before_stays : (r : Rule) (s : Scene) → Stays s (searched r s).0
before_stays r s = if_proceeding_stays (search r.up) (search_stays r.up) s (walk (plain_step r) r.plain s) (plains_stay r r.plain s)

-- ---- what is asked

first_so : (a b : Bool) → (a && b) ≡ true → a ≡ true
first_so true b h = refl
first_so false b h = cc h

second_so : (a b : Bool) → (a && b) ≡ true → b ≡ true
second_so true b h = h
second_so false b h = cc h

module _ (event : EventValue) where
  -- a command that the event does not answer
  abbrev pub is_fine : Text → Bool
  is_fine command = is_none (value_of event.programs command)

  text_fine : (text : Rendered) → list_all is_fine (unanswered event text) ≡ true
  text_fine rendered.TooLong = refl
  text_fine (rendered.Text command) = by (value_of event.programs command) refl
    where
      by : (v : Option AnswerValue) → value_of event.programs command ≡ v → list_all is_fine (cond (is_some v) [] (command ∷ [])) ≡ true
      by (Some answer) e = refl
      by None e = ap (λ (v : Option AnswerValue). is_none v && true) e

  meant_fine : (command : Text) (b : Builtin) → list_all is_fine (meant_asks event command b) ≡ true
  meant_fine command (asked.Answered name) = text_fine (rendered.Text (builtin_question command))
  meant_fine command (asked.Hwdb hwdb) = refl
  meant_fine command asked.InputId = refl
  meant_fine command asked.NetId = refl
  meant_fine command asked.NetSetupLink = refl
  meant_fine command asked.PathId = refl
  meant_fine command asked.UsbId = refl
  meant_fine command asked.SetsNothing = refl
  meant_fine command asked.Fails = refl
  meant_fine command (asked.Other name) = refl
  meant_fine command asked.BadArguments = refl

  builtin_fine : (text : Rendered) → list_all is_fine (builtin_asks event text) ≡ true
  builtin_fine rendered.TooLong = refl
  builtin_fine (rendered.Text command) = meant_fine command (builtin Udev command)

  import_fine : (p : Profile) (i : Import) (s : State) → s.event ≡ event → list_all is_fine (import_asks p i s) ≡ true
  import_fine Manual i s e = refl
  import_fine Udev (import.Program template) s e = ap (λ v. list_all is_fine (unanswered v (import_text most_command_bytes template s))) e ∙ text_fine (import_text most_command_bytes template s)
  import_fine Udev (import.Builtin template) s e = ap (λ v. list_all is_fine (builtin_asks v (import_text most_command_bytes template s))) e ∙ builtin_fine (import_text most_command_bytes template s)
  import_fine Udev (import.Parent names value) s e = refl
  import_fine Udev (import.File template) s e = refl
  import_fine Udev (import.Cmdline name) s e = refl
  import_fine Udev (import.Db name) s e = refl

  act_kind_fine : (d : ActKind) (s : State) → s.event ≡ event → list_all is_fine (act_asks d s) ≡ true
  act_kind_fine (act_kind.Test mask template) s e = refl
  act_kind_fine (act_kind.Program template) s e = ap (λ v. list_all is_fine (unanswered v (program_text template s))) e ∙ text_fine (program_text template s)
  act_kind_fine (act_kind.Import i) s e = import_fine s.event.profile i s e

  both_fine : (xs ys : List Text) → list_all is_fine xs ≡ true → list_all is_fine ys ≡ true → list_all is_fine (xs ++ ys) ≡ true
  both_fine xs ys h k = list_all-append is_fine xs ys ∙ ap (λ b. b && list_all is_fine ys) h ∙ k

  if_proceeding_fine : (f : Scene → List Text) → ((s : Scene) → s.state.event ≡ event → list_all is_fine (f s) ≡ true) → (w : Went) → w.0.state.event ≡ event → list_all is_fine (reports_if_proceeding f w) ≡ true
  if_proceeding_fine f h w e = by w.1
    where
      by : (b : Bool) → list_all is_fine (cond b (f w.0) []) ≡ true
      by true = h w.0 e
      by false = refl

  acts_fine : (known : Known) (r : Rule) (acts : List Act) (s : Scene) → s.state.event ≡ event → list_all is_fine (acts_ask known r acts s) ≡ true
  unfolding walk_reports
  acts_fine known r [] s e = refl
  acts_fine known r (act ∷ acts) s e =
      both_fine (act_asks act.kind s.state) (reports_if_proceeding (acts_ask known r acts) (act_step known r act s)) (act_kind_fine act.kind s.state e)
      (if_proceeding_fine (acts_ask known r acts) (acts_fine known r acts) (act_step known r act s) (act_stays known r act s ∙ e))

  rule_fine : (known : Known) (r : Rule) (s : Scene) → s.state.event ≡ event → list_all is_fine (rule_asks known r s) ≡ true
  unfolding rule_asks
  rule_fine known r s e = if_proceeding_fine (acts_ask known r r.acts) (acts_fine known r r.acts) (searched r s) (before_stays r s ∙ e)

  rules_fine : (known : Known) (sought : Option Text) (rules : List Rule) (s : Scene) → s.state.event ≡ event → list_all is_fine (rules_ask known sought rules s) ≡ true
  unfolding rules_ask
  rules_fine known sought [] s e = refl
  rules_fine known sought (r ∷ rs) s e =
      by _ _ (is_passed sought r) (rules_fine known sought rs s e)
      (both_fine (rule_asks known r s) (rules_ask known (sought_after (apply known r s).1 r) rs (apply known r s).0) (rule_fine known r s e)
      (rules_fine known (sought_after (apply known r s).1 r) rs (apply known r s).0 (event_stays known r s ∙ e)))
    where
      by : (xs ys : List Text) (p : Bool) → list_all is_fine xs ≡ true → list_all is_fine ys ≡ true → list_all is_fine (cond p xs ys) ≡ true
      by xs ys true h k = h
      by xs ys false h k = k

one_more : (p : Text → Bool) (texts : List Text) (text : Text) → list_all p texts ≡ true → p text ≡ true → list_all p (with_text texts text) ≡ true
one_more p texts text h k = by (is_among texts text)
  where
    by : (b : Bool) → list_all p (cond b texts (texts ++ text ∷ [])) ≡ true
    by true = h
    by false = list_all-append p texts (text ∷ []) ∙ ap (λ b. b && (p text && true)) h ∙ ap (λ b. b && true) k

-- what holds of texts holds of them once each is there once
all_added : (p : Text → Bool) (texts more : List Text) → list_all p texts ≡ true → list_all p more ≡ true → list_all p (with_texts texts more) ≡ true
all_added p texts [] h k = h
all_added p texts (text ∷ more) h k = all_added p (with_text texts text) more (one_more p texts text h (first_so (p text) _ k)) (second_so (p text) _ k)

-- what is left of texts has both
both_left : (p q : Text → Bool) (texts : List Text) → list_all p texts ≡ true → list_all (λ text. p text && q text) (filter q texts) ≡ true
both_left p q [] h = refl
both_left p q (text ∷ texts) h = by (q text) refl (both_left p q texts (second_so (p text) _ h))
  where
    by : (b : Bool) → q text ≡ b → list_all (λ text. p text && q text) (filter q texts) ≡ true → list_all (λ text. p text && q text) (cond b (text ∷ filter q texts) (filter q texts)) ≡ true
    by true e more = ap (λ a. (a && q text) && list_all (λ text. p text && q text) (filter q texts)) (first_so (p text) _ h) ∙ ap (λ a. a && list_all (λ text. p text && q text) (filter q texts)) e ∙ more
    by false e more = more

-- all that is asked of an event
pub all_unanswered : (rules : List Rule) (known : Known) (event : EventValue) → list_all (λ command. is_none (value_of event.programs command) && can_be_asked command) (questions rules known event) ≡ true
all_unanswered rules known event =
    all_added (λ command. is_fine event command && can_be_asked command) [] (filter can_be_asked (rules_ask known None rules (start event))) refl
    (both_left (is_fine event) can_be_asked (rules_ask known None rules (start event)) (rules_fine event known None rules (start event) refl))

-- ---- rules that ask nothing

neither_first : (a b : Bool) → (a || b) ≡ false → a ≡ false
neither_first false b h = refl
neither_first true b h = h

neither_second : (a b : Bool) → (a || b) ≡ false → b ≡ false
neither_second false b h = h
neither_second true b h = cc h

act_kind_silent : (d : ActKind) (s : State) → act_kind_counts d ≡ false → act_asks d s ≡ []
act_kind_silent (act_kind.Test mask t) s h = refl
act_kind_silent (act_kind.Program t) s h = cc h
act_kind_silent (act_kind.Import i) s h = cc h

if_proceeding_silent : (f : Scene → List Text) → ((t : Scene) → f t ≡ []) → (w : Went) → reports_if_proceeding f w ≡ []
if_proceeding_silent f h w = by w.1
  where
    by : (b : Bool) → cond b (f w.0) [] ≡ []
    by true = h w.0
    by false = refl

acts_silent : (known : Known) (r : Rule) (acts : List Act) (s : Scene) → list_any (λ act. act_kind_counts act.kind) acts ≡ false → acts_ask known r acts s ≡ []
unfolding walk_reports
acts_silent known r [] s h = refl
acts_silent known r (act ∷ acts) s h =
    ap (λ xs. xs ++ reports_if_proceeding (acts_ask known r acts) (act_step known r act s)) (act_kind_silent act.kind s.state (neither_first (act_kind_counts act.kind) _ h))
    ∙ if_proceeding_silent (acts_ask known r acts) (λ t. acts_silent known r acts t (neither_second (act_kind_counts act.kind) _ h)) (act_step known r act s)

rule_silent : (known : Known) (r : Rule) (s : Scene) → list_any (λ act. act_kind_counts act.kind) r.acts ≡ false → rule_asks known r s ≡ []
unfolding rule_asks
rule_silent known r s h = if_proceeding_silent (acts_ask known r r.acts) (λ t. acts_silent known r r.acts t h) (searched r s)

reversed : (b : Bool) → not b ≡ true → b ≡ false
reversed true h = cc h
reversed false h = refl

rules_silent : (known : Known) (sought : Option Text) (rules : List Rule) (s : Scene) → list_all (λ r. not (list_any (λ act. act_kind_counts act.kind) r.acts)) rules ≡ true → rules_ask known sought rules s ≡ []
unfolding rules_ask
rules_silent known sought [] s h = refl
rules_silent known sought (r ∷ rs) s h =
    let rest : list_all (λ r. not (list_any (λ act. act_kind_counts act.kind) r.acts)) rs ≡ true = second_so (not (list_any (λ act. act_kind_counts act.kind) r.acts)) _ h in
    by (is_passed sought r) (rules_silent known sought rs s rest)
    (ap (λ xs. xs ++ rules_ask known (sought_after (apply known r s).1 r) rs (apply known r s).0) (rule_silent known r s (reversed _ (first_so (not (list_any (λ act. act_kind_counts act.kind) r.acts)) _ h)))
    ∙ rules_silent known (sought_after (apply known r s).1 r) rs (apply known r s).0 rest)
  where
    by : {xs ys : List Text} (p : Bool) → xs ≡ [] → ys ≡ [] → cond p xs ys ≡ []
    by true h k = h
    by false h k = k

pub nothing_asked : (rules : List Rule) (known : Known) (event : EventValue) → list_all (λ r. not (list_any (λ act. act_kind_counts act.kind) r.acts)) rules ≡ true → questions rules known event ≡ []
nothing_asked rules known event h = ap (with_asked []) (rules_silent known None rules (start event) h)
