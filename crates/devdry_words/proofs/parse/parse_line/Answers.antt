use Rattle.std.proofs.Common.{◌≡◌, ◌∙◌, ◌⊎◌, inl, inr, List, [], Some, None, Option, Result, Ok, Err, IfErr, IfOk, ap, codes, map, refl, string_bytes, String, sym, subst, true}
use Rattle.std.specs.Prelude.{IsSomeAnd, MatchOption}
use Rattle.std.specs.declared.alloc.Global.{Global}
use Rattle.std.proofs.lemmas.Result.{IfErr-weaker}
use Rattle.clap.specs.Words.{App, IsAmong, Kinds, Row, Text, fault_of, is_simple_and_free, subcommand_of, takes}
use Rattle.clap.specs.declared.error.kind.ErrorKind.{ErrorKind}
use Rattle.clap.specs.declared.error.kind.ErrorKind.TheVariants as kind
use Rattle.engine_sessions.specs.declared.line.Request.{Request}
use Rattle.engine_sessions.specs.declared.line.LineFault.{LineFault}
use Rattle.engine_sessions.specs.declared.line.LineFault.TheVariants.{Help, Usage, Memory}
use Rattle.file_catalogue.specs.Sections.{explanation}
use Rattle.devdry_words.specs.Commands.{devdry}
use Rattle.devdry_words.specs.Answers.{AnswersWords, no_such_code}
use Rattle.devdry_words.specs.Named.{AnswersKind, AnswersSubcommand, Explains, IsHelpWith, IsUsageOf, NamesSubcommand}
use Rattle.devdry_words.specs.Refusals.{invalid_value, refusal_of, said_of}
use Rattle.devdry_words.specs.Requests.{IsRequestOf}
use Rattle.devdry_words.specs.Values.{text_of}
use Rattle.devdry_words.specs.declared.refusals.Refusal.{Refusal}
use Rattle.devdry_words.proofs.Asked.{devdry_is_simple_and_free, names_a_subcommand}
use Rattle.devdry_words.proofs.Taken.{asked_is, faultless}
use Rattle.devdry_words.proofs.parse.parse_line.Goals as goal

always : {T E : Type 0} {P : Type 0} (r : Result T E) → P → IfOk r (λ _. P)
always (Ok x) p = p
always (Err e) p = tt

-- help for `explain`
section : (found : Option Text) (said : Text) (text : String Global) → MatchOption found (IsUsageOf said (Help text)) (λ section. IsHelpWith (λ said. said ≡ section) (Help text)) → found ≡ Some (string_bytes text)
section None said text h = absurd h
section (Some its) said text h = ap Some (sym h)

-- usage for `explain`
unknown : (found : Option Text) (said : Text) (text : String Global) → MatchOption found (IsUsageOf said (Usage text)) (λ section. IsHelpWith (λ said. said ≡ section) (Usage text)) → (found ≡ None) × (string_bytes text ≡ said)
unknown None said text h = (refl, h)
unknown (Some its) said text h = absurd h

-- help that `devdry` itself gives, by why the matches are refused
help_on : (refused : Option Refusal) (A : Type 0) (rows : List Row) (text : String Global) → MatchOption refused (A × Explains (text_of (codes "CODE") rows) (Help text)) (λ r. IsUsageOf (said_of r rows) (Help text))
    → (refused ≡ None) × A × (explanation (text_of (codes "CODE") rows) ≡ Some (string_bytes text))
help_on None A rows text h = (refl, h.0, section (explanation (text_of (codes "CODE") rows)) (invalid_value (text_of (codes "CODE") rows) no_such_code) text h.1)
help_on (Some r) A rows text h = absurd h

-- usage that it gives
usage_on : (refused : Option Refusal) (A : Type 0) (rows : List Row) (text : String Global) → MatchOption refused (A × Explains (text_of (codes "CODE") rows) (Usage text)) (λ r. IsUsageOf (said_of r rows) (Usage text))
    → MatchOption refused (A × (explanation (text_of (codes "CODE") rows) ≡ None) × (string_bytes text ≡ invalid_value (text_of (codes "CODE") rows) no_such_code)) (λ r. string_bytes text ≡ said_of r rows)
usage_on None A rows text h =
    let parts = unknown (explanation (text_of (codes "CODE") rows)) (invalid_value (text_of (codes "CODE") rows) no_such_code) text h.1 in
    (h.0, parts.0, parts.1)
usage_on (Some r) A rows text h = h

-- what is said about the subcommand answers words that are not at fault
own : (kinds : Kinds) (asked : Option (Text × List Row)) (f : LineFault) → kinds ≡ [] → AnswersSubcommand asked f → AnswersWords kinds asked f
own kinds None (Help text) none h = absurd h
own kinds None (Usage text) none h = absurd h
own kinds None Memory none h = tt
own kinds (Some p) (Help text) none h = inr (none, help_on (refusal_of p.0 p.1) _ p.1 text h)
own kinds (Some p) (Usage text) none h = inr (none, usage_on (refusal_of p.0 p.1) _ p.1 text h)
own kinds (Some p) Memory none h = tt

-- what is said about an error of clap answers its kind
of_kind : (kinds : Kinds) (asked : Option (Text × List Row)) (k : ErrorKind) (f : LineFault) → IsAmong k kinds → AnswersKind f k → AnswersWords kinds asked f
of_kind kinds asked k (Help text) among said = inl (k, among, said)
of_kind kinds asked k (Usage text) among said = inl (k, among, said)
of_kind kinds asked k Memory among said = tt

-- out of memory answers all words
memory_answers : (kinds : Kinds) (asked : Option (Text × List Row)) (f : LineFault) → f ≡ Memory → AnswersWords kinds asked f
memory_answers kinds asked f is = subst (AnswersWords kinds asked) (sym is) tt

answered : (a : App) (words : List Text) (asked : Option (Text × List Row)) (k : ErrorKind) (f : LineFault) → a ≡ devdry
    → (is_simple_and_free a ≡ true → (k ≡ kind.OutOfMemory) ⊎ IsAmong k (fault_of a words))
    → (k ≡ kind.OutOfMemory → f ≡ Memory) → AnswersKind f k → AnswersWords (fault_of devdry words) asked f
answered a words asked k f is fails memory said = elim (fails (ap is_simple_and_free is ∙ devdry_is_simple_and_free)) [
  | inl m ↦ memory_answers _ asked f (memory m)
  | inr among ↦ of_kind (fault_of devdry words) asked k f (subst (λ x. IsAmong k (fault_of x words)) is among) said
]

-- what is in place of a request answers words that are not at fault
refused : (r : Result Request LineFault) (kinds : Kinds) (asked : Option (Text × List Row)) → kinds ≡ [] → IfErr r (λ f. (f ≡ Memory) ⊎ AnswersSubcommand asked f)
    → IfErr r (AnswersWords kinds asked)
refused r kinds asked none h = IfErr-weaker r _ _ (λ f why. elim why [
  | inl memory ↦ memory_answers kinds asked f memory
  | inr said ↦ own kinds asked f none said
]) h

pub returns-in-Err-try_get_matches_from-clause-fault :
    goal.returns-in-Err-try_get_matches_from-clause-fault
returns-in-Err-try_get_matches_from-clause-fault c =
    answered _ _ _ _ _ c.in-Ok.ensures c.in-Err-try_get_matches_from.ensures.kinds c.fault_from.ensures.memory c.fault_from.ensures.kind

pub returns-in-Err-try_get_matches_from-clause-refusal :
    goal.returns-in-Err-try_get_matches_from-clause-refusal
returns-in-Err-try_get_matches_from-clause-refusal c taken =
    memory_answers [] (subcommand_of devdry (map string_bytes c.args.words.now)) _ (c.fault_from.ensures.memory (c.in-Err-try_get_matches_from.ensures.passes (ap (λ a. takes a (map string_bytes c.args.words.now)) c.in-Ok.ensures ∙ taken)))

pub request_of-requires : goal.request_of-requires
request_of-requires c =
    let parsed = c.in-Ok-try_get_matches_from.ensures in
    subst NamesSubcommand (sym (asked_is _ _ _ c.in-Ok.ensures parsed.matches)) (names_a_subcommand _ (faultless _ _ c.in-Ok.ensures parsed.kinds))

pub returns-in-Ok-try_get_matches_from-clause-request :
    goal.returns-in-Ok-try_get_matches_from-clause-request
returns-in-Ok-try_get_matches_from-clause-request c =
    let parsed = c.in-Ok-try_get_matches_from.ensures in
    subst (λ asked. IfOk c.request_of.result (IsRequestOf asked)) (asked_is _ _ _ c.in-Ok.ensures parsed.matches) c.request_of.ensures.request

pub returns-in-Ok-try_get_matches_from-clause-faultless :
    goal.returns-in-Ok-try_get_matches_from-clause-faultless
returns-in-Ok-try_get_matches_from-clause-faultless c =
    always c.request_of.result (faultless _ _ c.in-Ok.ensures c.in-Ok-try_get_matches_from.ensures.kinds)

pub returns-in-Ok-try_get_matches_from-clause-fault :
    goal.returns-in-Ok-try_get_matches_from-clause-fault
returns-in-Ok-try_get_matches_from-clause-fault c =
    let parsed = c.in-Ok-try_get_matches_from.ensures in
    refused _ _ (subcommand_of devdry (map string_bytes c.args.words.now)) (faultless _ _ c.in-Ok.ensures parsed.kinds)
    (subst (λ asked. IfErr c.request_of.result (λ f. (f ≡ Memory) ⊎ AnswersSubcommand asked f)) (asked_is _ _ _ c.in-Ok.ensures parsed.matches) c.request_of.ensures.fault)

pub returns-in-Ok-try_get_matches_from-clause-refusal :
    goal.returns-in-Ok-try_get_matches_from-clause-refusal
returns-in-Ok-try_get_matches_from-clause-refusal c _ =
    let parsed = c.in-Ok-try_get_matches_from.ensures in
    refused _ [] (subcommand_of devdry (map string_bytes c.args.words.now)) refl
    (subst (λ asked. IfErr c.request_of.result (λ f. (f ≡ Memory) ⊎ AnswersSubcommand asked f)) (asked_is _ _ _ c.in-Ok.ensures parsed.matches) c.request_of.ensures.fault)
