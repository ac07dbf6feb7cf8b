-- How many tokens are left in the rules of files, counted file by file.
use Rattle.std.proofs.Common.{◌≡◌, ℕ, ◌+◌, List, [], ◌∷◌, map, sum_by, refl, ap, sym, ◌∙◌}
use Rattle.std.proofs.lemmas.List.Sums.{sum_by-cons}
use Rattle.text_bytes.specs.declared.profile.Profile.{Profile}
use Rattle.text_bytes.specs.declared.source_file.SourceFile.{SourceFile}
use Rattle.rule_types.specs.Rules.{tokens_in}
use Rattle.rule_core.specs.Rules.{file_rules, set_of_as}
use Rattle.rule_core.proofs.TokensCounted.{all_tokens}
use Rattle.engine_sessions.specs.declared.line.Line.{Line}
use Rattle.engine_checks.specs.Tables.{FileRead, read_by}

-- the tokens left in the rules of files
abbrev pub tokens_left : Profile → List FileRead → ℕ
tokens_left by reads = sum_by (λ read. tokens_in (file_rules by read.file)) reads

files_left : (line : Line) (by : Profile) (files : List SourceFile) → tokens_left by (map (read_by line) files) ≡ sum_by (λ f. tokens_in (file_rules by f)) files
files_left line by [] = refl
files_left line by (file ∷ files) =
    sum_by-cons (λ (read : FileRead). tokens_in (file_rules by read.file)) (read_by line file) (map (read_by line) files)
    ∙ ap (λ (n : ℕ). tokens_in (file_rules by file) + n) (files_left line by files)
    ∙ sym (sum_by-cons (λ (f : SourceFile). tokens_in (file_rules by f)) file files)

pub all_left : (line : Line) (by : Profile) (reads : List FileRead) (files : List SourceFile) → by ≡ line.profile → reads ≡ map (read_by line) files → tokens_left by reads ≡ tokens_in (set_of_as line.profile files).rules
all_left line by reads files p r =
    ap (tokens_left by) r
    ∙ files_left line by files
    ∙ ap (λ (q : Profile). sum_by (λ f. tokens_in (file_rules q f)) files) p
    ∙ sym (all_tokens line.profile files)
