use Rattle.std.proofs.Common.{◌≡◌, List, ℕ, Option, Some, map, rules, string_bytes, subst}
use Rattle.std.specs.Prelude.{MatchOption}
use Rattle.std.proofs.lemmas.Result.{IfOk-weaker}
use Rattle.devdry_words.specs.Options.{options_in}
use Rattle.devdry_gathering.specs.Words.{IsMade}
use Rattle.devdry_gathering.proofs.words.all_words.Goals as goal

pub returns-in-Some-clause-words : goal.returns-in-Some-clause-words
returns-in-Some-clause-words g c =
    let may = g.D.Disk.may_answer c.args.disk.now in
    let given = map string_bytes c.args.words.items in
    let named : Some c.in-Some.path.now ≡ options_in given = search rules in
    let lent : c.deref-in-Some.result.now ≡ c.args.words.items = search rules in
    IfOk-weaker c.words_with.result _ _
    (λ all made. subst (λ (o : Option (List ℕ)). MatchOption o (map string_bytes all.items ≡ given) (λ path. IsMade may path given (map string_bytes all.items))) named
    (subst (λ words. IsMade may c.in-Some.path.now (map string_bytes words) (map string_bytes all.items)) lent made))
    c.words_with.ensures.words
