use Rattle.std.proofs.Common.{◌≡◌, List, [], ◌∷◌, Option, Some, None, codes, option_copied, rules}
use Rattle.text_bytes.specs.Text.{Text}
use Rattle.text_tables.specs.Pairs.{Pair}
use Rattle.text_tables.specs.Texts.{with_text, with_texts}
use Rattle.device_core.specs.Values.{EventValue}
use Rattle.link_files.specs.Files.{LinkFileValue}
use Rattle.builtin_link.specs.Link.{given_keys, needs_with, property_keys}
use Rattle.builtin_link.specs.Policies.{name_of}
use Rattle.builtin_link.proofs.Needs.{in_two}
use Rattle.builtin_link.proofs.link.set_by.Goals as goal

nameless : (event : EventValue) (env : List Pair) (file : Option LinkFileValue) (found : LinkFileValue) (old with_keys new : List Text) → file ≡ Some found
    → None ≡ name_of event env found.settings → with_keys ≡ with_texts old (given_keys found.settings property_keys)
    → new ≡ with_text with_keys (codes "INTERFACE") → new ≡ with_texts old (needs_with event env file)
nameless event env file found old with_keys new f e k a =
    rw f (rw (← e) (rw a (rw k (in_two old (given_keys found.settings property_keys) (codes "INTERFACE" ∷ [])))))

pub returns-in_default-name-clause-needs : goal.returns-in_default-name-clause-needs
returns-in_default-name-clause-needs c =
    let file : option_copied c.args.file ≡ Some c.in-Some.file.now = search rules in
    let name : None ≡ name_of c.args.event.now c.args.env.now c.in-Some.file.now.settings = search rules in
    let keys : c.add_keys.new.needs ≡ with_texts c.args.needs.now (given_keys c.in-Some.file.now.settings property_keys) = search rules in
    nameless c.args.event.now c.args.env.now (option_copied c.args.file) c.in-Some.file.now c.args.needs.now c.add_keys.new.needs c.add.new.self file name keys
    c.in_ok-add.ensures.texts
