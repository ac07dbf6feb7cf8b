-- What is said to items, one after another.
use Rattle.std.proofs.Common.{◌≡◌, Option, Some, None, List, [], ◌∷◌, ◌++◌, refl, ap, sym, ◌∙◌, append_assoc}
use Rattle.std.proofs.lemmas.List.{append-nil}
use Rattle.text_bytes.specs.Text.{Text}
use Rattle.lsp_server.specs.Held.{start}
use Rattle.lsp_server.specs.Items.{held_after, items, items_after}
use Rattle.lsp_server.specs.declared.frames.Item.{Item}
use Rattle.lsp_server.proofs.ItemLemmas.{items_both}
use Rattle.lsp_server.specs.AnyServer.{IsFirstOf, Said, Server, led, moved, reply_to, said_of, said_to, unless_exit}
use Rattle.lsp_server.specs.declared.replying.Exit.{Exit}

-- more may be said after a reply at which the client does not exit
first_more : (exit : Option Exit) (text : Text) (before now : Said) → IsFirstOf before.text now.text → IsFirstOf (unless_exit exit text before).text (unless_exit exit text now).text
first_more None text before now f = (f.0, ap (λ later. text ++ later) f.1 ∙ sym (append_assoc text before.text f.0))
first_more (Some exit) text before now f = ([], sym (append-nil text))

-- but nothing, if the client exits then
exit_stays : (exit : Option Exit) (text : Text) (before now : Said) (said : Exit) → (unless_exit exit text before).exit ≡ Some said → (before.exit ≡ Some said → now ≡ before) → unless_exit exit text now ≡ unless_exit exit text before
exit_stays None text before now said e same = ap (led text) (same e)
exit_stays (Some exit) text before now said e same = refl

module _ {A : Type 0} where
  said_first : (server : Server A) (first second : List Item) → IsFirstOf (said_to server first).text (said_to server (first ++ second)).text
  said_first server [] second = ((said_to server second).text, refl)
  said_first server (item ∷ first) second =
      first_more (reply_to server item).exit (reply_to server item).text (said_to (moved server item) first) (said_to (moved server item) (first ++ second)) (said_first (moved server item) first second)

  said_exit : (server : Server A) (first second : List Item) (exit : Exit) → (said_to server first).exit ≡ Some exit → said_to server (first ++ second) ≡ said_to server first
  said_exit server [] second exit e = absurd cc
  said_exit server (item ∷ first) second exit e =
      exit_stays (reply_to server item).exit (reply_to server item).text (said_to (moved server item) first) (said_to (moved server item) (first ++ second)) exit e (said_exit (moved server item) first second exit)

  both : (server : Server A) (input later : Text) → said_of server (input ++ later) ≡ said_to server (items input ++ items_after (held_after start input) later)
  both server input later = ap (said_to server) (items_both start input later)

  pub stays_first : (server : Server A) (input later : Text) → IsFirstOf (said_of server input).text (said_of server (input ++ later)).text
  stays_first server input later =
      let f = said_first server (items input) (items_after (held_after start input) later) in
      (f.0, ap (λ said. said.text) (both server input later) ∙ f.1)

  pub stays_exit : (server : Server A) (input later : Text) (exit : Exit) → (said_of server input).exit ≡ Some exit → said_of server (input ++ later) ≡ said_of server input
  stays_exit server input later exit e = both server input later ∙ said_exit server (items input) (items_after (held_after start input) later) exit e
