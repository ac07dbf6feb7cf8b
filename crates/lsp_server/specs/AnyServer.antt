-- What a server says to the items that a client sends.
use Rattle.std.specs.Prelude.{◌≡◌, List, [], ◌∷◌, ◌++◌, Option, Some, None}
use Rattle.text_bytes.specs.Text.{Text}
use Rattle.lsp_server.specs.Items.{items}
use Rattle.lsp_server.specs.declared.frames.Item.{Item}
use Rattle.lsp_server.specs.declared.replying.Exit.{Exit}
use Rattle.lsp_server.specs.declared.replying.Reply.{Reply}

-- a server: its state, its reply to an item in each state, and the state after that
pub record Server (A : Type 0) : Type 0 where
  pub state : A
  pub reply : A → Item → Reply
  pub after : A → Item → A

-- what acts so, in this state
abbrev pub acting : {A : Type 0} → (A → Item → Reply) → (A → Item → A) → A → Server A
acting reply after state = record { state = state; reply = reply; after = after }

-- its reply to an item
abbrev pub reply_to : {A : Type 0} → Server A → Item → Reply
reply_to server item = server.reply server.state item

-- the server after an item
abbrev pub moved : {A : Type 0} → Server A → Item → Server A
moved server item = record { state = server.after server.state item; reply = server.reply; after = server.after }

-- the texts of replies, one after another, and how the client exits after them, if it does
pub record Said : Type 0 where
  pub text : Text
  pub exit : Option Exit

-- nothing is said
abbrev pub silent : Said
silent = record { text = []; exit = None }

-- a text, and what is said after it
abbrev pub led : Text → Said → Said
led text later = record { text = text ++ later.text; exit = later.exit }

-- a text, and what is said after it if the client does not exit there
abbrev pub unless_exit : Option Exit → Text → Said → Said
unless_exit None text later = led text later
unless_exit (Some exit) text later = record { text = text; exit = Some exit }

-- what a server says to items, up to the one at which the client exits
abbrev pub said_to : {A : Type 0} → Server A → List Item → Said
said_to server [] = silent
said_to server (item ∷ items) = unless_exit (reply_to server item).exit (reply_to server item).text (said_to (moved server item) items)

-- what a server says to an input
abbrev pub said_of : {A : Type 0} → Server A → Text → Said
said_of server input = said_to server (items input)

-- these are the first bytes of a text
abbrev pub IsFirstOf : Text → Text → Type 0
IsFirstOf first text = (more : Text) × (text ≡ first ++ more)
