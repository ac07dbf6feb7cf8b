-- What a client asks to have reported.
use Rattle.std.specs.Prelude.{Bool, true, false, List, [], None}
use Rattle.text_bytes.specs.declared.profile.Profile.{Profile}
use Rattle.text_bytes.specs.declared.profile.Profile.TheVariants.{Manual, Udev}
use Rattle.text_bytes.specs.Text.{Text}
use Rattle.text_tables.specs.Texts.{with_texts}
use Rattle.rule_remarks.specs.Accounts.{Accounts}
use Rattle.engine_checks.specs.Reported.{Asked}

-- the profile by which rules are read, whether messages about style and whether lints are reported, and the codes of
-- what is not
pub record Settings : Type 0 where
  pub profile : Profile
  pub style : Bool
  pub lint : Bool
  pub ignored : List Text

-- the settings of `verify` without options
abbrev pub plain : Settings
plain = record { profile = Manual; style = true; lint = false; ignored = [] }

-- the settings of `verify --strict`
abbrev pub strict : Settings
strict = record { profile = Udev; style = true; lint = true; ignored = [] }

-- no user and no group is known by a list
abbrev pub no_accounts : Accounts
no_accounts = record { users = None; groups = None }

-- what settings ask of checks: each code counts once
abbrev pub asked_by : Settings → Asked
asked_by settings = record {
  profile = settings.profile;
  accounts = no_accounts;
  style = settings.style;
  lint = settings.lint;
  ignored = with_texts [] settings.ignored;
}
