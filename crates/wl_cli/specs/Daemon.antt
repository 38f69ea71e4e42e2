-- The subcommand `daemon`, and what its options ask for (own).
use Rattle.std.specs.Prelude.{◌≡◌, ℕ, List, [], ◌∷◌, Bool, true, false, Option, Some, None, is_some, map, option_map}
use Rattle.std.specs.Prelude.{unwrap_or, codes, pos}
use Rattle.std.specs.Net.Grammar.{IsSocketText}
use Rattle.std.specs.declared.net.socket_addr.SocketAddr.{SocketAddr}
use Rattle.clap.specs.Words.{App, Row, Rule, Text, all_of, first_of, new_app, new_rule, one_of, with_rule}
use Rattle.clap.specs.declared.builder.action.ArgAction.TheVariants.{Append, Set, SetTrue}
use Rattle.clap.specs.declared.builder.value_parser.ValueParser.{ValueParser}
use Rattle.clap.specs.declared.builder.value_parser.ValueParser.TheVariants as values
use Rattle.log.specs.Level.{parse_filter}
use Rattle.wl_cli.specs.Endpoints.{ListensAt}
use Rattle.wl_cli.specs.Numbers.{HasNumberTo, MayHaveNumberTo}
use Rattle.wl_cli.specs.declared.daemon.DaemonOptions.{DaemonOptions}
use Rattle.wl_cli.specs.declared.epoch.EpochSource.{EpochSource}
use Rattle.wl_cli.specs.declared.epoch.EpochSource.TheVariants.{Number, File}

-- an option with a value, for which help has a name
abbrev pub value_rule : Text → ValueParser → Rule
value_rule name parser = record (new_rule name) {
  long = Some name;
  value_names = 1;
  action = Some Set;
  parser = Some parser;
}

-- the same that may be given again
abbrev pub again_rule : Text → ValueParser → Rule
again_rule name parser = record (value_rule name parser) { action = Some Append }

-- an option with a number from 1
abbrev pub option_rule : Text → ℕ → Rule
option_rule name most = value_rule name (values.Signed (pos 1) (pos most))

-- what an option has that isn't given
abbrev pub by_default : Text → Rule → Rule
by_default text rule = record rule { defaults = text ∷ [] }

-- an option without a value
abbrev pub flag_rule : Text → Rule
flag_rule name = record (new_rule name) { long = Some name; action = Some SetTrue }

abbrev pub listen_app : App
listen_app = with_rule (new_app (codes "daemon")) (by_default (codes "127.0.0.1:8080")
    (again_rule (codes "listen") values.String))

abbrev pub limits_app : App
limits_app =
    with_rule
    (with_rule
    (with_rule
    (with_rule
    (with_rule listen_app (by_default (codes "10000") (option_rule (codes "connections") 1000000)))
    (option_rule (codes "per-address") 1000000))
    (by_default (codes "100000") (option_rule (codes "managers") 10000000)))
    (by_default (codes "30") (option_rule (codes "idle") 86400)))
    (option_rule (codes "loops") 64)

abbrev pub admission_app : App
admission_app =
    with_rule
    (with_rule
    (with_rule
    (with_rule limits_app (value_rule (codes "token-file") values.NonEmptyString))
    (flag_rule (codes "open")))
    (flag_rule (codes "sharded")))
    (again_rule (codes "allow-origin") values.String)

abbrev pub status_app : App
status_app =
    with_rule
    (with_rule admission_app (value_rule (codes "status") values.String))
    (again_rule (codes "status-host") values.NonEmptyString)

abbrev pub epoch_app : App
epoch_app =
    with_rule
    (with_rule status_app (option_rule (codes "epoch") 9223372036854775807))
    (value_rule (codes "epoch-file") values.NonEmptyString)

abbrev pub daemon_app : App
daemon_app = with_rule (with_rule epoch_app (flag_rule (codes "while-input")))
    (by_default (codes "info") (value_rule (codes "log") values.String))

-- an option without a value is used just where it is given
pub record IsUsed (name : Text) (rows : List Row) (used : Bool) : Type 0 where
  pub given : one_of name rows ≡ Some (codes "true") → used ≡ true
  pub denied : one_of name rows ≡ Some (codes "false") → used ≡ false
  pub missing : one_of name rows ≡ None → used ≡ false

-- the option's text is this address, where it has one, and else nothing
abbrev pub MayHaveAddress : Text → List Row → Option SocketAddr → Type 0
MayHaveAddress name rows None = one_of name rows ≡ None
MayHaveAddress name rows (Some address) = (text : Text) × (one_of name rows ≡ Some text) × IsSocketText text address

-- a number gives the epoch, or a file, or nothing
abbrev pub MayHaveEpoch : List Row → Option EpochSource → Type 0
MayHaveEpoch rows None = (one_of (codes "epoch") rows ≡ None) × (first_of (codes "epoch-file") rows ≡ None)
MayHaveEpoch rows (Some (Number n)) = HasNumberTo 9223372036854775807 (codes "epoch") rows n
    × (first_of (codes "epoch-file") rows ≡ None)
MayHaveEpoch rows (Some (File path)) = (one_of (codes "epoch") rows ≡ None)
    × (first_of (codes "epoch-file") rows ≡ Some path.now)

-- a number and a file are to give it
abbrev pub HasTwoEpochs : List Row → Type 0
HasTwoEpochs rows = (is_some (one_of (codes "epoch") rows) ≡ true)
    × (is_some (first_of (codes "epoch-file") rows) ≡ true)

-- the options' texts ask for this
pub record AsksFor (rows : List Row) (options : DaemonOptions) : Type 0 where
  pub listen : ListensAt rows options.listen.items
  pub connections : HasNumberTo 1000000 (codes "connections") rows options.connections
  pub per_address : MayHaveNumberTo 1000000 (codes "per-address") rows options.per_address
  pub managers : HasNumberTo 10000000 (codes "managers") rows options.managers
  pub idle : HasNumberTo 86400 (codes "idle") rows options.idle
  pub loops : MayHaveNumberTo 64 (codes "loops") rows options.loops
  pub token_file : option_map (λ text. text.now) options.token_file ≡ first_of (codes "token-file") rows
  pub is_open : IsUsed (codes "open") rows options.is_open
  pub is_sharded : IsUsed (codes "sharded") rows options.is_sharded
  pub origins : map (λ text. text.now) options.allow_origins.items ≡ unwrap_or (all_of (codes "allow-origin") rows) []
  pub status : MayHaveAddress (codes "status") rows options.status
  pub status_hosts : map (λ text. text.now) options.status_hosts.items
      ≡ unwrap_or (all_of (codes "status-host") rows) []
  pub epoch : MayHaveEpoch rows options.epoch
  pub while_input : IsUsed (codes "while-input") rows options.while_input
  pub log : (text : Text) × (one_of (codes "log") rows ≡ Some text) × (parse_filter text ≡ Some options.log)

-- the option's text is no address and port
abbrev pub HasNoAddress : Option Text → Type 0
HasNoAddress None = ⊥
HasNoAddress (Some text) = (address : SocketAddr) → IsSocketText text address → ⊥

-- the option's text is no level
abbrev pub HasNoLevel : Option Text → Type 0
HasNoLevel None = ⊥
HasNoLevel (Some text) = parse_filter text ≡ None
