-- What the words of a command line ask for (own).
use Rattle.std.specs.Prelude.{ℕ, List, ◌≡◌, ◌⊎◌, ◌≤◌, Option, Some, None, true, codes, pos}
use Rattle.clap.specs.Words.{App, Row, Rule, Text, Kinds, IsAmong, new_app, new_rule, one_of, with_rule}
use Rattle.clap.specs.Words.{with_subcommand}
use Rattle.clap.specs.Simple.{on_top}
use Rattle.clap.specs.Values.{kind_of}
use Rattle.clap.specs.declared.builder.action.ArgAction.TheVariants.{Set}
use Rattle.clap.specs.declared.error.kind.ErrorKind.TheVariants.{ArgumentConflict, ValueValidation}
use Rattle.clap.specs.declared.builder.value_parser.ValueParser.TheVariants as values
use Rattle.wl_cli.specs.declared.job.Job.{Job}
use Rattle.wl_cli.specs.declared.job.Job.TheVariants.{Run, Audit, Timeline, Serve, Client, Daemon}
use Rattle.wl_cli.specs.Endpoints.{HasWrongEndpoint}
use Rattle.wl_cli.specs.Daemon.{AsksFor, HasNoAddress, HasNoLevel, HasTwoEpochs, daemon_app}
pub use Rattle.wl_cli.specs.Numbers.{HasNumber}
use Rattle.wl_cli.specs.declared.job.UsageFault.{UsageFault}
use Rattle.wl_cli.specs.declared.job.UsageFault.TheVariants.{Usage, Memory}

-- `run`
abbrev pub run_app : App
run_app = new_app (codes "run")

-- `audit`
abbrev pub audit_app : App
audit_app = new_app (codes "audit")

-- `timeline`
abbrev pub timeline_app : App
timeline_app = new_app (codes "timeline")

-- a required option with a number from 1, for which help has a name
abbrev pub number_rule : Text → ℕ → Rule
number_rule name most = record (new_rule name) {
  long = Some name;
  value_names = 1;
  required = true;
  action = Some Set;
  parser = Some (values.Signed (pos 1) (pos most));
}

-- `serve --port P --clients N`
abbrev pub serve_app : App
serve_app = with_rule (with_rule (new_app (codes "serve")) (number_rule (codes "port") 65535))
    (number_rule (codes "clients") 10000)

-- `client --port P`
abbrev pub client_app : App
client_app = with_rule (new_app (codes "client")) (number_rule (codes "port") 65535)

-- the program, with a version, a subcommand always, and the jobs that do scripts
abbrev pub scripts_app : App
scripts_app = with_subcommand (with_subcommand (with_subcommand
    (on_top (λ s. record s { has_version = true; subcommand_required = true }) (new_app (codes "weblocks")))
    run_app.top)
    audit_app.top) timeline_app.top

abbrev pub weblocks_app : App
weblocks_app = with_subcommand (with_subcommand (with_subcommand scripts_app serve_app.top) client_app.top)
    daemon_app.top

-- the subcommand that was used asks for this job
abbrev pub IsJob : Option (Text × List Row) → Job → Type 0
IsJob None job = ⊥
IsJob (Some used) Run = used.0 ≡ codes "run"
IsJob (Some used) Audit = used.0 ≡ codes "audit"
IsJob (Some used) Timeline = used.0 ≡ codes "timeline"
IsJob (Some used) (Serve port clients) = (used.0 ≡ codes "serve") × HasNumber (codes "port") used.1 port × (1 ≤ port)
    × (port ≤ 65535)
    × HasNumber (codes "clients") used.1 clients × (1 ≤ clients) × (clients ≤ 10000)
IsJob (Some used) (Client port) = (used.0 ≡ codes "client") × HasNumber (codes "port") used.1 port × (1 ≤ port)
    × (port ≤ 65535)
IsJob (Some used) (Daemon options) = (used.0 ≡ codes "daemon") × AsksFor used.1 options

-- The daemon's `--listen` has to say where, its `--status` has to be an address and a port, and its `--log` a level,
-- which `clap` doesn't know.
abbrev pub IsWrongOption : Option (Text × List Row) → Type 0
IsWrongOption None = ⊥
IsWrongOption (Some used) = (used.0 ≡ codes "daemon")
    × (HasWrongEndpoint used.1 ⊎ HasNoAddress (one_of (codes "status") used.1)
    ⊎ HasNoLevel (one_of (codes "log") used.1))

-- The daemon's epoch is given twice: of options that exclude each other `clap` says too little.
abbrev pub IsTwice : Option (Text × List Row) → Type 0
IsTwice None = ⊥
IsTwice (Some used) = (used.0 ≡ codes "daemon") × HasTwoEpochs used.1

-- the error has one of these kinds; or it is that of an option's value, where an option is wrong, or of two options at
-- once; unless memory ran out
abbrev pub IsUsageFault : Kinds → Option (Text × List Row) → UsageFault → Type 0
IsUsageFault kinds used (Usage error) = IsAmong (kind_of error) kinds
    ⊎ (((kind_of error ≡ ValueValidation) × IsWrongOption used) ⊎ ((kind_of error ≡ ArgumentConflict) × IsTwice used))
IsUsageFault kinds used Memory = Unit {0}
