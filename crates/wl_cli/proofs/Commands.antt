-- A command that gains an option or a subcommand.
use Rattle.std.proofs.Common.{◌≡◌, ◌∙◌, false, ap, ap₂, Result, Ok, Err}
use Rattle.std.specs.Prelude.{IfOk, IsOkAnd, ◌||◌}
use Rattle.std.specs.Borrow.{Bor}
use Rattle.clap.specs.Words.{AddsArg, AddsSubcommand, App, Rule, Text, app_of, rule_of, with_rule, with_subcommand}
use Rattle.clap.specs.declared.builder.texts.Texts.TheVariants.{One}
use Rattle.clap.specs.declared.builder.command.Command.TheViews.{out-Command as fields_of}
use Rattle.clap.specs.declared.builder.arg.Arg.{Arg}
use Rattle.clap.specs.declared.builder.command.Command.{Command}
use Rattle.wl_cli.specs.Daemon.{by_default}

module _ {E : Type 0} where
  pub gains : (old new : Result Command E) (a : Arg) (app : App) (rule : Rule)
      → IfOk new (λ c. IsOkAnd old (λ before. AddsArg before a c)) → a.global ≡ false
      → IfOk old (λ c. app_of c ≡ app) → rule_of a ≡ rule
      → IfOk new (λ c. app_of c ≡ with_rule app rule)
  gains (Ok old) (Ok new) a app rule adds local was is = adds.shape local ∙ ap₂ with_rule was is
  gains (Err error) (Ok new) a app rule adds local was is = absurd adds
  gains old (Err error) a app rule adds local was is = tt

  pub stays_local : (old new : Result Command E) (a : Arg)
      → IfOk new (λ c. IsOkAnd old (λ before. AddsArg before a c)) → a.global ≡ false
      → IfOk old (λ c. (fields_of c).has_globals ≡ false)
      → IfOk new (λ c. (fields_of c).has_globals ≡ false)
  stays_local (Ok old) (Ok new) a adds local was = adds.globals ∙ ap₂ (λ x y. x || y) was local
  stays_local (Err error) (Ok new) a adds local was = absurd adds
  stays_local old (Err error) a adds local was = tt

  -- the same, of a subcommand
  pub gains_command : (old sub new : Result Command E) (app below : App)
      → IfOk new (λ c. IsOkAnd old (λ before. IsOkAnd sub (λ added. AddsSubcommand before added c)))
      → IfOk sub (λ c. (fields_of c).has_globals ≡ false)
      → IfOk old (λ c. app_of c ≡ app) → IfOk sub (λ c. app_of c ≡ below)
      → IfOk new (λ c. app_of c ≡ with_subcommand app below.top)
  gains_command (Ok old) (Ok sub) (Ok new) app below adds local was is =
      adds.shape local ∙ ap₂ (λ app below. with_subcommand app below.top) was is
  gains_command (Ok old) (Err error) (Ok new) app below adds local was is = absurd adds
  gains_command (Err error) sub (Ok new) app below adds local was is = absurd adds
  gains_command old sub (Err error) app below adds local was is = tt

  pub keeps_local : (old sub new : Result Command E)
      → IfOk new (λ c. IsOkAnd old (λ before. IsOkAnd sub (λ added. AddsSubcommand before added c)))
      → IfOk sub (λ c. (fields_of c).has_globals ≡ false)
      → IfOk old (λ c. (fields_of c).has_globals ≡ false)
      → IfOk new (λ c. (fields_of c).has_globals ≡ false)
  keeps_local (Ok old) (Ok sub) (Ok new) adds local was = adds.globals ∙ ap₂ (λ x y. x || y) was local
  keeps_local (Ok old) (Err error) (Ok new) adds local was = absurd adds
  keeps_local (Err error) sub (Ok new) adds local was = absurd adds
  keeps_local old sub (Err error) adds local was = tt

-- an option gains a default
pub defaults : (a b : Arg) (text : Bor Text) (rule : Rule) → b ≡ record a { default_vals = One text } → rule_of a ≡ rule
    → rule_of b ≡ by_default text.now rule
defaults a b text rule is was = ap rule_of is ∙ ap (by_default text.now) was

pub default_stays_local : (a b : Arg) (text : Bor Text) → b ≡ record a { default_vals = One text } → a.global ≡ false
    → b.global ≡ false
default_stays_local a b text is was = ap (λ c. c.global) is ∙ was
