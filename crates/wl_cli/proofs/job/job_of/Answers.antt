use Rattle.std.proofs.Common.{◌≡◌, [], inl, inr, List, map, refl, rules, sym, subst, true, true≢false, ◌∙◌}
use Rattle.std.specs.Prelude.{IfErr, IfOk}
use Rattle.clap.specs.Words.{HasKind, HasMatchesOf, Text, app_of, fault_of, is_simple_and_free, subcommand_of}
use Rattle.clap.specs.Words.{subcommand_rows_of}
use Rattle.clap.specs.declared.builder.command.Command.{Command}
use Rattle.clap.specs.declared.parser.matches.ArgMatches.{ArgMatches}
use Rattle.clap.proofs.BuiltLemmas.{on_ok_always}
use Rattle.wl_cli.specs.Words.{IsJob, IsUsageFault, weblocks_app}
use Rattle.wl_cli.proofs.Options.{of_options}
use Rattle.wl_cli.proofs.job.job_of.Goals as goal

-- the program's command is one of which `clap` says the matches and the faults
used_is : (command : Command) (words : List Text) (matches : ArgMatches) → app_of command ≡ weblocks_app
    → HasMatchesOf (app_of command) words matches
    → subcommand_rows_of matches ≡ subcommand_of weblocks_app words
used_is command words matches is has = (subst (λ app. HasMatchesOf app words matches) is has refl).1

simple_and_free : (command : Command) → app_of command ≡ weblocks_app → is_simple_and_free (app_of command) ≡ true
simple_and_free command is = subst (λ app. is_simple_and_free app ≡ true) (sym is) refl

pub returns-in-Ok-try_get_matches_from-clause-job : goal.returns-in-Ok-try_get_matches_from-clause-job
returns-in-Ok-try_get_matches_from-clause-job c =
    let matches = used_is c.in-Ok.command (map (λ s. s.now) c.args.words.now) c.in-Ok-try_get_matches_from.matches
    c.in-Ok.ensures.app
    c.in-Ok-try_get_matches_from.ensures.matches in
    subst (λ used. IfOk c.job_in.result (IsJob used)) matches c.job_in.ensures.job

pub returns-in-Ok-try_get_matches_from-clause-right : goal.returns-in-Ok-try_get_matches_from-clause-right
returns-in-Ok-try_get_matches_from-clause-right c =
    let simple = simple_and_free c.in-Ok.command c.in-Ok.ensures.app in
    on_ok_always c.job_in.result (subst (λ app. fault_of app (map (λ s. s.now) c.args.words.now) ≡ [])
    c.in-Ok.ensures.app (c.in-Ok-try_get_matches_from.ensures.kinds simple))

pub returns-in-Ok-try_get_matches_from-clause-wrong : goal.returns-in-Ok-try_get_matches_from-clause-wrong
returns-in-Ok-try_get_matches_from-clause-wrong c =
    let matches = used_is c.in-Ok.command (map (λ s. s.now) c.args.words.now) c.in-Ok-try_get_matches_from.matches
    c.in-Ok.ensures.app
    c.in-Ok-try_get_matches_from.ensures.matches in
    subst (λ used. IfErr c.job_in.result (IsUsageFault (fault_of weblocks_app (map (λ s. s.now) c.args.words.now))
    used)) matches
    (of_options (fault_of weblocks_app (map (λ s. s.now) c.args.words.now))
    (subcommand_rows_of c.in-Ok-try_get_matches_from.matches) c.job_in.result c.job_in.ensures.wrong)

pub returns-in-Err-2-clause-wrong : goal.returns-in-Err-2-clause-wrong
returns-in-Err-2-clause-wrong c =
    let simple = simple_and_free c.in-Ok.command c.in-Ok.ensures.app in
    let kinds : HasKind (fault_of weblocks_app (map (λ s. s.now) c.args.words.now)) c.in-Err.error =
    subst (λ app. HasKind (fault_of app (map (λ s. s.now) c.args.words.now)) c.in-Err.error) c.in-Ok.ensures.app
    (c.in-Err.ensures.kinds simple) in
    elim kinds [
      | inl memory ↦ let same : c.eq.result ≡ true = search rules in absurd (true≢false (sym same ∙ c.if-eq.false))
      | inr among ↦ inl among
    ]
