use Rattle.std.proofs.Common.{◌≡◌, true, codes, rules, sym, ◌∙◌}
use Rattle.std.specs.Prelude.{is_some}
use Rattle.clap.specs.Words.{found_of}
use Rattle.clap.proofs.WalkLemmas.{first_value-rows}
use Rattle.log.specs.Level.{IsParsed, parse_filter}
use Rattle.log.specs.declared.level.ParseLevelError.{ParseLevelError}
use Rattle.wl_cli.proofs.Options.{has_read, has_text, is_parsed, is_used, no_level}
use Rattle.wl_cli.proofs.daemon.daemon_in.Goals as goal

pub returns-in_default-clause-log : goal.returns-in_default-clause-log
returns-in_default-clause-log c fault =
    let given : is_some c.get_str.result ≡ true = search rules in
    let found = found_of c.args.options.now in
    no_level found (codes "log") (sym (has_text found (codes "log") c.get_str.result c.get_str.ensures) ∙ given)
    c.in_default.ensures.value

pub returns-clause-asked : goal.returns-clause-asked
returns-clause-asked c =
    let found = found_of c.args.options.now in
    let log = has_read {E = ParseLevelError} (λ text r. IsParsed (parse_filter text) r) found (codes "log")
    c.in-Some.log
    c.in-Some.ensures.none c.in-Some.ensures.value in
    record {
      listen = c.in_ok-listen.ensures.ok;
      connections = c.in_ok-numbers.ensures.ok.connections;
      per_address = c.in_ok-numbers.ensures.ok.per_address;
      managers = c.in_ok-numbers.ensures.ok.managers;
      idle = c.in_ok-numbers.ensures.ok.idle;
      loops = c.in_ok-numbers.ensures.ok.loops;
      token_file = c.get_str-2.ensures ∙ first_value-rows found (codes "token-file");
      is_open = is_used found (codes "open") c.get_flag.result c.get_flag.ensures.none c.get_flag.ensures.value
          c.get_flag.ensures.other;
      is_sharded = is_used found (codes "sharded") c.get_flag-2.result c.get_flag-2.ensures.none
          c.get_flag-2.ensures.value c.get_flag-2.ensures.other;
      origins = c.in_ok-texts_in.ensures.ok;
      status = c.in_ok-status_in.ensures.ok;
      status_hosts = c.in_ok-texts_in-2.ensures.ok;
      epoch = c.in_ok-epoch_in.ensures.ok;
      while_input = is_used found (codes "while-input") c.get_flag-3.result c.get_flag-3.ensures.none
          c.get_flag-3.ensures.value c.get_flag-3.ensures.other;
      log = (log.0, log.1, is_parsed ParseLevelError (parse_filter log.0) c.in-Some.log log.2);
    }
