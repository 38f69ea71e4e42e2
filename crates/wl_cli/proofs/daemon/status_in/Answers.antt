use Rattle.std.proofs.Common.{◌≡◌, true, false, codes, rules, sym, ◌∙◌}
use Rattle.std.specs.Prelude.{is_some}
use Rattle.std.specs.Net.Grammar.{IsSocketText, Parses}
use Rattle.clap.specs.Words.{found_of}
use Rattle.std.specs.declared.net.parser.AddrParseError.{AddrParseError}
use Rattle.wl_cli.proofs.Options.{has_read, has_text, no_address, none_of}
use Rattle.wl_cli.proofs.daemon.status_in.Goals as goal

pub returns-then-is_none-clause-ok : goal.returns-then-is_none-clause-ok
returns-then-is_none-clause-ok c =
    let missing : is_some c.get_str.result ≡ false = search rules in
    none_of _ (sym (has_text (found_of c.args.options.now) (codes "status") c.get_str.result c.get_str.ensures)
    ∙ missing)

pub returns-in-Some-clause-ok : goal.returns-in-Some-clause-ok
returns-in-Some-clause-ok c =
    has_read {E = AddrParseError} (Parses IsSocketText) (found_of c.args.options.now) (codes "status") c.in-Some.address
    c.in-Some.ensures.none c.in-Some.ensures.value

pub returns-in-None-clause-bad : goal.returns-in-None-clause-bad
returns-in-None-clause-bad c =
    let given : is_some c.get_str.result ≡ true = search rules in
    let found = found_of c.args.options.now in
    no_address found (codes "status") (sym (has_text found (codes "status") c.get_str.result c.get_str.ensures) ∙ given)
    c.in-None.ensures.value
