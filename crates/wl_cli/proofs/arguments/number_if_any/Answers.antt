use Rattle.std.proofs.Common.{◌≡◌, false, rules, sym, ◌∙◌}
use Rattle.std.specs.Prelude.{is_some}
use Rattle.clap.specs.Words.{found_of}
use Rattle.wl_cli.proofs.Options.{has_text, none_of}
use Rattle.wl_cli.proofs.arguments.number_if_any.Goals as goal

pub returns-then-is_none-clause-ok : goal.returns-then-is_none-clause-ok
returns-then-is_none-clause-ok c =
    let missing : is_some c.get_str.result ≡ false = search rules in
    none_of _ (sym (has_text (found_of c.args.options.now) c.args.name.now c.get_str.result c.get_str.ensures)
    ∙ missing)
