use Rattle.std.proofs.Common.{ap, codes, sym, ◌∙◌}
use Rattle.std.specs.Prelude.{is_some, option_map}
use Rattle.clap.specs.Words.{found_of}
use Rattle.clap.proofs.WalkLemmas.{first_value-rows}
use Rattle.wl_cli.proofs.Options.{has_text, none_of}
use Rattle.wl_cli.proofs.epoch.epoch_in.Goals as goal

pub returns-in-None-None-clause-ok : goal.returns-in-None-None-clause-ok
returns-in-None-None-clause-ok c =
    let found = found_of c.args.options.now in (
      none_of _ (sym (has_text found (codes "epoch") c.get_str-number.result c.get_str-number.ensures)
          ∙ ap is_some c.in-None-None.is-0),
      sym (c.get_str-file.ensures ∙ first_value-rows found (codes "epoch-file"))
          ∙ ap (option_map (λ s. s.now)) c.in-None-None.is-1,
    )

pub returns-in-None-Some-clause-ok : goal.returns-in-None-Some-clause-ok
returns-in-None-Some-clause-ok c =
    let found = found_of c.args.options.now in (
      none_of _ (sym (has_text found (codes "epoch") c.get_str-number.result c.get_str-number.ensures)
          ∙ ap is_some c.in-None-Some.is-0),
      sym (c.get_str-file.ensures ∙ first_value-rows found (codes "epoch-file"))
          ∙ ap (option_map (λ s. s.now)) c.in-None-Some.is-1,
    )

pub returns-in-Ok-clause-ok : goal.returns-in-Ok-clause-ok
returns-in-Ok-clause-ok c =
    let found = found_of c.args.options.now in (
      c.in-Ok.ensures.ok,
      sym (c.get_str-file.ensures ∙ first_value-rows found (codes "epoch-file"))
          ∙ ap (option_map (λ s. s.now)) c.in-Some-None.is-1,
    )

pub returns-in-Some-Some-clause-both : goal.returns-in-Some-Some-clause-both
returns-in-Some-Some-clause-both c same =
    let found = found_of c.args.options.now in (
      sym (has_text found (codes "epoch") c.get_str-number.result c.get_str-number.ensures)
          ∙ ap is_some c.in-Some-Some.is-0,
      ap is_some (sym (c.get_str-file.ensures ∙ first_value-rows found (codes "epoch-file"))
          ∙ ap (option_map (λ s. s.now)) c.in-Some-Some.is-1),
    )
