-- What only the code of this crate says (own), beside `Standing`.
use Rattle.std.specs.Prelude.{option_map, Ok, Result}
use Rattle.url.specs.declared.origin.Origin as url_origin
use Rattle.url.specs.Origin.{origin_tuple}
use Rattle.wl_origin.specs.declared.standing.Standing as standing
use Rattle.wl_origin.specs.declared.standing.KeyFault.{KeyFault}
use Rattle.wl_origin.specs.Standing.{AnswersBy, with_text}

-- it is this origin
abbrev pub AnswersOrigin : Result standing.Standing KeyFault → url_origin.Origin → Type 0
AnswersOrigin result origin = AnswersBy (Ok (option_map with_text (origin_tuple origin))) result
