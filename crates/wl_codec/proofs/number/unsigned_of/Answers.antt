use Rattle.std.proofs.Common.{◌≡◌, drop, get_or, true, false, ◌==◌, negsuc, unwrap_or, sym, ap, ◌∙◌}
use Rattle.fast_float.specs.Text.{scan}
use Rattle.serde_json.specs.Data.{negative}
use Rattle.serde_json.specs.Find.{as_u64}
use Rattle.serde_json.specs.Read.{number_of, number_from}
use Rattle.wl_codec.specs.inner.Seen.{num_of}
use Rattle.wl_codec.proofs.Numbers.{as_u64-negative, as_u64-unsigned}
use Rattle.wl_codec.proofs.number.unsigned_of.Goals as goal

pub returns-then-has_minus : goal.returns-then-has_minus
unfolding num_of number_of
returns-then-has_minus c =
    let s = c.as_bytes-bytes.result.now in
    let signed : (get_or s 0 0 == 45) ≡ true = sym c.if-has_minus.ensures.value in
    let read : number_from true (scan (drop 1 s)) ≡ number_of s = rw signed in
    as_u64-negative (scan (drop 1 s)) ∙ ap (λ o. as_u64 (unwrap_or o (negative (negsuc 0)))) read
    ∙ ap (λ t. as_u64 (num_of t)) c.as_bytes-bytes.ensures.value

pub returns-else-has_minus : goal.returns-else-has_minus
unfolding num_of number_of
returns-else-has_minus c =
    let s = c.as_bytes-bytes.result.now in
    let unsigned : (get_or s 0 0 == 45) ≡ false = sym c.if-has_minus.ensures.value in
    let read : number_from false (scan s) ≡ number_of s = rw unsigned in
    as_u64-unsigned c.scan.result c.to_u64.result c.to_u64.ensures
    ∙ ap (λ p. as_u64 (unwrap_or (number_from false p) (negative (negsuc 0)))) c.scan.ensures.parts
    ∙ ap (λ o. as_u64 (unwrap_or o (negative (negsuc 0)))) read
    ∙ ap (λ t. as_u64 (num_of t)) c.as_bytes-bytes.ensures.value
